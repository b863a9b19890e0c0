-- States that are witnesses, and those that are not.
use Rattle.std.proofs.Common.{◌≡◌, Bool, true, false, Result, Ok, Err, pos, arith, refl, sym, ap, subst, ◌∙◌}
use Rattle.std.proofs.lemmas.Bool.{true≢false}
use Rattle.std.specs.Prelude.{◌↔◌, ◌&&◌, IsTrue, IfOk}
use Rattle.std.specs.List.{list_all}
use Rattle.rule_types.specs.declared.rules.Rules.{Rules}
use Rattle.rule_types.specs.declared.state.State.{State}
use Rattle.rule_types.specs.Fitting.{FitsRules}
use Rattle.rule_types.specs.Tables.{TableSet}
use Rattle.rule_types.specs.WellFormed.{WellFormed}
use Rattle.exact_fraction.proofs.PublicLaws.{lowest_terms-of_whole}
use Rattle.exact_fraction.specs.Number.{den, fits, whole, zero}
use Rattle.rule_meaning.specs.Pid.{fresh, IsKept, IsKeptError}
use Rattle.verdict_meaning.specs.declared.cell.Cell.{Cell}
use Rattle.verdict_meaning.specs.declared.question.Question.{Question}
use Rattle.verdict_meaning.specs.declared.ranges.Ranges.{Ranges}
use Rattle.verdict_meaning.specs.Boxes.{first_box}
use Rattle.verdict_meaning.specs.Events.{has_event}
use Rattle.verdict_meaning.specs.Grids.{sample_memory}
use Rattle.verdict_meaning.specs.Premises.{start_of}
use Rattle.state_checker.specs.Fits.{fits_rules}
use Rattle.state_checker.specs.Witnesses.{IsWitness, is_inside, is_witness}
use Rattle.state_checker.specs.Inside.{LiesInside, entry_fits, is_in_moments}
use Rattle.state_checker.proofs.FitSteps.{both, first_of, second_of, same_test, step_of, fits_from, fits_by}
use Rattle.state_checker.proofs.InsideSteps.{in_ranges, lies_inside}

-- the memory 0 is one that a PID action keeps
zero_kept : IsKeptError zero
unfolding whole den fits
zero_kept = record { number = record { lowest = lowest_terms-of_whole (pos 0); fitting = refl }; exact = record { divides = refl } }

pub fresh_kept : IsKept fresh
fresh_kept = record { e1 = zero_kept; e2 = zero_kept }

pub outside : (x : Rules) (tables : TableSet) (question : Question) (ranges : Ranges) (s : State)
    (cell : Cell) (inside : Bool) → cell ≡ first_box x question ranges
    → inside ≡ false → IsTrue inside ↔ LiesInside x cell s
    → IsTrue false ↔ IsWitness x tables question ranges s
outside x tables question ranges s cell inside is off exact = (
  (λ f. absurd (grind arith)),
  (λ w. sym off
      ∙ exact.1 (subst (λ one. LiesInside x one s) (sym is) (lies_inside x question ranges s w.in_ranges))),
)

pub within : (x : Rules) (tables : TableSet) (question : Question) (ranges : Ranges) (s : State)
    (cell : Cell) (inside found : Bool) → FitsRules x s → cell ≡ first_box x question ranges
    → inside ≡ true → IsTrue inside ↔ LiesInside x cell s
    → found ≡ has_event x tables sample_memory s question
    → IsTrue found ↔ IsWitness x tables question ranges s
within x tables question ranges s cell inside found fits is on exact event = (
  (λ f. record {
    in_ranges =
        in_ranges x question ranges s fits fresh_kept
        (subst (λ one. LiesInside x one s) is (exact.0 on));
    event = sym event ∙ f;
  }),
  (λ w. event ∙ w.event),
)

pub within_ok : {E : Type 0} (x : Rules) (tables : TableSet) (question : Question) (ranges : Ranges)
    (s : State) (cell : Cell) (inside : Bool) (answer : Result Bool E) → FitsRules x s
    → cell ≡ first_box x question ranges
    → inside ≡ true → IsTrue inside ↔ LiesInside x cell s
    → IfOk answer (λ found. found ≡ has_event x tables sample_memory s question)
    → IfOk answer (λ found. IsTrue found ↔ IsWitness x tables question ranges s)
within_ok x tables question ranges s cell inside (Ok found) fits is on exact event =
    within x tables question ranges s cell inside found fits is on exact event
within_ok x tables question ranges s cell inside (Err why) fits is on exact event = tt

-- ---- the test of a witness

witness_from : (x : Rules) (tables : TableSet) (question : Question) (ranges : Ranges) (s : State)
    → WellFormed x → is_witness x tables question ranges s ≡ true
    → IsWitness x tables question ranges s
unfolding is_witness
witness_from x tables question ranges s formed e =
    let cell : Cell = first_box x question ranges in
    let fitting = fits_rules x s in
    let inside = is_inside x cell s in
    let event = has_event x tables sample_memory s question in
    let fits = first_of fitting inside (first_of (fitting && inside) event e) in
    let within = second_of fitting inside (first_of (fitting && inside) event e) in
    let moments = is_in_moments (start_of x) cell.moments s in
    let entries = list_all (entry_fits x s) cell.keys in
    record {
      in_ranges =
          in_ranges x question ranges s (fits_from x s formed fits) fresh_kept
          (record {
            step = step_of x s fits;
            moments = first_of moments entries within;
            entries = second_of moments entries within;
          });
      event = second_of (fitting && inside) event e;
    }

witness_by : (x : Rules) (tables : TableSet) (question : Question) (ranges : Ranges) (s : State)
    → IsWitness x tables question ranges s → is_witness x tables question ranges s ≡ true
unfolding is_witness
witness_by x tables question ranges s w =
    let cell : Cell = first_box x question ranges in
    let fitting = fits_rules x s in
    let inside = is_inside x cell s in
    let event = has_event x tables sample_memory s question in
    let lies = lies_inside x question ranges s w.in_ranges in
    both (fitting && inside) event
    (both fitting inside (fits_by x s w.in_ranges.state.fits w.in_ranges.state.step)
    (both (is_in_moments (start_of x) cell.moments s) (list_all (entry_fits x s) cell.keys)
    lies.moments lies.entries))
    w.event

-- the test of a witness tests this
pub witness_test : (x : Rules) (tables : TableSet) (question : Question) (ranges : Ranges)
    (s : State) → WellFormed x
    → IsTrue (is_witness x tables question ranges s) ↔ IsWitness x tables question ranges s
witness_test x tables question ranges s formed =
    (witness_from x tables question ranges s formed, witness_by x tables question ranges s)

-- a state that does not fit the rules is none
pub no_witness : (x : Rules) (tables : TableSet) (question : Question) (ranges : Ranges) (s : State)
    (fitting : Bool) → fitting ≡ fits_rules x s → fitting ≡ false
    → false ≡ is_witness x tables question ranges s
unfolding is_witness
no_witness x tables question ranges s fitting is off =
    sym
    (ap
    (λ b. (b && is_inside x (first_box x question ranges) s)
    && has_event x tables sample_memory s question)
    (sym is ∙ off))

pub no_witness_is : (x : Rules) (tables : TableSet) (question : Question) (ranges : Ranges)
    (s : State) → false ≡ is_witness x tables question ranges s
    → IsTrue false ↔ IsWitness x tables question ranges s
no_witness_is x tables question ranges s e =
    (λ f. absurd (true≢false (sym f)), λ w. e ∙ witness_by x tables question ranges s w)

-- what tells whether a state is a witness is this test
pub witness_value : {E : Type 0} (x : Rules) (tables : TableSet) (question : Question)
    (ranges : Ranges) (s : State) (answer : Result Bool E) → WellFormed x
    → IfOk answer (λ found. IsTrue found ↔ IsWitness x tables question ranges s)
    → IfOk answer (λ found. found ≡ is_witness x tables question ranges s)
witness_value x tables question ranges s (Ok found) formed h =
    same_test found (is_witness x tables question ranges s) h
    (witness_test x tables question ranges s formed)
witness_value x tables question ranges s (Err why) formed h = tt

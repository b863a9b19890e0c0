-- The tests of a state are the definition of the states that fit rules.
use Rattle.std.proofs.Common.{◌≡◌, ℕ, Bool, true, false, List, [], ◌∷◌, ℤ, length, inl, refl, sym, ap₂, subst, ◌∙◌, arith}
use Rattle.std.proofs.lemmas.Bool.{true≢false}
use Rattle.std.proofs.lemmas.List.Elements.{All-nil, All-cons, All-head, All-tail}
use Rattle.std.specs.Cmp.{signed_Decides, unsigned_Decides}
use Rattle.std.specs.List.{AllZip}
use Rattle.std.specs.Ordering.{int_eq}
use Rattle.std.specs.Prelude.{◌&&◌, ◌||◌, ◌==◌, ◌↔◌, IsTrue, All}
use Rattle.exact_fraction.specs.Number.{Rational, zero}
use Rattle.exact_fraction.specs.Order.{◌≤ℚ◌}
use Rattle.exact_fraction.proofs.PublicLaws.{tests-at_most}
use Rattle.rule_types.specs.declared.rules.Rules.{Rules}
use Rattle.rule_types.specs.declared.state.LinkState.{LinkState}
use Rattle.rule_types.specs.declared.state.State.{State}
use Rattle.rule_types.specs.Fitting.{FitsRules, IsStep, LinkFits}
use Rattle.rule_types.specs.WellFormed.{IsRoutingStep, WellFormed, has_rate}
use Rattle.rule_types.proofs.PublicLaws.{opened-times}
use Rattle.state_checker.specs.Fits.{fits_rules, is_from_zero, is_one, link_fits, links_fit}

-- ---- two tests
pub both : (a b : Bool) → a ≡ true → b ≡ true → (a && b) ≡ true
both true b e f = f
both false b e f = e

pub first_of : (a b : Bool) → (a && b) ≡ true → a ≡ true
first_of true b e = refl
first_of false b e = e

pub second_of : (a b : Bool) → (a && b) ≡ true → b ≡ true
second_of true b e = e
second_of false b e = absurd (grind arith)

other_of : (a b : Bool) → a ≡ false → (a || b) ≡ true → b ≡ true
other_of true b e h = absurd (true≢false e)
other_of false b e h = h

either_by : (a b : Bool) → (a ≡ false → b ≡ true) → (a || b) ≡ true
either_by true b h = refl
either_by false b h = h refl

-- two tests of one thing are one
pub same_test : {P : Type 0} (a b : Bool) → IsTrue a ↔ P → IsTrue b ↔ P → a ≡ b
same_test true b h g = sym (g.1 (h.0 refl))
same_test false true h g = h.1 (g.0 refl)
same_test false false h g = refl

-- ---- two fractions
abbrev of_parts : ℤ → ℕ → Rational
of_parts num below = record { num = num; below = below }

one_true : (p q : Rational) → is_one p q ≡ true → p ≡ q
unfolding is_one
one_true p q e =
    ap₂ of_parts
    ((signed_Decides p.num q.num).0 (first_of (int_eq p.num q.num) (p.below == q.below) e))
    ((unsigned_Decides p.below q.below).0 (second_of (int_eq p.num q.num) (p.below == q.below) e))

one_same : (p : Rational) → is_one p p ≡ true
unfolding is_one
one_same p =
    both (int_eq p.num p.num) (p.below == p.below) ((signed_Decides p.num p.num).1 refl)
    ((unsigned_Decides p.below p.below).1 refl)

true_one : (p q : Rational) → p ≡ q → is_one p q ≡ true
true_one p q e = subst (λ r. is_one p r ≡ true) e (one_same p)

-- what tells whether two fractions are equal is this test
pub one_value : (b : Bool) (p q : Rational) → IsTrue b ↔ (p ≡ q) → b ≡ is_one p q
one_value b p q h = same_test b (is_one p q) h (one_true p q, true_one p q)

-- ---- links
from_zero : (q : Rational) → is_from_zero q ≡ true → zero ≤ℚ q
from_zero q e = (tests-at_most zero q).0 e

zero_from : (q : Rational) → zero ≤ℚ q → is_from_zero q ≡ true
zero_from q h = (tests-at_most zero q).1 h

AtTarget : Rational → LinkState → Type 0
AtTarget rate link = has_rate rate ≡ false → link.target ≡ link.setting

link_values : (rate : Rational) (link : LinkState) → link_fits rate link ≡ true → LinkFits link
unfolding link_fits
link_values rate link e =
    let a = is_from_zero link.setting in
    let b = is_from_zero link.target in
    let c = is_from_zero link.timer in
    let d = has_rate rate || is_one link.target link.setting in
    record {
      setting = from_zero link.setting (first_of a b (first_of (a && b) (c && d) e));
      target = from_zero link.target (second_of a b (first_of (a && b) (c && d) e));
      timer = from_zero link.timer (first_of c d (second_of (a && b) (c && d) e));
    }

link_target : (rate : Rational) (link : LinkState) → link_fits rate link ≡ true
    → AtTarget rate link
unfolding link_fits AtTarget
link_target rate link e off =
    let a = is_from_zero link.setting in
    let b = is_from_zero link.target in
    let c = is_from_zero link.timer in
    let d = has_rate rate || is_one link.target link.setting in
    one_true link.target link.setting
    (other_of (has_rate rate) (is_one link.target link.setting) off
    (second_of c d (second_of (a && b) (c && d) e)))

link_by : (rate : Rational) (link : LinkState) → LinkFits link → AtTarget rate link
    → link_fits rate link ≡ true
unfolding link_fits AtTarget
link_by rate link h g =
    let a = is_from_zero link.setting in
    let b = is_from_zero link.target in
    let c = is_from_zero link.timer in
    let d = has_rate rate || is_one link.target link.setting in
    both (a && b) (c && d)
    (both a b (zero_from link.setting h.setting) (zero_from link.target h.target))
    (both c d (zero_from link.timer h.timer)
    (either_by (has_rate rate) (is_one link.target link.setting)
    (λ off. true_one link.target link.setting (g off))))

all_values : (rates : List Rational) (links : List LinkState) → links_fit rates links ≡ true
    → All LinkFits links
unfolding links_fit
all_values [] [] e = All-nil LinkFits
all_values [] (link ∷ links) e = absurd (true≢false (sym e))
all_values (rate ∷ rates) [] e = absurd (true≢false (sym e))
all_values (rate ∷ rates) (link ∷ links) e =
    All-cons LinkFits link links
    (link_values rate link (first_of (link_fits rate link) (links_fit rates links) e))
    (all_values rates links (second_of (link_fits rate link) (links_fit rates links) e))

all_targets : (rates : List Rational) (links : List LinkState) → links_fit rates links ≡ true
    → AllZip AtTarget rates links
unfolding links_fit
all_targets [] [] e = tt
all_targets [] (link ∷ links) e = absurd (true≢false (sym e))
all_targets (rate ∷ rates) [] e = absurd (true≢false (sym e))
all_targets (rate ∷ rates) (link ∷ links) e = (
  link_target rate link (first_of (link_fits rate link) (links_fit rates links) e),
  all_targets rates links (second_of (link_fits rate link) (links_fit rates links) e),
)

links_by : (rates : List Rational) (links : List LinkState) → All LinkFits links
    → AllZip AtTarget rates links → links_fit rates links ≡ true
unfolding links_fit
links_by [] [] h z = refl
links_by [] (link ∷ links) h z = absurd z
links_by (rate ∷ rates) [] h z = absurd z
links_by (rate ∷ rates) (link ∷ links) h z =
    both (link_fits rate link) (links_fit rates links)
    (link_by rate link (All-head LinkFits link links h) z.0)
    (links_by rates links (All-tail LinkFits link links h) z.1)

-- ---- states
routing : (q : Rational) → IsRoutingStep q → IsStep q
unfolding IsStep
routing q h = inl h

pub step_of : (x : Rules) (s : State) → fits_rules x s ≡ true → s.step ≡ x.routing_step
unfolding fits_rules
step_of x s e =
    let a = length s.inputs == length x.input_keys in
    let b = length s.links == length x.tracked in
    let c = is_one s.step x.routing_step in
    let d = links_fit x.rates s.links in
    one_true s.step x.routing_step (first_of c d (second_of (a && b) (c && d) e))

pub fits_from : (x : Rules) (s : State) → WellFormed x → fits_rules x s ≡ true → FitsRules x s
unfolding fits_rules AtTarget
fits_from x s formed e =
    let a = length s.inputs == length x.input_keys in
    let b = length s.links == length x.tracked in
    let c = is_one s.step x.routing_step in
    let d = links_fit x.rates s.links in
    let counts = first_of (a && b) (c && d) e in
    let links = second_of c d (second_of (a && b) (c && d) e) in
    record {
      inputs = (unsigned_Decides (length s.inputs) (length x.input_keys)).0 (first_of a b counts);
      links = (unsigned_Decides (length s.links) (length x.tracked)).0 (second_of a b counts);
      link_values = all_values x.rates s.links links;
      at_target = all_targets x.rates s.links links;
      step =
          subst IsStep (sym (step_of x s e))
          (routing x.routing_step (opened-times x formed.bounds).routing_step);
    }

pub fits_by : (x : Rules) (s : State) → FitsRules x s → s.step ≡ x.routing_step
    → fits_rules x s ≡ true
unfolding fits_rules AtTarget
fits_by x s h step =
    let a = length s.inputs == length x.input_keys in
    let b = length s.links == length x.tracked in
    let c = is_one s.step x.routing_step in
    let d = links_fit x.rates s.links in
    both (a && b) (c && d)
    (both a b ((unsigned_Decides (length s.inputs) (length x.input_keys)).1 h.inputs)
    ((unsigned_Decides (length s.links) (length x.tracked)).1 h.links))
    (both c d (true_one s.step x.routing_step step)
    (links_by x.rates s.links h.link_values h.at_target))

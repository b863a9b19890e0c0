-- A sample lies in each box that covers its cell.
use Rattle.std.proofs.Common.{◌≡◌, ℕ, Bool, true, false, Option, Some, None, List, [], ◌∷◌, map, cond, nat_eq, refl, sym, ap, subst, ◌∙◌, option_and_then}
use Rattle.std.proofs.lemmas.List.Elements.{All-from_recursion, recursion_from_All}
use Rattle.std.proofs.lemmas.Option.{none-some, same_Some}
use Rattle.std.specs.List.{AllByRecursion, AllZip}
use Rattle.std.specs.Prelude.{IfSome, IsTrue, ℤ, option_map}
use Rattle.exact_fraction.specs.Number.{Rational}
use Rattle.interval_sets.specs.declared.interval.Interval.{Interval}
use Rattle.interval_sets.specs.Intervals.{lies_in}
use Rattle.rule_types.specs.declared.key.Attr.{Attr}
use Rattle.rule_types.specs.declared.key.Attr.TheVariants as attr
use Rattle.rule_types.specs.declared.key.Key.{Key}
use Rattle.rule_types.specs.declared.key.Key.TheVariants.{Object, Clock}
use Rattle.rule_types.specs.declared.object.ObjectNo.{ObjectNo}
use Rattle.rule_types.specs.declared.rules.Rules.{Rules}
use Rattle.rule_types.specs.declared.state.LinkState.{LinkState}
use Rattle.rule_types.specs.declared.state.State.{State}
use Rattle.rule_types.specs.Fitting.{FitsRules}
use Rattle.rule_types.specs.WellFormed.{WellFormed}
use Rattle.rule_meaning.specs.State.{beside, link_state, link_value, value}
use Rattle.rule_meaning.proofs.PublicLaws.{keys_by_place-of_link}
use Rattle.verdict_meaning.specs.declared.cell.Cell.{Cell}
use Rattle.verdict_meaning.specs.declared.question.Question.{Question}
use Rattle.verdict_meaning.specs.declared.ranges.Ranges.{Ranges}
use Rattle.verdict_meaning.specs.Boxes.{first_box, HasKey, IsEntryOf, IsInRanges, IsMomentIn, IsStateIn, IsTargetIn, range_or}
use Rattle.verdict_meaning.specs.Grids.{cell_numbers, link_at, number_of_key, number_or, sample_links, sample_memory, sample_moment, sample_of, sample_with}
use Rattle.verdict_meaning.specs.Premises.{start_of}
use Rattle.verdict_meaning.specs.Questions.{grid_keys, setting_key}
use Rattle.verdict_meaning.specs.Reaches.{piece_in}
use Rattle.grid_samples.specs.Cells.{HasGridKeys, HasPieces, IsNotEmpty, TracksLimit}
use Rattle.grid_samples.specs.Covers.{Covers, CoversEntry, CoversMoments}
use Rattle.grid_samples.proofs.FreshMemories.{fresh_kept}
use Rattle.grid_samples.proofs.KeyNumbers.{each_found, IsFound, numbers_zip}
use Rattle.grid_samples.proofs.KeyOrders.{apart, AreApart, rise_ordered}
use Rattle.grid_samples.proofs.SampledKeys.{IsSampled, sampled_keys}
use Rattle.grid_samples.proofs.SampleFits.{numbers_fit}
use Rattle.grid_samples.proofs.SampleValues.{entry_is, IsEntry}

-- ---- what holds of a sample by its numbers
pub of_sample : (P : State → Type 0) (x : Rules) (cell : Cell) (s : State)
    → ((numbers : List (Key × Rational)) → cell_numbers cell.keys ≡ Some numbers
    → P (sample_with x cell.moments numbers)) → sample_of x cell ≡ Some s → P s
unfolding sample_of
of_sample P x cell s h e = by_numbers (cell_numbers cell.keys) refl e
  where
    by_numbers : (o : Option (List (Key × Rational))) → cell_numbers cell.keys ≡ o
        → option_map (sample_with x cell.moments) o ≡ Some s → P s
    by_numbers None is e = absurd (none-some s e)
    by_numbers (Some numbers) is e =
        subst P (same_Some (sample_with x cell.moments numbers) s e) (h numbers is)

pub fits_if : (x : Rules) (cell : Cell) → WellFormed x → HasPieces cell
    → IfSome (sample_of x cell) (FitsRules x)
fits_if x cell formed pieces = by_sample (sample_of x cell) refl
  where
    by_sample : (o : Option State) → sample_of x cell ≡ o → IfSome o (FitsRules x)
    by_sample None e = tt
    by_sample (Some s) e =
        of_sample (FitsRules x) x cell s
        (λ numbers is. numbers_fit x cell numbers formed pieces is) e

-- ---- entries
each_entry : (x : Rules) (span : Option (ℤ × ℤ)) (numbers : List (Key × Rational))
    (entries : List (Key × Interval)) → WellFormed x
    → AllByRecursion (IsSampled x) (map (λ entry. entry.0) entries)
    → AllByRecursion (IsFound numbers) entries
    → AllByRecursion (IsEntry x (sample_with x span numbers)) entries
each_entry x span numbers [] formed h found = tt
each_entry x span numbers (entry ∷ entries) formed h found = (
  entry_is x span numbers entry.0 entry.1 formed h.0 found.0,
  each_entry x span numbers entries formed h.1 found.1,
)

wider : (piece interval : Interval) (o : Option Rational)
    → ((q : Rational) → IsTrue (lies_in piece q) → IsTrue (lies_in interval q))
    → IfSome o (λ q. IsTrue (lies_in piece q)) → IfSome o (λ q. IsTrue (lies_in interval q))
wider piece interval None part h = tt
wider piece interval (Some q) part h = part q h

covered_entry : (x : Rules) (s : State) (entry piece : Key × Interval)
    → CoversEntry entry piece → IsEntry x s piece → IsEntry x s entry
covered_entry x s entry piece covers h = (
  subst (λ key. IfSome (value x s key) (λ q. IsTrue (lies_in entry.1 q))) (sym covers.0)
      (wider piece.1 entry.1 (value x s piece.0) covers.1 h.0),
  subst (HasKey x s) (sym covers.0) h.1,
)

covered : (x : Rules) (s : State) (entries pieces : List (Key × Interval))
    → AllZip CoversEntry entries pieces → AllByRecursion (IsEntry x s) pieces
    → AllByRecursion (IsEntry x s) entries
covered x s [] [] zip h = tt
covered x s [] (piece ∷ pieces) zip h = absurd zip
covered x s (entry ∷ entries) [] zip h = absurd zip
covered x s (entry ∷ entries) (piece ∷ pieces) zip h = (
  covered_entry x s entry piece zip.0 h.0,
  covered x s entries pieces zip.1 h.1,
)

box_entries : (x : Rules) (question : Question) (box cell : Cell)
    (numbers : List (Key × Rational)) → WellFormed x → TracksLimit x question
    → HasGridKeys x question cell → HasPieces cell → Covers box cell
    → cell_numbers cell.keys ≡ Some numbers
    → AllByRecursion (IsEntry x (sample_with x cell.moments numbers)) box.keys
unfolding grid_keys
box_entries x question box cell numbers formed limit keys pieces covers is =
    let some = recursion_from_All IsNotEmpty cell.keys pieces.not_empty in
    let distinct : AreApart (map (λ entry. entry.0) cell.keys) =
    subst AreApart (sym keys.keys) (apart (grid_keys x question) (rise_ordered _)) in
    let sampled =
    subst (AllByRecursion (IsSampled x)) (sym keys.keys) (sampled_keys x question formed limit) in
    covered x (sample_with x cell.moments numbers) box.keys cell.keys covers.keys
    (each_entry x cell.moments numbers cell.keys formed sampled
    (each_found cell.keys numbers distinct (numbers_zip cell.keys numbers some is)))

-- ---- moments
moment_in : (start : ℤ) (span piece : Option (ℤ × ℤ)) → CoversMoments span piece
    → IfSome span (λ one. IsMomentIn one (sample_moment start piece))
moment_in start None piece h = tt
moment_in start (Some span) None h = absurd h
moment_in start (Some span) (Some piece) h = h

same_start : (start : ℤ) (span : Option (ℤ × ℤ)) → IfSome span (λ one. start ≡ start)
same_start start None = tt
same_start start (Some span) = refl

-- ---- boxes
state_in : (x : Rules) (question : Question) (box cell : Cell) (numbers : List (Key × Rational))
    → WellFormed x → TracksLimit x question → HasGridKeys x question cell → HasPieces cell
    → Covers box cell → cell_numbers cell.keys ≡ Some numbers
    → IsStateIn x box (sample_with x cell.moments numbers)
state_in x question box cell numbers formed limit keys pieces covers is =
    let s : State = sample_with x cell.moments numbers in
    let each =
    All-from_recursion (IsEntry x s) box.keys
    (box_entries x question box cell numbers formed limit keys pieces covers is) in
    record {
      state = record {
        fits = numbers_fit x cell numbers formed pieces is;
        step = refl;
        present = λ k d lt. (each k d lt).1;
        start = same_start (start_of x) box.moments;
      };
      inside = record {
        keys = λ k d lt. (each k d lt).0;
        moment = moment_in (start_of x) box.moments cell.moments covers.moments;
      };
    }

pub in_boxes : (x : Rules) (question : Question) (box cell : Cell) (s : State) → WellFormed x
    → TracksLimit x question → HasGridKeys x question cell → HasPieces cell → Covers box cell
    → sample_of x cell ≡ Some s → IsStateIn x box s
in_boxes x question box cell s formed limit keys pieces covers e =
    of_sample (IsStateIn x box) x cell s
    (λ numbers is. state_in x question box cell numbers formed limit keys pieces covers is) e

-- ---- ranges
IsAtTarget : LinkState → Type 0
IsAtTarget link = link.target ≡ link.setting

beside_target : (link : LinkState) (o : Option LinkState) (b : Bool) → IsAtTarget link
    → IfSome o IsAtTarget → IfSome (cond b (Some link) o) IsAtTarget
beside_target link o true h later = h
beside_target link o false h later = later

each_target : (passes : ℕ → Bool) (numbers : List (Key × Rational)) (tracked : List ℕ)
    (initial : List Rational)
    → IfSome (beside passes tracked (sample_links numbers tracked initial)) IsAtTarget
unfolding beside sample_links IsAtTarget
each_target passes numbers [] initial = tt
each_target passes numbers (link ∷ tracked) [] = tt
each_target passes numbers (link ∷ tracked) (first ∷ initial) =
    beside_target
    (link_at numbers link (number_or first (number_of_key (setting_key link) numbers)))
    (beside passes tracked (sample_links numbers tracked initial)) (passes link) refl
    (each_target passes numbers tracked initial)

link_target : (x : Rules) (span : Option (ℤ × ℤ)) (numbers : List (Key × Rational)) (link : ℕ)
    → IfSome (link_state x (sample_with x span numbers) link) IsAtTarget
unfolding link_state
link_target x span numbers link =
    each_target (λ other. nat_eq link other) numbers x.tracked x.initial

target_in : (range : Interval) (o : Option LinkState) → IfSome o IsAtTarget
    → IfSome (option_and_then (link_value attr.Setting) o) (λ q. IsTrue (lies_in range q))
    → IfSome o (λ link. IsTrue (lies_in range link.target))
unfolding link_value IsAtTarget
target_in range None h inside = tt
target_in range (Some link) h inside = subst (λ q. IsTrue (lies_in range q)) (sym h) inside

attribute_target : (x : Rules) (s : State) (range : Interval) (object : ObjectNo)
    (attribute : Attr) → ((link : ℕ) → IfSome (link_state x s link) IsAtTarget)
    → IsEntryOf x s (Object object attribute, range)
    → IsTargetIn x s range (Object object attribute)
attribute_target x s range object attr.Intensity h inside = tt
attribute_target x s range object (attr.HourDepth hours) h inside = tt
attribute_target x s range object attr.Depth h inside = tt
attribute_target x s range object attr.MaxDepth h inside = tt
attribute_target x s range object attr.FullDepth h inside = tt
attribute_target x s range object attr.Head h inside = tt
attribute_target x s range object attr.Volume h inside = tt
attribute_target x s range object attr.Inflow h inside = tt
attribute_target x s range object attr.Flow h inside = tt
attribute_target x s range object attr.FullFlow h inside = tt
attribute_target x s range object attr.Velocity h inside = tt
attribute_target x s range object attr.Length h inside = tt
attribute_target x s range object attr.Slope h inside = tt
attribute_target x s range object attr.Setting h inside =
    target_in range (link_state x s object.index) (h object.index)
    (subst (λ o. IfSome o (λ q. IsTrue (lies_in range q)))
    (keys_by_place-of_link x s object attr.Setting refl) inside)
attribute_target x s range object attr.Status h inside = tt
attribute_target x s range object attr.TimeOpen h inside = tt
attribute_target x s range object attr.TimeClosed h inside = tt

key_target : (x : Rules) (s : State) (range : Interval) (key : Key)
    → ((link : ℕ) → IfSome (link_state x s link) IsAtTarget)
    → IsEntryOf x s (key, range) → IsTargetIn x s range key
key_target x s range (Object object attribute) h inside =
    attribute_target x s range object attribute h inside
key_target x s range (Clock attribute) h inside = tt

-- the keys of a cell that the first box covers are those of the grid
covered_keys : (f : Key → Interval) (keys : List Key) (entries : List (Key × Interval))
    → AllZip CoversEntry (map (λ key. (key, f key)) keys) entries
    → map (λ entry. entry.0) entries ≡ keys
covered_keys f [] [] zip = refl
covered_keys f [] (entry ∷ entries) zip = absurd zip
covered_keys f (key ∷ keys) [] zip = absurd zip
covered_keys f (key ∷ keys) (entry ∷ entries) zip =
    ap (λ one. one ∷ map (λ other. other.0) entries) (sym zip.0.0)
    ∙ ap (λ more. key ∷ more) (covered_keys f keys entries zip.1)

pub grid_cell : (x : Rules) (question : Question) (ranges : Ranges) (cell : Cell)
    → Covers (first_box x question ranges) cell → HasGridKeys x question cell
unfolding first_box
grid_cell x question ranges cell covers = record {
  keys =
      covered_keys (λ key. range_or (piece_in key ranges.keys)) (grid_keys x question) cell.keys
      covers.keys;
}

ranged : (x : Rules) (question : Question) (ranges : Ranges) (cell : Cell)
    (numbers : List (Key × Rational)) → WellFormed x → TracksLimit x question → HasPieces cell
    → Covers (first_box x question ranges) cell → cell_numbers cell.keys ≡ Some numbers
    → IsInRanges x question ranges sample_memory (sample_with x cell.moments numbers)
ranged x question ranges cell numbers formed limit pieces covers is =
    let s : State = sample_with x cell.moments numbers in
    let box : Cell = first_box x question ranges in
    let keys = grid_cell x question ranges cell covers in
    let state = state_in x question box cell numbers formed limit keys pieces covers is in
    record {
      state = state.state;
      inside = state.inside;
      targets = λ k d lt.
          key_target x s _ _ (link_target x cell.moments numbers) (state.inside.keys k d lt);
      memories = λ number. fresh_kept;
    }

pub in_ranges : (x : Rules) (question : Question) (ranges : Ranges) (cell : Cell) (s : State)
    → WellFormed x → TracksLimit x question → HasPieces cell
    → Covers (first_box x question ranges) cell → sample_of x cell ≡ Some s
    → IsInRanges x question ranges sample_memory s
in_ranges x question ranges cell s formed limit pieces covers e =
    of_sample (IsInRanges x question ranges sample_memory) x cell s
    (λ numbers is. ranged x question ranges cell numbers formed limit pieces covers is) e

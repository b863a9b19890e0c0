-- The state of a refuted question is read back: it is the sample of a cell of the question's grid.
use Rattle.std.proofs.Common.{◌≡◌, ℕ, zero as nothing, suc, Bool, true, false, cond, inl, Option}
use Rattle.std.proofs.Common.{Some, None, List, [], ◌∷◌, ◌++◌, map, refl, sym, ap, ap₂, subst, ◌∙◌}
use Rattle.std.proofs.Common.{option_and_then}
use Rattle.std.proofs.lemmas.List.Elements.{All-head, All-tail, recursion_from_All}
use Rattle.std.proofs.lemmas.Option.{none-some, same_Some}
use Rattle.std.specs.List.{AllByRecursion, cons_option, filter_map, find, flat_map}
use Rattle.std.specs.Prelude.{All, IfSome, IsTrue, ℤ, option_map, slice_get}
use Rattle.exact_fraction.specs.Number.{Rational, zero}
use Rattle.exact_fraction.specs.Order.{◌≤ℚ◌}
use Rattle.interval_sets.specs.declared.interval.Interval.{Interval}
use Rattle.rule_types.specs.Fitting.{FitsRules, LinkFits}
use Rattle.rule_types.specs.Keys.{is_input}
use Rattle.rule_types.specs.Tables.{TableSet}
use Rattle.rule_types.specs.WellFormed.{WellFormed}
use Rattle.rule_types.specs.declared.key.Key.{Key}
use Rattle.rule_types.specs.declared.rules.Rules.{Rules}
use Rattle.rule_types.specs.declared.state.LinkState.{LinkState}
use Rattle.rule_types.specs.declared.state.State.{State}
use Rattle.rule_meaning.specs.State.{value}
use Rattle.verdict_meaning.specs.Boxes.{HasKey, first_box, range_or}
use Rattle.verdict_meaning.specs.Events.{has_event}
use Rattle.verdict_meaning.specs.Grids.{axes_of, cell_numbers, cells_of, combinations, grid_cells}
use Rattle.verdict_meaning.specs.Grids.{moment_pieces}
use Rattle.verdict_meaning.specs.Grids.{piece_number, sample_memory, sample_of, sample_with}
use Rattle.verdict_meaning.specs.Questions.{grid_keys, has_moments}
use Rattle.verdict_meaning.specs.Reaches.{piece_in}
use Rattle.verdict_meaning.specs.Verdicts.{IsRefutation, first_event, samples}
use Rattle.verdict_meaning.specs.declared.cell.Cell.{Cell}
use Rattle.verdict_meaning.specs.declared.question.Question.{Question}
use Rattle.verdict_meaning.specs.declared.ranges.Ranges.{Ranges}
use Rattle.grid_samples.specs.Cells.{HasClosedRanges}
use Rattle.grid_samples.specs.Cells.{IsGridCell as IsCellOf}
use Rattle.grid_samples.proofs.PublicLaws.{grids-cells}
use Rattle.verdict_search.proofs.PublicLaws.{verdicts-in_ranges}
use Rattle.report_lines.specs.Reports.{grid_of}
use Rattle.report_text.specs.Readable.{IsGridState, is_number, span_if, values_with}
use Rattle.report_round_trips.specs.ReadableVerdicts.{StateFits}
use Rattle.report_round_trips.proofs.KeysInOrder.{grid_rises, setting_there}
use Rattle.report_round_trips.proofs.OpenCells.{found_holds}
use Rattle.report_round_trips.proofs.SampleTold.{KeyFits, all_told}
use Rattle.report_round_trips.proofs.SampleWhole.{told_whole}

-- ---- cells without moments
each_append : {A : Type 0} (P : A → Type 0) (front back : List A) → AllByRecursion P front
    → AllByRecursion P back → AllByRecursion P (front ++ back)
each_append P [] back first second = second
each_append P (x ∷ front) back first second =
    (first.0, each_append P front back first.1 second)

abbrev Keys : Type 0
Keys = List (Key × Interval)

abbrev cell_at : Keys → Option (ℤ × ℤ) → Cell
cell_at keys span = record { keys = keys; moments = span }

none_each : (spans : List (Option (ℤ × ℤ))) (all : List Keys)
    → spans ≡ None ∷ []
    → AllByRecursion (λ cell. cell.moments ≡ None)
    (flat_map (λ keys. map (cell_at keys) spans) all)
none_each spans [] is = tt
none_each spans (keys ∷ more) is =
    each_append (λ cell. cell.moments ≡ None) (map (cell_at keys) spans)
    (flat_map (λ one. map (cell_at one) spans) more)
    (subst (λ l. AllByRecursion (λ cell. cell.moments ≡ None) (map (cell_at keys) l)) (sym is)
    (refl, tt))
    (none_each spans more is)

none_in_box : (x : Rules) (question : Question) (box : Cell) → box.moments ≡ None
    → AllByRecursion (λ cell. cell.moments ≡ None) (cells_of x question box)
unfolding cells_of
none_in_box x question box is =
    none_each (moment_pieces x question box.moments) (combinations (axes_of x question box.keys))
    (ap (moment_pieces x question) is)

none_in_grid : (x : Rules) (question : Question) (ranges : Ranges)
    → has_moments x question ≡ false
    → AllByRecursion (λ cell. cell.moments ≡ None) (grid_cells x question ranges)
unfolding grid_cells first_box
none_in_grid x question ranges is =
    none_in_box x question (first_box x question ranges)
    (ap (λ b. cond b ranges.moments None) is)

-- ---- samples
-- a state is the sample of a cell of the grid
record IsSample (x : Rules) (question : Question) (s : State) : Type 0 where
  span : Option (ℤ × ℤ)
  numbers : List (Key × Rational)
  keys : map (λ (number : Key × Rational). number.0) numbers ≡ grid_keys x question
  none : has_moments x question ≡ false → span ≡ None
  is : sample_with x span numbers ≡ s

first_number : (entry : Key × Interval) (more : Keys) (numbers : List (Key × Rational))
    (o : Option Rational) (rest : Option (List (Key × Rational)))
    → ((found : List (Key × Rational)) → rest ≡ Some found
    → map (λ (number : Key × Rational). number.0) found ≡ map (λ entry. entry.0) more)
    → option_and_then
    (λ (q : Rational). option_map (λ found. (entry.0, q) ∷ found) rest) o ≡ Some numbers
    → map (λ (number : Key × Rational). number.0) numbers ≡ entry.0 ∷ map (λ entry. entry.0) more
first_number entry more numbers None rest later e = absurd (none-some numbers e)
first_number entry more numbers (Some q) None later e = absurd (none-some numbers e)
first_number entry more numbers (Some q) (Some found) later e =
    subst
    (λ l. map (λ (number : Key × Rational). number.0) l ≡ entry.0 ∷ map (λ entry. entry.0) more)
    (same_Some ((entry.0, q) ∷ found) numbers e) (ap (λ l. entry.0 ∷ l) (later found refl))

numbers_keys : (entries : Keys) (numbers : List (Key × Rational))
    → cell_numbers entries ≡ Some numbers
    → map (λ (number : Key × Rational). number.0) numbers ≡ map (λ entry. entry.0) entries
unfolding cell_numbers
numbers_keys [] numbers e =
    ap (map (λ (number : Key × Rational). number.0)) (sym (same_Some [] numbers e))
numbers_keys (entry ∷ more) numbers e =
    first_number entry more numbers (piece_number entry.1.low entry.1.high) (cell_numbers more)
    (λ found is. numbers_keys more found is) e

module _ (x : Rules) (question : Question) (box : Cell) where
  cell_sample : (cell : Cell) (s : State) → IsCellOf x question box cell
      → (has_moments x question ≡ false → cell.moments ≡ None) → sample_of x cell ≡ Some s
      → IsSample x question s
  unfolding sample_of
  cell_sample cell s own none e = by_numbers (cell_numbers cell.keys) refl e
    where
      by_numbers : (o : Option (List (Key × Rational))) → cell_numbers cell.keys ≡ o
          → option_map (sample_with x cell.moments) o ≡ Some s → IsSample x question s
      by_numbers None is e = absurd (none-some s e)
      by_numbers (Some numbers) is e = record {
        span = cell.moments;
        numbers = numbers;
        keys = numbers_keys cell.keys numbers is ∙ own.keys.keys;
        none = none;
        is = same_Some (sample_with x cell.moments numbers) s e;
      }

  and_sample : (o : Option State) (more : List State)
      → ((s : State) → o ≡ Some s → IsSample x question s)
      → AllByRecursion (IsSample x question) more
      → AllByRecursion (IsSample x question) (cons_option o more)
  and_sample None more here later = later
  and_sample (Some s) more here later = (here s refl, later)

  all_samples : (cells : List Cell) → AllByRecursion (IsCellOf x question box) cells
      → (has_moments x question ≡ false → AllByRecursion (λ cell. cell.moments ≡ None) cells)
      → AllByRecursion (IsSample x question) (filter_map (sample_of x) cells)
  all_samples [] own none = tt
  all_samples (cell ∷ more) own none =
      and_sample (sample_of x cell) (filter_map (sample_of x) more)
      (λ s is. cell_sample cell s own.0 (λ has. (none has).0) is)
      (all_samples more own.1 (λ has. (none has).1))

refuted_sample : (x : Rules) (tables : TableSet) (ranges : Ranges) (question : Question)
    (s : State) → HasClosedRanges ranges → first_event x tables ranges question ≡ Some s
    → IsSample x question s
unfolding first_event
refuted_sample x tables ranges question s closed first =
    let box = first_box x question ranges in
    let cells = grid_cells x question ranges in
    found_holds (IsSample x question) (λ one. has_event x tables sample_memory one question)
    (samples x question ranges) s
    (all_samples x question box cells
    (recursion_from_All (IsCellOf x question box) cells (grids-cells x question ranges closed))
    (λ has. none_in_grid x question ranges has)) first

-- ---- what is known of the keys
module _ (x : Rules) (s : State) where
  keys_fit : (keys : List Key) (range : Key → Interval)
      → All (λ (entry : Key × Interval). HasKey x s entry.0) (map (λ key. (key, range key)) keys)
      → All (λ key. IfSome (value x s key) (λ q. IsTrue (is_number q))) keys
      → AllByRecursion (KeyFits x s) keys
  keys_fit [] range has number = tt
  keys_fit (key ∷ more) range has number = (
    record {
      has = All-head (λ (entry : Key × Interval). HasKey x s entry.0) (key, range key)
          (map (λ one. (one, range one)) more) has;
      number = All-head (λ one. IfSome (value x s one) (λ q. IsTrue (is_number q))) key more number;
    },
    keys_fit more range
        (All-tail (λ (entry : Key × Interval). HasKey x s entry.0) (key, range key)
        (map (λ one. (one, range one)) more) has)
        (All-tail (λ one. IfSome (value x s one) (λ q. IsTrue (is_number q))) key more number),
  )

  grid_fits : (question : Question) (ranges : Ranges)
      → All (λ (entry : Key × Interval). HasKey x s entry.0) (first_box x question ranges).keys
      → All (λ key. IfSome (value x s key) (λ q. IsTrue (is_number q))) (grid_keys x question)
      → AllByRecursion (KeyFits x s) (grid_keys x question)
  unfolding first_box
  grid_fits question ranges has number =
      keys_fit (grid_keys x question) (λ key. range_or (piece_in key ranges.keys)) has number

input_at : (keys : List Key) (k : ℕ) (key : Key) → All (λ one. IsTrue (is_input one)) keys
    → slice_get keys k ≡ Some key → IsTrue (is_input key)
input_at [] k key all is = absurd (none-some key is)
input_at (one ∷ keys) nothing key all is =
    subst (λ other. IsTrue (is_input other)) (same_Some one key is)
    (All-head (λ other. IsTrue (is_input other)) one keys all)
input_at (one ∷ keys) (suc k) key all is =
    input_at keys k key (All-tail (λ other. IsTrue (is_input other)) one keys all) is

settings_least : (links : List LinkState) → All LinkFits links
    → All (λ link. zero ≤ℚ link.setting) links
settings_least links all = λ k d lt. (all k d lt).setting

whole_by : (x : Rules) (question : Question) (s : State) → WellFormed x
    → All (λ key. IsTrue (is_input key)) x.input_keys → FitsRules x s
    → (h : IsSample x question s)
    → sample_with x
    (span_if (has_moments x question) s.moment)
    (values_with x s (grid_keys x question) []) ≡ s
whole_by x question s formed inputs fits h =
    subst
    (λ one. FitsRules x one → sample_with x
    (span_if (has_moments x question) one.moment)
    (values_with x one (grid_keys x question) []) ≡ one)
    h.is
    (λ own. told_whole x h.span h.numbers (grid_keys x question) (has_moments x question) formed
    h.keys (λ k key is. input_at x.input_keys k key inputs is) own.links
    (settings_least (sample_with x h.span h.numbers).links own.link_values) h.none) fits

pub state_read : (x : Rules) (tables : TableSet) (ranges : Ranges) (question : Question)
    (s : State) → WellFormed x → HasClosedRanges ranges
    → All (λ key. IsTrue (is_input key)) x.input_keys
    → IsRefutation x tables ranges question s → StateFits x question s
    → IsGridState x (grid_of x question) s
state_read x tables ranges question s formed closed inputs right fits =
    let inside = verdicts-in_ranges x tables ranges question s formed closed right in
    record {
      told =
          all_told x s (grid_keys x question) None (grid_rises x question)
          (grid_fits x s question ranges inside.state.present fits.numbers)
          (λ object open_one among. inl (setting_there object open_one x question among));
      moment = fits.moment;
      whole =
          whole_by x question s formed inputs inside.state.fits
          (refuted_sample x tables ranges question s closed right.first);
    }

-- A sample fits the rules.
use Rattle.std.proofs.Common.{◌≡◌, ℕ, Bool, true, false, inl, Option, Some, None, List, [], ◌∷◌, length, cond, refl, sym, subst, arith}
use Rattle.std.proofs.lemmas.List.{length-map}
use Rattle.std.proofs.lemmas.List.Elements.{All-from_recursion, recursion_from_All}
use Rattle.std.specs.List.{AllByRecursion, AllZip}
use Rattle.std.specs.Prelude.{IfSome, IsTrue, ℤ}
use Rattle.exact_fraction.specs.Number.{Rational, zero}
use Rattle.exact_fraction.specs.Order.{◌≤ℚ◌, less}
use Rattle.exact_fraction.proofs.PublicLaws.{order-reflexive}
use Rattle.interval_sets.specs.declared.interval.Interval.{Interval}
use Rattle.interval_sets.specs.Intervals.{lies_in}
use Rattle.rule_types.specs.declared.key.Key.{Key}
use Rattle.rule_types.specs.declared.key.Key.TheVariants.{Object, Clock}
use Rattle.rule_types.specs.declared.rules.Rules.{Rules}
use Rattle.rule_types.specs.Fitting.{FitsRules, IsStep, LinkFits}
use Rattle.rule_types.specs.Keys.{is_link_state}
use Rattle.rule_types.specs.WellFormed.{has_rate, IsRoutingStep, WellFormed}
use Rattle.rule_types.proofs.PublicLaws.{equal_keys-key, opened-times}
use Rattle.verdict_meaning.specs.declared.cell.Cell.{Cell}
use Rattle.verdict_meaning.specs.Grids.{cell_numbers, link_at, number_of_key, number_or, sample_links, sample_with}
use Rattle.verdict_meaning.specs.Questions.{setting_key}
use Rattle.verdict_meaning.specs.Reaches.{same_key}
use Rattle.grid_samples.specs.Cells.{HasPieces, IsNotBelowZero, IsNotEmpty}
use Rattle.grid_samples.proofs.KeyNumbers.{IsNumberIn, numbers_zip}
use Rattle.grid_samples.proofs.SampledKeys.{closed_key, open_key}
use Rattle.grid_samples.proofs.SampleValues.{links_long}

-- ---- numbers of settings and timers
-- a number of a key is at least 0 where the key is read off a link's setting and timer
abbrev IsLow : Key → Rational → Type 0
IsLow (Object object attribute) q = IsTrue (is_link_state attribute) → zero ≤ℚ q
IsLow (Clock attribute) q = Unit {0}

abbrev IsLowNumber : Key × Rational → Type 0
IsLowNumber number = IsLow number.0 number.1

low_in : (key : Key) (piece : Interval) (q : Rational) → IsNotBelowZero key piece
    → IsTrue (lies_in piece q) → IsLow key q
low_in (Object object attribute) piece q h inside = λ link. h link q inside
low_in (Clock attribute) piece q h inside = tt

each_low : (entries : List (Key × Interval)) (numbers : List (Key × Rational))
    → AllByRecursion (λ entry. IsNotBelowZero entry.0 entry.1) entries
    → AllZip IsNumberIn entries numbers → AllByRecursion IsLowNumber numbers
each_low [] [] h zip = tt
each_low [] (number ∷ numbers) h zip = absurd zip
each_low (entry ∷ entries) [] h zip = absurd zip
each_low (entry ∷ entries) (number ∷ numbers) h zip = (
  subst (λ key. IsLow key number.1) (sym zip.0.0)
      (low_in entry.0 entry.1 number.1 h.0 zip.0.1),
  each_low entries numbers h.1 zip.1,
)

low_by : (key : Key) (number : Key × Rational) (o : Option Rational) (b : Bool)
    → same_key key number.0 ≡ b → IsLowNumber number → IfSome o (IsLow key)
    → IfSome (cond b (Some number.1) o) (IsLow key)
low_by key number o true is first later =
    subst (λ one. IsLow one number.1) (sym ((equal_keys-key key number.0).0 is)) first
low_by key number o false is first later = later

low_number : (key : Key) (numbers : List (Key × Rational)) → AllByRecursion IsLowNumber numbers
    → IfSome (number_of_key key numbers) (IsLow key)
unfolding number_of_key
low_number key [] h = tt
low_number key (number ∷ numbers) h =
    low_by key number (number_of_key key numbers) (same_key key number.0) refl h.0
    (low_number key numbers h.1)

-- ---- links
or_low : (first : Rational) (o : Option Rational) → zero ≤ℚ first
    → IfSome o (λ q. IsTrue true → zero ≤ℚ q) → zero ≤ℚ number_or first o
or_low first None h g = h
or_low first (Some q) h g = g refl

timer_low : (numbers : List (Key × Rational)) (link : ℕ) (above : Bool)
    → AllByRecursion IsLowNumber numbers
    → zero ≤ℚ number_or zero (number_of_key (cond above (open_key link) (closed_key link)) numbers)
timer_low numbers link true h =
    or_low zero (number_of_key (open_key link) numbers) (order-reflexive zero)
    (low_number (open_key link) numbers h)
timer_low numbers link false h =
    or_low zero (number_of_key (closed_key link) numbers) (order-reflexive zero)
    (low_number (closed_key link) numbers h)

link_fits : (numbers : List (Key × Rational)) (link : ℕ) (first : Rational)
    → AllByRecursion IsLowNumber numbers → zero ≤ℚ first
    → LinkFits
    (link_at numbers link (number_or first (number_of_key (setting_key link) numbers)))
link_fits numbers link first h low =
    let y = number_or first (number_of_key (setting_key link) numbers) in
    let from_zero =
    or_low first (number_of_key (setting_key link) numbers) low
    (low_number (setting_key link) numbers h) in
    record {
      setting = from_zero;
      target = from_zero;
      timer = timer_low numbers link (less zero y) h;
    }

links_fit : (numbers : List (Key × Rational)) (tracked : List ℕ) (initial : List Rational)
    → AllByRecursion IsLowNumber numbers → AllByRecursion (λ first. zero ≤ℚ first) initial
    → AllByRecursion LinkFits (sample_links numbers tracked initial)
unfolding sample_links
links_fit numbers [] initial h low = tt
links_fit numbers (link ∷ tracked) [] h low = tt
links_fit numbers (link ∷ tracked) (first ∷ initial) h low = (
  link_fits numbers link first h low.0,
  links_fit numbers tracked initial h low.1,
)

at_target : (numbers : List (Key × Rational)) (rates : List Rational) (tracked : List ℕ)
    (initial : List Rational) → length rates ≡ length tracked → length initial ≡ length tracked
    → AllZip (λ rate link. has_rate rate ≡ false → link.target ≡ link.setting) rates
    (sample_links numbers tracked initial)
unfolding sample_links
at_target numbers [] [] initial h k = tt
at_target numbers [] (link ∷ tracked) initial h k = absurd (omega (arith, h))
at_target numbers (rate ∷ rates) [] initial h k = absurd (omega (arith, h))
at_target numbers (rate ∷ rates) (link ∷ tracked) [] h k = absurd (omega (arith, k))
at_target numbers (rate ∷ rates) (link ∷ tracked) (first ∷ initial) h k = (
  λ none. refl,
  at_target numbers rates tracked initial (omega (arith, h)) (omega (arith, k)),
)

-- ---- the sample
is_step : (q : Rational) → IsRoutingStep q → IsStep q
unfolding IsStep
is_step q h = inl h

sample_fits : (x : Rules) (span : Option (ℤ × ℤ)) (numbers : List (Key × Rational))
    → WellFormed x → AllByRecursion IsLowNumber numbers
    → FitsRules x (sample_with x span numbers)
sample_fits x span numbers formed h =
    let times = opened-times x formed.bounds in
    record {
      inputs = length-map x.input_keys (λ key. number_of_key key numbers);
      links = links_long numbers x.tracked x.initial formed.initial;
      link_values =
          All-from_recursion LinkFits (sample_links numbers x.tracked x.initial)
          (links_fit numbers x.tracked x.initial h
          (recursion_from_All (λ first. zero ≤ℚ first) x.initial times.initial));
      at_target = at_target numbers x.rates x.tracked x.initial formed.rates formed.initial;
      step = is_step x.routing_step times.routing_step;
    }

pub numbers_fit : (x : Rules) (cell : Cell) (numbers : List (Key × Rational)) → WellFormed x
    → HasPieces cell → cell_numbers cell.keys ≡ Some numbers
    → FitsRules x (sample_with x cell.moments numbers)
numbers_fit x cell numbers formed pieces is =
    sample_fits x cell.moments numbers formed
    (each_low cell.keys numbers
    (recursion_from_All (λ entry. IsNotBelowZero entry.0 entry.1) cell.keys
    pieces.not_below_zero)
    (numbers_zip cell.keys numbers
    (recursion_from_All IsNotEmpty cell.keys pieces.not_empty) is))

-- Each key of a cell finds the number of its piece.
use Rattle.std.proofs.Common.{◌≡◌, true, false, Option, Some, None, List, [], ◌∷◌, map, cond, refl, sym, ap, subst, ◌∙◌, option_and_then}
use Rattle.std.proofs.lemmas.Option.{none-some, same_Some}
use Rattle.std.proofs.lemmas.Slice.Eq.{bytes_eq-Decides}
use Rattle.std.specs.List.{AllByRecursion, AllZip}
use Rattle.std.specs.Prelude.{IsTrue, option_map}
use Rattle.exact_fraction.specs.Number.{Rational}
use Rattle.interval_sets.specs.declared.interval.Interval.{Interval}
use Rattle.interval_sets.specs.Intervals.{lies_in}
use Rattle.rule_types.specs.declared.key.Key.{Key}
use Rattle.rule_types.specs.KeyOrder.{key_place}
use Rattle.verdict_meaning.specs.Grids.{cell_numbers, number_of_key, piece_number}
use Rattle.verdict_meaning.specs.Reaches.{same_key}
use Rattle.grid_samples.specs.Cells.{IsNotEmpty}
use Rattle.grid_samples.proofs.KeyOrders.{AreApart}
use Rattle.grid_samples.proofs.PieceNumbers.{number_inside}

-- ---- the numbers, entry by entry
abbrev pub IsNumberIn : Key × Interval → Key × Rational → Type 0
IsNumberIn entry number = (number.0 ≡ entry.0) × IsTrue (lies_in entry.1 number.1)

number_zip : (entry : Key × Interval) (more : List (Key × Interval))
    (numbers : List (Key × Rational)) (o : Option Rational) (rest : Option (List (Key × Rational)))
    → piece_number entry.1.low entry.1.high ≡ o → IsNotEmpty entry
    → ((found : List (Key × Rational)) → rest ≡ Some found → AllZip IsNumberIn more found)
    → option_and_then
    (λ (q : Rational). option_map (λ found. (entry.0, q) ∷ found) rest) o ≡ Some numbers
    → AllZip IsNumberIn (entry ∷ more) numbers
number_zip entry more numbers None rest is some later e = absurd (none-some numbers e)
number_zip entry more numbers (Some q) None is some later e = absurd (none-some numbers e)
number_zip entry more numbers (Some q) (Some found) is some later e =
    subst (AllZip IsNumberIn (entry ∷ more)) (same_Some ((entry.0, q) ∷ found) numbers e)
    ((refl, number_inside entry.1.low entry.1.high q some is), later found refl)

pub numbers_zip : (entries : List (Key × Interval)) (numbers : List (Key × Rational))
    → AllByRecursion IsNotEmpty entries → cell_numbers entries ≡ Some numbers
    → AllZip IsNumberIn entries numbers
unfolding cell_numbers
numbers_zip [] numbers some e = subst (AllZip IsNumberIn []) (same_Some [] numbers e) tt
numbers_zip (entry ∷ more) numbers some e =
    number_zip entry more numbers (piece_number entry.1.low entry.1.high) (cell_numbers more) refl
    some.0 (λ found is. numbers_zip more found some.1 is) e

-- ---- the number of a key
pub same_itself : (key : Key) → same_key key key ≡ true
same_itself key = (bytes_eq-Decides (key_place key) (key_place key)).1 refl

abbrev pub IsFound : List (Key × Rational) → Key × Interval → Type 0
IsFound numbers entry =
    (q : Rational) × (number_of_key entry.0 numbers ≡ Some q) × IsTrue (lies_in entry.1 q)

pub at_first : (key : Key) (number : Key × Rational) (numbers : List (Key × Rational))
    → same_key key number.0 ≡ true → number_of_key key (number ∷ numbers) ≡ Some number.1
unfolding number_of_key
at_first key number numbers is =
    ap (λ b. cond b (Some number.1) (number_of_key key numbers)) is

pub past_first : (key : Key) (number : Key × Rational) (numbers : List (Key × Rational))
    → same_key key number.0 ≡ false
    → number_of_key key (number ∷ numbers) ≡ number_of_key key numbers
unfolding number_of_key
past_first key number numbers is =
    ap (λ b. cond b (Some number.1) (number_of_key key numbers)) is

first_found : (entry : Key × Interval) (number : Key × Rational)
    (numbers : List (Key × Rational)) → IsNumberIn entry number
    → IsFound (number ∷ numbers) entry
first_found entry number numbers h = (
  number.1,
  at_first entry.0 number numbers
      (subst (λ key. same_key entry.0 key ≡ true) (sym h.0) (same_itself entry.0)),
  h.1,
)

later_found : (key : Key) (number : Key × Rational) (numbers : List (Key × Rational))
    (entries : List (Key × Interval)) → number.0 ≡ key
    → AllByRecursion (λ other. same_key other key ≡ false) (map (λ entry. entry.0) entries)
    → AllByRecursion (IsFound numbers) entries
    → AllByRecursion (IsFound (number ∷ numbers)) entries
later_found key number numbers [] is apart h = tt
later_found key number numbers (entry ∷ more) is apart h = (
  (
    h.0.0,
    past_first entry.0 number numbers
        (subst (λ one. same_key entry.0 one ≡ false) (sym is) apart.0) ∙ h.0.1,
    h.0.2,
  ),
  later_found key number numbers more is apart.1 h.1,
)

pub each_found : (entries : List (Key × Interval)) (numbers : List (Key × Rational))
    → AreApart (map (λ entry. entry.0) entries) → AllZip IsNumberIn entries numbers
    → AllByRecursion (IsFound numbers) entries
unfolding AreApart
each_found [] numbers apart zip = tt
each_found (entry ∷ more) [] apart zip = absurd zip
each_found (entry ∷ more) (number ∷ numbers) apart zip = (
  first_found entry number numbers zip.0,
  later_found entry.0 number numbers more zip.0.0 apart.0
      (each_found more numbers apart.1 zip.1),
)

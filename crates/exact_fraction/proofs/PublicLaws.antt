-- What the crates above may cite in their lemmas, and all that they may. Each term proves the
-- clause of src/laws.rt that its name tells, law and clause, and the answers of those laws are
-- these terms: so no more is cited than a public clause says. Beside it stands the tool `Ring`,
-- which says nothing of numbers: equations and orders of polynomials over ℤ, which a crate above
-- may use as it is.
use Rattle.std.proofs.Common.{◌≡◌, false, ◌↔◌}
use Rattle.std.specs.Prelude.{IsTrue}
use Rattle.std.proofs.lemmas.Bool.{not-true, not_from_false}
use Rattle.exact_fraction.specs.Number.{Rational, zero, IsLowest}
use Rattle.exact_fraction.specs.Order.{◌≤ℚ◌, ◌<ℚ◌, ◌=ℚ◌, less, same, lesser_of, greater_of}
use Rattle.exact_fraction.specs.Operations.{sum_of, difference_of, product_of, quotient_of}
use Rattle.exact_fraction.specs.Checked.{is_zero}
use Rattle.exact_fraction.specs.Relations.{relates}
use Rattle.exact_fraction.specs.declared.relation.Relation.TheVariants.{Eq, Ne, Lt, Le, Gt, Ge}
use Rattle.exact_fraction.proofs.Results.{sum_lowest, difference_lowest, product_lowest}
use Rattle.exact_fraction.proofs.Results.{quotient_lowest}
use Rattle.exact_fraction.proofs.Products.{zero_true, true_zero}
use Rattle.exact_fraction.proofs.Orders.{=ℚ-at_most, =ℚ-at_least, less_true, true_less, less_false}
use Rattle.exact_fraction.proofs.Orders.{false_less, same_true, true_same, lesser_left}
use Rattle.exact_fraction.proofs.Orders.{lesser_right, greater_left, greater_right, unequal_tells}
use Rattle.exact_fraction.proofs.Orders.{unequal_test}
pub use Rattle.exact_fraction.proofs.Lowest.{den_pos as lowest_terms-positive}
pub use Rattle.exact_fraction.proofs.Lowest.{ratio_value as lowest_terms-value}
pub use Rattle.exact_fraction.proofs.Lowest.{ratio_no_greater as lowest_terms-no_greater}
pub use Rattle.exact_fraction.proofs.Lowest.{ratio_divides as lowest_terms-divides}
pub use Rattle.exact_fraction.proofs.Lowest.{unique as lowest_terms-unique}
pub use Rattle.exact_fraction.proofs.Lowest.{ratio_itself as lowest_terms-itself}
pub use Rattle.exact_fraction.proofs.Lowest.{IsLowest-ratio as lowest_terms-lowest}
pub use Rattle.exact_fraction.proofs.Lowest.{IsGcd-gcd as lowest_terms-greatest}
pub use Rattle.exact_fraction.proofs.Held.{IsLowest-whole as lowest_terms-of_whole}
pub use Rattle.exact_fraction.proofs.Results.{round9_lowest as lowest_terms-of_rounding}
pub use Rattle.exact_fraction.proofs.Fitting.{ratio_fits as lowest_terms-fits}
pub use Rattle.exact_fraction.proofs.Fitting.{ratio_overflows as lowest_terms-overflows}
pub use Rattle.exact_fraction.proofs.Ratios.{ratio_same as lowest_terms-of_same}
pub use Rattle.exact_fraction.proofs.Ratios.{ratio_le as ratios-at_most, ratio_lt as ratios-below}
pub use Rattle.exact_fraction.proofs.Ratios.{ratio_same_pair as ratios-same}
pub use Rattle.exact_fraction.proofs.Ratios.{numerators_at_most as ratios-numerators_at_most}
pub use Rattle.exact_fraction.proofs.Ratios.{numerators_below as ratios-numerators_below}
pub use Rattle.exact_fraction.proofs.Ratios.{ratio_less_left as ratios-less_left}
pub use Rattle.exact_fraction.proofs.Ratios.{ratio_less_right as ratios-less_right}
pub use Rattle.exact_fraction.proofs.CommonDenominators.{common_difference as common_denominators-difference}
pub use Rattle.exact_fraction.proofs.CommonDenominators.{common_sum as common_denominators-sum}
pub use Rattle.exact_fraction.proofs.CommonDenominators.{difference_fits as common_denominators-difference_fits}
pub use Rattle.exact_fraction.proofs.CommonDenominators.{sum_fits as common_denominators-sum_fits}
pub use Rattle.exact_fraction.proofs.Floors.{floor_at_most as floors-at_most}
pub use Rattle.exact_fraction.proofs.Floors.{floor_above as floors-above}
pub use Rattle.exact_fraction.proofs.Floors.{floor_unique as floors-unique}
pub use Rattle.exact_fraction.proofs.SameNumbers.{less_of_same as tests-less_of_same}
pub use Rattle.exact_fraction.proofs.SameNumbers.{same_of_same as tests-same_of_same}
pub use Rattle.exact_fraction.proofs.SameNumbers.{same_by_less as tests-same_by_less}
pub use Rattle.exact_fraction.proofs.SameNumbers.{above_not_zero as tests-above_zero}
pub use Rattle.exact_fraction.proofs.SameNumbers.{below_not_zero as tests-below_zero}
pub use Rattle.exact_fraction.proofs.Orders.{≤ℚ_refl as order-reflexive, ≤ℚ_total as order-total}
pub use Rattle.exact_fraction.proofs.Orders.{≤ℚ_apart as order-apart}
pub use Rattle.exact_fraction.proofs.Orders.{≤ℚ_antisymm as order-antisymmetric}
pub use Rattle.exact_fraction.proofs.Orders.{<ℚ-at_most as order-below_is_at_most}
pub use Rattle.exact_fraction.proofs.Orders.{≤ℚ_trans as order-transitive}
pub use Rattle.exact_fraction.proofs.Orders.{<ℚ_trans as order-below_transitive}
pub use Rattle.exact_fraction.proofs.Orders.{<ℚ-≤ℚ_trans as order-below_at_most}
pub use Rattle.exact_fraction.proofs.Orders.{≤ℚ-<ℚ_trans as order-at_most_below}
pub use Rattle.exact_fraction.proofs.Orders.{=ℚ_sym as order-same_symmetric}
pub use Rattle.exact_fraction.proofs.Orders.{=ℚ_trans as order-same_transitive}
pub use Rattle.exact_fraction.proofs.Orders.{compares_ranks as tests-compares}
pub use Rattle.exact_fraction.proofs.Tells.{less_tells as tells-less, same_tells as tells-same}
pub use Rattle.exact_fraction.proofs.Tells.{fitting_tells as tells-fitting}
pub use Rattle.exact_fraction.proofs.Tells.{checked_tells as tells-checked}
pub use Rattle.exact_fraction.proofs.Tells.{quotient_tells as tells-quotient}
pub use Rattle.exact_fraction.proofs.Sums.{dense as order-dense, sum_commutes as sums-commutes}
pub use Rattle.exact_fraction.proofs.Sums.{sum_associates as sums-associates, as_sum as sums-as_sum}
pub use Rattle.exact_fraction.proofs.Sums.{sum_of_same as sums-of_same}
pub use Rattle.exact_fraction.proofs.Sums.{difference_of_same as sums-difference_of_same}
pub use Rattle.exact_fraction.proofs.Sums.{sum_at_most as sums-at_most, sum_below as sums-below}
pub use Rattle.exact_fraction.proofs.Sums.{difference_at_most as sums-difference_at_most}
pub use Rattle.exact_fraction.proofs.Sums.{difference_below as sums-difference_below}
pub use Rattle.exact_fraction.proofs.Sums.{taken_at_most as sums-taken_at_most}
pub use Rattle.exact_fraction.proofs.Sums.{taken_below as sums-taken_below}
pub use Rattle.exact_fraction.proofs.Sums.{sign_at_most as sums-sign_at_most}
pub use Rattle.exact_fraction.proofs.Sums.{sign_below as sums-sign_below}
pub use Rattle.exact_fraction.proofs.Sums.{sign_twice as sums-sign_twice}
pub use Rattle.exact_fraction.proofs.Sums.{sign_lowest as lowest_terms-of_sign}
pub use Rattle.exact_fraction.proofs.Lines.{sum_zero as sums-with_zero}
pub use Rattle.exact_fraction.proofs.Lines.{sum_difference as sums-with_difference}
pub use Rattle.exact_fraction.proofs.Lines.{difference_at_least as sums-difference_sign}
pub use Rattle.exact_fraction.proofs.Lines.{product_zero as products-with_zero}
pub use Rattle.exact_fraction.proofs.Lines.{line_between as straight_line-between}
pub use Rattle.exact_fraction.proofs.Products.{product_commutes as products-commutes}
pub use Rattle.exact_fraction.proofs.Products.{product_one as products-with_one}
pub use Rattle.exact_fraction.proofs.Products.{product_of_same as products-of_same}
pub use Rattle.exact_fraction.proofs.Products.{product_at_most as products-at_most}
pub use Rattle.exact_fraction.proofs.Products.{product_below as products-below}
pub use Rattle.exact_fraction.proofs.Products.{product_turned_at_most as products-turned_at_most}
pub use Rattle.exact_fraction.proofs.Products.{product_turned_below as products-turned_below}
pub use Rattle.exact_fraction.proofs.Products.{quotient_product as products-quotient}
pub use Rattle.exact_fraction.proofs.Products.{quotient_at_most as products-quotient_at_most}
pub use Rattle.exact_fraction.proofs.Products.{quotient_turned as products-quotient_turned}
pub use Rattle.exact_fraction.proofs.Rounding.{nearest as rounding-nearest}
pub use Rattle.exact_fraction.proofs.Rounding.{multiple as rounding-multiple}
pub use Rattle.exact_fraction.proofs.Rounding.{round9_at_most as rounding-at_most}
pub use Rattle.exact_fraction.proofs.Rounding.{round9_ratio as rounding-of_ratio}
pub use Rattle.exact_fraction.proofs.Rounding.{round9_divides as rounding-divides}
pub use Rattle.exact_fraction.proofs.Quotients.{quotient_below as products-quotient_below}
pub use Rattle.exact_fraction.proofs.Quotients.{quotient_turned_below as products-quotient_turned_below}
pub use Rattle.exact_fraction.proofs.Quotients.{quotient_by_greater as products-by_greater}
pub use Rattle.exact_fraction.proofs.Quotients.{quotient_by_greater_turned as products-by_greater_turned}
pub use Rattle.exact_fraction.proofs.Quotients.{quotient_signs as products-quotient_signs}
pub use Rattle.exact_fraction.proofs.Slopes.{line_at_first as straight_line-at_first}
pub use Rattle.exact_fraction.proofs.Slopes.{line_at_last as straight_line-at_last}
pub use Rattle.exact_fraction.proofs.Slopes.{line_rising as straight_line-rising}
pub use Rattle.exact_fraction.proofs.Slopes.{line_falling as straight_line-falling}
pub use Rattle.exact_fraction.proofs.Slopes.{line_rising_below as straight_line-rising_below}
pub use Rattle.exact_fraction.proofs.Slopes.{line_falling_below as straight_line-falling_below}
pub use Rattle.exact_fraction.proofs.Equalities.{Frac-sames as equality-fraction}
pub use Rattle.exact_fraction.proofs.Equalities.{Moment-sames as equality-moment}
pub use Rattle.exact_fraction.proofs.Equalities.{Relation-sames as equality-relation}
pub use Rattle.exact_fraction.proofs.Equalities.{DivFault-sames as equality-fault}

pub lowest_terms-of_sum : (p q : Rational) → IsLowest (sum_of p q) × IsLowest (difference_of p q)
lowest_terms-of_sum p q = (sum_lowest p q, difference_lowest p q)

pub lowest_terms-of_product : (p q : Rational)
    → IsLowest (product_of p q) × IsLowest (quotient_of p q)
lowest_terms-of_product p q = (product_lowest p q, quotient_lowest p q)

pub order-same_is_at_most : (p q : Rational) → p =ℚ q → (p ≤ℚ q) × (q ≤ℚ p)
order-same_is_at_most p q h = (=ℚ-at_most p q h, =ℚ-at_least p q h)

pub order-lesser : (p q : Rational) → (lesser_of p q ≤ℚ p) × (lesser_of p q ≤ℚ q)
order-lesser p q = (lesser_left p q, lesser_right p q)

pub order-greater : (p q : Rational) → (p ≤ℚ greater_of p q) × (q ≤ℚ greater_of p q)
order-greater p q = (greater_left p q, greater_right p q)

pub tests-less : (p q : Rational) → IsTrue (less p q) ↔ (p <ℚ q)
tests-less p q = (less_true p q, true_less p q)

pub tests-not_less : (p q : Rational) → less p q ≡ false ↔ (q ≤ℚ p)
tests-not_less p q = (less_false p q, false_less p q)

pub tests-same : (p q : Rational) → IsTrue (same p q) ↔ (p =ℚ q)
tests-same p q = (same_true p q, true_same p q)

pub tests-is_zero : (q : Rational) → IsTrue (is_zero q) ↔ (q =ℚ zero)
tests-is_zero q = (zero_true q, true_zero q)

pub tests-equal : (p q : Rational) → IsTrue (relates Eq p q) ↔ (p =ℚ q)
tests-equal = tests-same

pub tests-unequal : (p q : Rational) → IsTrue (relates Ne p q) ↔ (¬ (p =ℚ q))
tests-unequal p q = (unequal_tells p q, unequal_test p q)

pub tests-below : (p q : Rational) → IsTrue (relates Lt p q) ↔ (p <ℚ q)
tests-below = tests-less

pub tests-above : (p q : Rational) → IsTrue (relates Gt p q) ↔ (q <ℚ p)
tests-above p q = tests-less q p

pub tests-at_most : (p q : Rational) → IsTrue (relates Le p q) ↔ (p ≤ℚ q)
tests-at_most p q = (λ e. less_false q p (not-true (less q p) e), λ h. not_from_false (less q p) (false_less q p h))

pub tests-at_least : (p q : Rational) → IsTrue (relates Ge p q) ↔ (q ≤ℚ p)
tests-at_least p q = tests-at_most q p

-- for `grind`: the order, and what its tests tell
pub ruleset order_steps = (tells-less, tells-same, order-reflexive, order-transitive, order-below_at_most, order-at_most_below, order-below_transitive, order-below_is_at_most, order-apart, order-antisymmetric, order-same_is_at_most)

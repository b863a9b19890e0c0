-- Where the value of a table overflows.
use Rattle.std.specs.Prelude.{◌≡◌, ℕ, suc, Some, IsTrue, List, slice_get}
use Rattle.exact_fraction.specs.Number.{Rational, fits}
use Rattle.exact_fraction.specs.Operations.{sum_of, difference_of, product_of, quotient_of}
use Rattle.exact_fraction.specs.Order.{◌<ℚ◌}
use Rattle.rule_types.specs.declared.table.Point.{Point}

-- each step of the straight line between two points gives a number that fits: the rise, the way to
-- x, the run, the product of rise and way, its quotient by the run, and the sum
pub record LineStepsFit (p q : Point) (x : Rational) : Type 0 where
  pub rise : IsTrue (fits (difference_of q.y p.y))
  pub way : IsTrue (fits (difference_of x p.x))
  pub run : IsTrue (fits (difference_of q.x p.x))
  pub product : IsTrue (fits (product_of (difference_of q.y p.y) (difference_of x p.x)))
  pub quotient :
      IsTrue (fits (quotient_of (product_of (difference_of q.y p.y) (difference_of x p.x))
      (difference_of q.x p.x)))
  pub sum :
      IsTrue (fits (sum_of p.y (quotient_of (product_of (difference_of q.y p.y) (difference_of x p.x))
      (difference_of q.x p.x))))

-- where x lies between two neighbours, the steps of the straight line between these fit
pub record TableStepsFit (points : List Point) (x : Rational) : Type 0 where
  pub steps :
      (place : ℕ) (p q : Point) → slice_get points place ≡ Some p
      → slice_get points (suc place) ≡ Some q → p.x <ℚ x → x <ℚ q.x → LineStepsFit p q x

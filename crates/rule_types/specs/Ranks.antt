-- The rank of rules.
use Rattle.std.specs.Prelude.{ℕ, Bool, true, false, not, ◌&&◌, ◌||◌, nat_lt, Option, Some, None}
use Rattle.exact_fraction.specs.Number.{Rational}
use Rattle.exact_fraction.specs.Order.{less}

-- whether a priority ranks above another: the greater number does, and every number above no
-- priority (SWMM 5.2 manual, PRIORITY)
abbrev pub outranks : Option Rational → Option Rational → Bool
outranks (Some p) (Some q) = less q p
outranks (Some p) None = true
outranks None other = false

-- whether two priorities have the same rank
abbrev pub same_rank : Option Rational → Option Rational → Bool
same_rank p q = not (outranks p q) && not (outranks q p)

-- whether the rule at place m, of priority p, precedes the rule at place n, of priority q: it has
-- the higher rank, or the same rank and the earlier place
abbrev pub precedes : Option Rational → ℕ → Option Rational → ℕ → Bool
precedes p m q n = outranks p q || (same_rank p q && nat_lt m n)

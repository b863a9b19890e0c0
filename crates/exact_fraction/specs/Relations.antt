-- The six relations of a condition.
use Rattle.std.specs.Prelude.{Bool, not}
use Rattle.exact_fraction.specs.Number.{Rational}
use Rattle.exact_fraction.specs.Order.{less, same}
use Rattle.exact_fraction.specs.declared.relation.Relation.{Relation}
use Rattle.exact_fraction.specs.declared.relation.Relation.TheVariants.{Eq, Ne, Lt, Le, Gt, Ge}

-- whether p stands in the relation to q; the relations are those of the control rules (SWMM 5.2
-- manual, control rules)
abbrev pub relates : Relation → Rational → Rational → Bool
relates Eq p q = same p q
relates Ne p q = not (same p q)
relates Lt p q = less p q
relates Le p q = not (less q p)
relates Gt p q = less q p
relates Ge p q = not (less p q)

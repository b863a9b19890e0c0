-- Numbers by their order: it is total, and tells apart all but the same numbers.
use Rattle.std.proofs.Common.{◌≡◌, refl, sym, ap, subst, ◌∙◌, pos, ◌*ℤ◌}
use Rattle.std.specs.Cmp.{IsTotalOrder, int_cmp_total}
use Rattle.std.specs.Ordering.{MatchOrdering, ordering_reverse}
use Rattle.std.specs.declared.cmp.Ordering.{Ordering}
use Rattle.std.specs.declared.cmp.Ordering.TheVariants.{Less, Equal, Greater}
use Rattle.exact_fraction.specs.Number.{Rational, den}
use Rattle.exact_fraction.specs.Order.{◌<ℚ◌, ◌=ℚ◌, compares}
use Rattle.exact_fraction.proofs.PublicLaws.{order-apart, order-at_most_below, order-below_at_most}
use Rattle.exact_fraction.proofs.PublicLaws.{order-below_is_at_most, order-below_transitive}
use Rattle.exact_fraction.proofs.PublicLaws.{order-same_is_at_most, order-same_symmetric}
use Rattle.exact_fraction.proofs.PublicLaws.{order-same_transitive, tests-compares}
use Rattle.grid_cuts.specs.declared.cut.Cut.{Cut}

abbrev pub number_of : Cut → Rational
number_of cut = cut.number

-- how a cut stands to another
abbrev pub cut_cmp : Cut → Cut → Ordering
cut_cmp cut other = compares (number_of cut) (number_of other)

abbrev pub Ranks : Rational → Rational → Ordering → Type 0
Ranks p q o = MatchOrdering o (p <ℚ q) (p =ℚ q) (q <ℚ p)

pub ranked : (p q : Rational) (o : Ordering) → compares p q ≡ o → Ranks p q o
ranked p q o is = subst (Ranks p q) is (tests-compares p q)

less_by : (p q : Rational) (o : Ordering) → Ranks p q o → p <ℚ q → o ≡ Less
less_by p q Less h below = refl
less_by p q Equal h below = absurd (order-apart q p (order-same_is_at_most p q h).1 below)
less_by p q Greater h below = absurd (order-apart q p (order-below_is_at_most q p h) below)

equal_by : (p q : Rational) (o : Ordering) → Ranks p q o → p =ℚ q → o ≡ Equal
equal_by p q Less h same = absurd (order-apart q p (order-same_is_at_most p q same).1 h)
equal_by p q Equal h same = refl
equal_by p q Greater h same = absurd (order-apart p q (order-same_is_at_most p q same).0 h)

turned : (p q : Rational) → compares p q ≡ ordering_reverse (compares q p)
unfolding compares
turned p q = int_cmp_total.antisymm (p.num *ℤ pos (den q)) (q.num *ℤ pos (den p))

same_by : (p q r : Rational) → p =ℚ q → (o : Ordering) → compares p r ≡ o → compares q r ≡ o
same_by p q r same Less is =
    less_by q r (compares q r) (tests-compares q r)
    (order-at_most_below q p r (order-same_is_at_most p q same).1 (ranked p r Less is))
same_by p q r same Equal is =
    equal_by q r (compares q r) (tests-compares q r)
    (order-same_transitive q p r (order-same_symmetric p q same) (ranked p r Equal is))
same_by p q r same Greater is =
    turned q r
    ∙ ap ordering_reverse
    (less_by r q (compares r q) (tests-compares r q)
    (order-below_at_most r p q (ranked p r Greater is) (order-same_is_at_most p q same).0))

pub compares_total : IsTotalOrder compares
compares_total =
    record {
      antisymm = turned;
      trans =
          λ p q r below above.
          less_by p r (compares p r) (tests-compares p r)
          (order-below_transitive p q r (ranked p q Less below) (ranked q r Less above));
      congr =
          λ p q r is. sym (same_by p q r (ranked p q Equal is) (compares p r) refl);
    }

-- `==` of ends and intervals tells exactly whether two are equal.
use Rattle.std.specs.Prelude.{◌≡◌}
use Rattle.std.specs.Bool.{Decides}
use Rattle.std.specs.Cmp.{booleans_Decides}
use Rattle.std.proofs.Common.{ap, rules}
use Rattle.std.proofs.lemmas.Bool.Decides.{Decides-like, Decides-and}
use Rattle.exact_fraction.proofs.PublicLaws.{equality-fraction}
use Rattle.interval_sets.specs.declared.interval.Bound.{Bound}
use Rattle.interval_sets.specs.contracts.interval.BoundPartialEq.TheImpl as BoundEq
use Rattle.interval_sets.specs.declared.interval.Bound.TheVariants as bound
use Rattle.interval_sets.specs.declared.interval.Interval.{Interval}
use Rattle.interval_sets.specs.contracts.interval.IntervalPartialEq.TheImpl as IntervalEq

pub Bound-sames : (a b : Bound) → Decides (BoundEq.eq-value.it a b) (a ≡ b)
Bound-sames (bound.Bound x m) (bound.Bound y n) =
    Decides-like _ (λ p i. bound.Bound (p.0 i) (p.1 i)) (λ e. (cc, cc)) (Decides-and _ _ (equality-fraction x y) (booleans_Decides m n))
Bound-sames a b = search rules

pub Interval-sames : (a b : Interval) → Decides (IntervalEq.eq-value.it a b) (a ≡ b)
Interval-sames a b =
    Decides-like (IntervalEq.eq-value.it a b)
    (λ p i. record { low = p.0 i; high = p.1 i })
    (λ e. (ap (λ (x : Interval). x.low) e, ap (λ (x : Interval). x.high) e))
    (Decides-and _ _ (Bound-sames a.low b.low) (Bound-sames a.high b.high))

pub ruleset sames = (Bound-sames, Interval-sames)

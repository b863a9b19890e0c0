use Rattle.std.specs.List.{Contains}
use Rattle.std.proofs.Common.{◌≡◌, ℕ, ◌<◌, ◌≤◌, false, length, get_or, take, All}
use Rattle.exact_fraction.specs.Number.{Rational}
use Rattle.exact_fraction.specs.Order.{less}
use Rattle.interval_sets.specs.Cuts.{IsRising}
use Rattle.table_plan.specs.Pieces.{IsCut}
use Rattle.table_plan.proofs.rising_cuts.without_repeats.Given as goal

abbrev pub invariant-loop-end : goal.invariant-loop-end
invariant-loop-end l =
    record {
      rising : IsRising l.cuts.items;
      cuts : All (IsCut l.cuts.items) (take l.end-index l.sorted);
      from : All (Contains l.sorted) l.cuts.items;
      above : (k : ℕ) (d : Rational) → l.end-index ≤ k → k < length l.sorted → All (λ cut. less (get_or l.sorted k d) cut ≡ false) l.cuts.items;
    }

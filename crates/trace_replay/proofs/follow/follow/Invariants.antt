use Rattle.std.proofs.Common.{◌≡◌, ◌++◌, ◌≤◌, ℕ, Some, false, take, drop, length, map}
use Rattle.std.specs.Prelude.{slice_get}
use Rattle.std.specs.List.Sorted.{IsStrictlyIncreasing}
use Rattle.exact_fraction.specs.Number.{Rational}
use Rattle.rule_meaning.specs.History.{all_moved, stayed, new_target}
use Rattle.rule_meaning.specs.Replay.{switches_after}
use Rattle.trace_replay.proofs.follow.follow.Given as goal

abbrev pub invariant-loop-at : goal.invariant-loop-at
invariant-loop-at l = record {
  links :
      stayed (take l.at l.links) ++ all_moved l.gap l.orders (drop l.at l.tracked) (drop l.at l.rates) (drop l.at l.fn.links)
      ≡ all_moved l.gap l.orders l.tracked l.rates l.fn.links;
  switches :
      take l.at l.switches
      ++ switches_after l.moment (drop l.at l.fn.links) (all_moved l.gap l.orders (drop l.at l.tracked) (drop l.at l.rates) (drop l.at l.fn.links)) (drop l.at l.fn.switches)
      ≡ switches_after l.moment l.fn.links (all_moved l.gap l.orders l.tracked l.rates l.fn.links) l.fn.switches;
  later_links : drop l.at l.links ≡ drop l.at l.fn.links;
  later_switches : drop l.at l.switches ≡ drop l.at l.fn.switches;
  same : (j other : ℕ) (old : Rational) → l.at ≤ j → slice_get l.tracked j ≡ Some other → new_target l.rest other old ≡ new_target l.orders other old;
  in_order : IsStrictlyIncreasing (map (λ order. order.link) l.rest);
  long : length l.links ≡ length l.tracked;
  long_switches : length l.switches ≡ length l.tracked;
  unchanged : l.changed ≡ false → l.links ≡ l.fn.links;
}

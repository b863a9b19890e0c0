use Rattle.std.proofs.Common.{◌≡◌, ◌≤◌, ℕ, drop}
use Rattle.exact_fraction.specs.Number.{Rational}
use Rattle.rule_meaning.specs.History.{new_target}
use Rattle.trace_replay.proofs.targets.from_link.Given as goal

abbrev pub invariant-loop-index : goal.invariant-loop-index
invariant-loop-index l =
    (other : ℕ) (old : Rational) → l.link ≤ other → new_target (drop l.index l.orders) other old ≡ new_target l.orders other old

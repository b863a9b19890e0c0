use Rattle.std.proofs.Common.{◌≡◌, ◌+◌, ◌≤◌, ◌++◌, drop, vec_len}
use Rattle.std.specs.Vec.{vec_capacity}
use Rattle.rule_meaning.specs.Premise.{listed_by, listed_branch}
use Rattle.plain_reading.specs.Room.{pair_room}
use Rattle.plain_reading.proofs.list.list_pairs.Given as goal

abbrev pub invariant-loop-i : goal.invariant-loop-i
invariant-loop-i l = record {
  pairs : l.pairs.items ++ listed_by (λ place rule. listed_branch l.rules l.state rule) l.i (drop l.i l.rules.rules)
      ≡ listed_by (λ place rule. listed_branch l.rules l.state rule) 0 l.rules.rules;
  room : vec_len l.pairs + pair_room (drop l.i l.rules.rules) ≤ vec_capacity l.pairs;
  kept : vec_capacity l.fn.pairs ≤ vec_capacity l.pairs;
}

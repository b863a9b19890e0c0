use Rattle.std.proofs.Common.{◌≡◌, ◌+◌, ◌++◌, drop, vec_len}
use Rattle.std.specs.Vec.{vec_capacity}
use Rattle.rule_types.specs.Reading.{branch_actions}
use Rattle.rule_meaning.specs.Premise.{places_of}
use Rattle.plain_reading.proofs.list.list_branch.Given as goal

abbrev pub invariant-loop-action : goal.invariant-loop-action
invariant-loop-action l = record {
  pairs : l.pairs.items ++ places_of l.rule l.branch l.action (drop l.action (branch_actions l.row l.branch))
      ≡ l.fn.pairs.items ++ places_of l.rule l.branch 0 (branch_actions l.row l.branch);
  longer : vec_len l.pairs ≡ vec_len l.fn.pairs + l.action;
  capacity : vec_capacity l.pairs ≡ vec_capacity l.fn.pairs;
}

use Rattle.std.proofs.Common.{◌≡◌, ◌+◌, drop}
use Rattle.rule_meaning.specs.Premise.{placed_from}
use Rattle.table_compiler.specs.Clauses.{clauses_of}
use Rattle.table_compiler.specs.internal.Grouping.{going}
use Rattle.table_compiler.proofs.groups.clauses_of.Given as goal

abbrev pub invariant-loop-at : goal.invariant-loop-at
invariant-loop-at l =
    going l.clauses.items l.parts.items (placed_from (l.at + 1) (drop l.at l.more))
    ≡ clauses_of l.fn.conditions

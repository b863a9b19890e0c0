use Rattle.std.proofs.Common.{◌≡◌, ◌++◌, take}
use Rattle.std.specs.List.{flat_map}
use Rattle.table_compiler.specs.TableText.{clause_text}
use Rattle.table_compiler.proofs.texts.write_clauses.Given as goal

abbrev pub invariant-loop-clause : goal.invariant-loop-clause
invariant-loop-clause l =
    l.out.items ≡ l.fn.out.items ++ flat_map (clause_text l.rules l.objects) (take l.clause-index l.clauses)

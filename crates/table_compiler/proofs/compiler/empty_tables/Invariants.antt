use Rattle.std.proofs.Common.{◌≡◌, [], take}
use Rattle.table_compiler.specs.internal.Filling.{tables_with}
use Rattle.table_compiler.proofs.compiler.empty_tables.Given as goal

abbrev pub invariant-loop-link : goal.invariant-loop-link
invariant-loop-link l = l.tables.items ≡ tables_with (take l.link-index l.links) (λ link. [])

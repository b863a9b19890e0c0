use Rattle.std.proofs.Common.{◌≡◌, ◌++◌, take}
use Rattle.std.specs.List.{flat_map}
use Rattle.table_compiler.specs.TableText.{link_text}
use Rattle.table_compiler.proofs.texts.write_tables.Given as goal

abbrev pub invariant-loop-table : goal.invariant-loop-table
invariant-loop-table l =
    l.out.items ≡ l.fn.out.items ++ flat_map (link_text l.rules l.objects) (take l.table-index l.tables)

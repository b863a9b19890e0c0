use Rattle.std.proofs.Common.{◌≡◌, ◌++◌, take}
use Rattle.std.specs.Prelude.{codes}
use Rattle.std.specs.List.{flat_map}
use Rattle.table_compiler.specs.TableText.{part_text}
use Rattle.table_compiler.proofs.texts.write_more_parts.Given as goal

abbrev pub invariant-loop-part : goal.invariant-loop-part
invariant-loop-part l =
    l.out.items
    ≡ l.fn.out.items
    ++ flat_map (λ next. codes " | " ++ part_text l.rules l.objects next) (take l.part-index l.parts)

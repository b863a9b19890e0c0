use Rattle.std.proofs.Common.{take}
use Rattle.std.specs.List.{flat_map}
use Rattle.verdict_meaning.specs.Questions.{grid_keys_of}
use Rattle.question_boxes.specs.internal.KeyLists.{Adds}
use Rattle.question_boxes.proofs.reads.KeyList.all_grid_keys.Given as goal

abbrev pub invariant-loop-key : goal.invariant-loop-key
invariant-loop-key l =
    Adds l.initial.self l.self (flat_map grid_keys_of (take l.key-index l.keys))

use Rattle.std.proofs.Common.{◌≡◌, ◌++◌, map}
use Rattle.verdict_meaning.specs.Boxes.{range_or}
use Rattle.verdict_meaning.specs.Reaches.{piece_in}
use Rattle.question_boxes.proofs.box_of_ranges.ranges_of.Given as goal

-- the keys so far with their ranges, and those that are left
abbrev pub invariant-loop-key : goal.invariant-loop-key
invariant-loop-key l =
    l.list.items ++ map (λ key. (key, range_or (piece_in key l.ranges))) l.key-iterator
    ≡ map (λ key. (key, range_or (piece_in key l.ranges))) l.keys.keys

use Rattle.grid_blocks.proofs.BoxSteps.{later_first}
use Rattle.grid_blocks.proofs.boxes.moments_in.Goals as goal

pub end_before-last-requires : goal.end_before-last-requires
end_before-last-requires c = record {
  later =
      later_first c.args.pieces.now c.args.span.low c.args.span.high c.first_moment-first.result
      c.requires.order c.requires.some c.first_moment-first.ensures.value;
}

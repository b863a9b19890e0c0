use Rattle.block_search.specs.Blocks.{span_from}
use Rattle.grid_blocks.specs.GridBoxes.{keys_of}
use Rattle.grid_blocks.proofs.BoxSteps.{entry_pushed}
use Rattle.grid_blocks.proofs.boxes.entries.Goals as goal

pub loop-number-init : goal.loop-number-init
unfolding keys_of
loop-number-init c = c.new-entries.ensures.items

pub loop-number-preserved : goal.loop-number-preserved
loop-number-preserved c =
    entry_pushed c.args.axes.now c.args.block.now c.loop-number.number c.index-axes-number.result
    (span_from 0 0) c.interval.result c.loop-number.entries.items c.push.new.self.items
    c.loop-number-test.true c.requires.enough c.index-axes-number.is c.interval.ensures.value
    c.loop-number.invariant c.in_ok-push.ensures.items

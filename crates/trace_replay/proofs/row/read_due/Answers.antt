use Rattle.trace_replay.proofs.RowFacts.{memories_due}
use Rattle.rule_meaning.specs.Memories.{memory_of}
use Rattle.rule_meaning.specs.Reading.{read_by}
use Rattle.trace_replay.proofs.row.read_due.Goals as goal

pub returns-then-due-clause-memories : goal.returns-then-due-clause-memories
returns-then-due-clause-memories g c =
    memories_due c.args.rules.now c.args.state.now c.args.due c.args.memories.now c.read.new.memories c.read.result (g.R.Reads.last_orders c.read.new.self)
    (read_by (g.R.Reads.choice c.args.readings.now) c.args.rules.now (g.R.Reads.held c.args.readings.now) c.args.state.now (memory_of c.args.memories.now))
    c.requires.well_formed c.requires.memories c.if-due.true c.read.auto.memories c.read.ensures.orders c.read.ensures.memories

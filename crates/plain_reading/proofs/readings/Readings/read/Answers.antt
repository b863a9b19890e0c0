use Rattle.rule_types.proofs.PublicLaws.{fitting-counted, fitting-ready}
use Rattle.plain_reading.proofs.readings.Readings.read.Goals as goal

pub read_listed-requires-clause-counted : goal.read_listed-requires-clause-counted
read_listed-requires-clause-counted c =
    fitting-counted c.args.rules.now c.args.memories.now c.requires.well_formed c.requires.memories

pub read_listed-requires-clause-ready : goal.read_listed-requires-clause-ready
read_listed-requires-clause-ready c =
    fitting-ready c.args.rules.now c.args.tables.now c.args.memories.now c.requires.well_formed c.requires.tables c.requires.memories

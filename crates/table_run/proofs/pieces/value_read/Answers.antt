use Rattle.std.proofs.Common.{◌∙◌}
use Rattle.table_run.proofs.PieceValues.{read_some, read_none, some_source, none_source}
use Rattle.table_run.proofs.pieces.value_read.Goals as goal

pub returns-in-Some : goal.returns-in-Some
returns-in-Some c =
    let h = some_source c.args.rules.now c.args.values.now.columns c.args.side.now c.args.source.now c.in-Some.at c.in-Some.is c.requires.source in
    record { value = c.left_value.ensures.value c.args.side.now h ∙ read_some c.args.rules.now c.args.state.now h.condition c.args.side.now h.left }

pub returns-in-None : goal.returns-in-None
returns-in-None c =
    let h = none_source c.args.rules.now c.args.values.now.columns c.args.side.now c.args.source.now c.in-None.is c.requires.source in
    record { value = read_none c.args.rules.now c.args.state.now c.args.side.now h }

use Rattle.std.proofs.Common.{◌∙◌}
use Rattle.premise_eval.proofs.ColumnSteps.{columns_made}
use Rattle.premise_eval.proofs.NameSteps.{held_same, stop_same}
use Rattle.premise_eval.proofs.making.read_state.Goals as goal

pub returns-in-Err-clause-stop : goal.returns-in-Err-clause-stop
returns-in-Err-clause-stop c =
    λ used are. c.in-Err.ensures.stop ∙ stop_same c.args.rules.now c.args.state.now c.args.asks.now used are

pub returns-clause-stop : goal.returns-clause-stop
returns-clause-stop c =
    λ used are. c.in_default.ensures.stop ∙ stop_same c.args.rules.now c.args.state.now c.args.asks.now used are

pub returns-clause-made : goal.returns-clause-made
returns-clause-made c =
    λ used are.
    columns_made c.args.rules.now c.args.state.now used c.read_names.new.names c.args.columns.now c.read_columns.new.values
    c.requires.columns c.requires.sizes
    (held_same c.args.rules.now c.args.state.now c.args.asks.now used c.read_names.new.names are c.in_default.ensures.held)
    (c.read_names.auto.names ∙ c.requires.each_name) c.read_columns.ensures.values

use Rattle.std.proofs.Common.{rules, ◌≡◌, ◌+◌, ◌<◌, ◌++◌, arith}
use Rattle.std.specs.List.{flat_map}
use Rattle.model_generator.specs.InputFile.{up_to}
use Rattle.model_generator.specs.Trace.{column_text}
use Rattle.model_generator.proofs.Repeated.{one_more}
use Rattle.model_generator.proofs.trace.push_columns.Goals as goal

pub loop-number-preserved : goal.loop-number-preserved
loop-number-preserved c =
    let within : c.loop-number.number < c.args.n + 1 = search rules in
    let added : c.push_column.new.text.items ≡ c.loop-number.text.items ++ column_text c.loop-number.number = search rules in
    one_more (λ i. column_text i) c.loop-number.text.items c.push_column.new.text.items
    (c.args.text.now.items ++ flat_map column_text (up_to c.args.n)) c.loop-number.number (c.args.n + 1)
    within added c.loop-number.invariant

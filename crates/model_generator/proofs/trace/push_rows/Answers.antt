use Rattle.std.proofs.Common.{rules, ◌≡◌, ◌*◌, ◌<◌, ◌++◌, arith}
use Rattle.std.specs.List.{flat_map, range_with_len}
use Rattle.model_generator.specs.Trace.{row_text}
use Rattle.model_generator.proofs.Repeated.{one_more}
use Rattle.model_generator.proofs.trace.push_rows.Goals as goal

pub loop-row-preserved : goal.loop-row-preserved
loop-row-preserved c =
    let within : c.loop-row.row < 10 * c.args.n = search rules in
    let added : c.push_row.new.text.items ≡ c.loop-row.text.items ++ row_text c.args.n c.loop-row.row = search rules in
    one_more (row_text c.args.n) c.loop-row.text.items c.push_row.new.text.items
    (c.args.text.now.items ++ flat_map (row_text c.args.n) (range_with_len 0 (10 * c.args.n))) c.loop-row.row (10 * c.args.n)
    within added c.loop-row.invariant

use Rattle.std.proofs.Common.{rules, ◌≡◌, Some, true, length, ap, ◌∙◌, arith}
use Rattle.std.specs.List.{list_all}
use Rattle.num_text.specs.Written.{written_moment}
use Rattle.trace_csv.specs.Records.{cut_at_commas, is_plain}
use Rattle.trace_csv.specs.Rows.{moment_checked}
use Rattle.trace_csv.specs.internal.Filling.{filled}
use Rattle.trace_csv.proofs.RowsIn.{row_by, row_complete}
use Rattle.trace_csv.proofs.WrittenFields.{cut_written, plain_written, moment_read}
use Rattle.trace_csv.proofs.row.quick_row.Goals as goal

pub returns-clause-plain : goal.returns-clause-plain
returns-clause-plain c =
    let plain : list_all is_plain c.in_ok-behind.behind.now ≡ true = search rules in
    plain_written c.behind_moment.new.written c.args.line.now c.in_ok-behind.behind.now c.in_ok-behind.ensures.joined plain

pub returns-clause-row : goal.returns-clause-row
returns-clause-row c =
    let count : length (cut_at_commas c.in_ok-behind.behind.now) ≡ length c.args.columns.now = search rules in
    let fill : Some c.fill_from_plain.new.inputs ≡ filled c.args.columns.now (cut_at_commas c.in_ok-behind.behind.now) c.clear.new.inputs = search rules in
    let moment : c.moment.result ≡ c.behind_moment.new.written = c.moment.ensures.value in
    row_by (record { columns = c.args.columns.now; inputs = length c.args.inputs.now }) c.args.last.now c.args.start.now
    (cut_at_commas c.args.line.now) (written_moment c.behind_moment.new.written) (cut_at_commas c.in_ok-behind.behind.now) c.checked.result _
    (cut_written c.behind_moment.new.written c.args.line.now c.in_ok-behind.behind.now c.in_ok-behind.ensures.joined)
    (ap length (cut_written c.behind_moment.new.written c.args.line.now c.in_ok-behind.behind.now c.in_ok-behind.ensures.joined) ∙ omega (arith, count))
    (moment_read c.behind_moment.new.written c.args.last.now c.args.start.now c.checked.result c.in_ok-behind.ensures.read
    (c.checked.ensures.value ∙ ap (λ m. moment_checked c.args.last.now c.args.start.now (Some m)) moment))
    (row_complete (record { columns = c.args.columns.now; inputs = length c.args.inputs.now }) (cut_at_commas c.in_ok-behind.behind.now) c.checked.result c.fill_from_plain.new.inputs
    c.requires.within c.requires.single (fill ∙ ap (filled c.args.columns.now (cut_at_commas c.in_ok-behind.behind.now)) c.clear.ensures))

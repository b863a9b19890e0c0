use Rattle.std.proofs.Common.{sym, ◌∙◌, subst, length}
use Rattle.trace_csv.specs.Causes.{Answers}
use Rattle.trace_csv.specs.Rows.{row_of}
use Rattle.trace_csv.specs.internal.Filling.{answer_with}
use Rattle.trace_csv.proofs.RowsIn.{plain_answer_by, written_end}
use Rattle.trace_csv.proofs.header.Header.read_next_row.Goals as goal

pub returns-in-Some-clause-answer : goal.returns-in-Some-clause-answer
returns-in-Some-clause-answer c =
    subst (λ end. Answers (answer_with c.quick_row.new.inputs end) (row_of c.args.self.now c.args.last.now c.args.start.now c.args.line.now))
    (sym c.row_end.ensures)
    (plain_answer_by c.args.self.now c.as_slice-columns.result.now c.self.inside.columns.items (length c.args.inputs.now) c.self.inside.inputs
    c.args.last.now c.args.start.now c.args.line.now c.in-Some.row c.quick_row.new.inputs
    c.self.view_is c.as_slice-columns.ensures.value c.requires.one_each c.in-Some.ensures.plain c.in-Some.ensures.row)

pub returns-in-Some-clause-written : goal.returns-in-Some-clause-written
returns-in-Some-clause-written c =
    written_end c.in-Some.row c.row_end.result c.quick_row.new.written c.row_end.ensures c.in-Some.ensures.written

pub returns-in-Some-plain_commas-clause-answer : goal.returns-in-Some-plain_commas-clause-answer
returns-in-Some-plain_commas-clause-answer c =
    subst (λ end. Answers (answer_with c.plain_row-row.new.inputs end) (row_of c.args.self.now c.args.last.now c.args.start.now c.args.line.now))
    (sym c.row_end-in-Some-plain_commas.ensures)
    (plain_answer_by c.args.self.now c.as_slice-columns.result.now c.self.inside.columns.items (length c.quick_row.new.inputs) c.self.inside.inputs
    c.args.last.now c.args.start.now c.args.line.now c.plain_row-row.result c.plain_row-row.new.inputs
    c.self.view_is c.as_slice-columns.ensures.value (c.quick_row.ensures.long ∙ c.requires.one_each) c.in-Some-plain_commas.ensures.plain c.plain_row-row.ensures.row)

pub returns-in-Some-plain_commas-clause-written : goal.returns-in-Some-plain_commas-clause-written
returns-in-Some-plain_commas-clause-written c =
    written_end c.plain_row-row.result c.row_end-in-Some-plain_commas.result c.plain_row-row.new.written c.row_end-in-Some-plain_commas.ensures c.plain_row-row.ensures.written

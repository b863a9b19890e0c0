use Rattle.std.proofs.Common.{◌+◌, arith, ◌∙◌}
use Rattle.csv.specs.Records.{fields_of}
use Rattle.trace_csv.proofs.RecordFields.{from_place, past_end}
use Rattle.trace_csv.proofs.Steps.{column_filled, column_bad, columns_end, fields_end}
use Rattle.trace_csv.proofs.fill.fill_from_record.Goals as goal

pub returns-in_default : goal.returns-in_default
returns-in_default c =
    fields_end c.args.columns.now c.loop-at.at _ c.loop-at.inputs
    (past_end (fields_of c.args.row.now) (c.loop-at.at + 1) c.in_default.ensures.value)
    ∙ c.loop-at.invariant.filled

pub returns-then-not-put_field : goal.returns-then-not-put_field
returns-then-not-put_field c =
    column_bad c.args.columns.now c.loop-at.at _ _ c.in-Some.field.now _ c.loop-at.inputs c.loop-at-test.true
    (from_place (fields_of c.args.row.now) (c.loop-at.at + 1) c.in-Some.field.now c.in-Some.ensures.value)
    c.if-not-put_field.ensures
    ∙ c.loop-at.invariant.filled

pub loop-at-preserved : goal.loop-at-preserved
loop-at-preserved c = record {
  filled =
      column_filled c.args.columns.now c.loop-at.at _ _ c.in-Some.field.now _ c.loop-at.inputs c.put_field.new.inputs c.loop-at-test.true
      (from_place (fields_of c.args.row.now) (c.loop-at.at + 1) c.in-Some.field.now c.in-Some.ensures.value)
      c.if-not-put_field.ensures
      ∙ c.loop-at.invariant.filled;
  long = c.put_field.auto.inputs ∙ c.loop-at.invariant.long;
}

pub returns : goal.returns
returns c =
    columns_end c.args.columns.now c.loop-at.at _ c.loop-at.inputs (omega arith) ∙ c.loop-at.invariant.filled

use Rattle.std.proofs.Common.{arith, ap, ◌∙◌, option_map}
use Rattle.trace_csv.specs.internal.Filling.{cut_behind}
use Rattle.trace_csv.proofs.Steps.{column_filled, column_bad, columns_end, fields_end}
use Rattle.trace_csv.proofs.fill.fill_from_text.Goals as goal

pub returns-in_default : goal.returns-in_default
returns-in_default c =
    fields_end c.args.columns.now c.loop-at.at _ c.loop-at.inputs
    (ap (λ behind. cut_behind (option_map (λ rest. rest.now) behind)) c.in_default.is)
    ∙ c.loop-at.invariant.filled

pub returns-then-not-put_field : goal.returns-then-not-put_field
returns-then-not-put_field c =
    column_bad c.args.columns.now c.loop-at.at _ _ _ _ c.loop-at.inputs c.loop-at-test.true
    (ap (λ behind. cut_behind (option_map (λ rest. rest.now) behind)) c.in-Some.is ∙ c.next_field-cut.ensures)
    c.if-not-put_field.ensures
    ∙ c.loop-at.invariant.filled

pub loop-at-preserved : goal.loop-at-preserved
loop-at-preserved c = record {
  filled =
      column_filled c.args.columns.now c.loop-at.at _ _ _ _ c.loop-at.inputs c.put_field.new.inputs c.loop-at-test.true
      (ap (λ behind. cut_behind (option_map (λ rest. rest.now) behind)) c.in-Some.is ∙ c.next_field-cut.ensures)
      c.if-not-put_field.ensures
      ∙ c.loop-at.invariant.filled;
  long = c.put_field.auto.inputs ∙ c.loop-at.invariant.long;
}

pub returns : goal.returns
returns c =
    columns_end c.args.columns.now c.loop-at.at _ c.loop-at.inputs (omega arith) ∙ c.loop-at.invariant.filled

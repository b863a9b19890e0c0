use Rattle.std.proofs.Common.{◌∙◌, sym}
use Rattle.inp_text.proofs.Representing.{no-item, one-item}
use Rattle.inp_text.proofs.heading.first_item.Goals as goal

pub returns-then-is_empty : goal.returns-then-is_empty
returns-then-is_empty c = record {
  value =
      no-item c.args.line.now c.front_item-item.result.now c.front_item-item.ensures
      (sym c.is_empty.ensures ∙ c.if-is_empty.true);
}

pub returns : goal.returns
returns c = record {
  value =
      one-item c.args.line.now c.front_item-item.result.now c.front_item-item.ensures
      (sym c.is_empty.ensures ∙ c.if-is_empty.false);
}

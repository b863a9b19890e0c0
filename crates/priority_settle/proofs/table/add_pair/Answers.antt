use Rattle.std.proofs.Common.{sym, ◌∙◌}
use Rattle.priority_settle.proofs.Entries.{no_action, not_there, entered}
use Rattle.priority_settle.proofs.table.add_pair.Goals as goal

pub returns-in_default : goal.returns-in_default
returns-in_default c = record {
  settled = λ pairs is. is ∙ no_action c.args.rules.now c.args.links.now pairs c.args.at.now (sym c.in_default.ensures.value);
}

pub returns-in_default-binary_search : goal.returns-in_default-binary_search
returns-in_default-binary_search c = record {
  settled = λ pairs is. is ∙ not_there c.args.rules.now c.args.links.now pairs c.args.at.now c.in-Some.link c.in_default-binary_search.field-0 c.requires.rising (sym c.in-Some.ensures.value) c.in_default-binary_search.ensures.position;
}

pub returns : goal.returns
returns c = record {
  settled = λ pairs is. rw c.first_of.ensures.value (entered c.args.rules.now c.args.links.now pairs c.args.at.now c.in-Some.link c.in-Ok.place c.args.firsts.now _ c.requires.rising (sym c.in-Some.ensures.value) c.in-Ok.ensures.position is);
}

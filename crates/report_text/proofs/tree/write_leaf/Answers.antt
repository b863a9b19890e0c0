use Rattle.std.proofs.lemmas.Result.{on_ok_weaker}
use Rattle.report_text.proofs.Joining.{whole_written, facts_written}
use Rattle.report_text.proofs.tree.write_leaf.Goals as goal

pub returns-in-Whole : goal.returns-in-Whole
returns-in-Whole c =
    whole_written c.args.reason.now c.args.out.now.items c.write_line.new.out.items c.in-Whole.is c.in_ok-write_line.ensures

pub returns-in-Facts : goal.returns-in-Facts
returns-in-Facts c =
    on_ok_weaker c.write_facts.result
    (facts_written c.args.reason.now c.in-Facts.facts c.as_slice.result.now c.args.out.now.items c.write_line.new.out.items
    c.write_facts.new.out.items c.in-Facts.is c.as_slice.ensures.value c.in_ok-write_line.ensures)
    c.write_facts.ensures

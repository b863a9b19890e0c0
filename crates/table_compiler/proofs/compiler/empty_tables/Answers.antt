use Rattle.std.proofs.Common.{sym, ◌∙◌}
use Rattle.table_compiler.proofs.Filling.{empty_more, no_tables}
use Rattle.table_compiler.proofs.compiler.empty_tables.Goals as goal

pub loop-link-init : goal.loop-link-init
loop-link-init c = c.new-tables.ensures.items ∙ sym no_tables

pub loop-link-preserved : goal.loop-link-preserved
loop-link-preserved c =
    c.in_ok-push.ensures.items
    ∙ empty_more c.args.links.now c.loop-link.tables.items c.new.result c.loop-link.link-index 0 c.loop-link-test.true c.new.ensures.value c.loop-link.invariant

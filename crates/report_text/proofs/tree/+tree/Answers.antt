use Rattle.std.proofs.lemmas.Result.{on_ok_weaker}
use Rattle.report_text.proofs.Joining.{leaf_written, split_written, before_written}
use Rattle.report_text.proofs.tree.+tree.Goals as goal

pub returns-in-Leaf : goal.returns-in-Leaf
returns-in-Leaf t c =
    on_ok_weaker c.write_leaf.result
    (leaf_written c.args.objects.now c.args.tree.now c.in-Leaf.reason c.args.out.now.items c.write_leaf.new.out.items c.in-Leaf.is)
    c.write_leaf.ensures

pub returns-in_ok-write_tree-in-Split-2 : goal.returns-in_ok-write_tree-in-Split-2
returns-in_ok-write_tree-in-Split-2 t c =
    on_ok_weaker c.write_tree-in-Split-2.result
    (split_written c.args.objects.now c.args.tree.now c.in-Split.key c.in-Split.number c.in-Split.below c.in-Split.at c.in-Split.above
    c.get.result.now c.get-in-Split.result.now c.get-in-Split-2.result.now c.args.out.now.items c.write_split.new.out.items
    c.write_tree.new.out.items c.write_tree-in-Split.new.out.items c.write_tree-in-Split-2.new.out.items c.in-Split.is
    c.get.ensures.value c.get-in-Split.ensures.value c.get-in-Split-2.ensures.value c.in_ok-write_split-in-Split.ensures
    c.in_ok-write_tree-in-Split.ensures c.in_ok-write_tree-in-Split-2.ensures)
    c.write_tree-in-Split-2.ensures

pub returns-in_ok-write_tree-in-Before : goal.returns-in_ok-write_tree-in-Before
returns-in_ok-write_tree-in-Before t c =
    on_ok_weaker c.write_tree-in-Before-2.result
    (before_written c.args.objects.now c.args.tree.now c.in-Before.moment c.in-Before.before c.in-Before.later
    c.get-in-Before.result.now c.get-in-Before-2.result.now c.args.out.now.items c.write_before.new.out.items
    c.write_tree-in-Before.new.out.items c.write_tree-in-Before-2.new.out.items c.in-Before.is c.get-in-Before.ensures.value
    c.get-in-Before-2.ensures.value c.in_ok-write_before-in-Before.ensures c.in_ok-write_tree-in-Before.ensures)
    c.write_tree-in-Before-2.ensures

use Rattle.std.proofs.Common.{◌≡◌, ◌-◌, ◌<◌, Some, IfOk, ap, ap₂, sym, subst, ◌∙◌, arith}
use Rattle.report_lines.specs.TreeLines.{tree_from, node_from, node_at, leaf_from, split_from}
use Rattle.report_lines.specs.TreeLines.{before_from}
use Rattle.report_lines.specs.declared.node.NodeLine.TheVariants as node
use Rattle.report_lines.specs.internal.Views.{tree_now}
use Rattle.report_lines.proofs.TreeSteps.{tree_more}
use Rattle.report_lines.proofs.tree.+tree.Goals as goal

pub read_tree-returns-in-Leaf : goal.read_tree-returns-in-Leaf
read_tree-returns-in-Leaf t c =
    let lines = c.args.body.lines.now in
    let objects = c.args.body.objects.now in
    let grid = c.args.body.grid.now in
    let facts = c.args.body.facts in
    let at = c.args.at in
    let before = c.args.places.now.items in
    let places = c.push_place.new.places.items in
    let some : 0 < c.args.levels = omega (arith, c.if-levels-eq0.false) in
    let deeper = tree_from lines objects grid facts (c.args.levels - 1) in
    let here : Some node.Leaf ≡ node_at lines objects grid at =
    ap Some (sym c.in-Leaf.is) ∙ sym c.in-Some.is ∙ c.in_ok-node.ensures in
    subst (λ due. IfOk c.read_leaf.result (λ read. tree_now read places ≡ due))
    (ap₂ (leaf_from lines grid facts) c.in_ok-next.ensures c.in_ok-push_place.ensures
    ∙ ap (node_from lines grid facts deeper at before) here
    ∙ sym (tree_more lines objects grid facts c.args.levels at before some))
    (c.read_leaf.ensures places)

pub read_tree-returns-in-Split : goal.read_tree-returns-in-Split
read_tree-returns-in-Split t c =
    let lines = c.args.body.lines.now in
    let objects = c.args.body.objects.now in
    let grid = c.args.body.grid.now in
    let facts = c.args.body.facts in
    let at = c.args.at in
    let before = c.args.places.now.items in
    let some : 0 < c.args.levels = omega (arith, c.if-levels-eq0.false) in
    let deeper = tree_from lines objects grid facts (c.args.levels - 1) in
    let here : Some (node.Split c.in-Split.key c.in-Split.number) ≡ node_at lines objects grid at =
    ap Some (sym c.in-Split.is) ∙ sym c.in-Some.is ∙ c.in_ok-node.ensures in
    subst (λ due. IfOk c.read_split.result (λ read. tree_now read c.read_split.new.places.items ≡ due))
    (ap₂ (split_from deeper c.in-Split.key c.in-Split.number) c.in_ok-next.ensures
    c.in_ok-push_place.ensures
    ∙ ap (node_from lines grid facts deeper at before) here
    ∙ sym (tree_more lines objects grid facts c.args.levels at before some))
    c.read_split.ensures

pub read_tree-returns-in-Before : goal.read_tree-returns-in-Before
read_tree-returns-in-Before t c =
    let lines = c.args.body.lines.now in
    let objects = c.args.body.objects.now in
    let grid = c.args.body.grid.now in
    let facts = c.args.body.facts in
    let at = c.args.at in
    let before = c.args.places.now.items in
    let some : 0 < c.args.levels = omega (arith, c.if-levels-eq0.false) in
    let deeper = tree_from lines objects grid facts (c.args.levels - 1) in
    let here : Some (node.Before c.in-Before.moment) ≡ node_at lines objects grid at =
    ap Some (sym c.in-Before.is) ∙ sym c.in-Some.is ∙ c.in_ok-node.ensures in
    subst (λ due. IfOk c.read_before.result (λ read. tree_now read c.read_before.new.places.items ≡ due))
    (ap₂ (before_from deeper c.in-Before.moment) c.in_ok-next.ensures c.in_ok-push_place.ensures
    ∙ ap (node_from lines grid facts deeper at before) here
    ∙ sym (tree_more lines objects grid facts c.args.levels at before some))
    c.read_before.ensures

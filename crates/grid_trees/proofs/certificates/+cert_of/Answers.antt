use Rattle.std.proofs.Common.{ap, ◌∙◌, ◌<◌, arith, rules}
use Rattle.block_search.specs.Trees.{depth}
use Rattle.grid_trees.specs.TreeCertificates.{cert_of}
use Rattle.grid_trees.proofs.Nodes.{before_less, before_made, first_less, from_less, leaf_made}
use Rattle.grid_trees.proofs.Nodes.{second_less, split_made, third_less}
use Rattle.grid_trees.proofs.certificates.+cert_of.Goals as goal

pub cert_of-requires : goal.cert_of-requires
cert_of-requires t c =
    let most = c.requires.depth in
    let lt : depth c.into_inner.result < depth c.args.tree =
    first_less c.args.tree c.into_inner.result c.in-Split.axis c.in-Split.at c.in-Split.below
    c.in-Split.middle c.in-Split.above c.in-Split.is c.into_inner.ensures.value in
    (search (rules, lt), omega (arith, lt, most))

pub cert_of-requires-in-Split : goal.cert_of-requires-in-Split
cert_of-requires-in-Split t c =
    let most = c.requires.depth in
    let lt : depth c.into_inner-in-Split.result < depth c.args.tree =
    second_less c.args.tree c.into_inner-in-Split.result c.in-Split.axis c.in-Split.at
    c.in-Split.below c.in-Split.middle c.in-Split.above c.in-Split.is
    c.into_inner-in-Split.ensures.value in
    (search (rules, lt), omega (arith, lt, most))

pub cert_of-requires-in-Split-2 : goal.cert_of-requires-in-Split-2
cert_of-requires-in-Split-2 t c =
    let most = c.requires.depth in
    let lt : depth c.into_inner-in-Split-2.result < depth c.args.tree =
    third_less c.args.tree c.into_inner-in-Split-2.result c.in-Split.axis c.in-Split.at
    c.in-Split.below c.in-Split.middle c.in-Split.above c.in-Split.is
    c.into_inner-in-Split-2.ensures.value in
    (search (rules, lt), omega (arith, lt, most))

pub cert_of-requires-in-Before : goal.cert_of-requires-in-Before
cert_of-requires-in-Before t c =
    let most = c.requires.depth in
    let lt : depth c.into_inner-in-Before.result < depth c.args.tree =
    before_less c.args.tree c.into_inner-in-Before.result c.in-Before.field-0 c.in-Before.at
    c.in-Before.before c.in-Before.from c.in-Before.is c.into_inner-in-Before.ensures.value in
    (search (rules, lt), omega (arith, lt, most))

pub cert_of-requires-in-Before-2 : goal.cert_of-requires-in-Before-2
cert_of-requires-in-Before-2 t c =
    let most = c.requires.depth in
    let lt : depth c.into_inner-in-Before-2.result < depth c.args.tree =
    from_less c.args.tree c.into_inner-in-Before-2.result c.in-Before.field-0 c.in-Before.at
    c.in-Before.before c.in-Before.from c.in-Before.is c.into_inner-in-Before-2.ensures.value in
    (search (rules, lt), omega (arith, lt, most))

pub returns-in-Leaf : goal.returns-in-Leaf
returns-in-Leaf t c = record {
  value = leaf_made c.args.grid.now c.args.tree c.in-Leaf.facts c.in-Leaf.is;
}

pub returns-in_ok-above-in-Split : goal.returns-in_ok-above-in-Split
returns-in_ok-above-in-Split t c = record {
  value =
      split_made c.args.grid.now c.args.tree c.in-Split.axis c.in-Split.at c.in-Split.below
      c.in-Split.middle c.in-Split.above c.in_ok-below-in-Split.below
      c.in_ok-middle-in-Split.middle c.in_ok-above-in-Split.above c.split.result c.in-Split.is
      (c.in_ok-below-in-Split.ensures.value
      ∙ ap (cert_of c.args.grid.now) c.into_inner.ensures.value)
      (c.in_ok-middle-in-Split.ensures.value
      ∙ ap (cert_of c.args.grid.now) c.into_inner-in-Split.ensures.value)
      (c.in_ok-above-in-Split.ensures.value
      ∙ ap (cert_of c.args.grid.now) c.into_inner-in-Split-2.ensures.value)
      c.split.ensures.value;
}

pub returns-in_ok-from-in-Before : goal.returns-in_ok-from-in-Before
returns-in_ok-from-in-Before t c = record {
  value =
      before_made c.args.grid.now c.args.tree c.in-Before.field-0 c.in-Before.at
      c.in-Before.before c.in-Before.from c.in_ok-before-in-Before.before
      c.in_ok-from-in-Before.from c.split_moments.result c.in-Before.is
      (c.in_ok-before-in-Before.ensures.value
      ∙ ap (cert_of c.args.grid.now) c.into_inner-in-Before.ensures.value)
      (c.in_ok-from-in-Before.ensures.value
      ∙ ap (cert_of c.args.grid.now) c.into_inner-in-Before-2.ensures.value)
      c.split_moments.ensures.value;
}

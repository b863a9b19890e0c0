use Rattle.std.proofs.Common.{None}
use Rattle.verdict_meaning.specs.Certificates.{cert_judged, leaf_judged, shape_at}
use Rattle.cert_checker.proofs.Walking.{before_empty, deep, is_deep, judges_as, leaf_at, not_deep, split_empty}
use Rattle.cert_checker.proofs.tree.check_empty.Goals as goal

pub returns-then-depth-gt-DEEPEST : goal.returns-then-depth-gt-DEEPEST
returns-then-depth-gt-DEEPEST c = record {
  judged = λ judge.
      judges_as c.args.place c.shape_fault.result shape_at
      (cert_judged judge c.args.cert.now c.args.depth None)
      (λ at.
      deep judge c.args.cert.now c.args.depth None at
      (is_deep c.args.depth c.if-depth-gt-DEEPEST.true))
      c.shape_fault.ensures.judged;
}

pub returns-in-Leaf : goal.returns-in-Leaf
returns-in-Leaf c = record {
  judged = λ judge.
      judges_as c.args.place c.empty_leaf.result (leaf_judged judge c.in-Leaf.reason None)
      (cert_judged judge c.args.cert.now c.args.depth None)
      (λ at.
      leaf_at judge c.args.cert.now c.in-Leaf.reason c.args.depth None at c.in-Leaf.is
      (not_deep c.args.depth c.if-depth-gt-DEEPEST.false))
      (c.empty_leaf.ensures.judged judge);
}

pub returns-in-Split : goal.returns-in-Split
returns-in-Split c = record {
  judged = λ judge.
      judges_as c.args.place c.shape_fault-in-Split.result shape_at
      (cert_judged judge c.args.cert.now c.args.depth None)
      (λ at.
      split_empty judge c.args.cert.now c.in-Split.field-0 c.in-Split.field-1 c.in-Split.field-2
      c.in-Split.field-3 c.in-Split.field-4 c.args.depth at c.in-Split.is
      (not_deep c.args.depth c.if-depth-gt-DEEPEST.false))
      c.shape_fault-in-Split.ensures.judged;
}

pub returns-in-Before : goal.returns-in-Before
returns-in-Before c = record {
  judged = λ judge.
      judges_as c.args.place c.shape_fault-in-Before.result shape_at
      (cert_judged judge c.args.cert.now c.args.depth None)
      (λ at.
      before_empty judge c.args.cert.now c.in-Before.field-0 c.in-Before.field-1
      c.in-Before.field-2 c.args.depth at c.in-Before.is
      (not_deep c.args.depth c.if-depth-gt-DEEPEST.false))
      c.shape_fault-in-Before.ensures.judged;
}

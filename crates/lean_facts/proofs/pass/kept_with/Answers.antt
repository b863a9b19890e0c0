use Rattle.std.proofs.Common.{◌++◌, true, false, sym, ap, ◌∙◌}
use Rattle.lean_facts.proofs.Passing.{kept_if}
use Rattle.lean_facts.proofs.pass.kept_with.Goals as goal

pub returns : goal.returns
returns g c =
    let accepts = g.J.Judge.accepts c.args.judge.now in
    record {
      value =
          c.in_ok-push.ensures.items
          ∙ kept_if accepts c.args.kept.items c.args.rest.now c.args.fact false
          (sym c.if-branch.false
          ∙ c.in_ok-is_accepted.ensures.value
          ∙ ap accepts
          (c.from_vec-others.ensures.value
          ∙ c.in_ok-both.ensures.value
          ∙ ap (λ list. list ++ c.args.rest.now) c.deref.ensures.value));
    }

pub returns-then-branch : goal.returns-then-branch
returns-then-branch g c =
    let accepts = g.J.Judge.accepts c.args.judge.now in
    record {
      value =
          kept_if accepts c.args.kept.items c.args.rest.now c.args.fact true
          (sym c.if-branch.true
          ∙ c.in_ok-is_accepted.ensures.value
          ∙ ap accepts
          (c.from_vec-others.ensures.value
          ∙ c.in_ok-both.ensures.value
          ∙ ap (λ list. list ++ c.args.rest.now) c.deref.ensures.value));
    }

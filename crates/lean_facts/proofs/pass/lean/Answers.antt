use Rattle.std.proofs.Common.{◌++◌, subst, sym}
use Rattle.std.proofs.lemmas.List.{nil_from_length}
use Rattle.lean_facts.proofs.Passing.{Grows, IsKept, Shrinks, kept_end, kept_first, kept_turn}
use Rattle.lean_facts.proofs.pass.lean.Goals as goal

pub facts-init : goal.facts-init
facts-init g c =
    let accepts = g.J.Judge.accepts c.args.judge.now in
    let fits = g.J.Judge.fits c.args.judge.now in
    subst (λ kept. IsKept accepts fits c.args.facts.now kept c.args.facts.now)
    (sym c.new-kept.ensures.items)
    (kept_first accepts fits c.args.facts.now c.requires.accepted c.requires.fits)

pub kept_with-requires-clause-fits : goal.kept_with-requires-clause-fits
kept_with-requires-clause-fits g c =
    let fits = g.J.Judge.fits c.args.judge.now in
    let kept = c.facts.kept.items in
    g.met.J.Judge.fewer c.args.judge.now kept c.in-Some.more.now c.in-Some.fact.now
    c.requires.ready
    (subst (λ rest. fits (kept ++ rest)) c.in-Some.ensures.cases.0 c.facts.invariant.fitting)

pub facts-preserved : goal.facts-preserved
facts-preserved g c =
    let accepts = g.J.Judge.accepts c.args.judge.now in
    let fits = g.J.Judge.fits c.args.judge.now in
    let grows : Grows accepts = λ xs ys fact h.
    g.met.J.Judge.grows c.args.judge.now xs ys fact c.requires.ready h in
    let shrinks : Shrinks fits = λ xs ys fact h.
    g.met.J.Judge.fewer c.args.judge.now xs ys fact c.requires.ready h in
    subst (λ kept. IsKept accepts fits c.args.facts.now kept c.in-Some.more.now)
    (sym c.in_ok-kept.ensures.value)
    (kept_turn accepts fits grows shrinks c.args.facts.now c.facts.kept.items c.in-Some.more.now
    c.in-Some.fact.now
    (subst (IsKept accepts fits c.args.facts.now c.facts.kept.items) c.in-Some.ensures.cases.0
    c.facts.invariant))

pub returns : goal.returns
returns g c =
    let accepts = g.J.Judge.accepts c.args.judge.now in
    let fits = g.J.Judge.fits c.args.judge.now in
    let at_end =
    kept_end accepts fits c.args.facts.now c.facts.kept.items
    (subst (IsKept accepts fits c.args.facts.now c.facts.kept.items)
    (nil_from_length c.facts.rest.now c.in_default.ensures.cases) c.facts.invariant) in
    record {
      value = at_end.same;
      accepted = at_end.accepted;
      fits = at_end.fitting;
      none_spare = at_end.spare;
    }

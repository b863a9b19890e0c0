use Rattle.std.proofs.Common.{◌≡◌, ◌∙◌, ap}
use Rattle.std.proofs.lemmas.Result.{IfOk-weaker}
use Rattle.verdict_meaning.specs.Grids.{cuts_of, rising}
use Rattle.grid_cuts.specs.internal.Gridded.{IsCutWhole}
use Rattle.grid_cuts.proofs.CutRanges.{cuts_are, cuts_whole, found_all}
use Rattle.grid_cuts.proofs.key_cuts.cuts_of.Goals as goal

pub returns-clause-value : goal.returns-clause-value
returns-clause-value c =
    let x = c.args.rules.now in
    let question = c.args.question.now in
    let wanted = c.args.wanted.now in
    let list = c.add_asked_cuts.new.list.items in
    let found =
    found_all x question wanted c.args.asked.now c.new-list.result.items c.add_ends.new.list.items
    c.add_limit.new.list.items list c.new-list.ensures.items c.requires.asked c.requires.step_is
    c.in_ok-add_ends.ensures.adds c.in_ok-add_limit.ensures.adds
    c.in_ok-add_asked_cuts.ensures.adds in
    IfOk-weaker c.rising.result (λ cuts. cuts.items ≡ rising c.as_slice.result.now)
    (λ cuts. cuts.items ≡ cuts_of x question wanted.key wanted.range)
    (λ cuts is.
    cuts_are x question wanted list cuts.items found (is ∙ ap rising c.as_slice.ensures.value))
    c.rising.ensures.value

pub returns-clause-whole : goal.returns-clause-whole
returns-clause-whole c =
    let x = c.args.rules.now in
    let question = c.args.question.now in
    let wanted = c.args.wanted.now in
    let list = c.add_asked_cuts.new.list.items in
    let found =
    found_all x question wanted c.args.asked.now c.new-list.result.items c.add_ends.new.list.items
    c.add_limit.new.list.items list c.new-list.ensures.items c.requires.asked c.requires.step_is
    c.in_ok-add_ends.ensures.adds c.in_ok-add_limit.ensures.adds
    c.in_ok-add_asked_cuts.ensures.adds in
    IfOk-weaker c.rising.result (λ cuts. cuts.items ≡ rising c.as_slice.result.now)
    (λ cuts. IsCutWhole x question (wanted.key, wanted.range))
    (λ cuts is. cuts_whole x question wanted list found)
    c.rising.ensures.value

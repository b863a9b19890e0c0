use Rattle.std.proofs.Common.{◌+◌, take, get_or}
use Rattle.std.proofs.lemmas.List.{take_more}
use Rattle.std.specs.Prelude.{slice_get}
use Rattle.grid_cuts.specs.internal.Additions.{rule_cuts}
use Rattle.grid_cuts.proofs.AddedCuts.{adds_more}
use Rattle.grid_cuts.proofs.conditions.add_asked_cuts.Goals as goal

pub loop-number-preserved : goal.loop-number-preserved
loop-number-preserved c =
    let all = c.args.asked.now in
    let at = c.loop-number.number-index in
    let wanted = c.args.wanted.now in
    let x = c.args.rules.now in
    adds_more wanted (λ number. rule_cuts x.names wanted (slice_get x.rules number))
    c.args.list.now.items c.loop-number.list.items c.add_rule.new.list.items (take at all)
    (take (at + 1) all) (get_or all at 0) (take_more all at 0 c.loop-number-test.true)
    c.loop-number.invariant c.in_ok-add_rule.ensures.adds

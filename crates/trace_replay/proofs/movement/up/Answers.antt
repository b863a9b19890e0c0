use Rattle.std.proofs.Common.{◌≡◌, ◌∙◌, ap, Ok}
use Rattle.exact_fraction.specs.Checked.{checked}
use Rattle.exact_fraction.specs.Operations.{sum_of, round9_of}
use Rattle.exact_fraction.specs.Order.{greater_of}
use Rattle.trace_replay.proofs.Reaching.{checked_is, reach_fits, rounded_reach, sum_fits}
use Rattle.trace_replay.proofs.movement.up.Goals as goal

pub returns-in_default : goal.returns-in_default
returns-in_default c =
    absurd (c.in_default.not-Ok (round9_of c.args.setting.now)
    (c.round9.ensures.value
    ∙ checked_is (round9_of c.args.setting.now) (reach_fits (round9_of c.args.setting.now) (rounded_reach c.args.setting.now c.requires.least c.requires.most))))

pub returns-in-Ok-add : goal.returns-in-Ok-add
returns-in-Ok-add c =
    let known : c.round9.result ≡ Ok (round9_of c.args.setting.now) =
    c.round9.ensures.value
    ∙ checked_is (round9_of c.args.setting.now) (reach_fits (round9_of c.args.setting.now) (rounded_reach c.args.setting.now c.requires.least c.requires.most)) in
    let rounded : c.in-Ok.rounded ≡ round9_of c.args.setting.now = cc in
    let result : c.add.result ≡ Ok (sum_of (round9_of c.args.setting.now) c.args.reach) =
    c.add.ensures.value ∙ ap (λ r. checked (sum_of r c.args.reach)) rounded
    ∙ checked_is (sum_of (round9_of c.args.setting.now) c.args.reach)
    (sum_fits (round9_of c.args.setting.now) c.args.reach (rounded_reach c.args.setting.now c.requires.least c.requires.most) c.requires.reach) in
    let same : c.in-Ok-add.sum ≡ sum_of (round9_of c.args.setting.now) c.args.reach = cc in
    c.max.ensures.value ∙ ap (λ q. greater_of c.args.setting.now q) same

pub returns-in-Err : goal.returns-in-Err
returns-in-Err c =
    let known : c.round9.result ≡ Ok (round9_of c.args.setting.now) =
    c.round9.ensures.value
    ∙ checked_is (round9_of c.args.setting.now) (reach_fits (round9_of c.args.setting.now) (rounded_reach c.args.setting.now c.requires.least c.requires.most)) in
    let rounded : c.in-Ok.rounded ≡ round9_of c.args.setting.now = cc in
    let result : c.add.result ≡ Ok (sum_of (round9_of c.args.setting.now) c.args.reach) =
    c.add.ensures.value ∙ ap (λ r. checked (sum_of r c.args.reach)) rounded
    ∙ checked_is (sum_of (round9_of c.args.setting.now) c.args.reach)
    (sum_fits (round9_of c.args.setting.now) c.args.reach (rounded_reach c.args.setting.now c.requires.least c.requires.most) c.requires.reach) in
    absurd cc

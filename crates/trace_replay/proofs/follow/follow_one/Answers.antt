use Rattle.trace_replay.proofs.LinkSwitches.{stands_setting, stands_switch}
use Rattle.trace_replay.proofs.follow.follow_one.Goals as goal

pub returns-then-is_at-clause-setting : goal.returns-then-is_at-clause-setting
returns-then-is_at-clause-setting c =
    stands_setting c.args.rate.now c.args.gap.now c.args.link.now.setting c.args.target.now (c.is_at.ensures.setting c.if-is_at.true)

pub returns-then-is_at-clause-switch : goal.returns-then-is_at-clause-switch
returns-then-is_at-clause-switch c = stands_switch c.args.link.now.setting c.args.moment c.args.switch.now

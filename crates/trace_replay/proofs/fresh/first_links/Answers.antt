use Rattle.std.proofs.Common.{◌+◌, length, ap, ◌∙◌, arith}
use Rattle.std.proofs.lemmas.List.{length_push}
use Rattle.rule_meaning.specs.Replay.{first_standings}
use Rattle.trace_replay.proofs.FirstSteps.{link_step, link_end}
use Rattle.trace_replay.proofs.fresh.first_links.Goals as goal

pub loop-setting-preserved : goal.loop-setting-preserved
loop-setting-preserved c = record {
  standings =
      link_step c.args.initial.now c.loop-setting.links.items c.push.new.self.items c.loop-setting.setting-index c.setting-item.result c.zero.result
      (first_standings c.args.initial.now) c.loop-setting-test.true c.setting-item.is c.in_ok-push.ensures.items c.loop-setting.invariant.standings;
  each = ap length c.in_ok-push.ensures.items ∙ length_push c.loop-setting.links.items _ ∙ ap (λ n. n + 1) c.loop-setting.invariant.each;
}

pub returns : goal.returns
returns c = record {
  standings = link_end c.args.initial.now c.loop-setting.links.items c.loop-setting.setting-index (first_standings c.args.initial.now) (omega arith) c.loop-setting.invariant.standings;
  each = omega (arith, c.loop-setting.invariant.each);
}

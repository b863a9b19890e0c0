use Rattle.std.proofs.Common.{◌≡◌, ◌-◌, ◌++◌, take, drop, arith, refl, ap, ◌∙◌}
use Rattle.std.proofs.lemmas.List.{length-set}
use Rattle.rule_meaning.specs.History.{stayed}
use Rattle.rule_meaning.specs.Replay.{links_at, timer_at}
use Rattle.trace_replay.proofs.BackToFront.{timers_start, timers_step}
use Rattle.trace_replay.proofs.timers.set_timers.Goals as goal

pub loop-at-init : goal.loop-at-init
loop-at-init c = record {
  links = timers_start c.args.start c.args.moment c.args.links.now c.args.switches.now;
  long = refl;
}

pub loop-at-preserved : goal.loop-at-preserved
loop-at-preserved c = record {
  links =
      timers_step c.args.start c.args.moment c.args.links.now c.args.switches.now (c.loop-at.at - 1) c.loop-at.at
      c.index-links-at.result c.index-switches-at.result c.loop-at.links c.timer_of-timer.result
      (omega arith) (omega arith) c.requires.each c.loop-at.invariant.links
      (c.timer_of-timer.ensures ∙ ap (λ switch. timer_at c.args.start switch c.args.moment) c.index-switches-at.is);
  long = length-set c.loop-at.links (c.loop-at.at - 1) _ ∙ c.loop-at.invariant.long;
}

pub returns : goal.returns
returns c =
    let none : c.loop-at.at ≡ 0 = omega arith in
    record {
      links =
          c.loop-at.invariant.links
          ∙ ap (λ n. take n c.args.links.now ++ links_at c.args.start c.args.moment (stayed (drop n c.args.links.now)) (drop n c.args.switches.now)) none;
    }

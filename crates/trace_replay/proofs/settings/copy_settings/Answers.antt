use Rattle.std.proofs.Common.{◌<◌, length, get_or, refl, ◌∙◌, arith}
use Rattle.std.proofs.lemmas.List.{take_more_set, length-set}
use Rattle.trace_replay.proofs.FirstSteps.{setting_more}
use Rattle.trace_replay.proofs.settings.copy_settings.Goals as goal

pub loop-at-preserved : goal.loop-at-preserved
loop-at-preserved c =
    let within : c.loop-at.at < length c.args.places.now = c.loop-at-test.true in
    let inside : c.loop-at.at < length c.loop-at.settings = omega (arith, within, c.loop-at.invariant.long) in
    record {
      settings =
          take_more_set c.loop-at.settings c.loop-at.at c.index-links-places.result.setting inside
          ∙ setting_more c.args.links.now c.args.places.now c.loop-at.settings c.loop-at.at (get_or c.args.places.now c.loop-at.at 0) c.index-links-places.result
          within inside refl (c.requires.within c.loop-at.at 0 within) c.index-links-places.is c.loop-at.invariant.settings;
      long = length-set c.loop-at.settings c.loop-at.at _ ∙ c.loop-at.invariant.long;
    }

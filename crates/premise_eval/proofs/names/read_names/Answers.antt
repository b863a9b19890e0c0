use Rattle.std.proofs.Common.{◌≤◌, ◌∙◌, refl, sym, length, arith}
use Rattle.premise_eval.specs.Kept.{marked}
use Rattle.premise_eval.proofs.NameSteps.{none_held, none_stops}
use Rattle.premise_eval.proofs.names.read_names.Goals as goal

pub loop-at-init : goal.loop-at-init
loop-at-init c = record {
  stop = refl;
  held = none_held c.args.rules.now c.args.state.now (marked c.args.asks.now) c.args.names.now;
}

pub returns-clause-stop : goal.returns-clause-stop
returns-clause-stop c =
    let past : length c.args.rules.now.names ≤ c.loop-at.at = omega arith in
    sym (c.loop-at.invariant.stop ∙ none_stops c.args.rules.now (marked c.args.asks.now) c.args.state.now c.loop-at.at past)

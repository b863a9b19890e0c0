use Rattle.std.proofs.Common.{rules, ◌≡◌, length, ap, sym, ◌∙◌, subst}
use Rattle.rule_types.specs.declared.rules.Rules.{Rules}
use Rattle.trace_replay.specs.Progress.{kept_of, IsProgressOf}
use Rattle.replay_printer.proofs.Ready.{ready_new}
use Rattle.replay_printer.proofs.printer.ReplayPrinter.new.Goals as goal

pub returns-clause-ready : goal.returns-clause-ready
returns-clause-ready g c =
    let same : c.in_ok-replay.replay.readings ≡ c.args.readings = c.in_ok-replay.ensures.readings in
    let long : length c.in_ok-inputs.inputs.items ≡ length c.args.rules.now.input_keys = search rules in
    record {
      reads = subst g.R.Reads.is_ready (sym same) c.requires.reads;
      for_rules = ap g.R.Reads.made_for same ∙ c.requires.made_for ∙ sym c.in_ok-replay.ensures.rules;
      replayed = subst (λ (x : Rules). IsProgressOf x c.in_ok-replay.replay.progress) (sym c.in_ok-replay.ensures.rules) c.in_ok-replay.ensures.fits;
      line =
          ready_new (g.R.Reads.choice c.args.readings) (g.R.Reads.choice c.in_ok-replay.replay.readings) c.args.rules.now c.in_ok-replay.replay.rules.now
          (g.R.Reads.held c.args.readings) (g.R.Reads.held c.in_ok-replay.replay.readings) (kept_of c.in_ok-replay.replay.progress)
          (length c.in_ok-inputs.inputs.items) (ap g.R.Reads.choice same) c.in_ok-replay.ensures.rules (ap g.R.Reads.held same)
          c.in_ok-replay.ensures.kept long c.requires.can_replay;
    }

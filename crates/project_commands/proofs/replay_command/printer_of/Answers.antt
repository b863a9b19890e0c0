use Rattle.std.proofs.Common.{sym, subst}
use Rattle.replay_meaning.specs.Standing.{CanReplay}
use Rattle.rule_meaning.proofs.PublicLaws.{orders-settled}
use Rattle.rule_meaning.specs.Reading.{Choice, settling}
use Rattle.rule_types.specs.Tables.{TableSet}
use Rattle.project_commands.proofs.replay_command.printer_of.Goals as goal

pub new-requires-clause-can_replay : goal.new-requires-clause-can_replay
new-requires-clause-can_replay c =
    let rules = c.args.project.now.rules in
    let settled : CanReplay (settling rules) rules c.args.project.now.tables = record {
      formed = c.requires.well_formed;
      acts = orders-settled rules;
      held = c.requires.tables;
    } in
    let T : TableSet → Type 0 = λ tables. CanReplay (settling rules) rules tables in
    let C : Choice → Type 0 = λ choice. CanReplay choice rules c.in_ok-readings.readings.tables.now in
    subst C (sym c.in_ok-readings.ensures.choice)
    (subst T (sym c.in_ok-readings.ensures.held) settled)

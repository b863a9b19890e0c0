use Rattle.std.proofs.Common.{sym, subst}
use Rattle.replay_meaning.specs.Standing.{CanReplay}
use Rattle.rule_meaning.proofs.PublicLaws.{orders-settled}
use Rattle.rule_meaning.specs.Reading.{Choice, settling}
use Rattle.rule_types.specs.Tables.{TableSet}
use Rattle.replay_tests.proofs.both_readings.printed_slowly.Goals as goal

pub new-requires-2-clause-can_replay : goal.new-requires-2-clause-can_replay
new-requires-2-clause-can_replay c =
    let rules = c.args.project.now.rules in
    let settled : CanReplay (settling rules) rules c.args.project.now.tables = record {
      formed = c.requires.well_formed;
      acts = orders-settled rules;
      held = c.requires.tables;
    } in
    let T : TableSet → Type 0 = λ tables. CanReplay (settling rules) rules tables in
    let C : Choice → Type 0 = λ choice. CanReplay choice rules c.in-Ok.readings.tables.now in
    subst C (sym c.in-Ok.ensures.choice) (subst T (sym c.in-Ok.ensures.held) settled)

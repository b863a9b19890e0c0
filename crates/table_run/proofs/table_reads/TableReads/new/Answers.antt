use Rattle.table_run.proofs.PlannedChoices.{plan_orders}
use Rattle.table_run.proofs.SettledChoices.{plan_settles}
use Rattle.table_run.proofs.table_reads.TableReads.new.Goals as goal

pub returns-clause-choice : goal.returns-clause-choice
returns-clause-choice c =
    plan_orders c.args.rules.now c.in_ok-readings.readings.planned.plan c.args.link_tables.now.tables c.requires.serves c.in_ok-readings.ensures.plan

pub returns-clause-settling : goal.returns-clause-settling
returns-clause-settling c = λ compiled.
    plan_settles c.args.rules.now c.in_ok-readings.readings.planned.plan c.args.link_tables.now.tables c.requires.well_formed c.requires.serves
    c.in_ok-readings.ensures.plan compiled

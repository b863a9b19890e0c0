use Rattle.project_run.proofs.run_command.perform.Goals as goal

pub returns-in-Check : goal.returns-in-Check
returns-in-Check g c = rw c.in-Check.is (record { performs = c.check.ensures.performs })

pub returns-in-Tables : goal.returns-in-Tables
returns-in-Tables g c = rw c.in-Tables.is (record { performs = c.tables.ensures.performs })

pub returns-in-Replay : goal.returns-in-Replay
returns-in-Replay g c = rw c.in-Replay.is (record { performs = c.replay.ensures.performs })

use Rattle.std.proofs.Common.{[]}
use Rattle.swmm_rules.proofs.run_command.perform.Goals as goal

pub returns-in-Check : goal.returns-in-Check
returns-in-Check g c =
    rw c.in-Check.is (record {
      performs = record { verdicts = []; right = tt; performs = c.check.ensures.performs };
    })

pub returns-in-Tables : goal.returns-in-Tables
returns-in-Tables g c =
    rw c.in-Tables.is (record {
      performs = record { verdicts = []; right = tt; performs = c.tables.ensures.performs };
    })

pub returns-in-Replay : goal.returns-in-Replay
returns-in-Replay g c =
    rw c.in-Replay.is (record {
      performs = record { verdicts = []; right = tt; performs = c.replay.ensures.performs };
    })

pub returns-in-Prove : goal.returns-in-Prove
returns-in-Prove g c =
    let proves = c.prove.ensures.proves in
    rw c.in-Prove.is (record {
      performs = record {
        verdicts = proves.verdicts;
        right = proves.right;
        performs = proves.performs;
      };
    })

pub returns-in-Verify : goal.returns-in-Verify
returns-in-Verify g c =
    rw c.in-Verify.is (record {
      performs = record { verdicts = []; right = tt; performs = c.verify.ensures.performs };
    })

pub returns-in-Generate : goal.returns-in-Generate
returns-in-Generate g c =
    rw c.in-Generate.is (record {
      performs = record { verdicts = []; right = tt; performs = c.generate.ensures.performs };
    })

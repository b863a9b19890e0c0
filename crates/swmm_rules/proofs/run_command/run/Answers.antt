use Rattle.std.proofs.Common.{ℕ, [], Some}
use Rattle.command_outputs.specs.Runs.{UnchangedFrom}
use Rattle.swmm_rules.specs.Commands.{outcome, roles_of, usage_text}
use Rattle.swmm_rules.specs.Words.{line_of}
use Rattle.swmm_rules.proofs.RunVerdicts.{any_verdicts, command_run}
use Rattle.swmm_rules.proofs.Usages.{usage_leaves, usage_says, usage_counts}
use Rattle.swmm_rules.proofs.run_command.run.Goals as goal

pub returns-in-None-clause-leaves : goal.returns-in-None-clause-leaves
returns-in-None-clause-leaves g c =
    rw c.in-None.ensures.value (record {
      verdicts = [];
      right = tt;
      leaves = usage_leaves usage_text (g.F.Files.left c.args.files.now 1)
          (g.F.Files.left c.args.files.now) (g.O.Sink.written c.args.out.now)
          (g.E.Sink.written c.args.err.now) (g.E.Sink.written c.tell.new.err)
          (g.O.Sink.faults c.args.out.now) (g.E.Sink.faults c.args.err.now)
          (g.E.Sink.faults c.tell.new.err) c.tell.result
          (rw c.usage_text.ensures.value at c.tell.ensures.tells);
    })

pub returns-in-None-clause-says : goal.returns-in-None-clause-says
returns-in-None-clause-says g c =
    rw c.in-None.ensures.value (usage_says usage_text (g.F.Files.faults c.args.files.now)
    (g.E.Sink.written c.args.err.now) (g.E.Sink.written c.tell.new.err)
    (g.O.Sink.faults c.args.out.now) (g.E.Sink.faults c.args.err.now)
    (g.E.Sink.faults c.tell.new.err) c.tell.result
    (rw c.usage_text.ensures.value at c.tell.ensures.tells))

pub returns-in-None-clause-counts : goal.returns-in-None-clause-counts
returns-in-None-clause-counts g c =
    rw c.in-None.ensures.value (usage_counts usage_text (g.F.Files.faults c.args.files.now)
    (g.E.Sink.written c.args.err.now) (g.E.Sink.written c.tell.new.err)
    (g.O.Sink.faults c.args.out.now) (g.E.Sink.faults c.args.err.now)
    (g.E.Sink.faults c.tell.new.err) c.tell.result
    (rw c.usage_text.ensures.value at c.tell.ensures.tells))

pub returns-in-Some-clause-leaves : goal.returns-in-Some-clause-leaves
returns-in-Some-clause-leaves g c =
    let line = line_of c.in-Some.command in
    let held = g.F.Files.held c.args.files.now in
    let done = c.perform-answer.ensures.performs in
    let was = c.args.files.now in
    let now = c.perform-answer.new.files in
    rw c.in-Some.ensures.value (record {
      verdicts = done.verdicts;
      right = command_run held done.verdicts line (g.F.Files.is_open now)
          (g.F.Files.left was) (g.F.Files.left now) (g.F.Files.faults was) (g.F.Files.faults now)
          (g.O.Sink.written c.args.out.now) (g.O.Sink.written c.perform-answer.new.out)
          (g.E.Sink.written c.args.err.now) (g.E.Sink.written c.conclude.new.err)
          (g.O.Sink.faults c.args.out.now) (g.O.Sink.faults c.perform-answer.new.out)
          (g.E.Sink.faults c.args.err.now) (g.E.Sink.faults c.conclude.new.err)
          c.perform-answer.result c.conclude.result done.right done.performs
          (λ o. c.conclude.ensures.leaves (roles_of line) (Some o) was now
          c.args.out.now c.perform-answer.new.out);
      leaves = c.conclude.ensures.leaves (roles_of line) (outcome held done.verdicts line)
          was now c.args.out.now c.perform-answer.new.out done.performs;
    })

pub returns-in-Some-clause-says : goal.returns-in-Some-clause-says
returns-in-Some-clause-says g c =
    let line = line_of c.in-Some.command in
    let done = c.perform-answer.ensures.performs in
    rw c.in-Some.ensures.value (c.conclude.ensures.says usage_text (roles_of line)
    (outcome (g.F.Files.held c.args.files.now) done.verdicts line) c.args.files.now
    c.perform-answer.new.files c.args.out.now c.perform-answer.new.out done.performs)

pub returns-in-Some-clause-counts : goal.returns-in-Some-clause-counts
returns-in-Some-clause-counts g c =
    let line = line_of c.in-Some.command in
    let done = c.perform-answer.ensures.performs in
    rw c.in-Some.ensures.value (c.conclude.ensures.counts (roles_of line)
    (outcome (g.F.Files.held c.args.files.now) done.verdicts line) c.args.files.now
    c.perform-answer.new.files c.args.out.now c.perform-answer.new.out done.performs)

pub returns-in-Some-clause-unchanged : goal.returns-in-Some-clause-unchanged
returns-in-Some-clause-unchanged g c =
    let line = line_of c.in-Some.command in
    let done = c.perform-answer.ensures.performs in
    let P : ℕ → Type 0 = λ count. UnchangedFrom count
    (g.F.Files.left c.args.files.now) (g.F.Files.left c.perform-answer.new.files)
    (g.F.Files.faults c.args.files.now) (g.F.Files.faults c.perform-answer.new.files) in
    rw c.in-Some.ensures.value (λ verdicts. any_verdicts (g.F.Files.held c.args.files.now)
    done.verdicts verdicts line P done.performs.unchanged)

pub returns-in-Some-clause-opened : goal.returns-in-Some-clause-opened
returns-in-Some-clause-opened g c =
    rw c.in-Some.ensures.value c.perform-answer.ensures.performs.performs.opened

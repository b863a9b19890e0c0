use Rattle.project_run.specs.ProjectLines.{outcome, roles_of}
use Rattle.project_run.specs.Words.{line_of}
use Rattle.project_run.proofs.run_command.run_project.Goals as goal

pub returns-in-Some-clause-leaves : goal.returns-in-Some-clause-leaves
returns-in-Some-clause-leaves g c =
    let line = line_of c.in-Some.command in
    rw c.in-Some.ensures.value (c.conclude.ensures.leaves (roles_of line)
    (outcome (g.F.Files.held c.args.files.now) line) c.args.files.now
    c.perform-answer.new.files c.args.out.now c.perform-answer.new.out
    c.perform-answer.ensures.performs)

pub returns-in-Some-clause-says : goal.returns-in-Some-clause-says
returns-in-Some-clause-says g c =
    let line = line_of c.in-Some.command in
    rw c.in-Some.ensures.value (λ usage. c.conclude.ensures.says usage (roles_of line)
    (outcome (g.F.Files.held c.args.files.now) line) c.args.files.now
    c.perform-answer.new.files c.args.out.now c.perform-answer.new.out
    c.perform-answer.ensures.performs)

pub returns-in-Some-clause-counts : goal.returns-in-Some-clause-counts
returns-in-Some-clause-counts g c =
    let line = line_of c.in-Some.command in
    rw c.in-Some.ensures.value (c.conclude.ensures.counts (roles_of line)
    (outcome (g.F.Files.held c.args.files.now) line) c.args.files.now
    c.perform-answer.new.files c.args.out.now c.perform-answer.new.out
    c.perform-answer.ensures.performs)

pub returns-in-Some-clause-unchanged : goal.returns-in-Some-clause-unchanged
returns-in-Some-clause-unchanged g c =
    rw c.in-Some.ensures.value c.perform-answer.ensures.performs.unchanged

pub returns-in-Some-clause-opened : goal.returns-in-Some-clause-opened
returns-in-Some-clause-opened g c =
    rw c.in-Some.ensures.value c.perform-answer.ensures.performs.opened

use Rattle.input_check.specs.Checks.{check_outcome, check_roles}
use Rattle.check_run.proofs.run_command.run_check.Goals as goal

pub returns-in-Some-clause-leaves : goal.returns-in-Some-clause-leaves
returns-in-Some-clause-leaves g c =
    rw c.in-Some.ensures.value (c.conclude.ensures.leaves check_roles
    (check_outcome (g.F.Files.held c.args.files.now) c.in-Some.input.now) c.args.files.now
    c.check-answer.new.files c.args.out.now c.check-answer.new.out
    c.check-answer.ensures.performs)

pub returns-in-Some-clause-says : goal.returns-in-Some-clause-says
returns-in-Some-clause-says g c =
    rw c.in-Some.ensures.value (λ usage. c.conclude.ensures.says usage check_roles
    (check_outcome (g.F.Files.held c.args.files.now) c.in-Some.input.now) c.args.files.now
    c.check-answer.new.files c.args.out.now c.check-answer.new.out
    c.check-answer.ensures.performs)

pub returns-in-Some-clause-counts : goal.returns-in-Some-clause-counts
returns-in-Some-clause-counts g c =
    rw c.in-Some.ensures.value (c.conclude.ensures.counts check_roles
    (check_outcome (g.F.Files.held c.args.files.now) c.in-Some.input.now) c.args.files.now
    c.check-answer.new.files c.args.out.now c.check-answer.new.out
    c.check-answer.ensures.performs)

pub returns-in-Some-clause-unchanged : goal.returns-in-Some-clause-unchanged
returns-in-Some-clause-unchanged g c =
    rw c.in-Some.ensures.value c.check-answer.ensures.performs.unchanged

pub returns-in-Some-clause-opened : goal.returns-in-Some-clause-opened
returns-in-Some-clause-opened g c =
    rw c.in-Some.ensures.value c.check-answer.ensures.performs.opened

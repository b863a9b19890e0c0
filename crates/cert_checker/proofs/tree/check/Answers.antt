use Rattle.verdict_meaning.specs.Certificates.{checked_cert}
use Rattle.cert_checker.proofs.Accepted.{accepted, checked, faulty, no_state}
use Rattle.cert_checker.proofs.tree.check.Goals as goal

pub returns-in-Ok-check_node-clause-answer : goal.returns-in-Ok-check_node-clause-answer
returns-in-Ok-check_node-clause-answer c =
    accepted c.in-Ok-check_node.field-0 c.check_node.result
    (checked_cert c.args.rules.now c.args.tables.now c.args.ranges.now c.args.question.now c.args.cert.now)
    c.in-Ok-check_node.is
    (checked c.args.rules.now c.args.tables.now c.args.ranges.now c.args.question.now
    c.args.cert.now c.in-Ok.cell c.check_node.result c.in-Ok.ensures.value
    c.check_node.ensures.judged)

pub returns-in-Ok-check_node-clause-no_state : goal.returns-in-Ok-check_node-clause-no_state
returns-in-Ok-check_node-clause-no_state c =
    no_state c.args.rules.now c.args.tables.now c.args.ranges.now c.args.question.now
    c.args.cert.now c.in-Ok-check_node.field-0 c.check_node.result c.requires.tables
    c.in-Ok-check_node.is
    (checked c.args.rules.now c.args.tables.now c.args.ranges.now c.args.question.now
    c.args.cert.now c.in-Ok.cell c.check_node.result c.in-Ok.ensures.value
    c.check_node.ensures.judged)

pub returns-clause-answer : goal.returns-clause-answer
returns-clause-answer c =
    faulty c.in-Err.end c.check_node.result
    (checked_cert c.args.rules.now c.args.tables.now c.args.ranges.now c.args.question.now c.args.cert.now)
    c.in-Err.is
    (checked c.args.rules.now c.args.tables.now c.args.ranges.now c.args.question.now
    c.args.cert.now c.in-Ok.cell c.check_node.result c.in-Ok.ensures.value
    c.check_node.ensures.judged)

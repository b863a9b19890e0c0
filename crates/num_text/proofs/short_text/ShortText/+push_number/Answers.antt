use Rattle.std.proofs.Common.{arith, ap, length, length-append, append_assoc}
use Rattle.std.proofs.lemmas.Grind.{common_steps}
use Rattle.std.proofs.lemmas.Fmt.{decimal_digit, decimal_step}
use Rattle.num_text.proofs.short_text.ShortText.+push_number.Goals as goal

pub push-requires : goal.push-requires
push-requires t c =
    let d = ap length (decimal_digit c.args.number c.if-number-lt10.true) in
    record { room = omega arith }

pub returns-then-number-lt10-clause-value : goal.returns-then-number-lt10-clause-value
returns-then-number-lt10-clause-value t c =
    let d = decimal_digit c.args.number c.if-number-lt10.true in
    grind (arith, common_steps, d)

pub returns-then-number-lt10-clause-len : goal.returns-then-number-lt10-clause-len
returns-then-number-lt10-clause-len t c =
    let d = ap length (decimal_digit c.args.number c.if-number-lt10.true) in
    omega arith

pub push_number-requires : goal.push_number-requires
push_number-requires t c =
    let d = simp length-append at (ap length (decimal_step c.args.number (omega arith) (omega arith))) in
    (omega arith, omega arith)

pub push-requires-2 : goal.push-requires-2
push-requires-2 t c =
    let d = simp length-append at (ap length (decimal_step c.args.number (omega arith) (omega arith))) in
    record { room = omega arith }

pub returns-clause-value : goal.returns-clause-value
returns-clause-value t c =
    let d = decimal_step c.args.number (omega arith) (omega arith) in
    grind (arith, common_steps, d, append_assoc)

pub returns-clause-len : goal.returns-clause-len
returns-clause-len t c =
    let d = simp length-append at (ap length (decimal_step c.args.number (omega arith) (omega arith))) in
    omega arith

use Rattle.std.proofs.Common.{◌≡◌, ◌+◌, ◌*◌, ◌-◌, ◌^◌, arith, ap}
use Rattle.num_text.proofs.Zeros.{significand-digit, grown-large, power-large, power-small, not_less}
use Rattle.num_text.proofs.significand.grown.Goals as goal

pub returns-then-number-eq0-clause-stands : goal.returns-then-number-eq0-clause-stands
returns-then-number-eq0-clause-stands c = λ front known.
    let size = significand-digit c.args.number c.args.zeros front c.args.digit c.requires.least c.requires.most known in
    let none : c.args.number * 10 ^ (c.args.zeros + 1) ≡ 0 * 10 ^ (c.args.zeros + 1) = ap (λ x. x * 10 ^ (c.args.zeros + 1)) c.if-number-eq0.true in
    let is : c.args.number * 10 ^ (c.args.zeros + 1) + (c.args.digit - 48) ≡ c.args.digit - 48 = omega arith in
    rw is at size

pub returns-then-zeros-ge37-clause-stands : goal.returns-then-zeros-ge37-clause-stands
returns-then-zeros-ge37-clause-stands c = λ front known.
    grown-large c.args.number c.args.zeros front c.args.digit c.requires.least c.requires.most (power-large c.args.number c.args.zeros (omega arith) c.if-zeros-ge37.true) known

pub pow-requires : goal.pow-requires
pow-requires c = let most = power-small c.args.zeros (omega arith) in omega arith

pub returns-in_default-clause-stands : goal.returns-in_default-clause-stands
returns-in_default-clause-stands c = λ front known.
    let over = rw c.pow.ensures at (not_less (c.args.number * c.pow.result) (2 ^ 128) c.in_default.ensures) in
    grown-large c.args.number c.args.zeros front c.args.digit c.requires.least c.requires.most (omega arith) known

pub returns-then-moved-ge-LARGE-clause-stands : goal.returns-then-moved-ge-LARGE-clause-stands
returns-then-moved-ge-LARGE-clause-stands c = λ front known.
    let moved : c.in-Some.moved ≡ c.args.number * c.pow.result = c.in-Some.ensures.1 in
    let is = rw c.pow.ensures at moved in
    let large = c.if-moved-ge-LARGE.true in
    grown-large c.args.number c.args.zeros front c.args.digit c.requires.least c.requires.most (omega arith) known

pub returns-clause-stands : goal.returns-clause-stands
returns-clause-stands c = λ front known.
    let moved : c.in-Some.moved ≡ c.args.number * c.pow.result = c.in-Some.ensures.1 in
    let is = rw c.pow.ensures at moved in
    rw is (significand-digit c.args.number c.args.zeros front c.args.digit c.requires.least c.requires.most known)

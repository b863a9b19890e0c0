use Rattle.std.proofs.Common.{◌≡◌, ◌≤◌, drop}
use Rattle.expr_parser.specs.declared.acceptance.Stage.TheVariants.{Operand}
use Rattle.expr_parser.specs.internal.Acceptance.{accepts}
use Rattle.expr_parser.proofs.acceptance.is_formula.Given as goal

-- a formula may go on with the tokens to come where it may be all tokens
abbrev pub invariant-loop-i : goal.invariant-loop-i
invariant-loop-i l =
    (accepts l.source l.stage l.«open» (drop l.i l.tokens) ≡ accepts l.source Operand 0 l.tokens) × (l.«open» ≤ l.i)

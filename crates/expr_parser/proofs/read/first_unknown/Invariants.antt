use Rattle.std.proofs.Common.{◌≡◌, drop}
use Rattle.expr_parser.specs.Reading.{first_token, is_unknown}
use Rattle.expr_parser.proofs.read.first_unknown.Given as goal

-- the first of the tokens to come is the first of all
abbrev pub invariant-loop-i : goal.invariant-loop-i
invariant-loop-i l = first_token (is_unknown l.source) (drop l.i l.tokens) ≡ first_token (is_unknown l.source) l.fn.tokens

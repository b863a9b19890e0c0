use Rattle.std.proofs.Common.{◌≡◌, ◌++◌, ◌-◌, ◌≤◌, length, drop}
use Rattle.expr_parser.specs.Tokens.{tokens_from}
use Rattle.expr_parser.proofs.lex.tokens.Given as goal

-- the tokens so far, and those from the place on, are those of the text
abbrev pub invariant-loop-at : goal.invariant-loop-at
invariant-loop-at l = (l.found.items ++ tokens_from l.at 0 (drop l.at l.text) ≡ tokens_from 0 0 l.text) × (l.at ≤ length l.text)

abbrev pub decreases-loop-at : goal.decreases-loop-at
decreases-loop-at l = length l.text - l.at

use Rattle.std.proofs.Common.{◌≡◌, ◌++◌, take, drop}
use Rattle.inp_text.specs.Items.{before_comment}
use Rattle.inp_text.proofs.line.without_comment.Given as goal

abbrev pub invariant-loop-index : goal.invariant-loop-index
invariant-loop-index l = before_comment l.line ≡ take l.index l.line ++ before_comment (drop l.index l.line)

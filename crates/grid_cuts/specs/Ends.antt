-- Why there is no grid of a question.
use Rattle.rule_types.specs.declared.rules.Rules.{Rules}
use Rattle.verdict_meaning.specs.declared.question.Question.{Question}
use Rattle.verdict_meaning.specs.declared.ranges.Ranges.{Ranges}
use Rattle.verdict_meaning.specs.Verdicts.{AreTooMany}
use Rattle.grid_cuts.specs.declared.end.GridEnd.{GridEnd}
use Rattle.grid_cuts.specs.declared.end.GridEnd.TheVariants as end

-- there are too many cells, and this is their count; nothing is said where memory was wanting
abbrev pub IsGridEnd : Rules → Ranges → Question → GridEnd → Type 0
IsGridEnd x ranges question (end.TooManyCells count) = AreTooMany x ranges question count
IsGridEnd x ranges question end.NoMemory = Unit {0}

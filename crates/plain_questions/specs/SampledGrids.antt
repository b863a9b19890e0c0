-- Grids of which each cell has a sample.
use Rattle.std.specs.Prelude.{All, IsSome}
use Rattle.rule_types.specs.declared.rules.Rules.{Rules}
use Rattle.verdict_meaning.specs.declared.question.Question.{Question}
use Rattle.verdict_meaning.specs.declared.ranges.Ranges.{Ranges}
use Rattle.verdict_meaning.specs.Grids.{grid_cells, sample_of}

-- each cell of the question's grid has a sample: the middles of its pieces fit
abbrev pub HasSamples : Rules → Question → Ranges → Type 0
HasSamples x question ranges =
    All (λ cell. IsSome (sample_of x cell)) (grid_cells x question ranges)

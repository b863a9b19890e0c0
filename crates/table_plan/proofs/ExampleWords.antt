-- The closed words that are opened to compute worked examples.
use Rattle.std.specs.Prelude.{⊤}
use Rattle.exact_fraction.specs.Number.{den, whole}
use Rattle.exact_fraction.specs.Order.{compares}
use Rattle.table_plan.specs.Pieces.{piece}

unfoldable pub piece_words : ⊤
unfolding den whole compares piece
piece_words = tt

-- Cuts while they are made of sorted numbers.
use Rattle.std.specs.Prelude.{Bool, true, List, [], ◌∷◌}
use Rattle.exact_fraction.specs.Number.{Rational}
use Rattle.exact_fraction.specs.Order.{less}

-- whether a number is above the last of others, if there is one
abbrev pub above_last : List Rational → Rational → Bool
above_last [] x = true
above_last (cut ∷ []) x = less cut x
above_last (cut ∷ next ∷ cuts) x = above_last (next ∷ cuts) x

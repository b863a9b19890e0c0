-- The pieces into which cuts cut the numbers: below the first cut lies piece 0, the first cut is
-- piece 1, between it and the second lies piece 2, and so on. A cut has an odd piece, and an open
-- gap an even one.
use Rattle.std.specs.Prelude.{◌≡◌, ℕ, suc, ◌+◌, ◌*◌, List, [], ◌∷◌}
use Rattle.std.specs.declared.cmp.Ordering.{Ordering}
use Rattle.std.specs.declared.cmp.Ordering.TheVariants.{Less, Equal, Greater}
use Rattle.exact_fraction.specs.Number.{Rational}
use Rattle.exact_fraction.specs.Order.{compares}
use Rattle.interval_sets.specs.declared.interval.Bound.{Bound}
use Rattle.interval_sets.specs.declared.interval.Bound.TheVariants as end

-- the piece of a number that stands so to the first cut and is in this piece of the later ones
abbrev pub piece_by : Ordering → ℕ → ℕ
piece_by Less later = 0
piece_by Equal later = 1
piece_by Greater later = suc (suc later)

-- the piece of a number among cuts that rise
unfoldable pub piece : List Rational → Rational → ℕ
piece [] x = 0
piece (cut ∷ cuts) x = piece_by (compares x cut) (piece cuts x)

-- a number is one of the cuts
pub record IsCut (cuts : List Rational) (p : Rational) : Type 0 where
  pub place : ℕ
  pub odd : piece cuts p ≡ 2 * place + 1

-- the number of an end, where it is one, is a cut
abbrev pub IsCutEnd : List Rational → Bound → Type 0
IsCutEnd cuts end.NoBound = Unit {0}
IsCutEnd cuts (end.Bound p left_out) = IsCut cuts p

-- Where a span is cut.
use Rattle.std.specs.Prelude.{◌≡◌, ℕ, ◌+◌, ◌-◌, ◌*◌, ◌%◌, ◌≤◌, ◌<◌, Bool, true, false}
use Rattle.block_search.specs.declared.span.Span.{Span}
use Rattle.block_search.specs.Blocks.{width}

-- the middle of a span: a point of an axis of numbers, so that the part behind it begins at the
-- next piece, or a later piece of an axis of moments, which the part behind the cut has
pub record IsMiddle (of_moments : Bool) (span : Span) (at from : ℕ) : Type 0 where
  pub least : span.low ≤ at
  pub most : at < span.high
  pub order : at ≤ from
  pub close : from ≤ at + 1
  pub below : 3 * (at - span.low) ≤ 2 * width span
  pub above : 3 * (span.high - from) ≤ 2 * width span
  pub point : of_moments ≡ false → (at % 2 ≡ 0) × (from ≡ at + 1)
  pub later : of_moments ≡ true → (span.low < at) × (from ≡ at)

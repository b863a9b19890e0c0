-- What a block of bytes that were read shows.
use Rattle.std.specs.Prelude.{ℕ, List}

-- the bytes that it holds, and the line that was taken out of it last
pub record BlockState : Type 0 where
  pub held : List ℕ
  pub line : List ℕ

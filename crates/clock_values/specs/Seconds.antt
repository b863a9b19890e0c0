-- Tests of seconds over a run of seconds.
use Rattle.std.specs.Prelude.{ℕ, zero, suc, ℤ, pos, ◌+ℤ◌, Bool, not, ◌&&◌}

-- whether a test passes at a second and at each of so many seconds after it
unfoldable pub passes_throughout : (ℤ → Bool) → ℤ → ℕ → Bool
passes_throughout test from zero = test from
passes_throughout test from (suc more) =
    passes_throughout test from more && test (from +ℤ pos (suc more))

-- whether a test passes neither at a second nor at one of so many seconds after it
unfoldable pub passes_nowhere : (ℤ → Bool) → ℤ → ℕ → Bool
passes_nowhere test from zero = not (test from)
passes_nowhere test from (suc more) =
    passes_nowhere test from more && not (test (from +ℤ pos (suc more)))

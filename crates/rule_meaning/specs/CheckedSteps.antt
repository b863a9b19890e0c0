-- Steps of arithmetic: each gives a number that fits, or the whole gives none.
use Rattle.std.specs.Prelude.{Result, Ok, Err}

-- the second step on what the first one gives, or the first one's error
infixl 10 ◌>>=◌
abbrev pub ◌>>=◌ : {A B E : Type 0} → Result A E → (A → Result B E) → Result B E
Ok found >>= next = next found
Err cause >>= next = Err cause

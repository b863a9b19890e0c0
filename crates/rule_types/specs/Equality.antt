-- What `==` of a type is.
use Rattle.std.specs.Prelude.{◌≡◌, Bool}
use Rattle.std.specs.Bool.{Decides}

-- a test tells exactly whether two values are equal
abbrev pub TellsEqual : {A : Type 0} → (A → A → Bool) → Type 0
TellsEqual {A} test = (a b : A) → Decides (test a b) (a ≡ b)

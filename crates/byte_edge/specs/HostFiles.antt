-- Which slots of the host's files are open.
use Rattle.std.specs.Prelude.{ℕ, zero, suc, IsSome, Option}

-- the slot was opened
abbrev pub is_open_in : {T : Type 0} → Option T → Option T → Option T → ℕ → Type 0
is_open_in first second third zero = IsSome first
is_open_in first second third (suc zero) = IsSome second
is_open_in first second third (suc (suc zero)) = IsSome third
is_open_in first second third (suc (suc (suc n))) = ⊥

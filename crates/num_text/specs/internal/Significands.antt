-- The significand of the digits that were read so far.
use Rattle.std.specs.Prelude.{◌≡◌, ℕ, ◌+◌, ◌^◌, ◌≤◌, List, length}
use Rattle.num_text.specs.Numbers.{without_end_zeros, significand}
use Rattle.num_text.specs.declared.significand.Significand.{Significand}
use Rattle.num_text.specs.declared.significand.Significand.TheVariants.{Held, Large}

-- the digits have this significand, and end with so many zeros
pub record IsHeld (size count : ℕ) (digits : List ℕ) : Type 0 where
  pub number : significand digits ≡ size
  pub zeros : length (without_end_zeros digits) + count ≡ length digits

-- the digits have this significand, or one of 10^37 or more
abbrev pub IsSignificandOf : Significand → List ℕ → Type 0
IsSignificandOf (Held number zeros) digits = IsHeld number zeros digits
IsSignificandOf Large digits = 10 ^ 37 ≤ significand digits

-- how many zeros are held
abbrev pub zeros_held : Significand → ℕ
zeros_held (Held number zeros) = zeros
zeros_held Large = 0

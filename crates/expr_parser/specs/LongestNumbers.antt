-- Which front of a text is the longest number that the text begins with.
use Rattle.std.specs.Prelude.{◌≡◌, ℕ, ◌≤◌, List, ◌++◌, length, take}
use Rattle.num_text.specs.NumberText.{NumberParts, NoSign, IsNumberText}

-- a text is a number without a sign
pub record IsUnsignedNumber (text : List ℕ) : Type 0 where
  pub parts : NumberParts
  pub written : IsNumberText text parts
  pub unsigned : parts.sign ≡ NoSign

-- the first bytes of a text, so many, are a number, and no longer front of the text is one
pub record IsLongestNumber (text : List ℕ) (count : ℕ) : Type 0 where
  pub within : count ≤ length text
  pub number : IsUnsignedNumber (take count text)
  pub longest : (front back : List ℕ) → text ≡ front ++ back → IsUnsignedNumber front
      → length front ≤ count

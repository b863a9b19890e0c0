-- The bytes that formulas are written with, beside letters, digits and those of numbers (ASCII).
use Rattle.std.specs.Prelude.{ℕ}

-- `_`
abbrev pub underscore : ℕ
underscore = 95

-- `*`
abbrev pub star : ℕ
star = 42

-- `^`
abbrev pub caret : ℕ
caret = 94

-- `(`
abbrev pub open_parenthesis : ℕ
open_parenthesis = 40

-- `)`
abbrev pub close_parenthesis : ℕ
close_parenthesis = 41

-- `8`
abbrev pub eight_digit : ℕ
eight_digit = 56

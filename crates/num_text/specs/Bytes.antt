-- The bytes that numbers, times, dates and moments are written with, beside digits (ASCII).
use Rattle.std.specs.Prelude.{ℕ}

-- `.`
abbrev pub point : ℕ
point = 46

-- `:`
abbrev pub colon : ℕ
colon = 58

-- `/`
abbrev pub slash : ℕ
slash = 47

-- `-`, between the parts of a date
abbrev pub hyphen : ℕ
hyphen = 45

-- `-`, before a number
abbrev pub minus : ℕ
minus = 45

-- `+`
abbrev pub plus : ℕ
plus = 43

-- `e`
abbrev pub small_e : ℕ
small_e = 101

-- `E`
abbrev pub capital_e : ℕ
capital_e = 69

-- `T`
abbrev pub capital_t : ℕ
capital_t = 84

-- a space
abbrev pub space : ℕ
space = 32

-- `0`
abbrev pub zero_digit : ℕ
zero_digit = 48

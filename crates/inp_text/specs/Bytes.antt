-- The bytes that the text of an input file is cut by.
use Rattle.std.specs.Prelude.{ℕ}

abbrev pub tab : ℕ
tab = 9

abbrev pub space : ℕ
space = 32

abbrev pub semicolon : ℕ
semicolon = 59

abbrev pub left_bracket : ℕ
left_bracket = 91

-- the one control byte that is not below the space
abbrev pub delete : ℕ
delete = 127

-- The bytes of texts that definitions name.
use Rattle.std.specs.Prelude.{ℕ}

-- LF, the end of a line
abbrev pub line_feed : ℕ
line_feed = 10

-- CR, which may stand before the end of a line
abbrev pub carriage_return : ℕ
carriage_return = 13

abbrev pub horizontal_tab : ℕ
horizontal_tab = 9

abbrev pub space : ℕ
space = 32

abbrev pub comma : ℕ
comma = 44

abbrev pub hyphen : ℕ
hyphen = 45

abbrev pub full_stop : ℕ
full_stop = 46

abbrev pub digit_zero : ℕ
digit_zero = 48

abbrev pub colon : ℕ
colon = 58

abbrev pub semicolon : ℕ
semicolon = 59

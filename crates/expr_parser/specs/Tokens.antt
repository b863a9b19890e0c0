-- The tokens of a formula: names, unsigned numbers in their longest reading, operators and
-- parentheses. Spaces separate tokens, and a byte that begins no token ends them.
use Rattle.std.specs.Prelude.{ℕ, zero, suc, ◌+◌, ◌-◌, Bool, true, false, ◌&&◌, ◌||◌, ◌==◌, nat_le}
use Rattle.std.specs.Prelude.{min, if◌then◌else◌, List, [], ◌∷◌, take, drop}
use Rattle.std.specs.List.{prefix_len}
use Rattle.std.specs.Char.{is_ascii_digit, is_ascii_alphabetic, is_ascii_alphanumeric}
use Rattle.num_text.specs.Bytes.{point, plus, minus, slash, small_e, capital_e, space}
use Rattle.expr_parser.specs.Bytes.{underscore, star, caret, open_parenthesis, close_parenthesis}
use Rattle.expr_parser.specs.declared.token.TokenKind.{TokenKind}
use Rattle.expr_parser.specs.declared.token.TokenKind.TheVariants.{Name, Number, Plus, Minus, Star}
use Rattle.expr_parser.specs.declared.token.TokenKind.TheVariants.{Slash, Caret, Open, Close, Stray}
use Rattle.expr_parser.specs.declared.token.TokenKind.TheVariants.{End}
use Rattle.expr_parser.specs.declared.token.Token.{Token}
use Rattle.expr_parser.specs.declared.lex.Lexeme.{Lexeme}

-- a letter or `_` begins a name, and letters, digits and `_` go on with it
abbrev pub begins_name : ℕ → Bool
begins_name byte = is_ascii_alphabetic byte || byte == underscore

abbrev pub continues_name : ℕ → Bool
continues_name byte = is_ascii_alphanumeric byte || byte == underscore

-- how many digits a text begins with
abbrev pub digit_count : List ℕ → ℕ
digit_count = prefix_len is_ascii_digit

-- the length of a point at the head of a text and of the digits behind it, 0 without a point
abbrev pub fraction_length : List ℕ → ℕ
fraction_length [] = 0
fraction_length (byte ∷ bytes) = if byte == point then 1 + digit_count bytes else 0

-- the length of a sign at the head of a text
abbrev pub sign_length : List ℕ → ℕ
sign_length [] = 0
sign_length (byte ∷ bytes) = if byte == plus || byte == minus then 1 else 0

-- the length of a sign and so many digits, of which at most three count; 0 without a digit
abbrev pub power_length : ℕ → ℕ → ℕ
power_length sign digits = if digits == 0 then 0 else 1 + (sign + min digits 3)

-- the length of a power of ten at the head of a text: its mark, a sign or none, and its digits
abbrev pub exponent_length : List ℕ → ℕ
exponent_length [] = 0
exponent_length (byte ∷ bytes) =
    if byte == small_e || byte == capital_e
    then power_length (sign_length bytes) (digit_count (drop (sign_length bytes) bytes))
    else 0

-- the length of a number, of its digits before the point and of its point and the digits behind it:
-- 0 without a digit
abbrev pub length_from : List ℕ → ℕ → ℕ → ℕ
length_from text whole fraction =
    if whole == 0 && nat_le fraction 1 then 0
    else whole + (fraction + exponent_length (drop (whole + fraction) text))

-- the length of the longest unsigned number that a text begins with, 0 where it begins with none
unfoldable pub number_length : List ℕ → ℕ
number_length text =
    length_from text (digit_count text) (fraction_length (drop (digit_count text) text))

-- the kind of a token of one byte
unfoldable pub sign_kind : ℕ → TokenKind
sign_kind byte =
    if byte == plus then Plus
    else (if byte == minus then Minus
    else (if byte == star then Star
    else (if byte == slash then Slash
    else (if byte == caret then Caret
    else (if byte == open_parenthesis then Open
    else (if byte == close_parenthesis then Close
    else Stray))))))

-- a number of some length, and the byte by itself where the length is 0
abbrev pub number_or_sign : ℕ → ℕ → Lexeme
number_or_sign byte zero = record { kind = sign_kind byte; length = 1 }
number_or_sign byte (suc n) = record { kind = Number; length = suc n }

-- the token at the head of a text that begins with no space
unfoldable pub lexeme : List ℕ → Lexeme
lexeme [] = record { kind = End; length = 0 }
lexeme (byte ∷ bytes) =
    if begins_name byte
    then record { kind = Name; length = 1 + prefix_len continues_name bytes }
    else number_or_sign byte (number_length (byte ∷ bytes))

-- a token of some kind and length at a place
abbrev pub token_at : ℕ → Lexeme → Token
token_at at found = record {
  kind = found.kind;
  span = record { start = at; end = at + found.length };
}

-- whether a kind is that of a byte which begins no token
abbrev pub is_stray : TokenKind → Bool
is_stray Name = false
is_stray Number = false
is_stray Plus = false
is_stray Minus = false
is_stray Star = false
is_stray Slash = false
is_stray Caret = false
is_stray Open = false
is_stray Close = false
is_stray Stray = true
is_stray End = false

-- The tokens of a text whose first byte is at place `at`, where its first `left` bytes are the rest
-- of a token.
abbrev pub tokens_from : ℕ → ℕ → List ℕ → List Token
tokens_from at left [] = []
tokens_from at (suc left) (byte ∷ bytes) = tokens_from (suc at) left bytes
tokens_from at zero (byte ∷ bytes) =
    if byte == space then tokens_from (suc at) zero bytes
    else token_at at (lexeme (byte ∷ bytes))
    ∷ (if is_stray (lexeme (byte ∷ bytes)).kind then []
    else tokens_from (suc at) ((lexeme (byte ∷ bytes)).length - 1) bytes)

-- the tokens of a formula, up to and with the first byte that begins no token
unfoldable pub tokens : List ℕ → List Token
tokens text = tokens_from 0 0 text

-- the kind of the first token, End where there is none
abbrev pub kind : List Token → TokenKind
kind [] = End
kind (token ∷ later) = token.kind

-- the bytes of a token
unfoldable pub token_text : List ℕ → Token → List ℕ
token_text text token = take (token.span.end - token.span.start) (drop token.span.start text)

-- Parsers over tokens, and the steps that every rule of the grammar is made of.
use Rattle.std.specs.Prelude.{◌≡◌, ◌≢◌, Bool, true, false, List, [], ◌∷◌, Option, None, Some}
use Rattle.std.specs.Prelude.{Result, Ok, Err}
use Rattle.expr_parser.specs.declared.token.TokenKind.{TokenKind}
use Rattle.expr_parser.specs.declared.token.TokenKind.TheVariants.{Name, Number, Plus, Minus, Star}
use Rattle.expr_parser.specs.declared.token.TokenKind.TheVariants.{Slash, Caret, Open, Close, Stray}
use Rattle.expr_parser.specs.declared.token.TokenKind.TheVariants.{End}
use Rattle.expr_parser.specs.declared.token.Token.{Token}
use Rattle.expr_parser.specs.declared.failure.Failure.{Failure}
use Rattle.expr_parser.specs.declared.failure.Failure.TheVariants.{NoMemory}

-- what a rule reads and the tokens behind it, or None where the tokens do not have its form
abbrev pub Outcome : Type 0 → Type 0
Outcome A = Option (A × List Token)

abbrev pub Parser : Type 0 → Type 0
Parser A = List Token → Outcome A

abbrev pub and_then : {A B : Type 0} → Outcome A → (A → Parser B) → Outcome B
and_then None next = None
and_then (Some found) next = next found.0 found.1

infixl 10 ◌>>=◌
abbrev pub ◌>>=◌ : {A B : Type 0} → Parser A → (A → Parser B) → Parser B
p >>= next = λ ts. and_then (p ts) next

infixl 10 ◌>>◌
abbrev pub ◌>>◌ : {A B : Type 0} → Parser A → Parser B → Parser B
p >> q = p >>= (λ _. q)

abbrev pub pure : {A : Type 0} → A → Parser A
pure a = λ ts. Some (a, ts)

abbrev pub refuse : {A : Type 0} → Parser A
refuse = λ ts. None

-- takes the next token
abbrev pub take_token : Parser Token
take_token [] = None
take_token (token ∷ later) = Some (token, later)

-- whether a kind is that of `)`
abbrev pub is_close : TokenKind → Bool
is_close Name = false
is_close Number = false
is_close Plus = false
is_close Minus = false
is_close Star = false
is_close Slash = false
is_close Caret = false
is_close Open = false
is_close Close = true
is_close Stray = false
is_close End = false

-- what a function that parses ensures: the parser's outcome, unless memory is out
abbrev pub Reads : {A : Type 0} → Outcome A → Result A Failure → List Token → Type 0
Reads outcome (Ok found) later = outcome ≡ Some (found, later)
Reads outcome (Err failure) later = failure ≢ NoMemory → outcome ≡ None

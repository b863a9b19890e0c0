-- What a formula is read as, and its first fault: names that are no variable, functions that there
-- are not, texts outside the grammar, numbers that are too large, and too many levels.
use Rattle.std.specs.Prelude.{◌≡◌, ◌≤◌, ℕ, Bool, true, false, not, ◌&&◌, nat_le, if◌then◌else◌}
use Rattle.std.specs.Prelude.{List, [], ◌∷◌, length, Option, None, Some, Result, Ok, Err, is_none}
use Rattle.inp_text.specs.declared.line.Span.{Span}
use Rattle.num_text.specs.Numbers.{number_in}
use Rattle.rule_types.specs.declared.expr.Expr.{Expr}
use Rattle.expr_parser.specs.declared.name_index.DeclaredName.{DeclaredName}
use Rattle.expr_parser.specs.declared.built.Built.{Built}
use Rattle.expr_parser.specs.declared.fault.ExprCause.{ExprCause}
use Rattle.expr_parser.specs.declared.fault.ExprCause.TheVariants.{UnknownName, OutsideFunction}
use Rattle.expr_parser.specs.declared.fault.ExprCause.TheVariants.{BadExpression, NumberTooLarge}
use Rattle.expr_parser.specs.declared.fault.ExprCause.TheVariants.{TooDeep}
use Rattle.expr_parser.specs.declared.fault.ExprFault.{ExprFault}
use Rattle.expr_parser.specs.declared.fault.ExprFault.TheVariants.{Fault, NoMemory}
use Rattle.expr_parser.specs.declared.token.TokenKind.{TokenKind}
use Rattle.expr_parser.specs.declared.token.TokenKind.TheVariants as kinds
use Rattle.expr_parser.specs.declared.token.Token.{Token}
use Rattle.expr_parser.specs.Names.{variable_of}
use Rattle.expr_parser.specs.Tokens.{tokens, kind, token_text}
use Rattle.expr_parser.specs.Formulas.{Source, function_of, formula_in, most_levels}

-- whether a kind is that of names, of numbers, of `(`
abbrev pub is_name : TokenKind → Bool
is_name kinds.Name = true
is_name kinds.Number = false
is_name kinds.Plus = false
is_name kinds.Minus = false
is_name kinds.Star = false
is_name kinds.Slash = false
is_name kinds.Caret = false
is_name kinds.Open = false
is_name kinds.Close = false
is_name kinds.Stray = false
is_name kinds.End = false

abbrev pub is_number : TokenKind → Bool
is_number kinds.Name = false
is_number kinds.Number = true
is_number kinds.Plus = false
is_number kinds.Minus = false
is_number kinds.Star = false
is_number kinds.Slash = false
is_number kinds.Caret = false
is_number kinds.Open = false
is_number kinds.Close = false
is_number kinds.Stray = false
is_number kinds.End = false

abbrev pub is_open : TokenKind → Bool
is_open kinds.Name = false
is_open kinds.Number = false
is_open kinds.Plus = false
is_open kinds.Minus = false
is_open kinds.Star = false
is_open kinds.Slash = false
is_open kinds.Caret = false
is_open kinds.Open = true
is_open kinds.Close = false
is_open kinds.Stray = false
is_open kinds.End = false

-- a token, before a token of some kind, is a name that is no variable
unfoldable pub is_unknown : Source → Token → TokenKind → Bool
is_unknown source token next =
    is_name token.kind && not (is_open next)
    && is_none (variable_of source.names (token_text source.text token))

-- it is a name that `(` makes a function, which there is not
unfoldable pub is_outside : Source → Token → TokenKind → Bool
is_outside source token next =
    is_name token.kind && is_open next && is_none (function_of source token)

-- it is a number past the bounds of numbers
unfoldable pub is_too_large : Source → Token → TokenKind → Bool
is_too_large source token next =
    is_number token.kind && is_none (number_in (token_text source.text token))

-- the first token that passes a test on it and on the kind of the token behind it
abbrev pub first_token : (Token → TokenKind → Bool) → List Token → Option Token
first_token passes [] = None
first_token passes (token ∷ later) =
    if passes token (kind later) then Some token else first_token passes later

-- a fault and its place
pub record FaultAt : Type 0 where
  pub cause : ExprCause
  pub span : Span

-- a fault at a token, if there is one, goes before what comes later
abbrev pub unless_at : ExprCause → Option Token → Result Expr FaultAt → Result Expr FaultAt
unless_at cause None later = later
unless_at cause (Some token) later = Err (record { cause = cause; span = token.span })

-- the place of a whole text
abbrev pub whole_span : List ℕ → Span
whole_span text = record { start = 0; end = length text }

-- a formula that is not too deep
unfoldable pub if_shallow : List ℕ → Built → Result Expr FaultAt
if_shallow text built =
    if nat_le built.levels most_levels then Ok built.formula
    else Err (record { cause = TooDeep; span = whole_span text })

-- what tokens in the grammar, or outside it, are read as
unfoldable pub built_or_fault : Source → List Token → Option Built → Result Expr FaultAt
built_or_fault source ts None =
    Err (record { cause = BadExpression; span = whole_span source.text })
built_or_fault source ts (Some built) =
    unless_at NumberTooLarge (first_token (is_too_large source) ts)
    (if_shallow source.text built)

-- what tokens are read as
unfoldable pub formula_of : Source → List Token → Result Expr FaultAt
formula_of source ts =
    unless_at UnknownName (first_token (is_unknown source) ts)
    (unless_at OutsideFunction (first_token (is_outside source) ts)
    (built_or_fault source ts (formula_in source ts)))

-- The formula that a text is over these names, or its first fault: the first name that is no
-- variable, else the first function that there is not, else that the text is outside the grammar,
-- else the first number that is too large, else that there are too many levels.
unfoldable pub expr_in : List DeclaredName → List ℕ → Result Expr FaultAt
expr_in names text = formula_of (record { text = text; names = names }) (tokens text)

-- a formula is what the grammar builds of a text, in at most 64 levels
pub record IsBuilt (names : List DeclaredName) (text : List ℕ) (formula : Expr) : Type 0 where
  pub built : Built
  pub from_grammar : formula_in (record { text = text; names = names }) (tokens text) ≡ Some built
  pub few : built.levels ≤ most_levels
  pub same : built.formula ≡ formula

-- what a reading reports: this formula or this fault, unless memory is out
abbrev pub Reports : Result Expr FaultAt → Result Expr ExprFault → Type 0
Reports due (Ok formula) = due ≡ Ok formula
Reports due (Err (Fault cause span)) = due ≡ Err (record { cause = cause; span = span })
Reports due (Err NoMemory) = Unit {0}

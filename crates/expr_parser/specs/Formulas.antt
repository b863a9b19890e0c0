-- The grammar of formulas:
--
--     sum     = product { ("+" | "-") product }
--     product = signed { ("*" | "/") signed }
--     signed  = [ "+" | "-" ] power
--     power   = atom [ "^" digit ]
--     atom    = number | name | function "(" sum ")" | "(" sum ")"
--
-- Sums and products are read from the left, and a digit is a number of one digit from 0 to 8. A
-- name with `(` behind it is a function, and every other name is a variable.
use Rattle.std.specs.Prelude.{ℕ, zero, suc, ◌+◌, ◌-◌, ◌&&◌, nat_le}
use Rattle.std.specs.Prelude.{if◌then◌else◌, List, [], ◌∷◌, length, min, Option, None, Some}
use Rattle.std.specs.Prelude.{max, codes}
use Rattle.std.specs.Str.{str_eq_ignore_ascii_case}
use Rattle.exact_fraction.specs.Number.{Rational}
use Rattle.exact_fraction.specs.Number as fraction
use Rattle.num_text.specs.Bytes.{zero_digit}
use Rattle.num_text.specs.Numbers.{number_in}
use Rattle.rule_types.specs.declared.expr.Expr.{Expr}
use Rattle.rule_types.specs.declared.expr.Expr.TheVariants as formula
use Rattle.expr_parser.specs.Bytes.{eight_digit}
use Rattle.expr_parser.specs.declared.name_index.DeclaredName.{DeclaredName}
use Rattle.expr_parser.specs.declared.function.Function.{Function}
use Rattle.expr_parser.specs.declared.function.Function.TheVariants.{Abs, Sgn, Step}
use Rattle.expr_parser.specs.declared.built.Built.{Built}
use Rattle.expr_parser.specs.declared.built.Operator.{Operator}
use Rattle.expr_parser.specs.declared.built.Operator.TheVariants.{Add, Subtract, Multiply, Divide}
use Rattle.expr_parser.specs.declared.token.TokenKind.{TokenKind}
use Rattle.expr_parser.specs.declared.token.TokenKind.TheVariants.{Name, Number, Plus, Minus, Star}
use Rattle.expr_parser.specs.declared.token.TokenKind.TheVariants.{Slash, Caret, Open, Close, Stray}
use Rattle.expr_parser.specs.declared.token.TokenKind.TheVariants.{End}
use Rattle.expr_parser.specs.declared.token.Token.{Token}
use Rattle.expr_parser.specs.Names.{variable_of}
use Rattle.expr_parser.specs.Tokens.{kind, token_text}
use Rattle.expr_parser.specs.Parsers.{Outcome, Parser, ◌>>=◌, ◌>>◌, pure, refuse}
use Rattle.expr_parser.specs.Parsers.{take_token, is_close}

-- the text of a formula, and the names that are declared before it
pub record Source : Type 0 where
  pub text : List ℕ
  pub names : List DeclaredName

-- the most levels that a formula may have
abbrev pub most_levels : ℕ
most_levels = 64

-- one level more, counted up to one more than a formula may have
unfoldable pub deeper : ℕ → ℕ
deeper levels = min (suc levels) (suc most_levels)

-- the function that a name is, ignoring the case of ASCII letters
unfoldable pub function_in : List ℕ → Option Function
function_in name =
    if str_eq_ignore_ascii_case name (codes "abs") then Some Abs
    else (if str_eq_ignore_ascii_case name (codes "sgn") then Some Sgn
    else (if str_eq_ignore_ascii_case name (codes "step") then Some Step
    else None))

abbrev pub function_of : Source → Token → Option Function
function_of source token = function_in (token_text source.text token)

-- the digit from 0 to 8 that a text is
abbrev pub digit_in : List ℕ → Option ℕ
digit_in [] = None
digit_in (byte ∷ []) =
    if nat_le zero_digit byte && nat_le byte eight_digit then Some (byte - zero_digit) else None
digit_in (byte ∷ other ∷ bytes) = None

unfoldable pub digit_of : Source → Token → Option ℕ
digit_of source token = digit_in (token_text source.text token)

-- the variable of a name, and the value of a number; where there is none a formula is refused for
-- it, so that nothing depends on what stands here
abbrev pub place_or_first : Option ℕ → ℕ
place_or_first None = 0
place_or_first (Some place) = place

abbrev pub value_or_zero : Option Rational → Rational
value_or_zero None = fraction.zero
value_or_zero (Some value) = value

-- a formula of one level
abbrev pub leaf : Expr → Built
leaf formula = record { formula = formula; levels = 1 }

unfoldable pub variable : Source → Token → Built
variable source token =
    leaf (formula.Name (place_or_first (variable_of source.names (token_text source.text token))))

unfoldable pub constant : Source → Token → Built
constant source token =
    leaf (formula.Number (value_or_zero (number_in (token_text source.text token))))

-- one level above a formula: parentheses or a plus sign, which make no part of it
unfoldable pub enclosed : Built → Built
enclosed a = record { formula = a.formula; levels = deeper a.levels }

unfoldable pub negated : Built → Built
negated a = record { formula = formula.Neg a.formula; levels = deeper a.levels }

unfoldable pub raised : Built → ℕ → Built
raised a power = record { formula = formula.Pow a.formula power; levels = deeper a.levels }

abbrev pub function_formula : Function → Expr → Expr
function_formula Abs a = formula.Abs a
function_formula Sgn a = formula.Sgn a
function_formula Step a = formula.Step a

unfoldable pub applied : Function → Built → Built
applied function a =
    record { formula = function_formula function a.formula; levels = deeper a.levels }

abbrev pub operator_formula : Operator → Expr → Expr → Expr
operator_formula Add a b = formula.Add a b
operator_formula Subtract a b = formula.Sub a b
operator_formula Multiply a b = formula.Mul a b
operator_formula Divide a b = formula.Div a b

-- A formula, unless it has more levels than a formula may have: it is refused for them, so that
-- nothing depends on what then stands in its place, and no tree grows past these levels.
abbrev pub refused_formula : Expr
refused_formula = formula.Number fraction.zero

abbrev pub within_levels : ℕ → Expr → Expr
within_levels levels whole = if nat_le levels most_levels then whole else refused_formula

-- one level above the deeper of two formulas
unfoldable pub joined : Operator → Built → Built → Built
joined operator a b = record {
  formula = within_levels (deeper (max a.levels b.levels))
      (operator_formula operator a.formula b.formula);
  levels = deeper (max a.levels b.levels);
}

-- the operators between the parts of a sum, and of a product
abbrev pub sum_operator : TokenKind → Option Operator
sum_operator Name = None
sum_operator Number = None
sum_operator Plus = Some Add
sum_operator Minus = Some Subtract
sum_operator Star = None
sum_operator Slash = None
sum_operator Caret = None
sum_operator Open = None
sum_operator Close = None
sum_operator Stray = None
sum_operator End = None

abbrev pub product_operator : TokenKind → Option Operator
product_operator Name = None
product_operator Number = None
product_operator Plus = None
product_operator Minus = None
product_operator Star = Some Multiply
product_operator Slash = Some Divide
product_operator Caret = None
product_operator Open = None
product_operator Close = None
product_operator Stray = None
product_operator End = None

-- an operator and an operand behind what is built, and what comes then
abbrev pub continued :
    Parser Built → (Built → Parser Built) → Built → Option Operator → Parser Built
continued operand more left None = pure left
continued operand more left (Some operator) =
    take_token >> operand >>= λ right. more (joined operator left right)

-- Operands with operators between them, behind the first operand. The number bounds how many there
-- are, and each takes a token, so that the count of tokens is enough.
abbrev pub chain :
    Parser Built → (TokenKind → Option Operator) → ℕ → Built → Parser Built
chain operand operators zero left = pure left
chain operand operators (suc turns) left =
    λ ts. continued operand (chain operand operators turns) left (operators (kind ts)) ts

unfoldable pub operations : Parser Built → (TokenKind → Option Operator) → Built → Parser Built
operations operand operators left = λ ts. chain operand operators (length ts) left ts

-- `)`, behind what it encloses
unfoldable pub closed : Built → Parser Built
closed inner = λ ts. if is_close (kind ts) then (take_token >> pure inner) ts else None

-- the digit of a power
abbrev pub digit_or_none : Built → Option ℕ → Parser Built
digit_or_none base None = refuse
digit_or_none base (Some power) = pure (raised base power)

-- The rules, over the tokens of a source; `sum` is the rule of what parentheses enclose.
module _ (source : Source) where
  abbrev pub power_by : Built → TokenKind → Parser Built
  power_by base Number = take_token >>= λ token. digit_or_none base (digit_of source token)
  power_by base Name = refuse
  power_by base Plus = refuse
  power_by base Minus = refuse
  power_by base Star = refuse
  power_by base Slash = refuse
  power_by base Caret = refuse
  power_by base Open = refuse
  power_by base Close = refuse
  power_by base Stray = refuse
  power_by base End = refuse

  -- what stands behind `^`
  unfoldable pub exponent : Built → Parser Built
  exponent base = λ ts. power_by base (kind ts) ts

  -- what stands behind the atom of a power
  abbrev pub power_behind : Built → TokenKind → Parser Built
  power_behind base Caret = take_token >> exponent base
  power_behind base Name = pure base
  power_behind base Number = pure base
  power_behind base Plus = pure base
  power_behind base Minus = pure base
  power_behind base Star = pure base
  power_behind base Slash = pure base
  power_behind base Open = pure base
  power_behind base Close = pure base
  power_behind base Stray = pure base
  power_behind base End = pure base

  unfoldable pub to_power : Built → Parser Built
  to_power base = λ ts. power_behind base (kind ts) ts

  module _ (sum : Parser Built) where
    -- what parentheses enclose, from `(` on
    unfoldable pub group : Parser Built
    group = take_token >> sum >>= closed

    abbrev pub called : Option Function → Parser Built
    called None = refuse
    called (Some function) = group >>= λ a. pure (applied function a)

    -- what a name is, by the kind of the token behind it
    abbrev pub named_by : Token → TokenKind → Parser Built
    named_by token Open = called (function_of source token)
    named_by token Name = pure (variable source token)
    named_by token Number = pure (variable source token)
    named_by token Plus = pure (variable source token)
    named_by token Minus = pure (variable source token)
    named_by token Star = pure (variable source token)
    named_by token Slash = pure (variable source token)
    named_by token Caret = pure (variable source token)
    named_by token Close = pure (variable source token)
    named_by token Stray = pure (variable source token)
    named_by token End = pure (variable source token)

    unfoldable pub named : Token → Parser Built
    named token = λ ts. named_by token (kind ts) ts

    abbrev pub atom_by : TokenKind → Parser Built
    atom_by Name = take_token >>= named
    atom_by Number = take_token >>= λ token. pure (constant source token)
    atom_by Open = group >>= λ a. pure (enclosed a)
    atom_by Plus = refuse
    atom_by Minus = refuse
    atom_by Star = refuse
    atom_by Slash = refuse
    atom_by Caret = refuse
    atom_by Close = refuse
    atom_by Stray = refuse
    atom_by End = refuse

    unfoldable pub atom : Parser Built
    atom = λ ts. atom_by (kind ts) ts

    unfoldable pub power : Parser Built
    power = atom >>= to_power

    abbrev pub signed_by : TokenKind → Parser Built
    signed_by Plus = take_token >> power >>= λ a. pure (enclosed a)
    signed_by Minus = take_token >> power >>= λ a. pure (negated a)
    signed_by Name = power
    signed_by Number = power
    signed_by Star = power
    signed_by Slash = power
    signed_by Caret = power
    signed_by Open = power
    signed_by Close = power
    signed_by Stray = power
    signed_by End = power

    unfoldable pub signed : Parser Built
    signed = λ ts. signed_by (kind ts) ts

    unfoldable pub product : Parser Built
    product = signed >>= operations signed product_operator

    unfoldable pub products : Parser Built
    products = product >>= operations product sum_operator

  -- a sum with at most so many parentheses in one another
  unfoldable pub sum : ℕ → Parser Built
  sum zero = refuse
  sum (suc nesting) = products (sum nesting)

  -- what is read where no token stands behind it
  abbrev pub if_whole : Outcome Built → Option Built
  if_whole None = None
  if_whole (Some (built, [])) = Some built
  if_whole (Some (built, token ∷ later)) = None

  -- The formula that tokens are, if they are one. Each parenthesis is a token, so that their count
  -- is enough; the levels that a formula may have are added to it, which changes nothing.
  unfoldable pub formula_in : List Token → Option Built
  formula_in ts = if_whole (sum (suc most_levels + length ts) ts)

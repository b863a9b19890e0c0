-- Whether tokens are in the grammar, without recursion: what may come next, and the count of open
-- parentheses.
use Rattle.std.specs.Prelude.{ℕ, zero, suc, Bool, true, false, ◌&&◌, ◌==◌, List}
use Rattle.std.specs.Prelude.{[], ◌∷◌, is_some}
use Rattle.expr_parser.specs.declared.token.TokenKind.{TokenKind}
use Rattle.expr_parser.specs.declared.token.TokenKind.TheVariants.{Name, Number, Plus, Minus, Star}
use Rattle.expr_parser.specs.declared.token.TokenKind.TheVariants.{Slash, Caret, Open, Close, Stray}
use Rattle.expr_parser.specs.declared.token.TokenKind.TheVariants.{End}
use Rattle.expr_parser.specs.declared.token.Token.{Token}
use Rattle.expr_parser.specs.declared.acceptance.Stage.{Stage}
use Rattle.expr_parser.specs.declared.acceptance.Stage.TheVariants as at
use Rattle.expr_parser.specs.declared.acceptance.Move.{Move}
use Rattle.expr_parser.specs.declared.acceptance.Move.TheVariants.{Stop, To, Opens, Closes}
use Rattle.expr_parser.specs.Formulas.{Source, function_of, digit_of}

-- behind a name: `(` may come where it is a function
abbrev pub name_stage : Bool → Stage
name_stage true = at.Function
name_stage false = at.Atom

abbrev pub digit_move : Bool → Move
digit_move true = To at.Power
digit_move false = Stop

-- where an operand without a sign is due
abbrev pub operand_move : Bool → TokenKind → Move
operand_move is_function Name = To (name_stage is_function)
operand_move is_function Number = To at.Atom
operand_move is_function Open = Opens
operand_move is_function Plus = Stop
operand_move is_function Minus = Stop
operand_move is_function Star = Stop
operand_move is_function Slash = Stop
operand_move is_function Caret = Stop
operand_move is_function Close = Stop
operand_move is_function Stray = Stop
operand_move is_function End = Stop

-- where an operand is due
abbrev pub signed_move : Bool → TokenKind → Move
signed_move is_function Plus = To at.Signed
signed_move is_function Minus = To at.Signed
signed_move is_function Name = operand_move is_function Name
signed_move is_function Number = operand_move is_function Number
signed_move is_function Open = operand_move is_function Open
signed_move is_function Star = Stop
signed_move is_function Slash = Stop
signed_move is_function Caret = Stop
signed_move is_function Close = Stop
signed_move is_function Stray = Stop
signed_move is_function End = Stop

-- behind a power
abbrev pub power_move : TokenKind → Move
power_move Plus = To at.Operand
power_move Minus = To at.Operand
power_move Star = To at.Operand
power_move Slash = To at.Operand
power_move Close = Closes
power_move Name = Stop
power_move Number = Stop
power_move Caret = Stop
power_move Open = Stop
power_move Stray = Stop
power_move End = Stop

-- behind an atom
abbrev pub atom_move : TokenKind → Move
atom_move Caret = To at.Exponent
atom_move Plus = power_move Plus
atom_move Minus = power_move Minus
atom_move Star = power_move Star
atom_move Slash = power_move Slash
atom_move Close = power_move Close
atom_move Name = power_move Name
atom_move Number = power_move Number
atom_move Open = power_move Open
atom_move Stray = power_move Stray
atom_move End = power_move End

-- behind the name of a function
abbrev pub function_move : TokenKind → Move
function_move Open = Opens
function_move Caret = atom_move Caret
function_move Plus = atom_move Plus
function_move Minus = atom_move Minus
function_move Star = atom_move Star
function_move Slash = atom_move Slash
function_move Close = atom_move Close
function_move Name = atom_move Name
function_move Number = atom_move Number
function_move Stray = atom_move Stray
function_move End = atom_move End

-- behind `^`
abbrev pub exponent_move : Bool → TokenKind → Move
exponent_move is_digit Number = digit_move is_digit
exponent_move is_digit Name = Stop
exponent_move is_digit Plus = Stop
exponent_move is_digit Minus = Stop
exponent_move is_digit Star = Stop
exponent_move is_digit Slash = Stop
exponent_move is_digit Caret = Stop
exponent_move is_digit Open = Stop
exponent_move is_digit Close = Stop
exponent_move is_digit Stray = Stop
exponent_move is_digit End = Stop

abbrev pub move_by : Stage → Bool → Bool → TokenKind → Move
move_by at.Operand is_function is_digit kind = signed_move is_function kind
move_by at.Signed is_function is_digit kind = operand_move is_function kind
move_by at.Function is_function is_digit kind = function_move kind
move_by at.Atom is_function is_digit kind = atom_move kind
move_by at.Exponent is_function is_digit kind = exponent_move is_digit kind
move_by at.Power is_function is_digit kind = power_move kind

unfoldable pub next_move : Source → Stage → Token → Move
next_move source stage token =
    move_by stage (is_some (function_of source token)) (is_some (digit_of source token)) token.kind

-- whether a formula may end here
abbrev pub may_end : Stage → Bool
may_end at.Operand = false
may_end at.Signed = false
may_end at.Function = true
may_end at.Atom = true
may_end at.Exponent = false
may_end at.Power = true

-- what follows from a move, in so many parentheses
abbrev pub moved : (Stage → ℕ → Bool) → ℕ → Move → Bool
moved go depth Stop = false
moved go depth (To stage) = go stage depth
moved go depth Opens = go at.Operand (suc depth)
moved go zero Closes = false
moved go (suc depth) Closes = go at.Atom depth

-- whether a formula may go on with these tokens, in so many parentheses, and then end
abbrev pub accepts : Source → Stage → ℕ → List Token → Bool
accepts source stage depth [] = may_end stage && depth == 0
accepts source stage depth (token ∷ later) =
    moved (λ s n. accepts source s n later) depth (next_move source stage token)

-- The formulas of expressions (SWMM 5.2 manual, [CONTROLS]).
use Rattle.std.specs.Prelude.{ℕ, List, [], ◌∷◌, ◌++◌, codes, Result, Ok, Err}
use Rattle.std.specs.List.{flat_map}
use Rattle.inp_text.specs.Bytes.{space}
use Rattle.inp_text.specs.Items.{text_at}
use Rattle.rule_types.specs.declared.expr.Expr.{Expr}
use Rattle.rule_types.specs.declared.names.NameDef.{NameDef}
use Rattle.rule_types.specs.declared.refusal.Cause.TheVariants as causes
use Rattle.control_lines.specs.Faults.{FaultText, Checked, fault_of}
use Rattle.expr_parser.specs.Names.{declared_names}
use Rattle.expr_parser.specs.Reading.{FaultAt, expr_in}
use Rattle.expr_parser.specs.declared.fault.ExprCause.{ExprCause}
use Rattle.expr_parser.specs.declared.fault.ExprCause.TheVariants.{UnknownName, OutsideFunction}
use Rattle.expr_parser.specs.declared.fault.ExprCause.TheVariants.{BadExpression, NumberTooLarge}
use Rattle.expr_parser.specs.declared.fault.ExprCause.TheVariants.{TooDeep}

-- the items of a formula, joined by single spaces
abbrev pub spaced : List ℕ → List ℕ
spaced item = space ∷ item

abbrev pub joined : List (List ℕ) → List ℕ
joined [] = []
joined (item ∷ later) = item ++ flat_map spaced later

-- what is reported of a formula: the name or the number at fault, the declared name where the text
-- is no formula, and `depth` where it has too many levels
abbrev pub fault_by : ExprCause → List ℕ → List ℕ → FaultText
fault_by UnknownName name token = fault_of causes.UnknownName token
fault_by OutsideFunction name token = fault_of causes.OutsideFunction token
fault_by BadExpression name token = fault_of causes.BadExpression name
fault_by NumberTooLarge name token = fault_of causes.NumberTooLarge token
fault_by TooDeep name token = fault_of causes.TooMany (codes "depth")

abbrev pub formula_from : List ℕ → List ℕ → Result Expr FaultAt → Checked Expr
formula_from name text (Ok formula) = Ok formula
formula_from name text (Err fault) = Err (fault_by fault.cause name (text_at text fault.span))

-- the formula that a declared name stands for, over the names that are declared before it
unfoldable pub formula_read : List NameDef → List ℕ → List (List ℕ) → Checked Expr
formula_read names name formula =
    formula_from name (joined formula) (expr_in (declared_names names) (joined formula))

-- What expressions are worth at a state.
use Rattle.std.specs.Prelude.{ℕ, suc, Bool, ◌==◌, if◌then◌else◌, Option, Some, None, Result, Ok}
use Rattle.std.specs.Prelude.{Err, List, [], ◌∷◌, slice_get}
use Rattle.std.specs.Prelude.{zero as nothing}
use Rattle.std.specs.List.{list_any}
use Rattle.exact_fraction.specs.Number.{Rational, zero, one, fits}
use Rattle.exact_fraction.specs.Operations.{sum_of, difference_of, product_of, quotient_of}
use Rattle.exact_fraction.specs.Operations.{negation_of}
use Rattle.exact_fraction.specs.Order.{less}
use Rattle.exact_fraction.specs.Checked.{is_zero}
use Rattle.rule_types.specs.declared.expr.Expr.{Expr}
use Rattle.rule_types.specs.declared.expr.Expr.TheOpen.{Expr-F}
use Rattle.rule_types.specs.declared.expr.Expr.TheFolds.{fold-Expr}
use Rattle.rule_types.specs.declared.names.NameDef.{NameDef}
use Rattle.rule_types.specs.declared.names.NameKind.{NameKind}
use Rattle.rule_types.specs.declared.names.NameKind.TheVariants.{Variable, Formula}
use Rattle.rule_types.specs.declared.rule.Rule.{Rule}
use Rattle.rule_types.specs.declared.rules.Rules.{Rules}
use Rattle.rule_types.specs.declared.state.State.{State}
use Rattle.rule_types.specs.declared.stop.StopCause.{StopCause}
use Rattle.rule_types.specs.declared.stop.StopCause.TheVariants as cause
use Rattle.rule_types.specs.declared.stop.StopPlace.TheVariants as place
use Rattle.rule_types.specs.declared.stop.Stop.{Stop}
use Rattle.rule_types.specs.Reading.{used_names}
use Rattle.rule_meaning.specs.State.{value}

-- what a formula gives: a number or nothing, or a stop
abbrev pub Derived : Type 0
Derived = Result (Option Rational) StopCause

-- a number that fits, or Overflow
unfoldable pub fitted : Rational → Derived
fitted q = if fits q then Ok (Some q) else Err cause.Overflow

-- an operand that is a number goes on; one that is missing or stops is the result
abbrev pub on_number : Derived → (Rational → Derived) → Derived
on_number (Ok (Some p)) next = next p
on_number (Ok None) next = Ok None
on_number (Err why) next = Err why

-- two operands, the left one first
abbrev pub on_numbers : Derived → Derived → (Rational → Rational → Derived) → Derived
on_numbers a b next = on_number a (λ p. on_number b (next p))

-- -1, 0 or 1 by the sign (SWMM 5.2 manual, [CONTROLS], sgn)
unfoldable pub sign_of : Rational → Rational
sign_of p = if less p zero then negation_of one else (if less zero p then one else zero)

-- the number without its sign (SWMM 5.2 manual, [CONTROLS], abs)
unfoldable pub size_of : Rational → Rational
size_of p = if less p zero then negation_of p else p

-- 0 where it is at most 0, else 1 (SWMM 5.2 manual, [CONTROLS], step)
unfoldable pub step_of : Rational → Rational
step_of p = if less zero p then one else zero

-- the quotient: ZeroDivisor where the divisor is 0
unfoldable pub divided : Rational → Rational → Derived
divided p q = if is_zero q then Err cause.ZeroDivisor else fitted (quotient_of p q)

-- p to the power 0 is 1, and p^n is p^(n-1) * p
unfoldable pub power : Rational → ℕ → Derived
power p nothing = Ok (Some one)
power p (suc n) = on_number (power p n) (λ q. fitted (product_of q p))

-- one node of a formula, with what each operand gives in its place, where the variables give what
-- `variable` says
--
unfoldable pub worked_step : (ℕ → Derived) → Expr-F Derived → Derived
worked_step variable (Expr-F.Number q) = Ok (Some q)
worked_step variable (Expr-F.Name n) = variable n
worked_step variable (Expr-F.Neg a) = on_number a (λ p. Ok (Some (negation_of p)))
worked_step variable (Expr-F.Abs a) = on_number a (λ p. Ok (Some (size_of p)))
worked_step variable (Expr-F.Sgn a) = on_number a (λ p. Ok (Some (sign_of p)))
worked_step variable (Expr-F.Step a) = on_number a (λ p. Ok (Some (step_of p)))
worked_step variable (Expr-F.Add a b) = on_numbers a b (λ p q. fitted (sum_of p q))
worked_step variable (Expr-F.Sub a b) = on_numbers a b (λ p q. fitted (difference_of p q))
worked_step variable (Expr-F.Mul a b) = on_numbers a b (λ p q. fitted (product_of p q))
worked_step variable (Expr-F.Div a b) = on_numbers a b divided
worked_step variable (Expr-F.Pow a n) = on_number a (λ p. power p n)

-- what the variable of a place gives: the value of its key (SWMM 5.2 manual, [CONTROLS], VARIABLE)
abbrev pub variable_kind : Rules → State → NameKind → Derived
variable_kind x s (Variable key) = Ok (value x s key)
variable_kind x s (Formula formula) = Ok None

unfoldable pub variable_named : Rules → State → Option NameDef → Derived
variable_named x s None = Ok None
variable_named x s (Some named) = variable_kind x s named.stands_for

-- the value of a formula at a state: from the left to the right, the first operand that is missing,
-- overflows or divides by zero is the result (SWMM 5.2 manual, [CONTROLS], EXPRESSION)
unfoldable pub formula_value : Rules → State → Expr → Derived
formula_value x s = fold-Expr Derived (worked_step (λ n. variable_named x s (slice_get x.names n)))

-- the value of what a name stands for (SWMM 5.2 manual, [CONTROLS])
unfoldable pub kind_value : Rules → State → NameKind → Derived
kind_value x s (Variable key) = Ok (value x s key)
kind_value x s (Formula formula) = formula_value x s formula

-- whether some of the rules use a name: it stands on a side of one of their conditions, or in an
-- expression that does
unfoldable pub is_used : Rules → List Rule → ℕ → Bool
is_used x rules name = list_any (λ other. name == other) (used_names x.names rules)

-- the first stop of the names that a test asks for, in the order of the file from `at` on
abbrev pub stop_or : ℕ → Derived → Option Stop → Option Stop
stop_or at (Ok found) later = later
stop_or at (Err why) later = Some (record { place = place.Name at; cause = why })

unfoldable pub stop_from : Rules → (ℕ → Bool) → State → ℕ → List NameDef → Option Stop
stop_from x asks s at [] = None
stop_from x asks s at (named ∷ names) =
    if asks at
    then stop_or at (kind_value x s named.stands_for) (stop_from x asks s (suc at) names)
    else stop_from x asks s (suc at) names

-- the first of the names that some of the rules use, in the order of the file, that overflows or
-- divides by zero
unfoldable pub names_stop_for : Rules → List Rule → State → Option Stop
names_stop_for x rules s = stop_from x (is_used x rules) s 0 x.names

-- the same of all rules
abbrev pub names_stop : Rules → State → Option Stop
names_stop x s = names_stop_for x x.rules s

-- Formulas whose variables are read by their places.
use Rattle.std.specs.Prelude.{ℕ, Ok, List, slice_get, option_and_then}
use Rattle.rule_types.specs.declared.expr.Expr.{Expr}
use Rattle.rule_types.specs.declared.expr.Expr.TheFolds.{fold-Expr}
use Rattle.rule_types.specs.declared.names.NameKind.{NameKind}
use Rattle.rule_types.specs.declared.names.NameKind.TheVariants.{Variable, Formula}
use Rattle.rule_types.specs.declared.state.State.{State}
use Rattle.rule_meaning.specs.Formula.{Derived, worked_step}
use Rattle.premise_eval.specs.declared.place.Place.{Place}
use Rattle.premise_eval.specs.Places.{place_value}

unfoldable pub variable_read : State → List Place → ℕ → Derived
variable_read s places n = Ok (option_and_then (place_value s) (slice_get places n))

unfoldable pub formula_read : State → List Place → Expr → Derived
formula_read s places = fold-Expr Derived (worked_step (variable_read s places))

-- what a name stands for, where a variable's key has this place
unfoldable pub kind_read : State → List Place → NameKind → Place → Derived
kind_read s places (Variable key) place = Ok (place_value s place)
kind_read s places (Formula formula) place = formula_read s places formula

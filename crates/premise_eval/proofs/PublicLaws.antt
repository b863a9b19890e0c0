-- What the crates above may cite: each term is the proof of one clause of `laws`, and is named
-- LAW-CLAUSE after it.
use Rattle.std.specs.Prelude.{◌≡◌, ℕ, List, Some, slice_get}
use Rattle.rule_types.specs.declared.condition.Side.{Side}
use Rattle.rule_types.specs.declared.rule.Rule.{Rule}
use Rattle.rule_types.specs.declared.rules.Rules.{Rules}
use Rattle.rule_types.specs.declared.state.State.{State}
use Rattle.rule_meaning.specs.Condition.{left_value}
use Rattle.rule_meaning.specs.Formula.{is_used}
use Rattle.premise_eval.specs.Columns.{IsColumn, SideAsked}
use Rattle.premise_eval.specs.Kept.{Kept, IsMade}
use Rattle.premise_eval.proofs.ColumnSteps.{side_of}
pub use Rattle.premise_eval.proofs.ColumnSteps.{asked_side as columns-asked}

pub columns-made : (x : Rules) (only : List Rule) (s : State) (kept : Kept) (at : ℕ) (side : Side)
    → IsMade x only s kept → IsColumn kept.columns at side → SideAsked (is_used x only) side
    → slice_get kept.values at ≡ Some (left_value x s side)
columns-made x only s kept at side made found on =
    side_of x s (is_used x only) kept.columns kept.values at side made.columns found on

-- The rule of a pair, and the two sides of its last condition.
use Rattle.std.proofs.Common.{◌≡◌, ℕ, zero, suc, ◌<◌, ◌≤◌, Option, Some, None, List, [], ◌∷◌, length, refl, sym, ap, ◌∙◌, arith}
use Rattle.std.proofs.lemmas.Option.{none-some, slice_get_within, slice_get_past, get_or_from_slice_get}
use Rattle.std.specs.Prelude.{Contains, slice_get}
use Rattle.rule_types.specs.declared.action.ActionAt.{ActionAt}
use Rattle.rule_types.specs.declared.condition.Condition.{Condition}
use Rattle.rule_types.specs.declared.rule.Rule.{Rule}
use Rattle.rule_types.specs.declared.rules.Rules.{Rules}
use Rattle.rule_types.specs.declared.state.State.{State}
use Rattle.rule_meaning.specs.Reading.{conditions_of, conditions_at}
use Rattle.rule_meaning.specs.Worth.{controller_of, set_point_of}

pub contains_at : {A : Type 0} (xs : List A) (k : ℕ) (one : A) → slice_get xs k ≡ Some one
    → Contains xs one
contains_at xs k one is = (k, slice_get_within xs k one is, get_or_from_slice_get xs k one one is)

pub none_past : {A : Type 0} (xs : List A) (k : ℕ) → slice_get xs k ≡ None → length xs ≤ k
none_past [] k e = omega arith
none_past (x ∷ xs) zero e = absurd (none-some x (sym e))
none_past (x ∷ xs) (suc k) e = let h : length xs ≤ k = none_past xs k e in omega arith

-- what holds of the conditions of each row at a place holds of those of the place
pub by_row : {A : Type 0} (f : List Condition → A) (rules : List Rule) (at : ActionAt) (found : A)
    → at.rule < length rules
    → ((row : Rule) → slice_get rules at.rule ≡ Some row → found ≡ f row.conditions)
    → found ≡ f (conditions_at rules at)
unfolding conditions_at
by_row f rules at found within each = by_rule (slice_get rules at.rule) refl
  where
    by_rule : (o : Option Rule) → slice_get rules at.rule ≡ o → found ≡ f (conditions_of (slice_get rules at.rule))
    by_rule None e = absurd (let past = none_past rules at.rule e in omega (arith, past, within))
    by_rule (Some row) e = each row e ∙ ap (λ o. f (conditions_of o)) (sym e)

no_conditions : (rules : List Rule) (at : ActionAt) → length rules ≤ at.rule
    → conditions_at rules at ≡ []
unfolding conditions_at
no_conditions rules at past = ap conditions_of (slice_get_past rules at.rule past)

pub no_controller_at : (x : Rules) (s : State) (at : ActionAt) → length x.rules ≤ at.rule
    → None ≡ controller_of x s (conditions_at x.rules at)
unfolding controller_of
no_controller_at x s at past = sym (ap (controller_of x s) (no_conditions x.rules at past))

pub no_set_point_at : (x : Rules) (s : State) (at : ActionAt) → length x.rules ≤ at.rule
    → None ≡ set_point_of x s (conditions_at x.rules at)
unfolding set_point_of
no_set_point_at x s at past = sym (ap (set_point_of x s) (no_conditions x.rules at past))

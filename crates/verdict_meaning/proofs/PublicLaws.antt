-- What the crates above may cite in their lemmas, and all that they may. Each term proves the
-- clause of src/laws.rt that its name gives, law and clause, and the answers of those laws are
-- these terms: so no more is cited than a public clause says.
use Rattle.std.proofs.Common.{◌≡◌, ℕ, Option, Some, None, Ok, subst}
use Rattle.std.specs.Prelude.{IsTrue, slice_get, true}
use Rattle.exact_fraction.specs.Number.{Rational}
use Rattle.interval_sets.specs.declared.interval.Interval.{Interval}
use Rattle.interval_sets.specs.Intervals.{lies_in}
use Rattle.rule_types.specs.declared.expr.Expr.{Expr}
use Rattle.rule_types.specs.declared.rule.Rule.{Rule}
use Rattle.rule_types.specs.declared.rules.Rules.{Rules}
use Rattle.rule_types.specs.declared.state.State.{State}
use Rattle.rule_meaning.specs.Formula.{formula_value, names_stop_for, power}
use Rattle.rule_meaning.specs.Premise.{premise_holds}
use Rattle.verdict_meaning.specs.declared.cell.Cell.{Cell}
use Rattle.verdict_meaning.specs.declared.question.Question.{Question}
use Rattle.verdict_meaning.specs.Boxes.{IsStateIn}
use Rattle.verdict_meaning.specs.Hulls.{power_hull}
use Rattle.verdict_meaning.specs.Premises.{rule_truth, start_of, Tells}
use Rattle.verdict_meaning.specs.Questions.{asked_rules, is_asked}
use Rattle.verdict_meaning.specs.Reaches.{formula_reach, IsReached}
use Rattle.verdict_meaning.proofs.FormulaReaches.{formula_reached, IsDerivedReach}
use Rattle.verdict_meaning.proofs.HullProducts.{IsDerivedIn, power_inside}
use Rattle.verdict_meaning.proofs.KeyReaches.{key_reached}
use Rattle.verdict_meaning.proofs.KnownTruths.{asked_place, premise_known}
pub use Rattle.verdict_meaning.proofs.HullSums.{sum_inside as hulls-sum}
pub use Rattle.verdict_meaning.proofs.HullSums.{difference_inside as hulls-difference}
pub use Rattle.verdict_meaning.proofs.HullSums.{negation_inside as hulls-negation}
pub use Rattle.verdict_meaning.proofs.HullSigns.{size_inside as hulls-size}
pub use Rattle.verdict_meaning.proofs.HullSigns.{sign_inside as hulls-sign}
pub use Rattle.verdict_meaning.proofs.HullSigns.{step_inside as hulls-step}
pub use Rattle.verdict_meaning.proofs.HullProducts.{product_inside as hulls-product}
pub use Rattle.verdict_meaning.proofs.HullProducts.{quotient_inside as hulls-quotient}
pub use Rattle.verdict_meaning.proofs.KeyReaches.{key_reached as reaches-key}
pub use Rattle.verdict_meaning.proofs.Kleene.{premise_tells as truths-premise}
pub use Rattle.verdict_meaning.proofs.Kleene.{premise_yes as premises-is_yes}
pub use Rattle.verdict_meaning.proofs.Kleene.{premise_no as premises-is_no}
pub use Rattle.verdict_meaning.proofs.KnownTruths.{known_at as boxes-known}
pub use Rattle.verdict_meaning.proofs.SideTruths.{sides_tell as truths-sides}
pub use Rattle.verdict_meaning.proofs.MoreKnown.{shown_stays as shown_boxes-more_known}
pub use Rattle.verdict_meaning.proofs.MoreFacts.{shown_by_more as shown_boxes-one_more_fact}
pub use Rattle.verdict_meaning.proofs.NoEvents.{conflict_excluded as known_premises-no_conflict}
pub use Rattle.verdict_meaning.proofs.NoEvents.{dead_excluded as known_premises-not_alive}
pub use Rattle.verdict_meaning.proofs.Soundness.{facts_show as shown_boxes-by_facts}
pub use Rattle.verdict_meaning.proofs.Soundness.{no_event as shown_boxes-no_event}
pub use Rattle.verdict_meaning.proofs.Soundness.{no_state as certificates-no_state}
pub use Rattle.verdict_meaning.proofs.Trees.{tree_refused as certificates-refused}

pub hulls-power : (a : Interval) (p q : Rational) (n : ℕ) → IsTrue (lies_in a p)
    → power p n ≡ Ok (Some q) → IsTrue (lies_in (power_hull a n) q)
hulls-power a p q n i e = subst (IsDerivedIn (power_hull a n)) e (power_inside a p n i)

pub reaches-formula : (x : Rules) (s : State) (cell : Cell) → IsStateIn x cell s → (e : Expr)
    (found : Option Rational) → formula_value x s e ≡ Ok found
    → IsReached (formula_reach x.names (start_of x) cell e) found
reaches-formula x s cell h e found is =
    subst (IsDerivedReach (formula_reach x.names (start_of x) cell e)) is
    (formula_reached x s (start_of x) cell (key_reached x s cell h) e)

pub boxes-premise : (x : Rules) (s : State) (cell : Cell) (question : Question) (number : ℕ)
    (rule : Rule) → IsStateIn x cell s → names_stop_for x (asked_rules x question) s ≡ None
    → slice_get x.rules number ≡ Some rule → is_asked x question number ≡ true
    → Tells (rule_truth x cell number) (premise_holds x s rule)
boxes-premise x s cell question number rule h go e asked =
    premise_known x s cell h (asked_rules x question) go number rule e
    (asked_place x question number rule e asked)

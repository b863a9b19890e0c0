-- Where a box decides a question as a state does, what is known in the box is decided at the state.
use Rattle.std.proofs.Common.{◌≡◌, Bool, true, false, not, ◌&&◌, refl, ap, ◌∙◌}
use Rattle.std.specs.Prelude.{if◌then◌else◌}
use Rattle.rule_types.specs.declared.rules.Rules.{Rules}
use Rattle.rule_types.specs.declared.state.State.{State}
use Rattle.rule_meaning.specs.Premise.{premise_holds}
use Rattle.verdict_meaning.specs.declared.cell.Cell.{Cell}
use Rattle.verdict_meaning.specs.declared.question.Question.{Question}
use Rattle.verdict_meaning.specs.declared.truth.Truth.TheVariants.{Yes, No}
use Rattle.verdict_meaning.specs.Premises.{rule_truth}
use Rattle.verdict_meaning.specs.Shown.{is_no, is_yes, known_in}
use Rattle.decided_events.specs.DecidedPremises.{DecidesAs, IsDecidedAt}

yes_of : (b : Bool) → is_yes (if b then Yes else No) ≡ b
yes_of true = refl
yes_of false = refl

no_of : (b : Bool) → is_no (if b then Yes else No) ≡ not b
no_of true = refl
no_of false = refl

pub known_cell : (x : Rules) (question : Question) (cell : Cell) (s : State)
    → DecidesAs x question cell s → IsDecidedAt x question s (known_in x question cell)
unfolding known_in
known_cell x question cell s d = record {
  holds = λ number rule e asked.
      ap (λ b. b && is_yes (rule_truth x cell number)) asked
      ∙ ap is_yes (d.each number rule e asked) ∙ yes_of (premise_holds x s rule);
  fails = λ number rule e asked.
      ap (λ b. b && is_no (rule_truth x cell number)) asked
      ∙ ap is_no (d.each number rule e asked) ∙ no_of (premise_holds x s rule);
}

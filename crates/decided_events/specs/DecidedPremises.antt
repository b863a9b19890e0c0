-- Where what is known of premises is decided at a state.
use Rattle.std.specs.Prelude.{◌≡◌, ℕ, true, not, Some, slice_get, if◌then◌else◌}
use Rattle.rule_types.specs.declared.rule.Rule.{Rule}
use Rattle.rule_types.specs.declared.rules.Rules.{Rules}
use Rattle.rule_types.specs.declared.state.State.{State}
use Rattle.rule_meaning.specs.Premise.{premise_holds}
use Rattle.verdict_meaning.specs.declared.cell.Cell.{Cell}
use Rattle.verdict_meaning.specs.declared.question.Question.{Question}
use Rattle.verdict_meaning.specs.declared.truth.Truth.TheVariants.{Yes, No}
use Rattle.verdict_meaning.specs.Premises.{rule_truth}
use Rattle.verdict_meaning.specs.Questions.{is_asked}
use Rattle.verdict_meaning.specs.Shown.{KnownPremises}

-- What is known of premises is decided for a question at a state: each premise of the question's
-- rules is known to hold exactly where it holds there, and known to fail exactly where it does not.
pub record IsDecidedAt (x : Rules) (question : Question) (s : State) (known : KnownPremises) :
    Type 0 where
  pub holds :
      (number : ℕ) (rule : Rule) → slice_get x.rules number ≡ Some rule
      → is_asked x question number ≡ true → known.holds number ≡ premise_holds x s rule
  pub fails :
      (number : ℕ) (rule : Rule) → slice_get x.rules number ≡ Some rule
      → is_asked x question number ≡ true → known.fails number ≡ not (premise_holds x s rule)

-- A box decides a question as a state does: each premise of the question's rules is Yes in the box
-- where it holds at the state, and No where it does not.
pub record DecidesAs (x : Rules) (question : Question) (cell : Cell) (s : State) : Type 0 where
  pub each :
      (number : ℕ) (rule : Rule) → slice_get x.rules number ≡ Some rule
      → is_asked x question number ≡ true
      → rule_truth x cell number ≡ (if premise_holds x s rule then Yes else No)

-- The values of a state for the rules of a question.
use Rattle.rule_types.specs.declared.rules.Rules.{Rules}
use Rattle.rule_types.specs.declared.state.State.{State}
use Rattle.rule_types.specs.Fitting.{FitsRules}
use Rattle.rule_types.specs.WellFormed.{WellFormed}
use Rattle.premise_eval.specs.Kept.{Kept, IsPlan, IsMade}
use Rattle.verdict_meaning.specs.declared.question.Question.{Question}
use Rattle.verdict_meaning.specs.Questions.{asked_rules}

-- the values were made of a state for the names that a question's rules use
pub record IsReading (x : Rules) (question : Question) (s : State) (kept : Kept) : Type 0 where
  pub formed : WellFormed x
  pub fits : FitsRules x s
  pub plan : IsPlan x kept
  pub made : IsMade x (asked_rules x question) s kept

-- What an action is told of its link.
use Rattle.std.specs.Prelude.{◌≡◌, ℕ, Some, List, slice_get}
use Rattle.std.specs.List.{AllZip}
use Rattle.rule_types.specs.declared.rules.Rules.{Rules}
use Rattle.rule_types.specs.declared.state.State.{State}
use Rattle.rule_types.specs.Fitting.{FitsRules}
use Rattle.rule_types.specs.WellFormed.{WellFormed}
use Rattle.rule_meaning.specs.Worth.{old_target, rate_of, is_pump}
use Rattle.premise_eval.specs.Kept.{Kept, IsPlan, IsMade}
use Rattle.action_values.specs.declared.link.LinkFacts.{LinkFacts}

-- values that were made of a state of well formed rules
pub record IsSound (x : Rules) (s : State) (kept : Kept) : Type 0 where
  pub formed : WellFormed x
  pub fits : FitsRules x s
  pub plan : IsPlan x kept
  pub made : IsMade x x.rules s kept

-- the old target of a link, its rate and whether it is a pump
pub record IsLink (x : Rules) (s : State) (link : ℕ) (facts : LinkFacts) : Type 0 where
  pub target : facts.target ≡ old_target x s link
  pub rate : facts.rate ≡ rate_of x link
  pub pump : facts.pump ≡ is_pump x link

-- the places of the controlled links among the tracked ones
unfoldable pub ControlledPlaces : Rules → List ℕ → Type 0
ControlledPlaces x places =
    AllZip (λ link place. slice_get x.tracked place ≡ Some link) x.controlled places

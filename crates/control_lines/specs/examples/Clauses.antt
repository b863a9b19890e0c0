-- The stages that lists of clauses come to, worked out by hand.
use Rattle.std.specs.Prelude.{◌≡◌, List, [], ◌∷◌, Option, None, Some}
use Rattle.control_lines.specs.Clauses.{stage_after}
use Rattle.control_lines.specs.declared.clause.Clause.{Clause}
use Rattle.control_lines.specs.declared.clause.Clause.TheVariants.{Declaration, Head, Premise}
use Rattle.control_lines.specs.declared.clause.Clause.TheVariants.{MorePremise, Then, MoreActions}
use Rattle.control_lines.specs.declared.clause.Clause.TheVariants.{Else, Priority}
use Rattle.control_lines.specs.declared.clause.Stage.{Stage}
use Rattle.control_lines.specs.declared.clause.Stage.TheVariants.{Outside, Headed, InPremise}
use Rattle.control_lines.specs.declared.clause.Stage.TheVariants.{InThen, InElse, Ranked}

-- the stage of a file after these clauses
abbrev pub after : List Clause → Option Stage
after clauses = stage_after Outside clauses

-- the stage of a file after a whole rule of one condition and one action, and then these clauses
abbrev pub after_rule : List Clause → Option Stage
after_rule clauses = stage_after Outside (Head ∷ Premise ∷ Then ∷ clauses)

pub record AreOrders : Type 0 where
  pub start : after [] ≡ Some Outside
  pub declared : after (Declaration ∷ Declaration ∷ []) ≡ Some Outside
  pub headed : after (Declaration ∷ Head ∷ []) ≡ Some Headed
  pub conditions : after (Head ∷ Premise ∷ MorePremise ∷ MorePremise ∷ []) ≡ Some InPremise
  pub actions : after_rule (MoreActions ∷ MoreActions ∷ []) ≡ Some InThen
  pub otherwise : after_rule (MoreActions ∷ Else ∷ MoreActions ∷ []) ≡ Some InElse
  pub ranked : after_rule (Priority ∷ []) ≡ Some Ranked
  pub ranked_behind_else : after_rule (Else ∷ Priority ∷ []) ≡ Some Ranked
  pub next_rule : after_rule (Head ∷ []) ≡ Some Headed
  pub next_rule_behind_else : after_rule (Else ∷ Head ∷ []) ≡ Some Headed
  pub next_rule_behind_priority : after_rule (Priority ∷ Head ∷ []) ≡ Some Headed
  pub declared_behind_rule : after_rule (Declaration ∷ []) ≡ Some Outside
  pub no_rule : after (Premise ∷ []) ≡ None
  pub no_condition : after (Head ∷ Then ∷ []) ≡ None
  pub second_head : after (Head ∷ Head ∷ []) ≡ None
  pub declared_in_head : after (Head ∷ Declaration ∷ []) ≡ None
  pub declared_in_premise : after (Head ∷ Premise ∷ Declaration ∷ []) ≡ None
  pub second_premise : after (Head ∷ Premise ∷ Premise ∷ []) ≡ None
  pub second_then : after_rule (Then ∷ []) ≡ None
  pub second_else : after_rule (Else ∷ Else ∷ []) ≡ None
  pub second_priority : after_rule (Priority ∷ Priority ∷ []) ≡ None
  pub condition_behind_then : after_rule (MorePremise ∷ []) ≡ None
  pub action_behind_priority : after_rule (Priority ∷ MoreActions ∷ []) ≡ None
  pub else_behind_priority : after_rule (Priority ∷ Else ∷ []) ≡ None
  pub action_behind_declaration : after_rule (Declaration ∷ MoreActions ∷ []) ≡ None
  pub priority_in_premise : after (Head ∷ Premise ∷ Priority ∷ []) ≡ None
  pub else_in_premise : after (Head ∷ Premise ∷ Else ∷ []) ≡ None

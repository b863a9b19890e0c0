-- What is known of rules and names as far as they are read.
use Rattle.std.specs.Prelude.{◌≡◌, true, ℕ, ◌+◌, ◌<◌, ◌≤◌, List, [], ◌++◌, length}
use Rattle.std.specs.Prelude.{slice_get, All}
use Rattle.std.specs.Prelude.{Option, Some, IfSome, IsSome}
use Rattle.std.specs.List.{range_with_len}
use Rattle.object_index.specs.Holding.{HoldsRule, HoldsKind}
use Rattle.object_index.specs.Objects.{Objects}
use Rattle.rule_types.specs.Reading.{pid_numbers}
use Rattle.rule_types.specs.WellFormed.{ConditionFits, WhatFits, IsOpened, KindFits, RuleFits}
use Rattle.rule_types.specs.WellFormed.{IsCountable}
use Rattle.rule_types.specs.declared.rules.Rules.{Rules}
use Rattle.rule_types.specs.declared.names.NameDef.{NameDef}
use Rattle.rule_types.specs.declared.rule.Rule.{Rule}
use Rattle.control_lines.specs.Clauses.{is_complete}
use Rattle.control_lines.specs.declared.clause.Stage.{Stage}
use Rattle.control_lines.specs.declared.clause.Stage.TheVariants.{Outside, Headed, InPremise}
use Rattle.control_lines.specs.declared.clause.Stage.TheVariants.{InThen, InElse, Ranked}
use Rattle.rule_parser.specs.Controls.{draft_rules}
use Rattle.rule_parser.specs.Limits.{most_rules, most_names, most_conditions, most_actions}
use Rattle.rule_parser.specs.declared.draft.Draft.{Draft}

-- the parts of a rule by themselves
pub record PartsFit (names : List NameDef) (rule : Rule) : Type 0 where
  pub conditions : All (ConditionFits names) rule.conditions
  pub then_values : All (λ action. WhatFits action.what) rule.then_actions
  pub else_values : All (λ action. WhatFits action.what) rule.else_actions
  pub few_conditions : length rule.conditions ≤ most_conditions
  pub few_then : length rule.then_actions ≤ most_actions
  pub few_else : length rule.else_actions ≤ most_actions

-- a rule has its premise and actions
pub record IsWhole (rule : Rule) : Type 0 where
  pub opened : IsOpened rule.conditions
  pub acting : 0 < length rule.then_actions + length rule.else_actions

-- the parts that a rule has at a stage
abbrev pub HasForm : Stage → Rule → Type 0
HasForm Outside rule = IsWhole rule
HasForm Headed rule =
    (rule.conditions ≡ []) × (rule.then_actions ≡ []) × (rule.else_actions ≡ [])
HasForm InPremise rule =
    IsOpened rule.conditions × (rule.then_actions ≡ []) × (rule.else_actions ≡ [])
HasForm InThen rule = IsWhole rule × (rule.else_actions ≡ [])
HasForm InElse rule = IsWhole rule × (0 < length rule.else_actions)
HasForm Ranked rule = IsWhole rule

-- the last rule, at a stage
pub record LastFits (objects : Objects) (names : List NameDef) (stage : Stage) (rule : Rule) :
    Type 0 where
  pub parts : PartsFit names rule
  pub held : HoldsRule objects rule
  pub form : HasForm stage rule

-- there is a last rule, where there has to be one
abbrev pub IsBegun : Stage → Option Rule → Type 0
IsBegun Outside last = Unit {0}
IsBegun Headed last = IsSome last
IsBegun InPremise last = IsSome last
IsBegun InThen last = IsSome last
IsBegun InElse last = IsSome last
IsBegun Ranked last = IsSome last

-- each name fits, whatever names come behind
abbrev pub NamesFitFirst : List NameDef → Type 0
NamesFitFirst names =
    (later : List NameDef) (at : ℕ) (named : NameDef) → slice_get names at ≡ Some named
    → KindFits (names ++ later) at named.stands_for

-- what is read so far fits
pub record DraftFits (objects : Objects) (draft : Draft) : Type 0 where
  pub closed : All (RuleFits draft.names) draft.closed
  pub closed_held : All (HoldsRule objects) draft.closed
  pub last : IfSome draft.last (LastFits objects draft.names draft.stage)
  pub begun : IsBegun draft.stage draft.last
  pub names : NamesFitFirst draft.names
  pub names_held : All (λ named. HoldsKind objects named.stands_for) draft.names
  pub pids : pid_numbers (draft_rules draft) ≡ range_with_len 0 draft.pids
  pub few_rules : length (draft_rules draft) ≤ most_rules
  pub few_names : length draft.names ≤ most_names

-- what is read fits, and no rule is unfinished
abbrev pub IsDone : Objects → Draft → Type 0
IsDone objects draft = DraftFits objects draft × (is_complete draft.stage ≡ true)

-- the lists of rules are short enough for their places to be counted in 32 bits
pub record AreCounted (x : Rules) : Type 0 where
  pub inputs : IsCountable x.input_keys
  pub tracked : IsCountable x.tracked
  pub controlled : IsCountable x.controlled

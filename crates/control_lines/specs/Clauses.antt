-- The order of the clauses of [CONTROLS]: each clause is one line (which clauses a rule has, and
-- their order, are those of the SWMM 5.2 manual, [CONTROLS]).
use Rattle.std.specs.Prelude.{Bool, true, false, if◌then◌else◌, Option, None, Some, List, [], ◌∷◌}
use Rattle.std.specs.Prelude.{option_and_then}
use Rattle.control_lines.specs.declared.clause.Clause.{Clause}
use Rattle.control_lines.specs.declared.clause.Clause.TheVariants.{Declaration, Head, Premise}
use Rattle.control_lines.specs.declared.clause.Clause.TheVariants.{MorePremise, Then, MoreActions}
use Rattle.control_lines.specs.declared.clause.Clause.TheVariants.{Else, Priority}
use Rattle.control_lines.specs.declared.clause.Stage.{Stage}
use Rattle.control_lines.specs.declared.clause.Stage.TheVariants.{Outside, Headed, InPremise}
use Rattle.control_lines.specs.declared.clause.Stage.TheVariants.{InThen, InElse, Ranked}

-- whether a rule may begin, a name may be declared, or the file may end there: no rule is begun, or
-- the one that is begun has its actions
abbrev pub is_complete : Stage → Bool
is_complete Outside = true
is_complete Headed = false
is_complete InPremise = false
is_complete InThen = true
is_complete InElse = true
is_complete Ranked = true

-- the stage after a clause, where the clause may come at this stage: a declaration and a head
-- wherever a rule may begin, IF directly after the head, further conditions after conditions, THEN
-- after conditions, further actions after actions, ELSE after the actions of THEN, and PRIORITY
-- after those of THEN or of ELSE
unfoldable pub next_stage : Stage → Clause → Option Stage
next_stage stage Declaration = if is_complete stage then Some Outside else None
next_stage stage Head = if is_complete stage then Some Headed else None
next_stage Headed Premise = Some InPremise
next_stage InPremise MorePremise = Some InPremise
next_stage InPremise Then = Some InThen
next_stage InThen MoreActions = Some InThen
next_stage InElse MoreActions = Some InElse
next_stage InThen Else = Some InElse
next_stage InThen Priority = Some Ranked
next_stage InElse Priority = Some Ranked
next_stage stage clause = None

-- the stage after some clauses, where each may come after those before it
abbrev pub stage_after : Stage → List Clause → Option Stage
stage_after stage [] = Some stage
stage_after stage (clause ∷ later) =
    option_and_then (λ next. stage_after next later) (next_stage stage clause)

-- whether an AND is read as a condition alone: after a condition
abbrev pub is_premise : Stage → Bool
is_premise InPremise = true
is_premise stage = false

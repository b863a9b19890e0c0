-- How a replay ends, and what is said of it.
use Rattle.std.specs.Prelude.{ℕ, ◌+◌, List, ◌++◌, codes, Option, Some, None}
use Rattle.std.specs.Fmt.{decimal}
use Rattle.std.specs.Prelude.{[], slice_get}
use Rattle.rule_types.specs.declared.action.ActionAt.{ActionAt}
use Rattle.rule_types.specs.declared.action.Branch.{Branch}
use Rattle.rule_types.specs.declared.action.Branch.TheVariants.{Then, Otherwise}
use Rattle.rule_types.specs.declared.names.NameDef.{NameDef}
use Rattle.rule_types.specs.declared.stop.Stop.{Stop}
use Rattle.rule_types.specs.declared.stop.StopCause.{StopCause}
use Rattle.rule_types.specs.declared.stop.StopCause.TheVariants.{Overflow, ZeroDivisor}
use Rattle.rule_types.specs.declared.stop.StopPlace.{StopPlace}
use Rattle.rule_types.specs.declared.stop.StopPlace.TheVariants as place
use Rattle.trace_csv.specs.Causes.{fault_text}
use Rattle.trace_csv.specs.declared.fault.TraceCause.{TraceCause}

-- How a replay ends: at the end of the trace; at the first faulty line, with its number and its
-- cause; at the first row that stops, with the number of its line; or at the first line that
-- reaches past the budget of bytes.
pub data End : Type 0 where
  Finished : End
  Faulty : ℕ → TraceCause → End
  Stopped : ℕ → Stop → End
  Overrun : End

-- the word of a stop
abbrev pub stop_word : StopCause → List ℕ
stop_word Overflow = codes "Overflow"
stop_word ZeroDivisor = codes "ZeroDivisor"

-- the name at a place
abbrev pub name_of : Option NameDef → List ℕ
name_of None = []
name_of (Some named) = named.name

-- the word of a branch, between blanks
abbrev pub branch_word : Branch → List ℕ
branch_word Then = codes " then "
branch_word Otherwise = codes " else "

-- where a reading stops: `name NAME`, or `rule R then A`, where rules and the actions of a branch
-- are counted from 1
abbrev pub name_place : List NameDef → ℕ → List ℕ
name_place names name = codes "name " ++ name_of (slice_get names name)

abbrev pub branch_place : Branch → ℕ → List ℕ
branch_place branch action = branch_word branch ++ decimal (action + 1)

abbrev pub action_place : ActionAt → List ℕ
action_place at = codes "rule " ++ decimal (at.rule + 1) ++ branch_place at.branch at.action

abbrev pub place_text : List NameDef → StopPlace → List ℕ
place_text names (place.Name name) = name_place names name
place_text names (place.Action at) = action_place at

-- why and where a reading stops
abbrev pub stop_told : List NameDef → Stop → List ℕ
stop_told names stop = stop_word stop.cause ++ codes " in " ++ place_text names stop.place

-- the report of a stop at a line, `error: trace line L: Overflow in name NAME`
abbrev pub stop_text : List NameDef → ℕ → Stop → List ℕ
stop_text names line stop =
    codes "error: trace line " ++ decimal line ++ codes ": " ++ stop_told names stop

-- what is said of an end, and nothing where the trace was replayed to its end
abbrev pub end_text : List NameDef → End → Option (List ℕ)
end_text names Finished = None
end_text names (Faulty line cause) = Some (fault_text line cause)
end_text names (Stopped line stop) = Some (stop_text names line stop)
end_text names Overrun = Some (codes "error: trace too long")

-- What readings by tables keep.
use Rattle.std.specs.Prelude.{◌≡◌, ℕ, ◌≤◌, Bool, Option, List, length}
use Rattle.rule_types.specs.declared.action.ActionAt.{ActionAt}
use Rattle.rule_types.specs.declared.rules.Rules.{Rules}
use Rattle.rule_types.specs.declared.state.State.{State}
use Rattle.rule_types.specs.Reading.{pid_count}
use Rattle.premise_eval.specs.Kept.{Kept, IsPlan}
use Rattle.premise_eval.specs.declared.column.Column.{Column}
use Rattle.action_values.specs.Links.{ControlledPlaces}
use Rattle.table_plan.specs.Plan.{Plan}
use Rattle.table_run.specs.Pids.{listed_pids}
use Rattle.table_run.specs.Planned.{AreFirsts}
use Rattle.table_run.specs.internal.PidRules.{pid_rules}
use Rattle.table_run.specs.internal.Sources.{AreSources}

-- a plan of tables, and for each of its columns the number of the column of the values that has its
-- side; the pieces at the last reading and what the tables ordered there; and room for the next
-- reading
pub record PlannedKit : Type 0 where
  pub plan : Plan
  pub sources : List (Option ℕ)
  pub pieces : List (Option ℕ)
  pub firsts : List (Option ActionAt)
  pub fresh : List (Option ℕ)
  pub next : List (Option ActionAt)

-- the pairs are what the tables of a plan order by these pieces, where some conditions hold
pub record KeepsFirsts (plan : Plan) (pieces : List (Option ℕ)) (firsts : List (Option ActionAt)) :
    Type 0 where
  pub truth : ActionAt → ℕ → Bool
  pub are : AreFirsts plan pieces truth firsts

-- what is kept serves rules and values of these columns
pub record IsPlanned (x : Rules) (among : List Column) (kit : PlannedKit) : Type 0 where
  pub sources : AreSources x among kit.plan.columns kit.sources
  pub kept : KeepsFirsts kit.plan kit.pieces kit.firsts
  pub pieces : length kit.pieces ≡ length kit.plan.columns
  pub firsts : length kit.firsts ≡ length x.controlled
  pub fresh : length kit.fresh ≡ length kit.plan.columns
  pub next : length kit.next ≡ length x.controlled

-- room for the pairs of PID actions that rules list
unfoldable pub HasPidRoom : Rules → ℕ → Type 0
HasPidRoom x room = (s : State) → length (listed_pids x s) ≤ room

-- the values of the sides of conditions, the places of the controlled links, the rules that have a
-- PID action, room for the pairs of these and for memories, and the planned tables
pub record TableKit : Type 0 where
  pub kept : Kept
  pub places : List ℕ
  pub pids : List ℕ
  pub pairs : ℕ
  pub memories : ℕ
  pub planned : PlannedKit

-- what is kept serves rules, with so many memories
pub record IsTableKit (x : Rules) (count : ℕ) (kit : TableKit) : Type 0 where
  pub plan : IsPlan x kit.kept
  pub places : ControlledPlaces x kit.places
  pub pids : kit.pids ≡ pid_rules 0 x.rules
  pub pairs : HasPidRoom x kit.pairs
  pub memories : kit.memories ≡ count
  pub planned : IsPlanned x kit.kept.columns kit.planned

-- it has a kit for the rules and their PID actions, and room for an order of each controlled link
pub record HasTableRoom (x : Rules) (kit : TableKit) (room : ℕ) : Type 0 where
  pub serves : IsTableKit x (pid_count x.rules) kit
  pub orders : length x.controlled ≤ room

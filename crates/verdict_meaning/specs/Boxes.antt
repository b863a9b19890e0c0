-- Boxes of states, and the states of the ranges.
use Rattle.std.specs.Prelude.{◌≡◌, ℕ, Bool, if◌then◌else◌, Option, Some, None, IsTrue, IfSome}
use Rattle.std.specs.Prelude.{List, [], ◌∷◌, map, All, ℤ, ◌≤ℤ◌}
use Rattle.exact_fraction.specs.Number.{Rational, zero, one}
use Rattle.interval_sets.specs.declared.interval.Interval.{Interval}
use Rattle.interval_sets.specs.Intervals.{lies_in}
use Rattle.rule_types.specs.declared.action.PidMemory.{PidMemory}
use Rattle.rule_types.specs.declared.key.Attr.TheVariants.{Setting, TimeOpen, TimeClosed}
use Rattle.rule_types.specs.declared.key.Key.{Key}
use Rattle.rule_types.specs.declared.key.Key.TheVariants.{Object, Clock}
use Rattle.rule_types.specs.declared.rules.Rules.{Rules}
use Rattle.rule_types.specs.declared.state.State.{State}
use Rattle.rule_types.specs.Fitting.{FitsRules}
use Rattle.rule_meaning.specs.Pid.{IsKept}
use Rattle.rule_meaning.specs.State.{value, link_state}
use Rattle.verdict_meaning.specs.declared.cell.Cell.{Cell}
use Rattle.verdict_meaning.specs.declared.question.Question.{Question}
use Rattle.verdict_meaning.specs.declared.ranges.Ranges.{Ranges}
use Rattle.verdict_meaning.specs.Hulls.{closed}
use Rattle.verdict_meaning.specs.Premises.{start_of}
use Rattle.verdict_meaning.specs.Questions.{grid_keys, has_moments}
use Rattle.verdict_meaning.specs.Reaches.{piece_in}

-- ---- boxes

-- a moment lies from a first to a last one
pub record IsMomentIn (span : ℤ × ℤ) (moment : ℤ) : Type 0 where
  pub from_first : span.0 ≤ℤ moment
  pub to_last : moment ≤ℤ span.1

-- the value of a key, where the state has one, lies in the interval
abbrev pub IsEntryOf : Rules → State → Key × Interval → Type 0
IsEntryOf x s entry = IfSome (value x s entry.0) (λ q. IsTrue (lies_in entry.1 q))

-- a state is in a box: each key that the state has lies in its interval, and the moment lies
-- between the first and the last one
pub record IsInBox (x : Rules) (cell : Cell) (s : State) : Type 0 where
  pub keys : All (IsEntryOf x s) cell.keys
  pub moment : IfSome cell.moments (λ span. IsMomentIn span s.moment)

-- the key can be missing: it is a timer
abbrev pub IsTimer : Key → Type 0
IsTimer (Object object TimeOpen) = Unit {0}
IsTimer (Object object TimeClosed) = Unit {0}
IsTimer (Object object attribute) = ⊥
IsTimer (Clock attribute) = ⊥

-- the state has the key, unless it is a timer
abbrev pub HasKey : Rules → State → Key → Type 0
HasKey x s key = value x s key ≡ None → IsTimer key

-- A state of which boxes with the keys of this one speak: it fits the rules, has every key but
-- timers, its step is the declared one, and where the box has moments its start is that of the
-- ranges.
pub record IsStateFor (x : Rules) (cell : Cell) (s : State) : Type 0 where
  pub fits : FitsRules x s
  pub step : s.step ≡ x.routing_step
  pub present : All (λ entry. HasKey x s entry.0) cell.keys
  pub start : IfSome cell.moments (λ span. s.start ≡ start_of x)

pub record IsStateIn (x : Rules) (cell : Cell) (s : State) : Type 0 where
  pub state : IsStateFor x cell s
  pub inside : IsInBox x cell s

-- ---- ranges

-- the range of a key; that of a SETTING without a line is from 0 to 1
abbrev pub range_or : Option Interval → Interval
range_or None = closed zero one
range_or (Some range) = range

-- the first box of a question: the range of each key of the grid, and the moments where the grid
-- has them
unfoldable pub first_box : Rules → Question → Ranges → Cell
first_box x question ranges =
    record {
      keys = map (λ key. (key, range_or (piece_in key ranges.keys))) (grid_keys x question);
      moments = if has_moments x question then ranges.moments else None;
    }

-- the target of a link lies in the range of its SETTING
abbrev pub IsTargetIn : Rules → State → Interval → Key → Type 0
IsTargetIn x s range (Object object Setting) =
    IfSome (link_state x s object.index) (λ link. IsTrue (lies_in range link.target))
IsTargetIn x s range (Object object attribute) = Unit {0}
IsTargetIn x s range (Clock attribute) = Unit {0}

-- each PID action has two errors that it can keep
abbrev pub HasKeptMemories : (ℕ → PidMemory) → Type 0
HasKeptMemories memory = (number : ℕ) → IsKept (memory number)

-- The states of the ranges, for one question: each key of the grid that can't be missing is present
-- and in its range, and so is the target of each link whose SETTING is in the grid; a timer of the
-- grid that is present is in its range; the step is the declared one; where the grid has moments,
-- the moment is one of them and the start is that of the ranges; the memories are any that PID
-- actions keep.
pub record IsInRanges (x : Rules) (question : Question) (ranges : Ranges) (memory : ℕ → PidMemory)
    (s : State) : Type 0 where
  pub state : IsStateFor x (first_box x question ranges) s
  pub inside : IsInBox x (first_box x question ranges) s
  pub targets :
      All (λ entry. IsTargetIn x s entry.1 entry.0) (first_box x question ranges).keys
  pub memories : HasKeptMemories memory

-- The rules are prepared for ranges: they have their start and their step.
pub record IsPrepared (x : Rules) (ranges : Ranges) : Type 0 where
  pub start : x.start ≡ Some ranges.start
  pub step : x.routing_step ≡ ranges.step

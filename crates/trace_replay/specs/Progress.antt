-- How far a replay has come.
use Rattle.std.specs.Prelude.{◌≡◌, ℕ, Some, List, length, slice_get}
use Rattle.std.specs.List.{AllZip}
use Rattle.rule_types.specs.declared.rules.Rules.{Rules}
use Rattle.rule_types.specs.Reading.{pid_count}
use Rattle.rule_meaning.specs.History.{stayed, controlled_settings}
use Rattle.replay_meaning.specs.Kept.{Kept}
use Rattle.trace_replay.specs.declared.progress.Progress.{Progress}

-- what is kept of the rows so far
abbrev pub kept_of : Progress → Kept
kept_of progress = record {
  standings = stayed progress.links.items;
  switches = progress.switches.items;
  memories = progress.memories.items;
  start = progress.start;
  last = progress.last;
  due = progress.due;
  stop = progress.stop;
}

-- the places of the controlled links among the tracked ones
abbrev pub ArePlaces : Rules → List ℕ → Type 0
ArePlaces x places =
    AllZip (λ link place. slice_get x.tracked place ≡ Some link) x.controlled places

-- It is the progress of a replay of these rules: it has room for their links, inputs and PID
-- actions, and the settings of the controlled links stand in a list of their own.
pub record IsProgressOf (x : Rules) (progress : Progress) : Type 0 where
  pub links : length progress.links.items ≡ length x.tracked
  pub switches : length progress.switches.items ≡ length x.tracked
  pub inputs : length progress.inputs.items ≡ length x.input_keys
  pub memories : length progress.memories.items ≡ pid_count x.rules
  pub places : ArePlaces x progress.places.items
  pub settings :
      progress.settings.items ≡ controlled_settings x (stayed progress.links.items)

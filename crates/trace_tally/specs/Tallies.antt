-- What a replay of rows comes to: how often the settings of the controlled links changed, and what
-- they are at its end. Rows are listed with the newest first.
use Rattle.std.specs.Prelude.{ℕ, ◌+◌, if◌then◌else◌, List, [], ◌∷◌, Result, Ok, Err}
use Rattle.exact_fraction.specs.Number.{Rational}
use Rattle.exact_fraction.specs.Order.{same}
use Rattle.rule_types.specs.declared.row.Row.{Row}
use Rattle.rule_types.specs.declared.rules.Rules.{Rules}
use Rattle.rule_types.specs.Tables.{TableSet}
use Rattle.rule_meaning.specs.History.{controlled_settings}
use Rattle.rule_meaning.specs.Reading.{Choice}
use Rattle.rule_meaning.specs.Replay.{replayed_by, standings_now_by}

-- the settings of the controlled links after some rows, in link order: the initial ones before the
-- first row
abbrev pub settings_after : Choice → Rules → TableSet → List Row → List Rational
settings_after choice x tables rows =
    controlled_settings x (standings_now_by choice x tables (replayed_by choice x tables rows))

-- how many of these settings are other numbers than those before
abbrev pub changes : List Rational → List Rational → ℕ
changes [] now = 0
changes (old ∷ before) [] = 0
changes (old ∷ before) (new ∷ now) = (if same old new then 0 else 1) + changes before now

-- how many pairs of a row and a controlled link there are whose setting changed there
abbrev pub switches_in : Choice → Rules → TableSet → List Row → ℕ
switches_in choice x tables [] = 0
switches_in choice x tables (row ∷ older) =
    switches_in choice x tables older
    + changes (settings_after choice x tables older) (settings_after choice x tables (row ∷ older))

-- the switches of a replay, and the settings after its last row
pub record Tally : Type 0 where
  pub switches : ℕ
  pub settings : List Rational

abbrev pub tally_of : Choice → Rules → TableSet → List Row → Tally
tally_of choice x tables rows = record {
  switches = switches_in choice x tables rows;
  settings = settings_after choice x tables rows;
}

-- the same of the rows of a trace, or the line that refuses it
abbrev pub tallied : Choice → Rules → TableSet → Result (List Row) (List ℕ)
    → Result Tally (List ℕ)
tallied choice x tables (Ok rows) = Ok (tally_of choice x tables rows)
tallied choice x tables (Err line) = Err line

-- The states that a replay makes of the rows of a trace. Lists of rows and of states have the
-- newest first.
use Rattle.std.specs.Prelude.{◌≡◌, ℕ, Bool, ◌&&◌, ◌||◌, if◌then◌else◌, Option, Some, None, Result}
use Rattle.std.specs.Prelude.{Ok, Err}
use Rattle.std.specs.Prelude.{IsTrue, List, [], ◌∷◌, length, slice_get, ℤ, ◌-ℤ◌, ◌≤ℤ◌, ◌<ℤ◌}
use Rattle.exact_fraction.specs.Number.{Rational, whole, zero, one}
use Rattle.exact_fraction.specs.Order.{◌≤ℚ◌, less, same}
use Rattle.exact_fraction.specs.Moments.{IsMoment}
use Rattle.rule_types.specs.declared.row.Row.{Row}
use Rattle.rule_types.specs.declared.rules.Rules.{Rules}
use Rattle.rule_types.specs.declared.state.LinkState.{LinkState}
use Rattle.rule_types.specs.declared.state.State.{State}
use Rattle.rule_types.specs.declared.stop.Stop.{Stop}
use Rattle.rule_types.specs.Tables.{TableSet}
use Rattle.rule_types.specs.WellFormed.{has_rate}
use Rattle.rule_meaning.specs.Clock.{hours_of}
use Rattle.rule_meaning.specs.History.{last_due, Standing, reading_by, standings_by}
use Rattle.rule_meaning.specs.Reading.{Choice, settling}

-- links at first: each stands at its initial setting, which is its target too
unfoldable pub first_standings : List Rational → List Standing
first_standings [] = []
first_standings (initial ∷ more) =
    record { setting = initial; target = initial } ∷ first_standings more

-- where the tracked links stand after some states
abbrev pub standings_now_by : Choice → Rules → TableSet → List State → List Standing
standings_now_by choice x tables [] = first_standings x.initial
standings_now_by choice x tables (s ∷ older) = standings_by choice x tables older s

-- whether a link is switched: its setting is above 0 and was 0, or it is 0 and was above 0 (SWMM
-- 5.2 manual, [CONTROLS], TIMEOPEN and TIMECLOSED)
unfoldable pub is_switch : Rational → Rational → Bool
is_switch was now = (same was zero && less zero now) || (less zero was && same now zero)

-- the moment of each link's last switch, after a row at a moment that took the links from one
-- place to another
unfoldable pub switches_after :
    ℤ → List LinkState → List Standing → List (Option ℤ) → List (Option ℤ)
switches_after moment [] new switches = []
switches_after moment (old ∷ links) [] switches = []
switches_after moment (old ∷ links) (at ∷ new) [] = []
switches_after moment (old ∷ links) (at ∷ new) (last ∷ switches) =
    (if is_switch old.setting at.setting then Some moment else last)
    ∷ switches_after moment links new switches

-- no link was switched yet
unfoldable pub unswitched : List ℕ → List (Option ℤ)
unswitched [] = []
unswitched (link ∷ links) = None ∷ unswitched links

-- the moment of the last row that switched a tracked link, due or not, for each of them
abbrev pub last_switches_by : Choice → Rules → TableSet → List State → List (Option ℤ)
last_switches_by choice x tables [] = unswitched x.tracked
last_switches_by choice x tables (s ∷ older) =
    switches_after s.moment s.links
    (standings_by choice x tables older s) (last_switches_by choice x tables older)

-- the start after some states, if it is known: the one of the rules, or the moment of the first
-- row where they have none (SWMM 5.2 manual, [OPTIONS], START_DATE)
abbrev pub start_after : Option ℤ → List State → Option ℤ
start_after (Some start) older = Some start
start_after None [] = None
start_after None (last ∷ older) = Some last.start

-- the start of a row: the one that is known, else the row's own moment
abbrev pub start_or : Option ℤ → ℤ → ℤ
start_or (Some start) moment = start
start_or None moment = moment

abbrev pub start_of : Option ℤ → List State → ℤ → ℤ
start_of start older moment = start_or (start_after start older) moment

-- the moment of the last one of some states
abbrev pub last_moment : List State → Option ℤ
last_moment [] = None
last_moment (s ∷ older) = Some s.moment

-- the seconds since the last row that was due, and the routing step at the first row
abbrev pub step_since : Rational → Option ℤ → ℤ → Rational
step_since routing_step None moment = routing_step
step_since routing_step (Some last) moment = whole (moment -ℤ last)

-- the moment from which a link's timer counts: its last switch, and the start where there was
-- none (SWMM 5.2 manual, [CONTROLS], TIMEOPEN and TIMECLOSED)
abbrev pub counted_from : ℤ → Option ℤ → ℤ
counted_from start None = start
counted_from start (Some switch) = switch

-- the hours since then
abbrev pub timer_at : ℤ → Option ℤ → ℤ → Rational
timer_at start switch moment = hours_of (moment -ℤ counted_from start switch)

-- the links of a state: where they stand, and their timers
unfoldable pub links_at : ℤ → ℤ → List Standing → List (Option ℤ) → List LinkState
links_at start moment [] switches = []
links_at start moment (at ∷ more) [] = []
links_at start moment (at ∷ more) (switch ∷ switches) =
    record {
      setting = at.setting;
      target = at.target;
      timer = timer_at start switch moment;
    }
    ∷ links_at start moment more switches

-- The state of a row after older states: its moment, the start, the step, its inputs, and each
-- tracked link where it stands after the rows before, with the hours since its last switch.
abbrev pub state_after_by : Choice → Rules → TableSet → List State → Row → State
state_after_by choice x tables older row =
    record {
      moment = row.moment;
      start = start_of x.start older row.moment;
      step = step_since x.routing_step (last_due x.rule_step older) row.moment;
      inputs = row.inputs;
      links =
          links_at (start_of x.start older row.moment) row.moment
          (standings_now_by choice x tables older) (last_switches_by choice x tables older);
    }

-- the states of rows: with one more row, that row's state after those of the rows before
abbrev pub replayed_by : Choice → Rules → TableSet → List Row → List State
replayed_by choice x tables [] = []
replayed_by choice x tables (row ∷ older) =
    state_after_by choice x tables (replayed_by choice x tables older) row
    ∷ replayed_by choice x tables older

-- the stop of a reading, if it stops
abbrev pub stop_of : {A : Type 0} → Result A Stop → Option Stop
stop_of (Ok found) = None
stop_of (Err stop) = Some stop

-- the first stop of two, one after the other
abbrev pub earlier_stop : Option Stop → Option Stop → Option Stop
earlier_stop None later = later
earlier_stop (Some stop) later = Some stop

-- the first stop of the readings of some states
abbrev pub first_stop_by : Choice → Rules → TableSet → List State → Option Stop
first_stop_by choice x tables [] = None
first_stop_by choice x tables (s ∷ older) =
    earlier_stop (first_stop_by choice x tables older)
    (stop_of (reading_by choice x tables older s))

-- the same where each link takes its settled pair (SWMM 5.2 manual, [CONTROLS])
abbrev pub standings_now : Rules → TableSet → List State → List Standing
standings_now x = standings_now_by (settling x) x

abbrev pub last_switches : Rules → TableSet → List State → List (Option ℤ)
last_switches x = last_switches_by (settling x) x

abbrev pub state_after : Rules → TableSet → List State → Row → State
state_after x = state_after_by (settling x) x

abbrev pub replayed : Rules → TableSet → List Row → List State
replayed x = replayed_by (settling x) x

abbrev pub first_stop : Rules → TableSet → List State → Option Stop
first_stop x = first_stop_by (settling x) x

-- a row that a replay can take after older ones: it has one input for each input key, and its
-- moment lies in the years 1 to 9999, is after that of the row before and not before the start
-- of the rules
pub record RowFits (x : Rules) (older : List Row) (row : Row) : Type 0 where
  pub inputs : length row.inputs ≡ length x.input_keys
  pub moment : IsMoment row.moment
  pub started : (start : ℤ) → x.start ≡ Some start → start ≤ℤ row.moment
  pub rising : (last : Row) → slice_get older 0 ≡ Some last → last.moment <ℤ row.moment

-- a link with a rate stands from 0 to 1, and so does its target
pub record IsWithinOne (rate : Rational) (link : LinkState) : Type 0 where
  pub setting : IsTrue (has_rate rate) → link.setting ≤ℚ one
  pub target : IsTrue (has_rate rate) → link.target ≤ℚ one

-- rows that a replay can take
abbrev pub RowsFit : Rules → List Row → Type 0
RowsFit x [] = Unit {0}
RowsFit x (row ∷ older) = RowFits x older row × RowsFit x older

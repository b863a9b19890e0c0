-- What a replay keeps of its states.
use Rattle.std.proofs.Common.{◌≡◌, Option, Some, None, Ok, Err, List, [], ◌∷◌, refl, sym}
use Rattle.std.proofs.Common.{ap, ◌∙◌, ℤ}
use Rattle.std.specs.Prelude.{option_map}
use Rattle.std.specs.List.{All, AllByRecursion, last_or}
use Rattle.std.proofs.lemmas.List.Elements.{All-from_recursion}
use Rattle.rule_types.specs.declared.action.Order.{Order}
use Rattle.rule_types.specs.declared.row.Row.{Row}
use Rattle.rule_types.specs.declared.rules.Rules.{Rules}
use Rattle.rule_types.specs.declared.state.State.{State}
use Rattle.rule_types.specs.declared.stop.Stop.{Stop}
use Rattle.rule_types.specs.Tables.{TableSet}
use Rattle.rule_meaning.specs.History.{reading_by}
use Rattle.rule_meaning.specs.Reading.{Choice, AgreeAt}
use Rattle.rule_meaning.specs.Replay.{standings_now_by, switches_after, last_switches_by, start_of}
use Rattle.rule_meaning.specs.Replay.{links_at}
use Rattle.rule_meaning.specs.Replay.{state_after_by, replayed_by, stop_of, earlier_stop}
use Rattle.rule_meaning.specs.Replay.{first_stop_by}
use Rattle.rule_meaning.proofs.Choices.{all_first, all_later, same_reading, same_standings}

-- ---- the first stop
pub stop_kept : (choice : Choice) (x : Rules) (tables : TableSet) (older : List State) (s : State)
    (stop : Stop)
    → first_stop_by choice x tables older ≡ Some stop
    → first_stop_by choice x tables (s ∷ older) ≡ Some stop
stop_kept choice x tables older s stop h =
    ap (λ o. earlier_stop o (stop_of (reading_by choice x tables older s))) h

pub stop_now : (choice : Choice) (x : Rules) (tables : TableSet) (older : List State) (s : State)
    (stop : Stop)
    → first_stop_by choice x tables older ≡ None → reading_by choice x tables older s ≡ Err stop
    → first_stop_by choice x tables (s ∷ older) ≡ Some stop
stop_now choice x tables older s stop none read = λ i. earlier_stop (none i) (stop_of (read i))

pub no_stop : (choice : Choice) (x : Rules) (tables : TableSet) (older : List State) (s : State)
    (orders : List Order)
    → first_stop_by choice x tables older ≡ None → reading_by choice x tables older s ≡ Ok orders
    → first_stop_by choice x tables (s ∷ older) ≡ None
no_stop choice x tables older s orders none read = λ i. earlier_stop (none i) (stop_of (read i))

-- ---- the start
abbrev first_moment : List Row → Option ℤ
first_moment rows = option_map (λ row. row.moment) (last_or None rows)

dated_by : (choice : Choice) (x : Rules) (tables : TableSet) (rows : List Row) (start : ℤ)
    (o : Option ℤ) → x.start ≡ o → o ≡ Some start
    → AllByRecursion (λ s. s.start ≡ start) (replayed_by choice x tables rows)
dated_by choice x tables [] start o is h = tt
dated_by choice x tables (row ∷ older) start o is h = (
  ap (λ o. start_of o (replayed_by choice x tables older) row.moment)
      (is ∙ h),
  dated_by choice x tables older start o is h,
)

pub dated_start : (choice : Choice) (x : Rules) (tables : TableSet) (rows : List Row) (start : ℤ)
    → x.start ≡ Some start
    → All (λ s. s.start ≡ start) (replayed_by choice x tables rows)
dated_start choice x tables rows start is =
    All-from_recursion (λ s. s.start ≡ start) (replayed_by choice x tables rows)
    (dated_by choice x tables rows start (x.start) refl is)

first_from : (choice : Choice) (x : Rules) (tables : TableSet) (row : Row) (older : List Row)
    (moment : Option ℤ) → x.start ≡ None
    → first_moment (row ∷ older) ≡ moment
    → AllByRecursion (λ s. moment ≡ Some s.start) (replayed_by choice x tables (row ∷ older))
first_from choice x tables row [] moment none is =
    (sym is ∙ ap (λ o. Some (start_of o [] row.moment)) (sym none), tt)
first_from choice x tables row (last ∷ older) moment none is =
    let before = first_from choice x tables last older moment none is in (
      before.0 ∙ ap (λ o. Some (start_of o (replayed_by choice x tables (last ∷ older)) row.moment))
          (sym none),
      before,
    )

undated_by : (choice : Choice) (x : Rules) (tables : TableSet) (rows : List Row) → x.start ≡ None
    → AllByRecursion (λ s. first_moment rows ≡ Some s.start) (replayed_by choice x tables rows)
undated_by choice x tables [] none = tt
undated_by choice x tables (row ∷ older) none =
    first_from choice x tables row older (first_moment (row ∷ older)) none refl

pub undated_start : (choice : Choice) (x : Rules) (tables : TableSet) (rows : List Row)
    → x.start ≡ None
    → All (λ s. option_map (λ row. row.moment) (last_or None rows) ≡ Some s.start)
    (replayed_by choice x tables rows)
undated_start choice x tables rows none =
    All-from_recursion (λ s. first_moment rows ≡ Some s.start) (replayed_by choice x tables rows)
    (undated_by choice x tables rows none)

-- ---- choices that agree
pub same_standings_now : (choice other : Choice) (x : Rules) (tables : TableSet)
    (states : List State) → All (AgreeAt x choice other) states
    → standings_now_by choice x tables states ≡ standings_now_by other x tables states
same_standings_now choice other x tables [] h = refl
same_standings_now choice other x tables (s ∷ older) h =
    same_standings choice other x tables older s
    (all_first (AgreeAt x choice other) s older h) (all_later (AgreeAt x choice other) s older h)

pub same_switches : (choice other : Choice) (x : Rules) (tables : TableSet) (states : List State)
    → All (AgreeAt x choice other) states
    → last_switches_by choice x tables states ≡ last_switches_by other x tables states
same_switches choice other x tables [] h = refl
same_switches choice other x tables (s ∷ older) h =
    let agree = all_first (AgreeAt x choice other) s older h in
    let before = all_later (AgreeAt x choice other) s older h in
    let stand = same_standings choice other x tables older s agree before in
    let switches = same_switches choice other x tables older before in
    λ i. switches_after s.moment s.links (stand i) (switches i)

pub same_first_stop : (choice other : Choice) (x : Rules) (tables : TableSet) (states : List State)
    → All (AgreeAt x choice other) states
    → first_stop_by choice x tables states ≡ first_stop_by other x tables states
same_first_stop choice other x tables [] h = refl
same_first_stop choice other x tables (s ∷ older) h =
    let agree = all_first (AgreeAt x choice other) s older h in
    let before = all_later (AgreeAt x choice other) s older h in
    let stop = same_first_stop choice other x tables older before in
    let read = same_reading choice other x tables older s agree before in
    λ i. earlier_stop (stop i) (stop_of (read i))

same_state_after : (choice other : Choice) (x : Rules) (tables : TableSet) (states : List State)
    (row : Row) → All (AgreeAt x choice other) states
    → state_after_by choice x tables states row ≡ state_after_by other x tables states row
same_state_after choice other x tables states row h =
    let stand = same_standings_now choice other x tables states h in
    let switches = same_switches choice other x tables states h in
    let s = state_after_by choice x tables states row in
    λ i. record {
      moment = s.moment;
      start = s.start;
      step = s.step;
      inputs = s.inputs;
      links = links_at s.start s.moment (stand i) (switches i);
    }

pub same_replayed : (choice other : Choice) (x : Rules) (tables : TableSet) (rows : List Row)
    → All (AgreeAt x choice other) (replayed_by choice x tables rows)
    → replayed_by choice x tables rows ≡ replayed_by other x tables rows
same_replayed choice other x tables [] h = refl
same_replayed choice other x tables (row ∷ older) h =
    let states = replayed_by choice x tables older in
    let before =
    all_later (AgreeAt x choice other) (state_after_by choice x tables states row) states h in
    let same = same_replayed choice other x tables older before in
    ap (λ s. s ∷ states) (same_state_after choice other x tables states row before)
    ∙ ap (λ ss. state_after_by other x tables ss row ∷ ss) same

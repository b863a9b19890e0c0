-- What is kept stands for the rows, row by row.
use Rattle.std.proofs.Common.{◌≡◌, ℕ, zero, suc, Bool, true, false, cond, Option, Some, None, Result, Ok, List, [], ◌∷◌, length, refl, ap, sym, ◌∙◌, replicate, ℤ}
use Rattle.std.proofs.lemmas.List.{length-replicate}
use Rattle.exact_fraction.specs.Number.{Rational}
use Rattle.rule_types.specs.declared.action.Order.{Order}
use Rattle.rule_types.specs.declared.action.PidMemory.{PidMemory}
use Rattle.rule_types.specs.declared.row.Row.{Row}
use Rattle.rule_types.specs.declared.rules.Rules.{Rules}
use Rattle.rule_types.specs.declared.state.State.{State}
use Rattle.rule_types.specs.declared.stop.Stop.{Stop}
use Rattle.rule_types.specs.Fitting.{MemoriesFit}
use Rattle.rule_types.specs.Reading.{pid_count}
use Rattle.rule_types.specs.Tables.{TableSet}
use Rattle.rule_types.specs.WellFormed.{WellFormed}
use Rattle.rule_meaning.specs.History.{is_due_after, is_due, memory_by, memory_read, reading_by, gap_hours, standings_after, standings_by}
use Rattle.rule_meaning.specs.Memories.{memory_of, memories_after}
use Rattle.rule_meaning.specs.Pid.{fresh}
use Rattle.rule_meaning.specs.Reading.{Choice, read_by}
use Rattle.rule_meaning.specs.Replay.{replayed_by, state_after_by, switches_after, start_of, start_or, step_since, links_at, last_moment, stop_of, earlier_stop}
use Rattle.rule_meaning.proofs.PublicLaws.{memories-list, memories-as_many}
use Rattle.replay_meaning.specs.Kept.{Kept, first_kept, state_of, due_at, reading_of, gap_since, standings_at, after_row}
use Rattle.replay_meaning.specs.Standing.{StandsFor}

-- the state of a row
pub state_is : (choice : Choice) (x : Rules) (tables : TableSet) (k : Kept) (rows : List Row) (row : Row)
    → StandsFor choice x tables k rows
    → state_of x k row ≡ state_after_by choice x tables (replayed_by choice x tables rows) row
state_is choice x tables k rows row h = λ i. record {
  moment = row.moment;
  start = h.start row.moment i;
  step = step_since x.routing_step (h.due i) row.moment;
  inputs = row.inputs;
  links = links_at (h.start row.moment i) row.moment (h.standings i) (h.switches i);
}

-- the memories as a function of the number
memories_are : (choice : Choice) (x : Rules) (tables : TableSet) (k : Kept) (rows : List Row) → StandsFor choice x tables k rows
    → memory_of k.memories ≡ memory_by choice x tables (replayed_by choice x tables rows)
memories_are choice x tables k rows h = λ i number. h.memories number i

-- whether a row is due
due_is : (choice : Choice) (x : Rules) (tables : TableSet) (k : Kept) (rows : List Row) (row : Row) → StandsFor choice x tables k rows
    → due_at x k row ≡ is_due x.rule_step (replayed_by choice x tables rows) (state_after_by choice x tables (replayed_by choice x tables rows) row)
due_is choice x tables k rows row h = λ i. is_due_after x.rule_step (h.due i) row.moment

-- the reading of a row
pub reading_is : (choice : Choice) (x : Rules) (tables : TableSet) (k : Kept) (rows : List Row) (row : Row) → StandsFor choice x tables k rows
    → reading_of choice x tables k row
    ≡ reading_by choice x tables (replayed_by choice x tables rows) (state_after_by choice x tables (replayed_by choice x tables rows) row)
reading_is choice x tables k rows row h = λ i.
    cond (due_is choice x tables k rows row h i)
    (read_by choice x tables (state_is choice x tables k rows row h i) (memories_are choice x tables k rows h i))
    (Ok [])

gap_by : (routing_step : Rational) (last : Option ℤ) (older : List State) (s : State) → last ≡ last_moment older
    → gap_since routing_step last s.moment ≡ gap_hours routing_step older s
gap_by routing_step last [] s is = ap (λ m. gap_since routing_step m s.moment) is
gap_by routing_step last (t ∷ older) s is = ap (λ m. gap_since routing_step m s.moment) is

-- where the links stand after a row
pub standings_are : (choice : Choice) (x : Rules) (tables : TableSet) (k : Kept) (rows : List Row) (row : Row) → StandsFor choice x tables k rows
    → standings_at choice x tables k row
    ≡ standings_by choice x tables (replayed_by choice x tables rows) (state_after_by choice x tables (replayed_by choice x tables rows) row)
standings_are choice x tables k rows row h = λ i.
    standings_after x
    (gap_by x.routing_step k.last (replayed_by choice x tables rows) (state_after_by choice x tables (replayed_by choice x tables rows) row) h.last i)
    (state_is choice x tables k rows row h i)
    (reading_is choice x tables k rows row h i)

-- the memory of a number after a row
memory_after : (x : Rules) (due : Bool) (s : State) (before : List PidMemory) (read : Result (List Order) Stop) (number : ℕ) → WellFormed x → MemoriesFit x.rules before
    → memory_of (cond due (memories_after x s before read) before) number
    ≡ cond due (memory_read x s (memory_of before) number read) (memory_of before number)
memory_after x true s before read number formed fits = memories-list x s before number read formed fits
memory_after x false s before read number formed fits = refl

long_after : (x : Rules) (due : Bool) (s : State) (before : List PidMemory) (read : Result (List Order) Stop) → length before ≡ pid_count x.rules
    → length (cond due (memories_after x s before read) before) ≡ pid_count x.rules
long_after x true s before read long = memories-as_many x s before read
long_after x false s before read long = long

-- at a row that is due the reading is the one of the rules
read_is : (due : Bool) (A B : Result (List Order) Stop) (x : Rules) (s : State) (memory : ℕ → PidMemory) (number : ℕ)
    → cond due (memory_read x s memory number (cond due A B)) (memory number) ≡ cond due (memory_read x s memory number A) (memory number)
read_is true A B x s memory number = refl
read_is false A B x s memory number = refl

start_after_row : (start : Option ℤ) (older : List State) (s : State) (moment : ℤ) → s.start ≡ start_of start older s.moment
    → s.start ≡ start_of start (s ∷ older) moment
start_after_row None older s moment is = refl
start_after_row (Some start) older s moment is = is

first_start : (start : Option ℤ) (moment : ℤ) → start_or start moment ≡ start_of start [] moment
first_start None moment = refl
first_start (Some start) moment = refl

all_fresh : (count number : ℕ) → memory_of (replicate count fresh) number ≡ fresh
all_fresh zero number = refl
all_fresh (suc count) zero = refl
all_fresh (suc count) (suc number) = all_fresh count number

-- before the first row
pub stands_first : (choice : Choice) (x : Rules) (tables : TableSet) → StandsFor choice x tables (first_kept x) []
stands_first choice x tables = record {
  standings = refl;
  switches = refl;
  memories = λ number. all_fresh (pid_count x.rules) number;
  memories_long = length-replicate (pid_count x.rules) fresh;
  start = λ moment. first_start x.start moment;
  last = refl;
  due = refl;
  stop = refl;
}

-- one more row
pub stands_with : (choice : Choice) (x : Rules) (tables : TableSet) (k : Kept) (rows : List Row) (row : Row)
    → WellFormed x → k.stop ≡ None → StandsFor choice x tables k rows
    → StandsFor choice x tables (after_row choice x tables k row) (row ∷ rows)
stands_with choice x tables k rows row formed going h =
    let states : List State = replayed_by choice x tables rows in
    let s : State = state_after_by choice x tables states row in
    let fits : MemoriesFit x.rules k.memories = record { count = h.memories_long } in
    record {
      standings = standings_are choice x tables k rows row h;
      switches = λ i.
          switches_after row.moment (state_is choice x tables k rows row h i).links (standings_are choice x tables k rows row h i) (h.switches i);
      memories = λ number.
          memory_after x (due_at x k row) (state_of x k row) k.memories (reading_of choice x tables k row) number formed fits
          ∙ read_is (due_at x k row) (read_by choice x tables (state_of x k row) (memory_of k.memories)) (Ok []) x (state_of x k row) (memory_of k.memories) number
          ∙ (λ i. cond (due_is choice x tables k rows row h i)
          (memory_read x (state_is choice x tables k rows row h i) (memories_are choice x tables k rows h i) number
          (read_by choice x tables (state_is choice x tables k rows row h i) (memories_are choice x tables k rows h i)))
          (memories_are choice x tables k rows h i number));
      memories_long = long_after x (due_at x k row) (state_of x k row) k.memories (reading_of choice x tables k row) h.memories_long;
      start = λ moment. h.start row.moment ∙ start_after_row x.start states s moment refl;
      last = refl;
      due = λ i. cond (due_is choice x tables k rows row h i) (Some row.moment) (h.due i);
      stop = λ i. earlier_stop ((sym going ∙ h.stop) i) (stop_of (reading_is choice x tables k rows row h i));
    }

-- A reading that stops at an action stops there by an overflow.
use Rattle.std.proofs.Common.{◌≡◌, ℕ, suc, Bool, true, false, cond, List, [], ◌∷◌, Option, Some, None, Result, Ok, Err, refl, subst}
use Rattle.std.specs.Prelude.{IfSome}
use Rattle.exact_fraction.specs.Number.{Rational}
use Rattle.exact_fraction.specs.declared.error.Overflow.{Overflow}
use Rattle.rule_types.specs.declared.action.ActionAt.{ActionAt}
use Rattle.rule_types.specs.declared.action.Order.{Order}
use Rattle.rule_types.specs.declared.action.PidMemory.{PidMemory}
use Rattle.rule_types.specs.declared.names.NameDef.{NameDef}
use Rattle.rule_types.specs.declared.row.Row.{Row}
use Rattle.rule_types.specs.declared.rules.Rules.{Rules}
use Rattle.rule_types.specs.declared.state.State.{State}
use Rattle.rule_types.specs.declared.stop.Stop.{Stop}
use Rattle.rule_types.specs.Tables.{TableSet}
use Rattle.rule_meaning.specs.CheckedSteps.{◌>>=◌}
use Rattle.rule_meaning.specs.Formula.{Derived, kind_value, stop_or, stop_from, is_used, names_stop_for, names_stop}
use Rattle.rule_meaning.specs.Memories.{memory_of}
use Rattle.rule_meaning.specs.Pid.{Stepped}
use Rattle.rule_meaning.specs.Premise.{listed}
use Rattle.rule_meaning.specs.Reading.{Choice, conditions_at, pid_at, overflow_or, pids_stop, ordered, action_worth, order_of, order_then, orders_on, unless_stopped, read_by}
use Rattle.rule_meaning.specs.Replay.{stop_of}
use Rattle.rule_meaning.specs.Settled.{action_at}
use Rattle.replay_meaning.specs.Kept.{Kept, state_of, due_at, reading_of}
use Rattle.replay_printer.specs.internal.Ends.{IsReadingStop}

-- the names
name_by : (test : Bool) (at : ℕ) (derived : Derived) (later : Option Stop) → IfSome later IsReadingStop
    → IfSome (cond test (stop_or at derived later) later) IsReadingStop
name_by true at (Ok found) later rest = rest
name_by true at (Err why) later rest = tt
name_by false at derived later rest = rest

names_by : (x : Rules) (asks : ℕ → Bool) (s : State) (at : ℕ) (names : List NameDef) → IfSome (stop_from x asks s at names) IsReadingStop
unfolding stop_from
names_by x asks s at [] = tt
names_by x asks s at (named ∷ names) =
    name_by (asks at) at (kind_value x s named.stands_for) (stop_from x asks s (suc at) names) (names_by x asks s (suc at) names)

names_are : (x : Rules) (s : State) → IfSome (names_stop x s) IsReadingStop
unfolding names_stop_for
names_are x s = names_by x (is_used x x.rules) s 0 x.names

-- the listed PID actions
pid_by : (at : ActionAt) (given : Option (Result Stepped Overflow)) (later : Option Stop) → IfSome later IsReadingStop
    → IfSome (overflow_or at given later) IsReadingStop
pid_by at (Some (Err why)) later rest = refl
pid_by at (Some (Ok stepped)) later rest = rest
pid_by at None later rest = rest

pids_are : (x : Rules) (s : State) (memory : ℕ → PidMemory) (pairs : List ActionAt) → IfSome (pids_stop x s memory pairs) IsReadingStop
unfolding pids_stop
pids_are x s memory [] = tt
pids_are x s memory (at ∷ more) = pid_by at (pid_at x s memory at) (pids_stop x s memory more) (pids_are x s memory more)

-- the pairs that links take
abbrev then_order : Result Order Stop → Result (List Order) Stop → Result (List Order) Stop
then_order order later = order >>= λ first. later >>= λ more. Ok (first ∷ more)

by_worth : (link : ℕ) (at : ActionAt) (worth : Result Rational Overflow) (later : Result (List Order) Stop) → IfSome (stop_of later) IsReadingStop
    → IfSome (stop_of (then_order (ordered link at worth) later)) IsReadingStop
by_worth link at (Err why) later rest = refl
by_worth link at (Ok q) (Ok orders) rest = tt
by_worth link at (Ok q) (Err stop) rest = rest

order_by : (x : Rules) (tables : TableSet) (s : State) (memory : ℕ → PidMemory) (link : ℕ) (taken : Option ActionAt) (later : Result (List Order) Stop)
    → IfSome (stop_of later) IsReadingStop → IfSome (stop_of (order_then x tables s memory link taken later)) IsReadingStop
unfolding order_of
order_by x tables s memory link None later rest = rest
order_by x tables s memory link (Some at) later rest =
    by_worth link at (action_worth x tables s memory (conditions_at x.rules at) (action_at x.rules at)) later rest

orders_are : (choice : Choice) (x : Rules) (tables : TableSet) (s : State) (memory : ℕ → PidMemory) (links : List ℕ)
    → IfSome (stop_of (orders_on choice x tables s memory links)) IsReadingStop
unfolding orders_on
orders_are choice x tables s memory [] = tt
orders_are choice x tables s memory (link ∷ links) =
    order_by x tables s memory link (choice s link) (orders_on choice x tables s memory links) (orders_are choice x tables s memory links)

-- a reading
unless_by : {A : Type 0} (stop : Option Stop) (next : Result A Stop) → IfSome stop IsReadingStop → IfSome (stop_of next) IsReadingStop
    → IfSome (stop_of (unless_stopped stop next)) IsReadingStop
unless_by None next one rest = rest
unless_by (Some stop) next one rest = one

read_is : (choice : Choice) (x : Rules) (tables : TableSet) (s : State) (memory : ℕ → PidMemory)
    → IfSome (stop_of (read_by choice x tables s memory)) IsReadingStop
read_is choice x tables s memory =
    unless_by (names_stop x s) (unless_stopped (pids_stop x s memory (listed x s)) (orders_on choice x tables s memory x.controlled)) (names_are x s)
    (unless_by (pids_stop x s memory (listed x s)) (orders_on choice x tables s memory x.controlled) (pids_are x s memory (listed x s))
    (orders_are choice x tables s memory x.controlled))

by_due : (due : Bool) (read : Result (List Order) Stop) → IfSome (stop_of read) IsReadingStop → IfSome (stop_of (cond due read (Ok []))) IsReadingStop
by_due true read is = is
by_due false read is = tt

-- the reading of a row
pub row_stop : (choice : Choice) (x : Rules) (tables : TableSet) (k : Kept) (row : Row) (stop : Stop)
    → stop_of (reading_of choice x tables k row) ≡ Some stop → IsReadingStop stop
row_stop choice x tables k row stop is =
    subst (λ found. IfSome found IsReadingStop) is
    (by_due (due_at x k row) (read_by choice x tables (state_of x k row) (memory_of k.memories))
    (read_is choice x tables (state_of x k row) (memory_of k.memories)))

-- The answers of a reading that takes memory.
use Rattle.std.specs.Prelude.{◌≡◌, ℕ, Result, Ok, Err, List, Vec}
use Rattle.std.specs.declared.alloc.Global.{Global}
use Rattle.rule_types.specs.declared.action.Order.{Order}
use Rattle.rule_types.specs.declared.action.PidMemory.{PidMemory}
use Rattle.rule_types.specs.declared.rules.Rules.{Rules}
use Rattle.rule_types.specs.declared.state.State.{State}
use Rattle.rule_types.specs.declared.stop.ReadingEnd.{ReadingEnd}
use Rattle.rule_types.specs.declared.stop.ReadingEnd.TheVariants.{Stop, NoMemory}
use Rattle.rule_types.specs.declared.stop.Stop.{Stop as AnyStop}
use Rattle.rule_meaning.specs.History.{memory_read}
use Rattle.rule_meaning.specs.Memories.{memory_of}

-- an answer with its orders as a list
abbrev pub with_items : Result (Vec Order Global) ReadingEnd → Result (List Order) ReadingEnd
with_items (Ok orders) = Ok orders.items
with_items (Err why) = Err why

-- the orders are those of a reading and the stop is its stop; want of memory says nothing of it
abbrev pub Answers : Result (List Order) ReadingEnd → Result (List Order) AnyStop → Type 0
Answers (Ok orders) read = read ≡ Ok orders
Answers (Err (Stop stop)) read = read ≡ Err stop
Answers (Err NoMemory) read = Unit {0}

-- the memories that a reading leaves; after want of memory they are as before
abbrev pub Leaves : Result (List Order) ReadingEnd → Rules → State
    → Result (List Order) AnyStop → List PidMemory → List PidMemory → Type 0
Leaves (Err NoMemory) x s read old new = new ≡ old
Leaves answer x s read old new =
    (number : ℕ) → memory_of new number ≡ memory_read x s (memory_of old) number read

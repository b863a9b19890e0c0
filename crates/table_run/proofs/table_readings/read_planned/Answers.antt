use Rattle.std.proofs.Common.{◌∙◌}
use Rattle.std.specs.Vec.{vec_capacity}
use Rattle.rule_meaning.specs.Memories.{memory_of}
use Rattle.rule_meaning.specs.Reading.{orders_on}
use Rattle.table_run.specs.Planned.{planned}
use Rattle.table_run.proofs.PlannedSteps.{stop_whole, memory_whole, room_open, room_grown}
use Rattle.table_run.proofs.table_readings.read_planned.Goals as goal

pub list_pids-requires-clause-room : goal.list_pids-requires-clause-room
list_pids-requires-clause-room c = room_open c.args.rules.now (vec_capacity c.args.listed.now) c.requires.pairs

pub returns-in-Err-clause-orders : goal.returns-in-Err-clause-orders
returns-in-Err-clause-orders c =
    c.in-Err.ensures.orders (planned c.args.rules.now c.args.planned.now.plan) (c.next.ensures.next ∙ c.read.ensures.next)
    ∙ stop_whole c.args.rules.now c.args.state.now (memory_of c.args.memories.now) c.deref.result.now
    (orders_on (planned c.args.rules.now c.args.planned.now.plan) c.args.rules.now c.args.tables.now c.args.state.now (memory_of c.args.memories.now) c.args.rules.now.controlled)
    (c.deref.ensures.value ∙ c.list_pids.ensures.pairs)

pub returns-in-Err-clause-pairs : goal.returns-in-Err-clause-pairs
returns-in-Err-clause-pairs c =
    room_grown c.args.rules.now (vec_capacity c.args.listed.now) (vec_capacity c.list_pids.new.pairs) c.requires.pairs c.list_pids.ensures.capacity

pub returns-in-Ok-clause-orders : goal.returns-in-Ok-clause-orders
returns-in-Ok-clause-orders c =
    c.in-Ok.ensures.orders (planned c.args.rules.now c.args.planned.now.plan) (c.next.ensures.next ∙ c.read.ensures.next)
    ∙ stop_whole c.args.rules.now c.args.state.now (memory_of c.args.memories.now) c.deref.result.now
    (orders_on (planned c.args.rules.now c.args.planned.now.plan) c.args.rules.now c.args.tables.now c.args.state.now (memory_of c.args.memories.now) c.args.rules.now.controlled)
    (c.deref.ensures.value ∙ c.list_pids.ensures.pairs)

pub returns-in-Ok-clause-memories : goal.returns-in-Ok-clause-memories
returns-in-Ok-clause-memories c = λ number.
    c.in-Ok.ensures.memories number
    ∙ memory_whole c.args.rules.now c.args.state.now (memory_of c.args.memories.now) number c.deref.result.now
    (c.deref.ensures.value ∙ c.list_pids.ensures.pairs)

pub returns-in-Ok-clause-pairs : goal.returns-in-Ok-clause-pairs
returns-in-Ok-clause-pairs c =
    room_grown c.args.rules.now (vec_capacity c.args.listed.now) (vec_capacity c.list_pids.new.pairs) c.requires.pairs c.list_pids.ensures.capacity

use Rattle.std.proofs.Common.{◌∙◌, ap}
use Rattle.rule_meaning.specs.Memories.{memory_of}
use Rattle.rule_meaning.specs.Reading.{settling, orders_on, pids_stop, unless_stopped}
use Rattle.plain_reading.proofs.WholeSteps.{firsts_are}
use Rattle.plain_reading.proofs.readings.read_listed.Goals as goal

pub returns-clause-orders : goal.returns-clause-orders
returns-clause-orders c =
    c.read_pairs.ensures.orders (settling c.args.rules.now)
    (firsts_are c.args.rules.now c.args.state.now c.settle_into.new.firsts c.deref.result.now c.settle_into.ensures.settled (c.deref.ensures.value ∙ c.list_pairs.ensures.pairs))
    ∙ ap (λ l. unless_stopped (pids_stop c.args.rules.now c.args.state.now (memory_of c.args.memories.now) l)
    (orders_on (settling c.args.rules.now) c.args.rules.now c.args.tables.now c.args.state.now (memory_of c.args.memories.now) c.args.rules.now.controlled))
    (c.deref-2.ensures.value ∙ c.list_pairs.ensures.pairs)

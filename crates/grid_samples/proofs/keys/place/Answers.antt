use Rattle.std.proofs.Common.{refl}
use Rattle.grid_samples.proofs.Placing.{found_at, placed_nowhere, placed_there}
use Rattle.grid_samples.proofs.keys.place.Goals as goal

pub returns-in-Ok-clause-placed : goal.returns-in-Ok-clause-placed
returns-in-Ok-clause-placed c = λ rest is.
    placed_there c.args.keys.now c.args.number.now rest c.in-Ok.at c.args.list.now.items _
    c.requires.in_order
    (found_at c.args.keys.now c.args.number.now.0 c.in-Ok.at c.in-Ok.ensures.bound c.in-Ok.ensures.ok)
    refl is

pub returns-in_default-clause-placed : goal.returns-in_default-clause-placed
returns-in_default-clause-placed c = λ rest is.
    placed_nowhere c.args.keys.now c.args.number.now rest c.in_default.field-0
    c.args.list.now.items c.requires.in_order c.in_default.ensures.position is

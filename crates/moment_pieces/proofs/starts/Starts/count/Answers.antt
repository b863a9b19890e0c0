use Rattle.std.proofs.Common.{arith}
use Rattle.moment_pieces.proofs.Collected.{starts_rise}
use Rattle.moment_pieces.proofs.starts.Starts.count.Goals as goal

pub overflow_sub-result : goal.overflow_sub-result
overflow_sub-result c =
    let rise = starts_rise c.args.self.now.daily.items c.args.self.now.singles.items c.args.first c.args.last c.requires.daily c.requires.singles c.requires.order in
    omega (arith, rise, c.up_to.ensures.value, c.up_to-2.ensures.value)

pub returns : goal.returns
returns c =
    let rise = starts_rise c.args.self.now.daily.items c.args.self.now.singles.items c.args.first c.args.last c.requires.daily c.requires.singles c.requires.order in
    record { value = omega (arith, rise, c.up_to.ensures.value, c.up_to-2.ensures.value) }

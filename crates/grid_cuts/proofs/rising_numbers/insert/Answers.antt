use Rattle.std.proofs.Common.{ap, map, ◌∙◌}
use Rattle.grid_cuts.specs.internal.NumberOrder.{number_of}
use Rattle.grid_cuts.proofs.RisingCuts.{insert_is}
use Rattle.grid_cuts.proofs.rising_numbers.insert.Goals as goal

pub returns-in-Ok : goal.returns-in-Ok
returns-in-Ok c = record {
  inserted =
      ap (map number_of) c.in-Ok.ensures.keys
      ∙ insert_is (record { number = c.args.number }) c.args.set.now.keys;
}

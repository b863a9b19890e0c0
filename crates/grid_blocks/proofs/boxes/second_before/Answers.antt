use Rattle.std.proofs.Common.{pos, ◌-ℤ◌, sym, ◌∙◌}
use Rattle.grid_blocks.proofs.MadeMoments.{before_is, none_not_some, some_same}
use Rattle.grid_blocks.proofs.boxes.second_before.Goals as goal

pub unreachable-requires : goal.unreachable-requires
unreachable-requires c =
    none_not_some (c.args.moment -ℤ pos 1)
    (sym c.in_default.is ∙ c.make.ensures.value
    ∙ before_is c.seconds.result c.args.moment c.args.earlier c.seconds.ensures.value
    c.seconds.ensures.range c.seconds-earlier.ensures.range c.requires.later)

pub returns : goal.returns
returns c = record {
  value =
      some_same c.in-Some.before (c.args.moment -ℤ pos 1)
      (sym c.in-Some.is ∙ c.make.ensures.value
      ∙ before_is c.seconds.result c.args.moment c.args.earlier c.seconds.ensures.value
      c.seconds.ensures.range c.seconds-earlier.ensures.range c.requires.later);
}

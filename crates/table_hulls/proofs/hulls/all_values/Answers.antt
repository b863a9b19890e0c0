use Rattle.std.proofs.Common.{false, sym, ap, ◌∙◌}
use Rattle.interval_sets.specs.declared.interval.Bound.TheVariants as end
use Rattle.table_hulls.specs.Hulls.{value_of_point}
use Rattle.table_hulls.specs.internal.Arguments.{part_of}
use Rattle.table_hulls.proofs.HullBack.{all_made, all_fail}
use Rattle.table_hulls.proofs.hulls.all_values.Goals as goal

pub returns-in-Ok : goal.returns-in-Ok
returns-in-Ok c =
    let p = c.index-points-0 in
    let q = c.index-points-0-in-Ok in
    record {
      value =
          all_made (part_of c.args.argument.now) c.args.points.now p.result q.result _ _ _
          c.in-Ok.later _ c.requires.points.pointed (sym c.values_of.ensures.value ∙ c.in-Ok.is)
          (c.closed.ensures.value ∙ ap (λ z. end.Bound z.x false) p.is)
          c.part-first.ensures.value
          (c.value_of_point.ensures.value ∙ ap (λ z. value_of_point z c.part-first.result) q.is)
          c.hull_of_both.ensures.value;
    }

pub returns-in-Err : goal.returns-in-Err
returns-in-Err c = record {
  value =
      all_fail (part_of c.args.argument.now) c.args.points.now c.in-Err.field-0
      c.requires.points.pointed (sym c.values_of.ensures.value ∙ c.in-Err.is);
}

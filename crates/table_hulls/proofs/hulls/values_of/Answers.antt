use Rattle.std.proofs.Common.{false, refl, sym, ap, ap₂, ◌∙◌}
use Rattle.interval_sets.specs.declared.interval.Bound.TheVariants as end
use Rattle.table_hulls.specs.Hulls.{value_of_point, values_over}
use Rattle.table_hulls.specs.internal.Arguments.{part_of}
use Rattle.table_hulls.proofs.HullBack.{last_back, step, goes_back, stops_back}
use Rattle.table_hulls.proofs.hulls.values_of.Goals as goal

pub back-init : goal.back-init
back-init c =
    let p = c.index-points-at in
    let q = c.index-points-at-2 in
    last_back (part_of c.args.argument.now) c.args.points.now _ p.result q.result _ _ _
    c.requires.points.pointed refl
    (c.closed.ensures.value ∙ ap (λ r. end.Bound r.x false) p.is) c.part-last.ensures.value
    (c.value_of_point-values.ensures.value ∙ ap (λ r. value_of_point r c.part-last.result) q.is)

pub back-preserved : goal.back-preserved
back-preserved c =
    let part = part_of c.args.argument.now in
    let points = c.args.points.now in
    let l = c.back in
    let p = c.index-points-at-in-back in
    let q = c.index-points-at-in-back-2 in
    let r = c.index-points-at-in-back-3 in
    let s = c.index-points-at-in-back-4 in
    goes_back part points l.at c.values_over.result c.in-Ok.first l.values _ c.back-test.true
    l.invariant.1
    (step part points l.at p.result q.result r.result s.result _ _ c.part-part.result
    c.values_over.result c.back-test.true l.invariant.1
    (c.closed-in-back.ensures.value ∙ ap (λ z. end.Bound z.x false) p.is)
    (c.closed-in-back-2.ensures.value ∙ ap (λ z. end.Bound z.x false) q.is)
    c.part-part.ensures.value
    (c.values_over.ensures.value ∙ ap₂ (λ y z. values_over y z c.part-part.result) r.is s.is))
    c.in-Ok.is l.invariant.0 c.hull_of_both-values.ensures.value

pub returns-in-Err : goal.returns-in-Err
returns-in-Err c =
    let part = part_of c.args.argument.now in
    let points = c.args.points.now in
    let l = c.back in
    let p = c.index-points-at-in-back in
    let q = c.index-points-at-in-back-2 in
    let r = c.index-points-at-in-back-3 in
    let s = c.index-points-at-in-back-4 in
    record {
      value =
          sym (stops_back part points l.at c.values_over.result c.in-Err.field-0
          (step part points l.at p.result q.result r.result s.result _ _ c.part-part.result
          c.values_over.result c.back-test.true l.invariant.1
          (c.closed-in-back.ensures.value ∙ ap (λ z. end.Bound z.x false) p.is)
          (c.closed-in-back-2.ensures.value ∙ ap (λ z. end.Bound z.x false) q.is)
          c.part-part.ensures.value
          (c.values_over.ensures.value ∙ ap₂ (λ y z. values_over y z c.part-part.result) r.is s.is))
          c.in-Err.is);
    }

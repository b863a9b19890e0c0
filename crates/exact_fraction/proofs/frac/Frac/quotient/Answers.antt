-- The divisor is below 0 or above 0.
use Rattle.std.proofs.Common.{pos, ◌<ℤ◌, ◌-ℤ◌, neg_ℤ, to_z, of_z, arith, ap, ◌∙◌}
use Rattle.std.specs.Int.{w128}
use Rattle.std.specs.Option.{ok_or}
use Rattle.std.proofs.lemmas.Int.{ints}
use Rattle.exact_fraction.proofs.Answered.{timed, turned, above_zero, quotient_up, quotient_down}
use Rattle.exact_fraction.proofs.frac.Frac.quotient.Goals as goal

pub returns-then-m-lt0 : goal.returns-then-m-lt0
returns-then-m-lt0 c =
    let p = c.parts-n.ensures in
    let q = c.parts-m.ensures in
    let m = c.parts-m.result.0 in
    let h : c.args.divisor.num <ℤ pos 0 = omega (arith, ints, q.num, q.num_size, c.if-m-lt0.true) in
    let t = turned m q.num_size in
    let a = timed _ _ _ _ _ p.num q.den p.num_size q.den_size c.times.ensures.value c.times.ensures.size in
    let b = timed _ (pos 0 -ℤ to_z w128 (of_z w128 m)) _ (neg_ℤ c.args.divisor.num) _ p.den (t.0 ∙ ap neg_ℤ q.num) p.den_size t.1 c.times-then-m-lt0.ensures.value c.times-then-m-lt0.ensures.size in
    record { value = c.ok_or.ensures.value ∙ ap (λ x. ok_or x (record {})) c.make.ensures.value ∙ quotient_down c.args.self c.args.divisor _ _ (record {}) a b h }

pub returns : goal.returns
returns c =
    let p = c.parts-n.ensures in
    let q = c.parts-m.ensures in
    let h : pos 0 <ℤ c.args.divisor.num = above_zero c.args.divisor c.requires.divides (omega (arith, ints, q.num, q.num_size, c.if-m-lt0.false)) in
    let a = timed _ _ _ _ _ p.num q.den p.num_size q.den_size c.times-2.ensures.value c.times-2.ensures.size in
    let b = timed _ _ _ _ _ p.den q.num p.den_size q.num_size c.times-3.ensures.value c.times-3.ensures.size in
    record { value = c.ok_or-2.ensures.value ∙ ap (λ x. ok_or x (record {})) c.make-2.ensures.value ∙ quotient_up c.args.self c.args.divisor _ _ (record {}) a b h }

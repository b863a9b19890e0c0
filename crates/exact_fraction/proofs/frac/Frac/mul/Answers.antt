-- The two products are those of the product.
use Rattle.std.proofs.Common.{ap, ◌∙◌}
use Rattle.std.specs.Option.{ok_or}
use Rattle.exact_fraction.proofs.Answered.{timed, product_made}
use Rattle.exact_fraction.proofs.frac.Frac.mul.Goals as goal

pub returns : goal.returns
returns c =
    let p = c.parts-n.ensures in
    let q = c.parts-m.ensures in
    let a = timed _ _ _ _ _ p.num q.num p.num_size q.num_size c.times.ensures.value c.times.ensures.size in
    let d = timed _ _ _ _ _ p.den q.den p.den_size q.den_size c.times-2.ensures.value c.times-2.ensures.size in
    record { value = c.ok_or.ensures.value ∙ ap (λ x. ok_or x (record {})) c.make.ensures.value ∙ product_made c.args.self c.args.o _ _ (record {}) a d }

-- The rounded product is that of the definition.
use Rattle.std.proofs.Common.{pos, refl, arith, ap, ◌∙◌}
use Rattle.std.specs.Prelude.{unsigned_abs}
use Rattle.std.specs.Option.{ok_or}
use Rattle.exact_fraction.proofs.Held.{wide}
use Rattle.exact_fraction.proofs.Answered.{timed, round9_made}
use Rattle.exact_fraction.proofs.frac.Frac.round9.Goals as goal

pub returns : goal.returns
returns c =
    let p = c.parts-n.ensures in
    let a = timed _ (pos 1000000000) _ (pos 1000000000) _ p.num refl p.num_size (omega arith) c.times.ensures.value c.times.ensures.size in
    let d = ap unsigned_abs (wide c.parts-n.result.1 p.den_size ∙ p.den) in
    record { value = c.ok_or.ensures.value ∙ ap (λ x. ok_or x (record {})) c.make.ensures.value ∙ round9_made c.args.self _ _ _ (record {}) a (record { sfits = c.nearest.type_inv }) d c.nearest.ensures }

-- The three products are those of the difference.
use Rattle.std.proofs.Common.{ap, ◌∙◌}
use Rattle.std.specs.Option.{ok_or}
use Rattle.exact_fraction.proofs.Answered.{timed, difference_made}
use Rattle.exact_fraction.proofs.frac.Frac.sub.Goals as goal

pub returns : goal.returns
returns c =
    let p = c.parts-n.ensures in
    let q = c.parts-m.ensures in
    let a = timed _ _ _ _ _ p.num q.den p.num_size q.den_size c.times.ensures.value c.times.ensures.size in
    let b = timed _ _ _ _ _ q.num p.den q.num_size p.den_size c.times-2.ensures.value c.times-2.ensures.size in
    let d = timed _ _ _ _ _ p.den q.den p.den_size q.den_size c.times-3.ensures.value c.times-3.ensures.size in
    record { value = c.ok_or.ensures.value ∙ ap (λ x. ok_or x (record {})) c.make.ensures.value ∙ difference_made c.args.self c.args.o _ _ _ (record {}) a b d }

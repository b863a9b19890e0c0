use Rattle.std.proofs.Common.{◌≡◌, ◌∙◌, ap, pos, Some}
use Rattle.std.specs.Int.{w128}
use Rattle.std.proofs.lemmas.Int.{to_z-of_z}
use Rattle.exact_fraction.specs.Number.{ratio}
use Rattle.exact_fraction.specs.Checked.{made}
use Rattle.trace_replay.proofs.Reaching.{made_of}
use Rattle.trace_replay.proofs.movement.billionths.Goals as goal

pub returns-in-Some : goal.returns-in-Some
returns-in-Some c =
    let known : c.make.result ≡ Some (ratio c.args.count 1000000000) =
    c.make.ensures.value ∙ ap (λ n. made n (pos 1000000000)) (to_z-of_z w128 c.args.count c.ranges.count) ∙ made_of c.args.count c.requires.least c.requires.most in
    cc

pub returns-in-None : goal.returns-in-None
returns-in-None c =
    let known : c.make.result ≡ Some (ratio c.args.count 1000000000) =
    c.make.ensures.value ∙ ap (λ n. made n (pos 1000000000)) (to_z-of_z w128 c.args.count c.ranges.count) ∙ made_of c.args.count c.requires.least c.requires.most in
    absurd cc

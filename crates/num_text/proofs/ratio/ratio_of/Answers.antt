use Rattle.std.proofs.Common.{arith, ◌∙◌}
use Rattle.std.specs.Int.{w128}
use Rattle.std.proofs.lemmas.Int.{to_z_pos}
use Rattle.num_text.proofs.Fits.{made-ratio}
use Rattle.num_text.proofs.ratio.ratio_of.Goals as goal

pub returns : goal.returns
returns c =
    record { value = c.make.ensures.value ∙ made-ratio _ _ c.args.number c.args.denominator (to_z_pos w128 c.args.number (omega arith)) (to_z_pos w128 c.args.denominator (omega arith)) c.requires.positive c.requires.number_fits c.requires.denominator_fits }

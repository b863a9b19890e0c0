use Rattle.std.proofs.Common.{ap, ◌∙◌, Some}
use Rattle.num_text.proofs.Within.{whole_is}
use Rattle.num_text.proofs.steps.whole_of.Goals as goal

pub returns : goal.returns
returns c = record { value = c.ratio_of.ensures.value ∙ ap Some (whole_is c.args.second) }

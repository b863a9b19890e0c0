use Rattle.std.proofs.Common.{refl}
use Rattle.action_values.proofs.OrderSteps.{not_absent}
use Rattle.action_values.proofs.places.place_among.Goals as goal

pub returns-in-None : goal.returns-in-None
returns-in-None c = absurd (not_absent c.args.links.now c.args.link c.requires.among (c.in-None.ensures.absent refl))

-- What the hours of a step are known by.
use Rattle.exact_fraction.proofs.PublicLaws.{equality-fraction}
use Rattle.clock_values.proofs.PublicLaws.{steps-in_hours}

pub ruleset step_facts = (equality-fraction, steps-in_hours)

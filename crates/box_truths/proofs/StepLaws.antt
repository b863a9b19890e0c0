-- The step of well formed rules, and the numbers of half-step conditions.
use Rattle.clock_values.proofs.PublicLaws.{steps-of_rules, steps-in_hours, half_steps-number}

pub ruleset step_laws = (steps-of_rules, steps-in_hours, half_steps-number)

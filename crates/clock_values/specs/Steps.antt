-- Steps in hours, and the times half a step before and after a time.
use Rattle.std.specs.Prelude.{◌≡◌, IsTrue}
use Rattle.exact_fraction.specs.Number.{Rational, fits}
use Rattle.exact_fraction.specs.Operations.{sum_of, difference_of}
use Rattle.rule_types.specs.Fitting.{IsStep}
use Rattle.rule_meaning.specs.Condition.{hours_of_step, half_of}

-- a step in hours: so many hours are the seconds of a step that a state can have
pub record IsStepInHours (hours : Rational) : Type 0 where
  pub seconds : Rational
  pub step : IsStep seconds
  pub hours_are : hours ≡ hours_of_step seconds

-- half a step fits, and so do the times half a step before and after a time
pub record EndsFit (time step : Rational) : Type 0 where
  pub half : IsTrue (fits (half_of step))
  pub low : IsTrue (fits (difference_of time (half_of step)))
  pub high : IsTrue (fits (sum_of time (half_of step)))

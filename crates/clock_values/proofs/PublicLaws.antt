-- What the crates above may cite in their lemmas, and all that they may. Each term proves the
-- clause of src/laws.rt that its name tells, law and clause, and the answers of those laws are
-- these terms: so no more is cited than a public clause says.
pub use Rattle.clock_values.proofs.ClockHulls.{month_between as clock_hulls-month}
pub use Rattle.clock_values.proofs.ClockHulls.{week_day_between as clock_hulls-week_day}
pub use Rattle.clock_values.proofs.ClockHulls.{year_day_between as clock_hulls-year_day}
pub use Rattle.clock_values.proofs.ClockHulls.{time_at_most as clock_hulls-time}
pub use Rattle.clock_values.proofs.ClockHulls.{one_day_at_most as clock_hulls-one_day}
pub use Rattle.clock_values.proofs.HalfSteps.{in_hours as steps-in_hours}
pub use Rattle.clock_values.proofs.HalfSteps.{minutes_above as steps-minutes}
pub use Rattle.clock_values.proofs.HalfSteps.{routing_is_step as steps-routing}
pub use Rattle.clock_values.proofs.HalfSteps.{step_of_rules as steps-of_rules}
pub use Rattle.clock_values.proofs.HalfSteps.{half_step_number as half_steps-number}
pub use Rattle.clock_values.proofs.HalfSteps.{half_step_value as half_steps-value}
pub use Rattle.clock_values.proofs.EndsFit.{ends_fit as half_steps-fit}
pub use Rattle.clock_values.proofs.WindowTells.{hours_tell as windows-holds}
pub use Rattle.clock_values.proofs.WindowTells.{turns as windows-turns}
pub use Rattle.clock_values.proofs.Passing.{throughout as runs_of_seconds-throughout}
pub use Rattle.clock_values.proofs.Passing.{nowhere as runs_of_seconds-nowhere}

-- What the commands of the tool leave: statuses, lines on standard error, outcomes.
pub mod Statuses
pub mod Messages
pub mod Outcomes
pub mod Runs
pub mod Commands
pub mod Steps

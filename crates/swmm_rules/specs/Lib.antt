-- The commands of the tool, and what each comes to.
pub mod Commands
pub mod RightVerdicts
pub mod Words

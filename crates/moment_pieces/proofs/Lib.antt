pub mod Agreement
pub mod Collected
pub mod Counting
pub mod ExampleWords
pub mod Gathers
pub mod Ranks
pub mod Runs
pub mod WholeTests

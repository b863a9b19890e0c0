pub mod FirstActing
pub mod Folds
pub mod LinkFacts
pub mod Marks
pub mod ShownAlike
pub mod TableFacts

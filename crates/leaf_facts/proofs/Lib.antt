pub mod Accepted
pub mod AllFacts
pub mod ShownAlone

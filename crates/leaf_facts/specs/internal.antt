pub mod BoxFacts
pub mod FewerFacts

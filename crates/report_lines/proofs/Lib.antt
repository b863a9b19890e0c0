pub mod Cuts
pub mod WrittenValues
pub mod FactSteps
pub mod TreeSteps
pub mod KeyValues
pub mod ExampleWords
pub mod LineSteps
pub mod StateSteps

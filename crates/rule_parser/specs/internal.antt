pub mod Fitting
pub mod Views
pub mod Noting
pub mod ProjectParts
pub mod RuleLists

pub mod LinkSteps
pub mod OrderSteps
pub mod PidSteps
pub mod SideSteps
pub mod Zeros

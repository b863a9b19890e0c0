-- Lemmas of this crate, over plain values.
pub mod BoxParts
pub mod BoxSteps
pub mod CutTests
pub mod DistinctKeys
pub mod GridCells
pub mod GridOrders
pub mod KeyParts
pub mod MadeMoments
pub mod Maps
pub mod MomentParts
pub mod PieceLists
pub mod PublicLaws
pub mod Records
pub mod RisingCuts
pub mod RisingMoments
pub mod RunBounds
pub mod RunParts

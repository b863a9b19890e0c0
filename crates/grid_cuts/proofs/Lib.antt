-- Lemmas of this crate, over plain values.
pub mod AddedCuts
pub mod AskedSteps
pub mod CellCounts
pub mod CutRanges
pub mod RangeEnds
pub mod RisingCuts
pub mod WholeGrids

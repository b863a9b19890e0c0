mod CellPieces
mod ConditionTruths
mod CutPieces
mod GridCells
mod GridKeys
mod KeyTruths
mod LimitPieces
mod Lists
mod MomentRuns
mod NoStops
mod PieceTruths
mod PremiseTruths
pub mod PublicLaws
mod RisingCuts
mod RunTruths

mod Cuts
mod Each
mod FreshMemories
mod GridCells
mod KeyNumbers
mod KeyOrders
mod LinkNumbers
mod Middles
mod NumberSteps
mod PieceNumbers
mod Placing
pub mod PublicLaws
mod SampleFits
mod SampleStates
mod SampleValues
mod SampledKeys

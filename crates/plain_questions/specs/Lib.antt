pub mod SampledGrids

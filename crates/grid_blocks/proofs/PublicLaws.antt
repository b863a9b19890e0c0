-- What the crates above may cite in their lemmas, and all that they may. Each term proves the
-- clause of src/laws.rt that its name gives, law and clause, and the answers of those laws are
-- these terms: so no more is cited than a public clause says.
pub use Rattle.grid_blocks.proofs.RunParts.{below_is as runs-below}
pub use Rattle.grid_blocks.proofs.RunParts.{point_is as runs-point}
pub use Rattle.grid_blocks.proofs.RunParts.{above_is as runs-above}
pub use Rattle.grid_blocks.proofs.CutTests.{run_members as runs-members}
pub use Rattle.grid_blocks.proofs.CutTests.{split_at as runs-split}
pub use Rattle.grid_blocks.proofs.CutTests.{cut_in_run as runs-inside}
pub use Rattle.grid_blocks.proofs.KeyParts.{piece_of_axis as keys-piece}
pub use Rattle.grid_blocks.proofs.KeyParts.{with_axis as keys-with_run}
pub use Rattle.grid_blocks.proofs.BoxParts.{key_piece as key_parts-piece}
pub use Rattle.grid_blocks.proofs.BoxParts.{key_split as key_parts-split}
pub use Rattle.grid_blocks.proofs.BoxParts.{key_below as key_parts-below}
pub use Rattle.grid_blocks.proofs.BoxParts.{key_point as key_parts-point}
pub use Rattle.grid_blocks.proofs.BoxParts.{key_above as key_parts-above}
pub use Rattle.grid_blocks.proofs.BoxParts.{moments_are as moment_parts-moments}
pub use Rattle.grid_blocks.proofs.BoxParts.{moment_inside as moment_parts-inside}
pub use Rattle.grid_blocks.proofs.BoxParts.{moment_before as moment_parts-before}
pub use Rattle.grid_blocks.proofs.BoxParts.{moment_from as moment_parts-from}
pub use Rattle.grid_blocks.proofs.MomentParts.{through as moment_parts-holds}
pub use Rattle.grid_blocks.proofs.GridCells.{cells_are as cells-all}
pub use Rattle.grid_blocks.proofs.GridCells.{count_is as cells-number}
pub use Rattle.grid_blocks.proofs.RisingCuts.{cuts_rise as orders-cuts}
pub use Rattle.grid_blocks.proofs.RisingMoments.{firsts_rise as orders-firsts}
pub use Rattle.grid_blocks.proofs.DistinctKeys.{keys_distinct as orders-keys}
pub use Rattle.grid_blocks.proofs.GridOrders.{grid_in_order as orders-grid}
pub use Rattle.grid_blocks.proofs.RunBounds.{key_high as bounds-key}
pub use Rattle.grid_blocks.proofs.RunBounds.{moment_high as bounds-moments}

-- What the crates above may cite in their lemmas, and all that they may. Each term proves the
-- clause of src/laws.rt that its name gives, law and clause, and the answers of those laws are
-- these terms.
pub use Rattle.grid_events.proofs.BlockCells.{cells_are as blocks-cells}
pub use Rattle.grid_events.proofs.CellCovers.{box_covers as blocks-covers}
pub use Rattle.grid_events.proofs.BlockCells.{whole_within as blocks-whole}
pub use Rattle.grid_events.proofs.BlockCells.{found_within as blocks-found}
pub use Rattle.grid_events.proofs.ShownBlocks.{cell_of_grid as grids-cell}
pub use Rattle.grid_events.proofs.ShownBlocks.{event_state as grids-state}
pub use Rattle.grid_events.proofs.ShownBlocks.{shown_no_event as shown_blocks-no_event}
pub use Rattle.grid_events.proofs.Tracked.{limit_tracked as grids-tracked}

-- What the crates above may cite: each term is the proof of one clause of `laws`, and is named
-- LAW-CLAUSE after it.
pub use Rattle.range_lines.proofs.PublicLaws.{ranges_files-fit as read_ranges-fit}
pub use Rattle.askable_ranges.proofs.NeededMoments.{file_moments as read_ranges-moments}
pub use Rattle.askable_ranges.proofs.NeededMoments.{prepared_moments as read_ranges-prepared_moments}
pub use Rattle.askable_ranges.proofs.ReadFiles.{file_closed as read_ranges-closed}
pub use Rattle.askable_ranges.proofs.ReadFiles.{file_tracked as read_ranges-tracked}
pub use Rattle.askable_ranges.proofs.ReadFiles.{prepared_tracked as read_ranges-prepared_tracked}
pub use Rattle.askable_ranges.proofs.ReadFiles.{prepared_fit as read_ranges-prepared_fit}

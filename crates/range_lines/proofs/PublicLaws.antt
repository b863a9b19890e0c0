-- What the crates above may cite of the laws.
pub use Rattle.range_lines.proofs.FitLines.{ranges_fit as ranges_files-fit}
pub use Rattle.range_lines.proofs.Prepared.{prepared-well_formed, prepared-tables}

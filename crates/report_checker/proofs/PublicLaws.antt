-- What the crates above may cite of the laws.
pub use Rattle.report_checker.proofs.AcceptedEntries.{accepted_entries-holds, accepted_entries-refuted}
pub use Rattle.report_checker.proofs.AcceptedReports.{accepted_reports-entries}

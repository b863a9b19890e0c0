-- What the crates above may cite of the laws.
pub use Rattle.state_checker.proofs.WitnessSteps.{witness_test as witnesses-test}

use Rattle.std.proofs.Common.{◌≤◌, length}
use Rattle.cert_checker.proofs.Entries.{IsPassed}
use Rattle.cert_checker.proofs.pieces.place_of.Given as goal

abbrev pub invariant-loop-at : goal.invariant-loop-at
invariant-loop-at l = IsPassed l.key l.at l.keys × (l.at ≤ length l.keys)

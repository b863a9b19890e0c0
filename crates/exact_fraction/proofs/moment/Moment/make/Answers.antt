-- The two bounds are the first and the last second.
use Rattle.std.proofs.Common.{Some, w64, arith, ap, ◌∙◌}
use Rattle.std.proofs.lemmas.Int.{ints, to_z-of_z}
use Rattle.exact_fraction.proofs.Moments.{moment_some, moment_early, moment_late}
use Rattle.exact_fraction.proofs.moment.Moment.make.Goals as goal
use Rattle.exact_fraction.proofs.moment.Moment.make.Goals.{then-seconds-lt-FIRST-via-then-seconds-lt-FIRST, then-seconds-lt-FIRST-via-else-seconds-lt-FIRST+then-seconds-gt-LAST}

pub returns-then-seconds-lt-FIRST-clause-value : goal.returns-then-seconds-lt-FIRST-clause-value
returns-then-seconds-lt-FIRST-clause-value c = elim c.then-seconds-lt-FIRST.branch [
  | then-seconds-lt-FIRST-via-then-seconds-lt-FIRST w ↦ moment_early c.args.seconds (omega (arith, ints))
  | then-seconds-lt-FIRST-via-else-seconds-lt-FIRST+then-seconds-gt-LAST w ↦ moment_late c.args.seconds (omega (arith, ints))
]

pub returns-clause-value : goal.returns-clause-value
returns-clause-value c =
    ap Some (to_z-of_z w64 c.args.seconds c.ranges.seconds) ∙ moment_some c.args.seconds (omega (arith, ints)) (omega (arith, ints))

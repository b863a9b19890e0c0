-- The days of moments.
use Rattle.std.proofs.Common.{◌<◌, ◌^◌, ℤ, w64, arith}
use Rattle.std.specs.Prelude.{unsigned_abs, FitsSigned}
use Rattle.std.proofs.lemmas.Int.{ints}
use Rattle.exact_fraction.specs.Moments.{IsMoment}
use Rattle.rule_meaning.specs.Clock.{day_of}
use Rattle.rule_meaning.proofs.PublicLaws.{day_seconds-whole, day_seconds-bounds}

pub day_small : (second : ℤ) → IsMoment second → unsigned_abs (day_of second) < 2 ^ 31
day_small second h =
    let whole = day_seconds-whole second in
    let rest = day_seconds-bounds second in
    omega (arith, ints, whole, rest.0, rest.1, h.early, h.late)

pub moment_fits : (second : ℤ) → IsMoment second → FitsSigned w64 second
moment_fits second h = omega (arith, ints, h.early, h.late)

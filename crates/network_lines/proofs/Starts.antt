-- Starts: seconds of the days of the years 1 to 9999 are moments.
use Rattle.std.proofs.Common.{◌≡◌, ℕ, ◌<◌, Some, ℤ, pos, neg_ℤ, ◌≤ℤ◌, arith}
use Rattle.std.proofs.lemmas.Int.{ints}
use Rattle.exact_fraction.specs.Moments.{first_second, last_second, moment_at}
use Rattle.num_text.specs.Clocks.{seconds_at}

moment_at-within : (second : ℤ) → first_second ≤ℤ second → second ≤ℤ last_second
    → moment_at second ≡ Some second
unfolding moment_at
moment_at-within second early late = grind (arith, ints)

-- a second of a day of the years 1 to 9999 is a moment
pub moment_at-seconds : (day : ℤ) (second : ℕ) → neg_ℤ (pos 719_162) ≤ℤ day
    → day ≤ℤ pos 2_932_896 → second < 86_400
    → moment_at (seconds_at day second) ≡ Some (seconds_at day second)
moment_at-seconds day second low high in_day =
    let early : first_second ≤ℤ seconds_at day second = omega (arith, ints) in
    let late : seconds_at day second ≤ℤ last_second = omega (arith, ints) in
    moment_at-within (seconds_at day second) early late

-- Trees that are judged in a box that is narrowed in place.
use Rattle.std.specs.Prelude.{◌≡◌, ℕ, ◌<◌, Result, List, Some, length, slice_index_or, slice_set}
use Rattle.interval_sets.specs.declared.interval.Interval.{Interval}
use Rattle.rule_types.specs.declared.key.Key.{Key}
use Rattle.verdict_meaning.specs.declared.cert.CertEnd.{CertEnd}
use Rattle.verdict_meaning.specs.Certificates.{NodeFault, with_piece}
use Rattle.verdict_meaning.specs.Reaches.{piece_in}
use Rattle.verdict_meaning.specs.Verdicts.{written_count}
use Rattle.cert_checker.specs.Answers.{Tells}

-- the entry of a key stands at a place: its interval is that of the key, and the keys with another
-- interval of the key have that one there
pub record IsPlaceOf (key : Key) (at : ℕ) (keys : List (Key × Interval)) : Type 0 where
  pub within : at < length keys
  pub piece : (d : Key × Interval) → piece_in key keys ≡ Some (slice_index_or keys at d).1
  pub narrowed :
      (d : Key × Interval) (piece : Interval) → with_piece key piece keys
      ≡ slice_set keys at ((slice_index_or keys at d).0, piece)

-- from a place, as a program writes it, a result is told of what is judged from there
pub record Judges (place : ℕ) (result : Result ℕ CertEnd) (judged : ℕ → Result ℕ NodeFault)
    : Type 0 where
  pub each : (at : ℕ) → place ≡ written_count at → Tells result (judged at)

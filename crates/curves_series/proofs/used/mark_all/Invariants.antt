use Rattle.std.proofs.Common.{◌≡◌, ℕ, ◌<◌, false, drop, length, get_or}
use Rattle.std.specs.Prelude.{◌||◌}
use Rattle.curves_series.specs.Names.{is_used}
use Rattle.curves_series.proofs.used.mark_all.Given as goal

-- a table is marked at the end where it is marked here or a line from here on uses it
abbrev pub invariant-loop-line : goal.invariant-loop-line
invariant-loop-line l =
    (length l.marks ≡ length l.names)
    × ((k : ℕ) → k < length l.names
    → (get_or l.marks k false || is_used l.word (drop l.line-index l.controls) l.names k)
    ≡ (get_or l.initial.marks k false || is_used l.word l.controls l.names k))

use Rattle.std.proofs.Common.{◌≡◌, ℕ, Some, take}
use Rattle.std.specs.Prelude.{slice_get}
use Rattle.std.specs.List.{AllZip}
use Rattle.trace_replay.proofs.fresh.controlled_places.Given as goal

abbrev pub invariant-loop-link : goal.invariant-loop-link
invariant-loop-link l =
    AllZip (λ (link place : ℕ). slice_get l.rules.tracked place ≡ Some link)
    (take l.link-index l.rules.controlled) l.places.items

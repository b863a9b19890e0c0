-- The steps of a merge of edges.
use Rattle.std.specs.Prelude.{true, false, Option, Some, None, if◌then◌else◌, List, [], ◌∷◌}
use Rattle.interval_sets.specs.declared.edge.Edge.{Edge}
use Rattle.interval_sets.specs.declared.merge.Step.{Step}
use Rattle.interval_sets.specs.internal.Edges.{stands_before}

-- the one of two edges that stands before the other, and both where neither does
abbrev pub sooner_of : Edge → Edge → Step
sooner_of e f =
    if stands_before e f then record { edge = e; from_left = true; from_right = false }
    else (if stands_before f e then record { edge = f; from_left = false; from_right = true }
    else record { edge = e; from_left = true; from_right = true })

-- the first edge of two lists, if one has any
abbrev pub next_step_of : List Edge → List Edge → Option Step
next_step_of [] [] = None
next_step_of [] (f ∷ right) = Some (record { edge = f; from_left = false; from_right = true })
next_step_of (e ∷ left) [] = Some (record { edge = e; from_left = true; from_right = false })
next_step_of (e ∷ left) (f ∷ right) = Some (sooner_of e f)

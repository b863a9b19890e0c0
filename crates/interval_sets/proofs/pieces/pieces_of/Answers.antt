use Rattle.std.proofs.Common.{◌≡◌, List, ◌∷◌, subst, ap, ◌∙◌}
use Rattle.interval_sets.specs.declared.edge.Edge.{Edge}
use Rattle.interval_sets.proofs.Pairing.{Pairing, pairing_step}
use Rattle.interval_sets.proofs.pieces.pieces_of.Goals as goal

pub pairing-preserved : goal.pairing-preserved
pairing-preserved c =
    let low = c.in-Some.low.now in
    let high = c.in-Some-split_first.high.now in
    let after = c.in-Some-split_first.after.now in
    let two : c.pairing.rest.now ≡ low ∷ high ∷ after = c.in-Some.ensures.cases.0 ∙ ap (λ x. low ∷ x) c.in-Some-split_first.ensures.cases.0 in
    let P : List Edge → Type 0 = λ rest. Pairing c.args.edges.now rest c.pairing.pieces.items in
    rw (c.in_ok-push.ensures.items, c.low_end.ensures.value, c.high_end.ensures.value)
    (pairing_step c.args.edges.now low high after c.pairing.pieces.items (subst P two c.pairing.invariant))

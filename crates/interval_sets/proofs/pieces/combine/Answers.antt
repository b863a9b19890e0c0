use Rattle.std.proofs.Common.{◌∙◌}
use Rattle.interval_sets.specs.internal.Edges.{edges_of}
use Rattle.interval_sets.proofs.PieceEdges.{normal_rises, held_edges, combination_even, made_of_edges, combination_members, combination_normal}
use Rattle.interval_sets.proofs.pieces.combine.Goals as goal

pub merge_edges-requires-clause-left_rises : goal.merge_edges-requires-clause-left_rises
merge_edges-requires-clause-left_rises c =
    rw (c.deref.ensures.value, c.in_ok-left_edges.ensures.value) (normal_rises c.args.left.now c.requires.left_normal.rising)

pub merge_edges-requires-clause-left_held : goal.merge_edges-requires-clause-left_held
merge_edges-requires-clause-left_held c =
    rw (c.deref.ensures.value, c.in_ok-left_edges.ensures.value) (held_edges c.args.left.now c.requires.left_normal.held)

pub merge_edges-requires-clause-right_rises : goal.merge_edges-requires-clause-right_rises
merge_edges-requires-clause-right_rises c =
    rw (c.deref-2.ensures.value, c.in_ok-right_edges.ensures.value) (normal_rises c.args.right.now c.requires.right_normal.rising)

pub merge_edges-requires-clause-right_held : goal.merge_edges-requires-clause-right_held
merge_edges-requires-clause-right_held c =
    rw (c.deref-2.ensures.value, c.in_ok-right_edges.ensures.value) (held_edges c.args.right.now c.requires.right_normal.held)

pub pieces_of-requires-clause-even : goal.pieces_of-requires-clause-even
pieces_of-requires-clause-even c =
    rw c.deref-3.ensures.value
    (combination_even c.args.how c.args.left.now c.args.right.now c.deref.result.now c.deref-2.result.now c.in_ok-edges.edges.items
    (c.deref.ensures.value ∙ c.in_ok-left_edges.ensures.value)
    (c.deref-2.ensures.value ∙ c.in_ok-right_edges.ensures.value)
    c.in_ok-edges.ensures.combination)

pub returns-clause-members : goal.returns-clause-members
returns-clause-members c =
    combination_members c.args.how c.args.left.now c.args.right.now c.in_ok-pieces.pieces.items c.requires.left_normal c.requires.right_normal
    (made_of_edges c.args.how c.args.left.now c.args.right.now c.in_ok-pieces.pieces.items c.deref.result.now c.deref-2.result.now c.in_ok-edges.edges.items
    (c.deref.ensures.value ∙ c.in_ok-left_edges.ensures.value)
    (c.deref-2.ensures.value ∙ c.in_ok-right_edges.ensures.value)
    (c.in_ok-pieces.ensures.edges ∙ c.deref-3.ensures.value)
    c.in_ok-edges.ensures.combination)

pub returns-clause-normal : goal.returns-clause-normal
returns-clause-normal c =
    combination_normal c.args.how (edges_of c.args.left.now) (edges_of c.args.right.now) c.in_ok-pieces.pieces.items
    (made_of_edges c.args.how c.args.left.now c.args.right.now c.in_ok-pieces.pieces.items c.deref.result.now c.deref-2.result.now c.in_ok-edges.edges.items
    (c.deref.ensures.value ∙ c.in_ok-left_edges.ensures.value)
    (c.deref-2.ensures.value ∙ c.in_ok-right_edges.ensures.value)
    (c.in_ok-pieces.ensures.edges ∙ c.deref-3.ensures.value)
    c.in_ok-edges.ensures.combination)

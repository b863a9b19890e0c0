-- Which trees show that a block has no event.
use Rattle.std.specs.Prelude.{ℕ, suc, ◌+◌, ◌%◌, max, Bool, true, false, not, ◌&&◌, nat_le, nat_lt, nat_eq}
use Rattle.std.specs.Prelude.{if◌then◌else◌, Option, Some, None, List, [], ◌∷◌, slice_get, slice_set}
use Rattle.std.specs.List.{list_any}
use Rattle.block_search.specs.declared.span.Span.{Span}
use Rattle.block_search.specs.declared.tree.Tree.{Tree}
use Rattle.block_search.specs.declared.tree.Tree.TheOpen.{Tree-F}
use Rattle.block_search.specs.declared.tree.Tree.TheFolds.{fold-Tree}
use Rattle.block_search.specs.Blocks.{is_none, is_wide, one_piece, span_from}
use Rattle.block_search.specs.Judgements.{Judgement}

-- what a tree says of a block
abbrev pub Proof : Type 0
Proof = List Span → Bool

-- a leaf: the block has no cell and no facts, or these facts are accepted
abbrev pub is_nil : List (ℕ × Bool) → Bool
is_nil [] = true
is_nil (fact ∷ more) = false

abbrev pub leaf_proves : Judgement → List (ℕ × Bool) → Proof
leaf_proves judged facts block =
    if list_any is_none block then is_nil facts else judged.accepts block facts

-- a block that may be cut: it has a cell and is not shown
abbrev pub may_cut : Judgement → Proof
may_cut judged block = not (list_any is_none block) && not (judged.shown block)

-- an axis of numbers is cut at a point of its span, which has more than one piece
abbrev pub is_point_of : Span → ℕ → Bool
is_point_of span at =
    is_wide span && (nat_eq (at % 2) 0 && (nat_le span.low at && nat_lt at span.high))

abbrev pub split_proves : ℕ → ℕ → Proof → Proof → Proof → List Span → Option Span → Bool
split_proves axis at below middle above block None = false
split_proves axis at below middle above block (Some span) =
    is_point_of span at
    && (below (slice_set block axis (span_from span.low at))
    && (middle (slice_set block axis (one_piece at))
    && above (slice_set block axis (span_from (at + 1) span.high))))

-- an axis of moments is cut before a piece that is not its first
abbrev pub is_later_of : Span → ℕ → Bool
is_later_of span at = nat_lt span.low at && nat_lt at span.high

abbrev pub before_proves : ℕ → ℕ → Proof → Proof → List Span → Option Span → Bool
before_proves axis at before from block None = false
before_proves axis at before from block (Some span) =
    is_later_of span at
    && (before (slice_set block axis (span_from span.low at))
    && from (slice_set block axis (span_from at span.high)))

-- one node, with what its trees say
unfoldable pub node_proves : Judgement → Tree-F Proof → Proof
node_proves judged (Tree-F.Leaf facts) block = leaf_proves judged facts block
node_proves judged (Tree-F.Split axis at below middle above) block =
    may_cut judged block && (not (judged.has_moments axis)
    && split_proves axis at below middle above block (slice_get block axis))
node_proves judged (Tree-F.Before axis at before from) block =
    may_cut judged block && (judged.has_moments axis
    && before_proves axis at before from block (slice_get block axis))

-- whether a tree shows that a block has no event: each leaf's facts are accepted, and no block that
-- is cut is shown
unfoldable pub proves : Judgement → Tree → Proof
proves judged = fold-Tree Proof (node_proves judged)

-- the number of nodes one below another
unfoldable pub node_depth : Tree-F ℕ → ℕ
node_depth (Tree-F.Leaf facts) = 1
node_depth (Tree-F.Split axis at below middle above) = suc (max below (max middle above))
node_depth (Tree-F.Before axis at before from) = suc (max before from)

unfoldable pub depth : Tree → ℕ
depth = fold-Tree ℕ node_depth

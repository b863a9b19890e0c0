-- In a block of a grid each run ends within the pieces of its axis.
use Rattle.std.proofs.Common.{◌≡◌, ℕ, zero, suc, ◌≤◌, Some, List, [], ◌∷◌, ◌++◌, length, map}
use Rattle.std.proofs.Common.{ap, subst, arith}
use Rattle.std.specs.Prelude.{slice_get}
use Rattle.block_search.specs.declared.span.Span.{Span}
use Rattle.block_search.specs.Blocks.{IsWithin}
use Rattle.grid_blocks.specs.declared.grid.Grid.{Grid}
use Rattle.grid_blocks.specs.declared.grid.KeyCuts.{KeyCuts}
use Rattle.grid_blocks.specs.declared.grid.MomentPieces.{MomentPieces}
use Rattle.grid_blocks.specs.GridBoxes.{lengths, moment_lengths, piece_count}
use Rattle.grid_blocks.proofs.Records.{count_of}

same_axis : (a b : KeyCuts) → Some a ≡ Some b → a ≡ b
same_axis a b e = grind arith

same_span : (a b : Span) → Some a ≡ Some b → a ≡ b
same_span a b e = grind arith

axis_high : (axes : List KeyCuts) (others : List ℕ) (block : List Span) (number : ℕ)
    (axis : KeyCuts) (span : Span) → IsWithin (map count_of axes ++ others) block
    → slice_get axes number ≡ Some axis → slice_get block number ≡ Some span
    → span.high ≤ piece_count axis.cuts
unfolding IsWithin
axis_high [] others block number axis span h get run = absurd (grind arith)
axis_high (first ∷ axes) others [] number axis span h get run = absurd (grind arith)
axis_high (first ∷ axes) others (one ∷ block) zero axis span h get run =
    let same : count_of first ≡ count_of axis = ap count_of (same_axis first axis get) in
    let is : one.high ≡ span.high = ap (λ s. s.high) (same_span one span run) in
    let high = h.0 in
    omega (arith, same, is, high)
axis_high (first ∷ axes) others (one ∷ block) (suc number) axis span h get run =
    axis_high axes others block number axis span h.1 get run

last_high : (axes : List KeyCuts) (count : ℕ) (block : List Span) (span : Span)
    → IsWithin (map count_of axes ++ count ∷ []) block
    → slice_get block (length axes) ≡ Some span → span.high ≤ count
unfolding IsWithin
last_high axes count [] span h run = absurd (grind arith)
last_high [] count (one ∷ block) span h run =
    let is : one.high ≡ span.high = ap (λ s. s.high) (same_span one span run) in
    let high = h.0 in
    omega (arith, is, high)
last_high (axis ∷ axes) count (one ∷ block) span h run = last_high axes count block span h.1 run

pub key_high : (grid : Grid) (block : List Span) (number : ℕ) (axis : KeyCuts) (span : Span)
    → IsWithin (lengths grid) block → slice_get grid.keys number ≡ Some axis
    → slice_get block number ≡ Some span → span.high ≤ piece_count axis.cuts
unfolding lengths
key_high grid block number axis span h get run =
    axis_high grid.keys (moment_lengths grid.moments) block number axis span h get run

pub moment_high : (grid : Grid) (block : List Span) (pieces : MomentPieces) (span : Span)
    → IsWithin (lengths grid) block → grid.moments ≡ Some pieces
    → slice_get block (length grid.keys) ≡ Some span → span.high ≤ length pieces.firsts
unfolding lengths
moment_high grid block pieces span h is run =
    last_high grid.keys (length pieces.firsts) block span
    (subst (λ moments. IsWithin (map count_of grid.keys ++ moment_lengths moments) block) is h) run

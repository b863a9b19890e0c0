-- Blocks of one cell.
use Rattle.std.proofs.Common.{◌≡◌, ℕ, ◌-◌, ◌<◌, ◌^◌, ◌||◌, false, List, [], ◌∷◌, ap₂, refl, arith}
use Rattle.std.specs.List.{AllByRecursion, list_any}
use Rattle.std.specs.Prelude.{All}
use Rattle.std.proofs.lemmas.Bool.Decides.{nat_tests}
use Rattle.std.proofs.lemmas.List.Elements.{All-from_recursion, recursion_from_All}
use Rattle.block_search.specs.Blocks.{block_of, is_none, IsWithin, one_piece}

one_is_some : (piece : ℕ) → is_none (one_piece piece) ≡ false
one_is_some piece = grind (arith, nat_tests)

-- it has no run without pieces
pub has_cell : (cell : List ℕ) → list_any is_none (block_of cell) ≡ false
unfolding block_of
has_cell [] = refl
has_cell (piece ∷ cell) = ap₂ (λ b c. b || c) (one_is_some piece) (has_cell cell)

each_short : (axes cell : List ℕ) → AllByRecursion (λ count. count < 2 ^ 32) axes
    → IsWithin axes (block_of cell) → AllByRecursion (λ piece. piece < 2 ^ 32 - 1) cell
unfolding block_of IsWithin
each_short [] [] short within = tt
each_short [] (piece ∷ cell) short within = absurd within
each_short (count ∷ axes) [] short within = tt
each_short (count ∷ axes) (piece ∷ cell) short within =
    let below = short.0 in
    let here = within.0 in
    (omega (arith, below, here), each_short axes cell short.1 within.1)

-- the piece behind each piece is counted in 32 bits too
pub pieces_short : (axes cell : List ℕ) → All (λ count. count < 2 ^ 32) axes
    → IsWithin axes (block_of cell) → All (λ piece. piece < 2 ^ 32 - 1) cell
pieces_short axes cell short within =
    All-from_recursion (λ piece. piece < 2 ^ 32 - 1) cell
    (each_short axes cell (recursion_from_All (λ count. count < 2 ^ 32) axes short) within)

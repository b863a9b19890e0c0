-- The facts of a block's box are those of a leaf of which none can be left out.
use Rattle.std.proofs.Common.{◌≡◌, ℕ, Bool, true, ◌&&◌, Result, Ok, Err, List, [], IfOk, ap₂, subst}
use Rattle.rule_types.specs.declared.rules.Rules.{Rules}
use Rattle.rule_types.specs.Tables.{TableSet}
use Rattle.block_search.specs.declared.span.Span.{Span}
use Rattle.verdict_meaning.specs.declared.cell.Cell.{Cell}
use Rattle.verdict_meaning.specs.declared.question.Question.{Question}
use Rattle.verdict_meaning.specs.Verdicts.{is_leaf, none_spare}
use Rattle.grid_blocks.specs.declared.grid.Grid.{Grid}
use Rattle.grid_blocks.specs.GridBoxes.{box_of}
use Rattle.grid_trees.specs.GridJudgements.{is_lean_leaf, judgement_of}

lean_leaf : {E : Type 0} (x : Rules) (tables : TableSet) (question : Question) (cell : Cell)
    (result : Result (List (ℕ × Bool)) E)
    → IfOk result (λ facts. is_leaf x tables question cell facts ≡ true)
    → IfOk result (λ facts. none_spare (is_leaf x tables question cell) [] facts ≡ true)
    → IfOk result (λ facts. is_lean_leaf x tables question cell facts ≡ true)
unfolding is_lean_leaf
lean_leaf x tables question cell (Ok facts) h k = ap₂ (λ b c. b && c) h k
lean_leaf x tables question cell (Err why) h k = tt

pub accepted : {E : Type 0} (x : Rules) (tables : TableSet) (question : Question) (grid : Grid)
    (block : List Span) (cell : Cell) (result : Result (List (ℕ × Bool)) E)
    → cell ≡ box_of grid block
    → IfOk result (λ facts. is_leaf x tables question cell facts ≡ true)
    → IfOk result (λ facts. none_spare (is_leaf x tables question cell) [] facts ≡ true)
    → IfOk result
    (λ facts. (judgement_of x tables question grid).accepts block facts ≡ true)
unfolding judgement_of
accepted x tables question grid block cell result is h k =
    subst (λ box. IfOk result (λ facts. is_lean_leaf x tables question box facts ≡ true)) is
    (lean_leaf x tables question cell result h k)

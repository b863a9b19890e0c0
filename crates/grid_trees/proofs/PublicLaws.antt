-- What the crates above may cite in their lemmas, and all that they may. Each term proves the
-- clause of src/laws.rt that its name gives, law and clause.
use Rattle.std.proofs.Common.{◌≡◌, ℕ, ◌≤◌, true, false, Some, None, List}
use Rattle.std.specs.List.{list_any}
use Rattle.rule_types.specs.declared.rules.Rules.{Rules}
use Rattle.rule_types.specs.declared.state.State.{State}
use Rattle.rule_types.specs.Tables.{TableSet}
use Rattle.block_search.specs.declared.decision.Decision.TheVariants as decision
use Rattle.block_search.specs.declared.tree.Tree.{Tree}
use Rattle.block_search.specs.Blocks.{is_none, whole_block}
use Rattle.block_search.specs.Outcomes.{IsDecision}
use Rattle.block_search.specs.Trees.{depth, proves}
use Rattle.verdict_meaning.specs.declared.question.Question.{Question}
use Rattle.verdict_meaning.specs.declared.ranges.Ranges.{Ranges}
use Rattle.verdict_meaning.specs.Boxes.{first_box}
use Rattle.verdict_meaning.specs.Certificates.{is_accepted}
use Rattle.verdict_meaning.specs.Grids.{cell_count, sample_of}
use Rattle.verdict_meaning.specs.Verdicts.{IsOpenCell, IsProof, IsRefutation, is_lean, most_cells}
use Rattle.grid_blocks.specs.declared.grid.Grid.{Grid}
use Rattle.grid_blocks.specs.GridBoxes.{cell_of, lengths}
use Rattle.grid_blocks.specs.GridsOf.{IsGridOf}
use Rattle.grid_trees.specs.GridJudgements.{judgement_of}
use Rattle.grid_trees.specs.TreeCertificates.{cert_of}
use Rattle.grid_trees.proofs.GridFacts.{covers_ranges}
pub use Rattle.grid_trees.proofs.RightVerdicts.{whole_within as blocks-within}
use Rattle.grid_trees.proofs.RightVerdicts.{refuted_sample, right_open_cell, right_proof}
use Rattle.grid_trees.proofs.RightVerdicts.{right_refutation, tree_accepted, tree_flat}
use Rattle.grid_trees.proofs.RightVerdicts.{tree_is_lean}

pub blocks-some : (x : Rules) (ranges : Ranges) (question : Question) (grid : Grid)
    → IsGridOf x question (first_box x question ranges) grid
    → list_any is_none (whole_block (lengths grid)) ≡ false
blocks-some x ranges question grid is = (covers_ranges x ranges question grid is).some

pub trees-accepted : (x : Rules) (tables : TableSet) (ranges : Ranges) (question : Question)
    (grid : Grid) (tree : Tree) → IsGridOf x question (first_box x question ranges) grid
    → proves (judgement_of x tables question grid) tree (whole_block (lengths grid)) ≡ true
    → depth tree ≤ 1024 → is_accepted x tables ranges question (cert_of grid tree) ≡ true
trees-accepted x tables ranges question grid tree is =
    tree_accepted x tables ranges question grid tree (covers_ranges x ranges question grid is)

pub trees-lean : (x : Rules) (tables : TableSet) (ranges : Ranges) (question : Question)
    (grid : Grid) (tree : Tree) → IsGridOf x question (first_box x question ranges) grid
    → proves (judgement_of x tables question grid) tree (whole_block (lengths grid)) ≡ true
    → is_lean x tables ranges question (cert_of grid tree) ≡ true
trees-lean x tables ranges question grid tree is =
    tree_is_lean x tables ranges question grid tree (covers_ranges x ranges question grid is)

pub decisions-holds : (x : Rules) (tables : TableSet) (ranges : Ranges) (question : Question)
    (grid : Grid) (tree : Tree) → IsGridOf x question (first_box x question ranges) grid
    → cell_count x question ranges ≤ most_cells
    → IsDecision (judgement_of x tables question grid) (whole_block (lengths grid))
    (decision.Holds tree)
    → IsProof x tables ranges question (cert_of grid tree)
decisions-holds x tables ranges question grid tree is =
    right_proof x tables ranges question grid tree (covers_ranges x ranges question grid is)

pub decisions-flat : (x : Rules) (tables : TableSet) (ranges : Ranges) (question : Question)
    (grid : Grid) (tree : Tree) → IsGridOf x question (first_box x question ranges) grid
    → cell_count x question ranges ≤ most_cells
    → IsDecision (judgement_of x tables question grid) (whole_block (lengths grid))
    (decision.Holds tree)
    → depth tree ≤ 36
decisions-flat x tables ranges question grid tree is =
    tree_flat x tables ranges question grid tree (covers_ranges x ranges question grid is)

pub decisions-refuted : (x : Rules) (tables : TableSet) (ranges : Ranges) (question : Question)
    (grid : Grid) (cell : List ℕ) (s : State)
    → IsGridOf x question (first_box x question ranges) grid
    → cell_count x question ranges ≤ most_cells
    → IsDecision (judgement_of x tables question grid) (whole_block (lengths grid))
    (decision.Refuted cell)
    → sample_of x (cell_of grid cell) ≡ Some s → IsRefutation x tables ranges question s
decisions-refuted x tables ranges question grid cell s is =
    right_refutation x tables ranges question grid cell s
    (covers_ranges x ranges question grid is)

pub decisions-has_sample : (x : Rules) (tables : TableSet) (question : Question) (grid : Grid)
    (cell : List ℕ)
    → IsDecision (judgement_of x tables question grid) (whole_block (lengths grid))
    (decision.Refuted cell)
    → sample_of x (cell_of grid cell) ≡ None → ⊥
decisions-has_sample x tables question grid cell =
    refuted_sample x tables question grid cell

pub decisions-open_cell : (x : Rules) (tables : TableSet) (ranges : Ranges) (question : Question)
    (grid : Grid) (cell : List ℕ) → IsGridOf x question (first_box x question ranges) grid
    → cell_count x question ranges ≤ most_cells
    → IsDecision (judgement_of x tables question grid) (whole_block (lengths grid))
    (decision.Cell cell)
    → IsOpenCell x tables ranges question (cell_of grid cell)
decisions-open_cell x tables ranges question grid cell is =
    right_open_cell x tables ranges question grid cell (covers_ranges x ranges question grid is)

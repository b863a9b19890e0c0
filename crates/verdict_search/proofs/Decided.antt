-- What a decision of the whole grid of a question gives.
use Rattle.std.proofs.Common.{◌≡◌, ℕ, ◌≤◌, Some, None, List, sym, subst, arith}
use Rattle.rule_types.specs.declared.rules.Rules.{Rules}
use Rattle.rule_types.specs.declared.state.State.{State}
use Rattle.rule_types.specs.Tables.{TableSet}
use Rattle.block_search.specs.declared.decision.Decision.{Decision}
use Rattle.block_search.specs.declared.decision.Decision.TheVariants as decision
use Rattle.block_search.specs.declared.tree.Tree.{Tree}
use Rattle.block_search.specs.Blocks.{block_of, IsWithin, whole_block}
use Rattle.block_search.specs.Judgements.{is_open}
use Rattle.block_search.specs.Outcomes.{IsDecision}
use Rattle.block_search.specs.Trees.{depth}
use Rattle.verdict_meaning.specs.declared.cell.Cell.{Cell}
use Rattle.verdict_meaning.specs.declared.cert.Cert.{Cert}
use Rattle.verdict_meaning.specs.declared.question.Question.{Question}
use Rattle.verdict_meaning.specs.declared.ranges.Ranges.{Ranges}
use Rattle.verdict_meaning.specs.Grids.{cell_count, sample_of}
use Rattle.verdict_meaning.specs.Verdicts.{IsOpenCell, IsProof, IsRefutation, most_cells}
use Rattle.grid_blocks.specs.declared.grid.Grid.{Grid}
use Rattle.grid_blocks.specs.GridBoxes.{cell_of, lengths}
use Rattle.grid_trees.specs.GridJudgements.{judgement_of}
use Rattle.grid_trees.specs.TreeCertificates.{cert_of}
use Rattle.grid_samples.specs.Cells.{HasPieces}
use Rattle.grid_events.proofs.PublicLaws.{blocks-found, blocks-whole, grids-cell}
use Rattle.verdict_search.specs.internal.Tasks.{IsReady}
use Rattle.grid_trees.proofs.PublicLaws.{decisions-flat, decisions-has_sample, decisions-holds}
use Rattle.grid_trees.proofs.PublicLaws.{decisions-open_cell, decisions-refuted}

-- a decision of the whole grid, which has not too many cells
pub record IsDecided (x : Rules) (tables : TableSet) (question : Question) (ranges : Ranges)
    (grid : Grid) (found : Decision) : Type 0 where
  pub ready : IsReady x tables question ranges grid
  pub few : cell_count x question ranges ≤ most_cells
  pub is : IsDecision (judgement_of x tables question grid) (whole_block (lengths grid)) found

pub decided : (x : Rules) (tables : TableSet) (question : Question) (ranges : Ranges)
    (grid : Grid) (given found : Decision) → IsReady x tables question ranges grid
    → cell_count x question ranges ≤ most_cells
    → IsDecision (judgement_of x tables question grid) (whole_block (lengths grid)) given
    → given ≡ found → IsDecided x tables question ranges grid found
decided x tables question ranges grid given found ready few is same =
    record {
      ready = ready;
      few = few;
      is =
          subst
          (IsDecision (judgement_of x tables question grid) (whole_block (lengths grid))) same is;
    }

pub depth_fits : (x : Rules) (tables : TableSet) (question : Question) (ranges : Ranges)
    (grid : Grid) (tree : Tree) → IsDecided x tables question ranges grid (decision.Holds tree)
    → depth tree ≤ 1024
depth_fits x tables question ranges grid tree d =
    let flat = decisions-flat x tables ranges question grid tree d.ready.grid_is d.few d.is in
    omega (arith, flat)

pub holds : (x : Rules) (tables : TableSet) (question : Question) (ranges : Ranges) (grid : Grid)
    (tree : Tree) (cert : Cert) → IsDecided x tables question ranges grid (decision.Holds tree)
    → cert ≡ cert_of grid tree → IsProof x tables ranges question cert
holds x tables question ranges grid tree cert d is =
    subst (IsProof x tables ranges question) (sym is)
    (decisions-holds x tables ranges question grid tree d.ready.grid_is d.few d.is)

-- ---- the cell of a decision is one of the grid
pub refuted_within : (x : Rules) (tables : TableSet) (question : Question) (ranges : Ranges)
    (grid : Grid) (cell : List ℕ)
    → IsDecided x tables question ranges grid (decision.Refuted cell)
    → IsWithin (lengths grid) (block_of cell)
refuted_within x tables question ranges grid cell d =
    blocks-found (lengths grid) (judgement_of x tables question grid).event
    (whole_block (lengths grid)) cell (blocks-whole (lengths grid)) d.is

pub open_within : (x : Rules) (tables : TableSet) (question : Question) (ranges : Ranges)
    (grid : Grid) (cell : List ℕ)
    → IsDecided x tables question ranges grid (decision.Cell cell)
    → IsWithin (lengths grid) (block_of cell)
open_within x tables question ranges grid cell d =
    blocks-found (lengths grid) (is_open (judgement_of x tables question grid))
    (whole_block (lengths grid)) cell (blocks-whole (lengths grid)) d.is.first

pub has_pieces : (x : Rules) (tables : TableSet) (question : Question) (ranges : Ranges)
    (grid : Grid) (cell : List ℕ) → IsReady x tables question ranges grid
    → IsWithin (lengths grid) (block_of cell) → HasPieces (cell_of grid cell)
has_pieces x tables question ranges grid cell ready within =
    (grids-cell x question ranges grid cell ready.closed ready.grid_is within).pieces

-- ---- what is given for a cell
pub refuted : (x : Rules) (tables : TableSet) (question : Question) (ranges : Ranges)
    (grid : Grid) (cell : List ℕ) (s : State)
    → IsDecided x tables question ranges grid (decision.Refuted cell)
    → Some s ≡ sample_of x (cell_of grid cell) → IsRefutation x tables ranges question s
refuted x tables question ranges grid cell s d is =
    decisions-refuted x tables ranges question grid cell s d.ready.grid_is d.few d.is (sym is)

pub sampled : (x : Rules) (tables : TableSet) (question : Question) (ranges : Ranges)
    (grid : Grid) (cell : List ℕ)
    → IsDecided x tables question ranges grid (decision.Refuted cell)
    → None ≡ sample_of x (cell_of grid cell) → ⊥
sampled x tables question ranges grid cell d is =
    decisions-has_sample x tables question grid cell d.is (sym is)

pub open_cell : (x : Rules) (tables : TableSet) (question : Question) (ranges : Ranges)
    (grid : Grid) (cell : List ℕ) (box : Cell)
    → IsDecided x tables question ranges grid (decision.Cell cell)
    → box ≡ cell_of grid cell → IsOpenCell x tables ranges question box
open_cell x tables question ranges grid cell box d is =
    subst (IsOpenCell x tables ranges question) (sym is)
    (decisions-open_cell x tables ranges question grid cell d.ready.grid_is d.few d.is)

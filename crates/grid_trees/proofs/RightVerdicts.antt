-- Decisions over the grid of a question over ranges are right verdicts.
use Rattle.std.proofs.Common.{◌≡◌, ℕ, ◌≤◌, true, false, not, Some}
use Rattle.std.proofs.Common.{None}
use Rattle.std.proofs.Common.{List, [], ◌∷◌, map, sym, ap, ◌∙◌, subst, arith}
use Rattle.std.specs.Prelude.{filter_map}
use Rattle.std.specs.List.{find, list_any}
use Rattle.rule_types.specs.declared.rules.Rules.{Rules}
use Rattle.rule_types.specs.declared.state.State.{State}
use Rattle.rule_types.specs.Tables.{TableSet}
use Rattle.block_search.specs.declared.tree.Tree.{Tree}
use Rattle.block_search.specs.Blocks.{IsWithin, cells, is_none, size}
use Rattle.block_search.specs.Blocks.{whole_block}
use Rattle.block_search.specs.Judgements.{is_open}
use Rattle.block_search.specs.Outcomes.{IsFirstOpen, IsProof}
use Rattle.block_search.specs.Trees.{depth, proves}
use Rattle.verdict_meaning.specs.declared.question.Question.{Question}
use Rattle.verdict_meaning.specs.declared.ranges.Ranges.{Ranges}
use Rattle.verdict_meaning.specs.Boxes.{first_box}
use Rattle.verdict_meaning.specs.Certificates.{checked_cert, is_accepted, leaf_cause}
use Rattle.verdict_meaning.specs.Grids.{cell_count, grid_cells, sample_of}
use Rattle.verdict_meaning.specs.Shown.{shown}
use Rattle.verdict_meaning.specs.Verdicts.{first_event, first_open, is_lean, most_cells}
use Rattle.verdict_meaning.specs.Verdicts.{IsOpenCell, IsRefutation}
use Rattle.verdict_meaning.specs.Verdicts.{IsProof as IsRightProof}
use Rattle.grid_blocks.specs.declared.grid.Grid.{Grid}
use Rattle.grid_blocks.specs.GridBoxes.{box_of, cell_of, lengths}
use Rattle.grid_trees.specs.GridJudgements.{judgement_of, sample_event}
use Rattle.grid_trees.specs.TreeCertificates.{cert_of}
use Rattle.grid_trees.proofs.BlockParts.{HasParts, part_of, some_part}
use Rattle.grid_trees.proofs.FoundCells.{first_found, found_mapped, found_passes, none_found}
use Rattle.grid_trees.proofs.FoundCells.{sample_there, state_event}
use Rattle.grid_trees.proofs.Nodes.{Ends, tree_lean}
use Rattle.grid_trees.proofs.TreesAccepted.{tree_serves}

-- what is used of the grid of a question over ranges
pub record CoversRanges (x : Rules) (ranges : Ranges) (question : Question) (grid : Grid) :
    Type 0 where
  pub parts : HasParts grid
  pub some : list_any is_none (whole_block (lengths grid)) ≡ false
  pub whole : box_of grid (whole_block (lengths grid)) ≡ first_box x question ranges
  pub listed :
      map (cell_of grid) (cells (whole_block (lengths grid))) ≡ grid_cells x question ranges
  pub counted : size (whole_block (lengths grid)) ≡ cell_count x question ranges

-- ---- trees
pub whole_within : (axes : List ℕ) → IsWithin axes (whole_block axes)
unfolding IsWithin whole_block
whole_within [] = tt
whole_within (count ∷ axes) = (omega arith, whole_within axes)

root_part : (x : Rules) (ranges : Ranges) (question : Question) (grid : Grid)
    → CoversRanges x ranges question grid
    → part_of grid (whole_block (lengths grid)) ≡ Some (first_box x question ranges)
root_part x ranges question grid covers =
    sym (some_part grid (whole_block (lengths grid)) covers.some)
    ∙ ap (λ one. Some one) covers.whole

pub tree_accepted : (x : Rules) (tables : TableSet) (ranges : Ranges) (question : Question)
    (grid : Grid) (tree : Tree) → CoversRanges x ranges question grid
    → proves (judgement_of x tables question grid) tree (whole_block (lengths grid)) ≡ true
    → depth tree ≤ 1024 → is_accepted x tables ranges question (cert_of grid tree) ≡ true
unfolding checked_cert
tree_accepted x tables ranges question grid tree covers proved few =
    subst (Ends (leaf_cause x tables question) (cert_of grid tree) 1)
    (root_part x ranges question grid covers)
    ((tree_serves x tables question grid covers.parts tree).ends (whole_block (lengths grid)) 1
    (whole_within (lengths grid)) proved (omega (arith, few)))
    0

pub tree_is_lean : (x : Rules) (tables : TableSet) (ranges : Ranges) (question : Question)
    (grid : Grid) (tree : Tree) → CoversRanges x ranges question grid
    → proves (judgement_of x tables question grid) tree (whole_block (lengths grid)) ≡ true
    → is_lean x tables ranges question (cert_of grid tree) ≡ true
unfolding is_lean
tree_is_lean x tables ranges question grid tree covers proved =
    subst (λ part. tree_lean x tables question (cert_of grid tree) part ≡ true)
    (root_part x ranges question grid covers)
    ((tree_serves x tables question grid covers.parts tree).lean (whole_block (lengths grid))
    (whole_within (lengths grid)) proved)

-- ---- events of cells
event_none : (x : Rules) (tables : TableSet) (question : Question) (grid : Grid)
    (list : List (List ℕ)) → find (judgement_of x tables question grid).event list ≡ None
    → find (λ cell. sample_event x tables question (sample_of x (cell_of grid cell))) list ≡ None
unfolding judgement_of
event_none x tables question grid list e = e

event_some : (x : Rules) (tables : TableSet) (question : Question) (grid : Grid)
    (list : List (List ℕ)) (cell : List ℕ)
    → find (judgement_of x tables question grid).event list ≡ Some cell
    → find (λ cell. sample_event x tables question (sample_of x (cell_of grid cell))) list
    ≡ Some cell
unfolding judgement_of
event_some x tables question grid list cell e = e

open_some : (x : Rules) (tables : TableSet) (question : Question) (grid : Grid)
    (list : List (List ℕ)) (cell : List ℕ)
    → find (is_open (judgement_of x tables question grid)) list ≡ Some cell
    → find (λ one. not (shown x tables question (cell_of grid one))) list ≡ Some cell
unfolding judgement_of
open_some x tables question grid list cell e = e

no_first_event : (x : Rules) (tables : TableSet) (ranges : Ranges) (question : Question)
    (grid : Grid) → CoversRanges x ranges question grid
    → find (judgement_of x tables question grid).event (cells (whole_block (lengths grid)))
    ≡ None
    → first_event x tables ranges question ≡ None
unfolding first_event
no_first_event x tables ranges question grid covers none =
    ap (λ list. find (state_event x tables question) (filter_map (sample_of x) list))
    (sym covers.listed)
    ∙ none_found x tables question (cell_of grid) (cells (whole_block (lengths grid)))
    (event_none x tables question grid (cells (whole_block (lengths grid))) none)

-- ---- decisions
pub tree_flat : (x : Rules) (tables : TableSet) (ranges : Ranges) (question : Question)
    (grid : Grid) (tree : Tree) → CoversRanges x ranges question grid
    → cell_count x question ranges ≤ most_cells
    → IsProof (judgement_of x tables question grid) (whole_block (lengths grid)) tree
    → depth tree ≤ 36
tree_flat x tables ranges question grid tree covers few proof =
    let least : size (whole_block (lengths grid)) ≤ 1048576 =
    subst (λ n. n ≤ 1048576) (sym covers.counted) few in
    proof.flat 35 (omega (arith, least))

pub right_proof : (x : Rules) (tables : TableSet) (ranges : Ranges) (question : Question)
    (grid : Grid) (tree : Tree) → CoversRanges x ranges question grid
    → cell_count x question ranges ≤ most_cells
    → IsProof (judgement_of x tables question grid) (whole_block (lengths grid)) tree
    → IsRightProof x tables ranges question (cert_of grid tree)
right_proof x tables ranges question grid tree covers few proof =
    let flat = tree_flat x tables ranges question grid tree covers few proof in
    record {
      few = few;
      accepted =
          tree_accepted x tables ranges question grid tree covers proof.accepted
          (omega (arith, flat));
      lean = tree_is_lean x tables ranges question grid tree covers proof.accepted;
      none = no_first_event x tables ranges question grid covers proof.none;
    }

pub right_refutation : (x : Rules) (tables : TableSet) (ranges : Ranges) (question : Question)
    (grid : Grid) (cell : List ℕ) (s : State) → CoversRanges x ranges question grid
    → cell_count x question ranges ≤ most_cells
    → find (judgement_of x tables question grid).event (cells (whole_block (lengths grid)))
    ≡ Some cell
    → sample_of x (cell_of grid cell) ≡ Some s → IsRefutation x tables ranges question s
unfolding first_event
right_refutation x tables ranges question grid cell s covers few found is = record {
  few = few;
  first =
      ap (λ list. find (state_event x tables question) (filter_map (sample_of x) list))
      (sym covers.listed)
      ∙ first_found x tables question (cell_of grid) (cells (whole_block (lengths grid))) cell s is
      (event_some x tables question grid (cells (whole_block (lengths grid))) cell found);
}

pub refuted_sample : (x : Rules) (tables : TableSet) (question : Question) (grid : Grid)
    (cell : List ℕ)
    → find (judgement_of x tables question grid).event (cells (whole_block (lengths grid)))
    ≡ Some cell
    → sample_of x (cell_of grid cell) ≡ None → ⊥
refuted_sample x tables question grid cell found none =
    sample_there x tables question (sample_of x (cell_of grid cell)) none
    (found_passes (λ one. sample_event x tables question (sample_of x (cell_of grid one)))
    (cells (whole_block (lengths grid))) cell
    (event_some x tables question grid (cells (whole_block (lengths grid))) cell found))

pub right_open_cell : (x : Rules) (tables : TableSet) (ranges : Ranges) (question : Question)
    (grid : Grid) (cell : List ℕ) → CoversRanges x ranges question grid
    → cell_count x question ranges ≤ most_cells
    → IsFirstOpen (judgement_of x tables question grid) (whole_block (lengths grid)) cell
    → IsOpenCell x tables ranges question (cell_of grid cell)
unfolding first_open
right_open_cell x tables ranges question grid cell covers few first = record {
  few = few;
  none = no_first_event x tables ranges question grid covers first.none;
  first =
      ap (find (λ one. not (shown x tables question one))) (sym covers.listed)
      ∙ found_mapped (λ one. not (shown x tables question one)) (cell_of grid)
      (cells (whole_block (lengths grid))) cell
      (open_some x tables question grid (cells (whole_block (lengths grid))) cell first.first);
}

-- What a search may answer.
use Rattle.std.specs.Prelude.{◌≡◌, ℕ, suc, ◌*◌, ◌^◌, ◌≤◌, Bool, true, false, if◌then◌else◌}
use Rattle.std.specs.Prelude.{Option, Some, None, List}
use Rattle.std.specs.List.{find, list_any}
use Rattle.block_search.specs.declared.decision.Decision.{Decision}
use Rattle.block_search.specs.declared.decision.Decision.TheVariants as decision
use Rattle.block_search.specs.declared.outcome.Outcome.{Outcome}
use Rattle.block_search.specs.declared.outcome.Outcome.TheVariants.{Proved, Event, Open}
use Rattle.block_search.specs.declared.span.Span.{Span}
use Rattle.block_search.specs.declared.tree.Tree.{Tree}
use Rattle.block_search.specs.declared.tree.Tree.TheVariants.{Split, Before}
use Rattle.block_search.specs.Blocks.{cells, size}
use Rattle.block_search.specs.Judgements.{Judgement, is_open}
use Rattle.block_search.specs.Trees.{depth, proves}

-- A tree that shows that no cell of a block has the event. Where the block has at most (3/2)^f
-- cells, the tree has at most f + 1 nodes one below another: 36 where it has at most 2^20.
pub record IsProof (judged : Judgement) (block : List Span) (tree : Tree) : Type 0 where
  pub none : find judged.event (cells block) ≡ None
  pub accepted : proves judged tree block ≡ true
  pub flat : (f : ℕ) → size block * 2 ^ f ≤ 3 ^ f → depth tree ≤ suc f

-- no cell has the event, and some cell is not shown
pub record IsOpen (judged : Judgement) (block : List Span) : Type 0 where
  pub none : find judged.event (cells block) ≡ None
  pub some : list_any (is_open judged) (cells block) ≡ true

abbrev pub IsFound : Judgement → List Span → Outcome → Type 0
IsFound judged block (Proved tree) = IsProof judged block tree
IsFound judged block (Event cell) = find judged.event (cells block) ≡ Some cell
IsFound judged block Open = IsOpen judged block

-- no cell has the event, and this cell is the first that is not shown
pub record IsFirstOpen (judged : Judgement) (block : List Span) (cell : List ℕ) : Type 0 where
  pub none : find judged.event (cells block) ≡ None
  pub first : find (is_open judged) (cells block) ≡ Some cell

abbrev pub IsDecision : Judgement → List Span → Decision → Type 0
IsDecision judged block (decision.Holds tree) = IsProof judged block tree
IsDecision judged block (decision.Refuted cell) = find judged.event (cells block) ≡ Some cell
IsDecision judged block (decision.Cell cell) = IsFirstOpen judged block cell

-- ---- what is found in three parts in a row

abbrev pub is_event : Outcome → Bool
is_event (Proved tree) = false
is_event (Event cell) = true
is_event Open = false

abbrev pub tree_of : Bool → ℕ → ℕ → Tree → Tree → Tree → Tree
tree_of of_moments axis at below middle above =
    if of_moments then Before axis at below above else Split axis at below middle above

abbrev pub third_alone : Outcome → Outcome
third_alone (Proved above) = Open
third_alone (Event cell) = Event cell
third_alone Open = Open

abbrev pub open_joined : Outcome → Outcome → Outcome
open_joined (Proved middle) third = third_alone third
open_joined (Event cell) third = Event cell
open_joined Open third = third_alone third

abbrev pub last_joined : Bool → ℕ → ℕ → Tree → Tree → Outcome → Outcome
last_joined of_moments axis at below middle (Proved above) =
    Proved (tree_of of_moments axis at below middle above)
last_joined of_moments axis at below middle (Event cell) = Event cell
last_joined of_moments axis at below middle Open = Open

abbrev pub later_joined : Bool → ℕ → ℕ → Tree → Outcome → Outcome → Outcome
later_joined of_moments axis at below (Proved middle) third =
    last_joined of_moments axis at below middle third
later_joined of_moments axis at below (Event cell) third = Event cell
later_joined of_moments axis at below Open third = third_alone third

abbrev pub joined : Bool → ℕ → ℕ → Outcome → Outcome → Outcome → Outcome
joined of_moments axis at (Proved below) second third =
    later_joined of_moments axis at below second third
joined of_moments axis at (Event cell) second third = Event cell
joined of_moments axis at Open second third = open_joined second third

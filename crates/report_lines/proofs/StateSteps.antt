-- States and cells, part by part.
use Rattle.std.proofs.Common.{◌≡◌, ℕ, List, [], ◌∷◌, ◌++◌, length, ◌<◌, Option, None, refl, sym, ap, ◌∙◌, arith}
use Rattle.std.proofs.lemmas.List.{append-nil}
use Rattle.exact_fraction.specs.Number.{Rational}
use Rattle.inp_text.specs.Sections.{Line}
use Rattle.interval_sets.specs.declared.interval.Interval.{Interval}
use Rattle.object_index.specs.Objects.{Objects}
use Rattle.rule_types.specs.declared.key.Key.{Key}
use Rattle.rule_types.specs.declared.rules.Rules.{Rules}
use Rattle.rule_types.specs.declared.state.LinkState.{LinkState}
use Rattle.verdict_meaning.specs.Grids.{sample_links}
use Rattle.report_lines.specs.StateLines.{values_from, state_from, state_with, pieces_from, cell_from}
use Rattle.report_lines.specs.StateLines.{cell_with}
use Rattle.report_lines.specs.Words.{behind}
use Rattle.report_lines.specs.declared.grid.Grid.{Grid}

-- a state by its values
pub state_is : (lines : List Line) (x : Rules) (objects : Objects) (grid : Grid) (at place : ℕ)
    (setting : Option Rational) (values : List (Key × Rational))
    → values_from lines objects [] place setting values
    ≡ values_from lines objects grid.keys at None []
    → state_with lines x grid.has_moments values place ≡ state_from lines x objects grid at
unfolding state_from values_from
state_is lines x objects grid at place setting values e =
    ap (λ read. behind read (state_with lines x grid.has_moments)) e

-- a cell by its pieces
pub cell_is : (lines : List Line) (objects : Objects) (grid : Grid) (at place : ℕ)
    (pieces : List (Key × Interval))
    → pieces_from lines objects [] place pieces ≡ pieces_from lines objects grid.keys at []
    → cell_with lines grid.has_moments pieces place ≡ cell_from lines objects grid at
unfolding cell_from pieces_from
cell_is lines objects grid at place pieces e =
    ap (λ read. behind read (cell_with lines grid.has_moments)) e

-- no setting is left
no_links : (values : List (Key × Rational)) (tracked : List ℕ) → sample_links values tracked [] ≡ []
unfolding sample_links
no_links values [] = refl
no_links values (link ∷ tracked) = refl

pub links_stop : (links all : List LinkState) (values : List (Key × Rational)) (tracked : List ℕ)
    (left : List Rational) → length left < 1 → links ++ sample_links values tracked left ≡ all
    → links ≡ all
links_stop links all values tracked [] short e =
    sym (append-nil links) ∙ ap (λ l. links ++ l) (sym (no_links values tracked)) ∙ e
links_stop links all values tracked (q ∷ left) short e = absurd (omega (arith, short))

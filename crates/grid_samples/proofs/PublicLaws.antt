-- What the crates above may cite: each term is the proof of one clause of `laws`, and is named
-- LAW-CLAUSE after it.
use Rattle.std.proofs.lemmas.List.Elements.{All-contains}
use Rattle.std.specs.Prelude.{ℕ, Contains}
use Rattle.exact_fraction.specs.Number.{Rational}
use Rattle.rule_types.specs.declared.rules.Rules.{Rules}
use Rattle.rule_types.specs.Reading.{links_acted}
use Rattle.rule_types.specs.WellFormed.{WellFormed}
use Rattle.rule_types.proofs.PublicLaws.{opened-lists}
use Rattle.verdict_meaning.specs.declared.question.Question.TheVariants.{Limit}
use Rattle.grid_samples.specs.Cells.{TracksLimit}
pub use Rattle.grid_samples.proofs.SampleStates.{fits_if as samples-fits}
pub use Rattle.grid_samples.proofs.SampleStates.{in_boxes as samples-in_boxes}
pub use Rattle.grid_samples.proofs.SampleStates.{in_ranges as samples-in_ranges}
pub use Rattle.grid_samples.proofs.GridCells.{cells_in_grid as grids-cells}
pub use Rattle.grid_samples.proofs.GridCells.{samples_in_ranges as grids-states}

pub limits-tracked : (x : Rules) (link : ℕ) (lo hi : Rational) → WellFormed x
    → Contains (links_acted x.rules) link → TracksLimit x (Limit link lo hi)
limits-tracked x link lo hi formed acted =
    let lists = opened-lists x formed.lists in
    All-contains (Contains x.tracked) x.controlled link lists.controlled
    (All-contains (Contains x.controlled) (links_acted x.rules) link lists.acted_links acted)

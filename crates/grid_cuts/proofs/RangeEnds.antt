-- The ranges of a box: each has a first and a last number.
use Rattle.std.proofs.Common.{◌≡◌, Bool, true, false, Option, Some, None, List, [], ◌∷◌, refl, subst, ap, ℤ, ◌≤ℤ◌}
use Rattle.std.proofs.lemmas.List.Elements.{All-head, All-map, All-tail}
use Rattle.std.specs.Prelude.{All, IfSome, ◌≤◌, if◌then◌else◌}
use Rattle.exact_fraction.specs.Number.{den, one, whole, zero}
use Rattle.exact_fraction.specs.Order.{◌≤ℚ◌, less}
use Rattle.exact_fraction.proofs.PublicLaws.{tests-not_less}
use Rattle.interval_sets.specs.declared.interval.Interval.{Interval}
use Rattle.rule_types.specs.declared.key.Key.{Key}
use Rattle.rule_types.specs.declared.rules.Rules.{Rules}
use Rattle.verdict_meaning.specs.declared.cell.Cell.{Cell}
use Rattle.verdict_meaning.specs.declared.question.Question.{Question}
use Rattle.verdict_meaning.specs.declared.ranges.Ranges.{Ranges}
use Rattle.verdict_meaning.specs.Boxes.{IsPrepared, first_box, range_or}
use Rattle.verdict_meaning.specs.FitRanges.{AreEnds, RangesFit}
use Rattle.verdict_meaning.specs.Grids.{cell_count}
use Rattle.verdict_meaning.specs.Premises.{start_of, second_or_first}
use Rattle.verdict_meaning.specs.Questions.{grid_keys, has_moments}
use Rattle.verdict_meaning.specs.Reaches.{piece_in, same_key}
use Rattle.verdict_meaning.specs.Verdicts.{most_cells}
use Rattle.grid_cuts.specs.declared.end.GridEnd.{GridEnd}
use Rattle.grid_cuts.specs.declared.end.GridEnd.TheVariants as end_of
use Rattle.grid_cuts.specs.Ends.{IsGridEnd}
use Rattle.grid_cuts.specs.internal.Gridded.{AreMany, EndsAt, cells_in}

abbrev HasEnds : Interval → Type 0
HasEnds range = AreEnds range.low range.high

not_below : less one zero ≡ false
unfolding less den whole
not_below = refl

zero_to_one : zero ≤ℚ one
zero_to_one = (tests-not_less one zero).0 not_below

found_by : (t : Bool) (range : Interval) (later : Option Interval) → HasEnds range
    → HasEnds (range_or later) → HasEnds (range_or (if t then Some range else later))
found_by true range later here more = here
found_by false range later here more = more

has_ends : (key : Key) (ranges : List (Key × Interval))
    → All (λ entry. AreEnds entry.1.low entry.1.high) ranges
    → HasEnds (range_or (piece_in key ranges))
unfolding piece_in
has_ends key [] all = zero_to_one
has_ends key (entry ∷ ranges) all =
    found_by (same_key key entry.0) entry.1 (piece_in key ranges)
    (All-head (λ other. AreEnds other.1.low other.1.high) entry ranges all)
    (has_ends key ranges
    (All-tail (λ other. AreEnds other.1.low other.1.high) entry ranges all))

pub box_ends : (x : Rules) (question : Question) (ranges : Ranges) → RangesFit x ranges
    → All (λ entry. AreEnds entry.1.low entry.1.high) (first_box x question ranges).keys
unfolding first_box
box_ends x question ranges fit =
    All-map (λ entry. AreEnds entry.1.low entry.1.high)
    (λ key. (key, range_or (piece_in key ranges.keys))) (grid_keys x question)
    (λ k d within. has_ends _ ranges.keys fit.keys)

moments_by : (t : Bool) (moments : Option (ℤ × ℤ)) → IfSome moments (λ span. span.0 ≤ℤ span.1)
    → IfSome (if t then moments else None) (λ span. span.0 ≤ℤ span.1)
moments_by true moments order = order
moments_by false moments order = tt

pub box_order : (x : Rules) (question : Question) (ranges : Ranges) → RangesFit x ranges
    → IfSome (first_box x question ranges).moments (λ span. span.0 ≤ℤ span.1)
unfolding first_box
box_order x question ranges fit =
    moments_by (has_moments x question) ranges.moments fit.moments

pub start_is : (x : Rules) (ranges : Ranges) → IsPrepared x ranges → start_of x ≡ ranges.start
start_is x ranges prepared = ap second_or_first prepared.start

-- ---- the cells of the first box

pub cell_few : (x : Rules) (question : Question) (ranges : Ranges) (cell : Cell)
    → cell ≡ first_box x question ranges → cells_in x question cell ≤ most_cells
    → cell_count x question ranges ≤ most_cells
unfolding cell_count
cell_few x question ranges cell is few =
    subst (λ box. cells_in x question box ≤ most_cells) is few

pub box_end : (x : Rules) (question : Question) (ranges : Ranges) (cell : Cell)
    (end : GridEnd) → cell ≡ first_box x question ranges
    → EndsAt (cells_in x question cell) end → IsGridEnd x ranges question end
unfolding cell_count
box_end x question ranges cell (end_of.TooManyCells count) is at =
    let there = subst (λ box. AreMany (cells_in x question box) count) is at in
    record { many = there.many; count_is = there.count_is }
box_end x question ranges cell end_of.NoMemory is at = tt

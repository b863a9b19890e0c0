-- The grid of a question over ranges is in order.
use Rattle.std.proofs.Common.{◌≡◌, ◌<◌, Option, Some, None, List, length, get_or, map, ℤ}
use Rattle.std.proofs.Common.{sym, ap, subst, ◌∙◌, arith}
use Rattle.std.specs.Prelude.{All, IfSome}
use Rattle.std.proofs.lemmas.List.{length-map, get_or-map, map-id}
use Rattle.exact_fraction.specs.Number.{Rational}
use Rattle.interval_sets.specs.declared.interval.Interval.{Interval}
use Rattle.interval_sets.specs.Cuts.{IsRising}
use Rattle.interval_sets.specs.Intervals.{whole_line}
use Rattle.rule_types.specs.declared.key.Key.{Key}
use Rattle.rule_types.specs.declared.rules.Rules.{Rules}
use Rattle.verdict_meaning.specs.declared.cell.Cell.{Cell}
use Rattle.verdict_meaning.specs.declared.question.Question.{Question}
use Rattle.verdict_meaning.specs.declared.ranges.Ranges.{Ranges}
use Rattle.verdict_meaning.specs.Boxes.{first_box, range_or}
use Rattle.verdict_meaning.specs.Grids.{cuts_of}
use Rattle.verdict_meaning.specs.Premises.{start_of}
use Rattle.verdict_meaning.specs.Questions.{asked_numbers, grid_keys}
use Rattle.verdict_meaning.specs.Reaches.{piece_in}
use Rattle.grid_blocks.specs.declared.grid.Grid.{Grid}
use Rattle.grid_blocks.specs.declared.grid.KeyCuts.{KeyCuts}
use Rattle.grid_blocks.specs.declared.grid.MomentPieces.{MomentPieces}
use Rattle.grid_blocks.specs.GridOrder.{AreDistinct, AreFirstsTo, IsInOrder, key_of}
use Rattle.grid_blocks.specs.GridsOf.{IsGridOf, IsMomentsOf, key_with_cuts}
use Rattle.grid_blocks.proofs.DistinctKeys.{keys_distinct}
use Rattle.grid_blocks.proofs.RisingCuts.{cuts_rise}
use Rattle.grid_blocks.proofs.RisingMoments.{firsts_rise}
use Rattle.grid_blocks.proofs.Maps.{map_twice}

abbrev entry_cuts : Rules → Question → Key × Interval → Key × List Rational
entry_cuts x question entry = (entry.0, cuts_of x question entry.0 entry.1)

-- the keys of a grid are those of its box
keys_are : (x : Rules) (question : Question) (cell : Cell) (grid : Grid)
    → IsGridOf x question cell grid
    → map key_of grid.keys ≡ map (λ entry. entry.0) cell.keys
keys_are x question cell grid is =
    sym (map_twice (λ entry. entry.0) key_with_cuts grid.keys)
    ∙ ap (map (λ entry. entry.0)) is.keys
    ∙ map_twice (λ entry. entry.0) (entry_cuts x question) cell.keys

-- the cuts of each axis rise
all_rise : (x : Rules) (question : Question) (axes : List KeyCuts)
    (entries : List (Key × Interval)) → map key_with_cuts axes ≡ map (entry_cuts x question) entries
    → All (λ axis. IsRising axis.cuts) axes
all_rise x question axes entries is k d within =
    let other : Key × Interval = (d.key, whole_line) in
    let alike = ap length is in
    let there : k < length entries =
    omega (
      arith,
      within,
      alike,
      length-map axes key_with_cuts,
      length-map entries (entry_cuts x question),
    ) in
    let entry = get_or entries k other in
    let here : key_with_cuts (get_or axes k d) ≡ entry_cuts x question entry =
    sym (get_or-map key_with_cuts axes k d (key_with_cuts d) within)
    ∙ ap (λ list. get_or list k (key_with_cuts d)) is
    ∙ get_or-map (entry_cuts x question) entries k other (key_with_cuts d) there in
    subst (λ pair. IsRising pair.1) (sym here) (cuts_rise x question entry.0 entry.1)

moments_rise : (x : Rules) (question : Question) (span : Option (ℤ × ℤ))
    (moments : Option MomentPieces) → IsMomentsOf x question span moments
    → IfSome moments (λ pieces. AreFirstsTo pieces.last pieces.firsts)
moments_rise x question span None is = tt
moments_rise x question None (Some pieces) is = absurd is
moments_rise x question (Some span) (Some pieces) is =
    subst (λ last. AreFirstsTo last pieces.firsts) (sym is.last)
    (subst (AreFirstsTo span.1) (sym is.firsts)
    (firsts_rise x (asked_numbers x question) x.routing_step (start_of x) span.0 span.1))

first_keys : (x : Rules) (question : Question) (ranges : Ranges)
    → map (λ entry. entry.0) (first_box x question ranges).keys ≡ grid_keys x question
unfolding first_box
first_keys x question ranges =
    map_twice (λ entry. entry.0) (λ key. (key, range_or (piece_in key ranges.keys)))
    (grid_keys x question)
    ∙ map-id (grid_keys x question)

pub grid_in_order : (x : Rules) (question : Question) (ranges : Ranges) (grid : Grid)
    → IsGridOf x question (first_box x question ranges) grid → IsInOrder grid
grid_in_order x question ranges grid is =
    let box = first_box x question ranges in
    record {
      cuts = all_rise x question grid.keys box.keys is.keys;
      keys =
          subst AreDistinct
          (sym (keys_are x question box grid is ∙ first_keys x question ranges))
          (keys_distinct x question);
      moments = moments_rise x question box.moments grid.moments is.moments;
    }

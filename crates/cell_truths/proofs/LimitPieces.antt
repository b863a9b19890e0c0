-- The piece of the SETTING of a limit's link, which the limit's numbers do not cut.
use Rattle.std.proofs.Common.{◌≡◌, ℕ, Bool, true, false, inl, inr, Some, [], ◌∷◌, cond, refl}
use Rattle.std.proofs.Common.{sym, subst, ◌∙◌}
use Rattle.std.proofs.lemmas.Bool.{and_from, and_parts, not_from_false}
use Rattle.std.specs.Prelude.{IsTrue, slice_get}
use Rattle.exact_fraction.specs.Number.{Rational}
use Rattle.exact_fraction.specs.Order.{◌=ℚ◌, less}
use Rattle.exact_fraction.proofs.PublicLaws.{order-at_most_below, order-below_at_most}
use Rattle.exact_fraction.proofs.PublicLaws.{order-same_is_at_most, order-same_transitive}
use Rattle.exact_fraction.proofs.PublicLaws.{tests-less, tests-not_less, tests-same}
use Rattle.exact_fraction.proofs.PublicLaws.{tests-same_by_less}
use Rattle.interval_sets.specs.declared.interval.Interval.{Interval}
use Rattle.interval_sets.specs.Intervals.{lies_in, point_of}
use Rattle.interval_sets.proofs.PublicLaws.{intervals-point}
use Rattle.rule_types.specs.declared.rules.Rules.{Rules}
use Rattle.verdict_meaning.specs.declared.cell.Cell.{Cell}
use Rattle.verdict_meaning.specs.declared.question.Question.TheVariants.{Limit}
use Rattle.verdict_meaning.specs.declared.ranges.Ranges.{Ranges}
use Rattle.verdict_meaning.specs.Boxes.{first_box}
use Rattle.verdict_meaning.specs.Grids.{gap_of, grid_cells}
use Rattle.verdict_meaning.specs.Questions.{setting_key}
use Rattle.verdict_meaning.specs.Reaches.{same_key}
use Rattle.grid_samples.specs.Cells.{HasClosedRanges}
use Rattle.cell_truths.specs.UncutPieces.{HasUncutSetting, IsUncutBy}
use Rattle.cell_truths.proofs.CellPieces.{key_numbers, rule_cuts}
use Rattle.cell_truths.proofs.CutPieces.{IsBeside, IsPieceBeside}
use Rattle.cell_truths.proofs.GridCells.{cell_piece, known_cell}
use Rattle.cell_truths.proofs.GridKeys.{limit_key_in_grid, same_itself}
use Rattle.cell_truths.proofs.Lists.{Among, among_front}

-- ---- a point
point_is : (p q : Rational) → IsTrue (lies_in (point_of p) q) → q =ℚ p
point_is p q inside = (tests-same q p).0 (sym (intervals-point p q) ∙ inside)

point_uncut : (p c : Rational) (a b : Bool) → less p c ≡ a → less c p ≡ b
    → IsUncutBy c (point_of p)
point_uncut p c true b e f =
    inl (λ q inside.
    order-at_most_below q p c (order-same_is_at_most q p (point_is p q inside)).0
    ((tests-less p c).0 e))
point_uncut p c false true e f =
    inr (inr (λ q inside.
    order-below_at_most c p q ((tests-less c p).0 f)
    (order-same_is_at_most q p (point_is p q inside)).1))
point_uncut p c false false e f =
    let equal : p =ℚ c =
    (tests-same p c).0
    (tests-same_by_less p c
    ∙ and_from _ _ (not_from_false (less p c) e) (not_from_false (less c p) f)) in
    inr (inl (λ q inside. order-same_transitive q p c (point_is p q inside) equal))

-- ---- a gap
gap_uncut : (low high c : Rational) → IsBeside low high c → IsUncutBy c (gap_of low high)
gap_uncut low high c (inl early) =
    inr (inr (λ q inside.
    order-at_most_below c low q ((tests-not_less low c).0 early)
    ((tests-less low q).0 (and_parts (less low q) (less q high) inside).0)))
gap_uncut low high c (inr late) =
    inl (λ q inside.
    order-below_at_most q high c
    ((tests-less q high).0 (and_parts (less low q) (less q high) inside).1)
    ((tests-not_less c high).0 late))

piece_uncut : (P : Rational → Type 0) (piece : Interval) → IsPieceBeside P piece
    → (c : Rational) → P c → IsUncutBy c piece
piece_uncut P piece (inl point) c own =
    subst (IsUncutBy c) (sym point.1)
    (point_uncut point.0 c (less point.0 c) (less c point.0) refl refl)
piece_uncut P piece (inr gap) c own =
    subst (IsUncutBy c) (sym gap.is) (gap_uncut gap.low gap.high c (gap.beside c own))

-- ---- the setting of a limit's link
cut_if : (lo hi c : Rational) (b : Bool) → b ≡ true → Among (lo ∷ hi ∷ []) c
    → Among (cond b (lo ∷ hi ∷ []) []) c
cut_if lo hi c b is at = subst (λ own. Among (cond own (lo ∷ hi ∷ []) []) c) (sym is) at

limit_number : (x : Rules) (link : ℕ) (lo hi c : Rational) → Among (lo ∷ hi ∷ []) c
    → Among (key_numbers x (Limit link lo hi) (setting_key link)) c
limit_number x link lo hi c at =
    among_front _ (rule_cuts x (Limit link lo hi) (setting_key link)) c
    (cut_if lo hi c (same_key (setting_key link) (setting_key link))
    (same_itself (setting_key link)) at)

pub limit_piece : (x : Rules) (link : ℕ) (lo hi : Rational) (ranges : Ranges) (cell : Cell)
    (k : ℕ) → HasClosedRanges ranges
    → slice_get (grid_cells x (Limit link lo hi) ranges) k ≡ Some cell
    → HasUncutSetting cell link lo hi
limit_piece x link lo hi ranges cell k closed is =
    let question = Limit link lo hi in
    let own =
    cell_piece x question (first_box x question ranges) cell (setting_key link)
    (known_cell x question ranges cell k closed is) (limit_key_in_grid x link lo hi) in
    let beside = piece_uncut (Among (key_numbers x question (setting_key link))) own.piece
    own.fact.uncut in
    record {
      piece = own.piece;
      piece_is = own.found;
      low = beside lo (limit_number x link lo hi lo (inl refl));
      high = beside hi (limit_number x link lo hi hi (inr (inl refl)));
    }

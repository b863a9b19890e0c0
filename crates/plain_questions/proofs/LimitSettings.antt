-- A cell of a limit's grid decides at its sample whether the setting of the limit's link lies
-- within the limit.
use Rattle.std.proofs.Common.{◌≡◌, ℕ, Bool, true, false, not, ◌&&◌, ◌⊎◌, inl, inr}
use Rattle.std.proofs.Common.{Option, Some, None, List, [], ◌∷◌, cond, refl, sym, subst, ap}
use Rattle.std.proofs.Common.{option_and_then}
use Rattle.std.proofs.lemmas.Bool.{and_from, not_from_false}
use Rattle.std.proofs.lemmas.List.Elements.{recursion_from_All}
use Rattle.std.proofs.lemmas.Option.{none-some, same_Some}
use Rattle.std.specs.List.{AllByRecursion}
use Rattle.std.specs.Prelude.{IfSome, IsTrue, slice_get}
use Rattle.exact_fraction.specs.Number.{Rational}
use Rattle.exact_fraction.specs.Order.{◌<ℚ◌, ◌≤ℚ◌, less}
use Rattle.exact_fraction.proofs.PublicLaws.{order-below_is_at_most, order-same_is_at_most}
use Rattle.exact_fraction.proofs.PublicLaws.{tests-less, tests-not_less}
use Rattle.interval_sets.specs.declared.interval.Interval.{Interval}
use Rattle.interval_sets.specs.Intervals.{lies_in}
use Rattle.rule_types.specs.declared.key.Attr.TheVariants.{Setting}
use Rattle.rule_types.specs.declared.key.Key.{Key}
use Rattle.rule_types.specs.declared.object.Space.TheVariants.{Links}
use Rattle.rule_types.specs.declared.rules.Rules.{Rules}
use Rattle.rule_types.specs.declared.state.LinkState.{LinkState}
use Rattle.rule_types.specs.declared.state.State.{State}
use Rattle.rule_types.specs.WellFormed.{WellFormed}
use Rattle.rule_types.proofs.PublicLaws.{equal_keys-key}
use Rattle.rule_meaning.specs.State.{link_state, link_value, value}
use Rattle.rule_meaning.proofs.PublicLaws.{keys_by_place-of_link}
use Rattle.verdict_meaning.specs.declared.cell.Cell.{Cell}
use Rattle.verdict_meaning.specs.declared.question.Question.TheVariants.{Limit}
use Rattle.verdict_meaning.specs.declared.ranges.Ranges.{Ranges}
use Rattle.verdict_meaning.specs.Boxes.{HasKey, IsStateIn}
use Rattle.verdict_meaning.specs.Grids.{grid_cells, sample_of}
use Rattle.verdict_meaning.specs.Hulls.{closed}
use Rattle.verdict_meaning.specs.Questions.{setting_key}
use Rattle.verdict_meaning.specs.Reaches.{piece_in, same_key}
use Rattle.decided_events.specs.DecidedLimits.{AllWithin, IsLimitDecided, NoneWithin}
use Rattle.grid_samples.specs.Cells.{HasClosedRanges, TracksLimit}
use Rattle.cell_truths.specs.UncutPieces.{IsUncutBy}
use Rattle.cell_truths.proofs.PublicLaws.{cells-inside, pieces-limit}
use Rattle.plain_questions.proofs.SampleTargets.{IsAtTarget, sample_target}

-- ---- a piece that neither number cuts lies within the limit, or outside it
left_fails : (a b : Bool) → a ≡ false → (a && b) ≡ false
left_fails a b h = rw h refl

right_fails : (a b : Bool) → b ≡ false → (a && b) ≡ false
right_fails true b h = h
right_fails false b h = refl

below_limit : (lo hi q : Rational) → q <ℚ lo → lies_in (closed lo hi) q ≡ false
below_limit lo hi q below =
    left_fails (not (less q lo)) (not (less hi q)) (ap not ((tests-less q lo).1 below))

above_limit : (lo hi q : Rational) → hi <ℚ q → lies_in (closed lo hi) q ≡ false
above_limit lo hi q above =
    right_fails (not (less q lo)) (not (less hi q)) (ap not ((tests-less hi q).1 above))

within_limit : (lo hi q : Rational) → lo ≤ℚ q → q ≤ℚ hi → IsTrue (lies_in (closed lo hi) q)
within_limit lo hi q above below =
    and_from (not (less q lo)) (not (less hi q))
    (not_from_false (less q lo) ((tests-not_less q lo).1 above))
    (not_from_false (less hi q) ((tests-not_less hi q).1 below))

abbrev IsOneSided : Rational → Rational → Interval → Type 0
IsOneSided lo hi piece = AllWithin lo hi piece ⊎ NoneWithin lo hi piece

from_low : (lo hi : Rational) (piece : Interval)
    → ((q : Rational) → IsTrue (lies_in piece q) → lo ≤ℚ q) → IsUncutBy hi piece
    → IsOneSided lo hi piece
from_low lo hi piece low (inl below) =
    inl (λ q inside.
    within_limit lo hi q (low q inside) (order-below_is_at_most q hi (below q inside)))
from_low lo hi piece low (inr (inl equal)) =
    inl (λ q inside.
    within_limit lo hi q (low q inside) (order-same_is_at_most q hi (equal q inside)).0)
from_low lo hi piece low (inr (inr above)) =
    inr (λ q inside. above_limit lo hi q (above q inside))

one_sided : (lo hi : Rational) (piece : Interval) → IsUncutBy lo piece → IsUncutBy hi piece
    → IsOneSided lo hi piece
one_sided lo hi piece (inl below) high = inr (λ q inside. below_limit lo hi q (below q inside))
one_sided lo hi piece (inr (inl equal)) high =
    from_low lo hi piece (λ q inside. (order-same_is_at_most q lo (equal q inside)).1) high
one_sided lo hi piece (inr (inr above)) high =
    from_low lo hi piece (λ q inside. order-below_is_at_most lo q (above q inside)) high

-- ---- what holds of each entry holds of the piece of a key
piece_by : (P : Key → Interval → Type 0) (key : Key) (entry : Key × Interval)
    (later : Option Interval) (piece : Interval) (b : Bool) → same_key key entry.0 ≡ b
    → P entry.0 entry.1 → (later ≡ Some piece → P key piece)
    → cond b (Some entry.1) later ≡ Some piece → P key piece
piece_by P key entry later piece true is h more e =
    subst (P key) (same_Some entry.1 piece e)
    (subst (λ one. P one entry.1) (sym ((equal_keys-key key entry.0).0 is)) h)
piece_by P key entry later piece false is h more e = more e

of_piece : (P : Key → Interval → Type 0) (key : Key) (entries : List (Key × Interval))
    (piece : Interval) → AllByRecursion (λ entry. P entry.0 entry.1) entries
    → piece_in key entries ≡ Some piece → P key piece
unfolding piece_in
of_piece P key [] piece h e = absurd (none-some piece e)
of_piece P key (entry ∷ entries) piece h e =
    piece_by P key entry (piece_in key entries) piece (same_key key entry.0) refl h.0
    (of_piece P key entries piece h.1) e

-- ---- the link of a setting that lies in its piece
record HasLink (x : Rules) (s : State) (link : ℕ) (piece : Interval) : Type 0 where
  at : LinkState
  is : link_state x s link ≡ Some at
  target_is : at.target ≡ at.setting
  inside : IsTrue (lies_in piece at.setting)

link_by : (x : Rules) (s : State) (link : ℕ) (piece : Interval) (o : Option LinkState)
    → link_state x s link ≡ o → (option_and_then (link_value Setting) o ≡ None → ⊥)
    → IfSome (option_and_then (link_value Setting) o) (λ q. IsTrue (lies_in piece q))
    → IfSome o IsAtTarget → HasLink x s link piece
unfolding link_value
link_by x s link piece None is has inside target = absurd (has refl)
link_by x s link piece (Some at) is has inside target =
    record { at = at; is = is; target_is = target; inside = inside }

-- the value of a key, where there is one, lies in the piece
abbrev IsValueIn : Rules → State → Key → Interval → Type 0
IsValueIn x s key piece = IfSome (value x s key) (λ q. IsTrue (lies_in piece q))

link_in : (x : Rules) (cell : Cell) (s : State) (link : ℕ) (piece : Interval)
    → IsStateIn x cell s → piece_in (setting_key link) cell.keys ≡ Some piece
    → IfSome (link_state x s link) IsAtTarget → HasLink x s link piece
link_in x cell s link piece h is target =
    let value_is = keys_by_place-of_link x s (record { space = Links; index = link }) Setting refl in
    let has =
    of_piece (λ key one. HasKey x s key) (setting_key link) cell.keys piece
    (recursion_from_All (λ entry. HasKey x s entry.0) cell.keys h.state.present) is in
    let inside =
    of_piece (IsValueIn x s) (setting_key link) cell.keys piece
    (recursion_from_All (λ entry. IsValueIn x s entry.0 entry.1) cell.keys h.inside.keys) is in
    link_by x s link piece (link_state x s link) refl
    (subst (λ o. o ≡ None → ⊥) value_is has)
    (subst (λ o. IfSome o (λ q. IsTrue (lies_in piece q))) value_is inside) target

pub limit_decided : (x : Rules) (ranges : Ranges) (cell : Cell) (k : ℕ) (s : State) (link : ℕ)
    (lo hi : Rational) → WellFormed x → HasClosedRanges ranges → TracksLimit x (Limit link lo hi)
    → slice_get (grid_cells x (Limit link lo hi) ranges) k ≡ Some cell
    → sample_of x cell ≡ Some s → IsLimitDecided x cell s link lo hi
limit_decided x ranges cell k s link lo hi formed ends tracks is sampled =
    let uncut = pieces-limit x link lo hi ranges cell k ends is in
    let own =
    link_in x cell s link uncut.piece
    (cells-inside x (Limit link lo hi) ranges cell k s formed ends tracks is sampled)
    uncut.piece_is (sample_target x cell s link sampled) in
    record {
      at = own.at;
      piece = uncut.piece;
      link_is = own.is;
      piece_is = uncut.piece_is;
      target_is = own.target_is;
      inside = own.inside;
      decided = one_sided lo hi uncut.piece uncut.low uncut.high;
    }

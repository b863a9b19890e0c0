-- A condition on a key of the grid is decided at a cell.
use Rattle.std.proofs.Common.{◌≡◌, Bool, true, false, not, ◌&&◌, ◌||◌, ◌⊎◌, inl, inr, Some}
use Rattle.std.proofs.Common.{cond, refl, sym, subst, ap, ◌∙◌, ℤ}
use Rattle.std.specs.Prelude.{IsTrue}
use Rattle.std.proofs.lemmas.Bool.{and_from, true≢false}
use Rattle.exact_fraction.specs.Number.{Rational, one, zero}
use Rattle.exact_fraction.specs.Operations.{middle_of}
use Rattle.exact_fraction.specs.Order.{◌<ℚ◌, ◌≤ℚ◌, less}
use Rattle.exact_fraction.proofs.PublicLaws.{order-apart, order-below_is_at_most}
use Rattle.exact_fraction.proofs.PublicLaws.{order-below_transitive, order-at_most_below}
use Rattle.exact_fraction.proofs.PublicLaws.{order-dense, tests-less}
use Rattle.exact_fraction.proofs.PublicLaws.{tests-not_less, tests-same_by_less}
use Rattle.interval_sets.specs.declared.interval.Interval.{Interval}
use Rattle.interval_sets.specs.Intervals.{lies_in, point_of}
use Rattle.rule_types.specs.declared.condition.Condition.{Condition}
use Rattle.rule_types.specs.declared.key.Attr.{Attr}
use Rattle.rule_types.specs.declared.key.Attr.TheVariants as attr
use Rattle.rule_types.specs.declared.key.Key.{Key}
use Rattle.rule_types.specs.declared.key.Key.TheVariants.{Object}
use Rattle.rule_types.specs.declared.object.ObjectNo.{ObjectNo}
use Rattle.rule_types.specs.declared.rules.Rules.{Rules}
use Rattle.rule_types.specs.WellFormed.{is_equality}
use Rattle.rule_meaning.specs.Condition.{hours_of_step}
use Rattle.verdict_meaning.specs.declared.cell.Cell.{Cell}
use Rattle.verdict_meaning.specs.declared.question.Question.{Question}
use Rattle.verdict_meaning.specs.declared.truth.Reach.{Reach}
use Rattle.verdict_meaning.specs.declared.truth.Reach.TheVariants.{Within}
use Rattle.verdict_meaning.specs.Grids.{gap_of, number_cuts}
use Rattle.verdict_meaning.specs.Hulls.{begins_below_zero, closed, ends_above_zero, greatest_step}
use Rattle.verdict_meaning.specs.Hulls.{least_step, step_hull}
use Rattle.verdict_meaning.specs.Questions.{grid_keys_of}
use Rattle.verdict_meaning.specs.Reaches.{closed_reach, is_point_zero, key_reach, open_reach, over}
use Rattle.verdict_meaning.specs.Reaches.{piece_in, present, timer_reach}
use Rattle.verdict_meaning.specs.Truths.{reach_truth}
use Rattle.grid_samples.specs.Cells.{IsNotBelowZero}
use Rattle.cell_truths.proofs.CellPieces.{IsUncut, key_numbers}
use Rattle.cell_truths.proofs.CutPieces.{IsBeside, IsPieceBeside}
use Rattle.cell_truths.proofs.GridKeys.{IsPieceOfKey}
use Rattle.cell_truths.proofs.Lists.{Among}
use Rattle.cell_truths.proofs.PieceTruths.{IsDecided, piece_decided, point_decided}

-- ---- the pieces of keys
-- the numbers that cut a key lie beside its piece, which is not below 0 for settings and timers
pub record IsKeyPiece (x : Rules) (question : Question) (key : Key) (piece : Interval) :
    Type 0 where
  pub uncut : IsUncut x question key piece
  pub low : IsNotBelowZero key piece

-- a cell has a piece of each key of the grid for a key of a condition, and the numbers at which the
-- condition is decided cut the key
pub record IsReadAt (x : Rules) (question : Question) (cell : Cell) (c : Condition) (key : Key)
    (q : Rational) : Type 0 where
  pub pieces :
      (other : Key) → Among (grid_keys_of key) other
      → IsPieceOfKey (IsKeyPiece x question) other (piece_in other cell.keys)
  pub cuts :
      (n : Rational) → Among (number_cuts c.half_step x.routing_step q) n
      → Among (key_numbers x question key) n
  pub equality : IsTrue c.half_step → IsTrue (is_equality c.rel)

-- fewer numbers lie beside a piece too
fewer : (P Q : Rational → Type 0) (piece : Interval) → ((n : Rational) → Q n → P n)
    → IsPieceBeside P piece → IsPieceBeside Q piece
fewer P Q piece h (inl point) = inl point
fewer P Q piece h (inr gap) =
    inr (record {
      low = gap.low;
      high = gap.high;
      is = gap.is;
      rises = gap.rises;
      beside = λ n own. gap.beside n (h n own);
    })

-- whether the value of a key that can be so much stands to a number as a condition asks
abbrev IsDecidedBy : Rules → Condition → Rational → Reach → Type 0
IsDecidedBy x c q reach =
    IsDecided (reach_truth c (hours_of_step x.routing_step) reach (Within true (point_of q)))

within_decided : (x : Rules) (question : Question) (cell : Cell) (c : Condition) (key : Key)
    (q : Rational) → IsReadAt x question cell c key q → (piece : Interval)
    → IsKeyPiece x question key piece → IsDecidedBy x c q (Within true piece)
within_decided x question cell c key q h piece own =
    piece_decided c x.routing_step q piece h.equality
    (fewer (Among (key_numbers x question key))
    (Among (number_cuts c.half_step x.routing_step q)) piece h.cuts own.uncut)

present_decided : (x : Rules) (question : Question) (cell : Cell) (c : Condition) (key : Key)
    (q : Rational) → IsReadAt x question cell c key q → Among (grid_keys_of key) key
    → IsDecidedBy x c q (present (piece_in key cell.keys))
present_decided x question cell c key q h at =
    let own = h.pieces key at in
    subst (λ o. IsDecidedBy x c q (present o)) (sym own.found)
    (within_decided x question cell c key q h own.piece own.fact)

-- ---- settings and 0
no_lower : (low high : Rational)
    → ((q : Rational) → IsTrue (lies_in (gap_of low high) q) → zero ≤ℚ q)
    → low <ℚ zero → zero <ℚ high → ⊥
no_lower low high h below above =
    let middle = order-dense low zero below in
    let m = middle_of low zero in
    order-apart zero m
    (h m
    (and_from (less low m) (less m high) ((tests-less low m).1 middle.0)
    ((tests-less m high).1 (order-below_transitive m zero high middle.1 above))))
    middle.1

zero_beside : (low high : Rational)
    → ((q : Rational) → IsTrue (lies_in (gap_of low high) q) → zero ≤ℚ q)
    → (a b : Bool) → less low zero ≡ a → less zero high ≡ b → IsBeside low high zero
zero_beside low high h false b e f = inl e
zero_beside low high h true false e f = inr f
zero_beside low high h true true e f =
    absurd (no_lower low high h ((tests-less low zero).0 e) ((tests-less zero high).0 f))

-- 0 lies beside the piece of a SETTING
abbrev IsAtZero : Interval → Type 0
IsAtZero piece = IsPieceBeside (λ n. n ≡ zero) piece

at_zero : (P : Rational → Type 0) (piece : Interval) → IsPieceBeside P piece
    → ((q : Rational) → IsTrue (lies_in piece q) → zero ≤ℚ q) → IsAtZero piece
at_zero P piece (inl point) h = inl point
at_zero P piece (inr gap) h =
    let all = subst (λ one. (q : Rational) → IsTrue (lies_in one q) → zero ≤ℚ q) gap.is h in
    inr (record {
      low = gap.low;
      high = gap.high;
      is = gap.is;
      rises = gap.rises;
      beside = λ n same.
          subst (IsBeside gap.low gap.high) (sym same)
          (zero_beside gap.low gap.high all (less gap.low zero) (less zero gap.high) refl refl);
    })

setting_at_zero : (x : Rules) (question : Question) (object : ObjectNo) (piece : Interval)
    → IsKeyPiece x question (Object object attr.Setting) piece → IsAtZero piece
setting_at_zero x question object piece own =
    at_zero (Among (key_numbers x question (Object object attr.Setting))) piece own.uncut
    (own.low refl)

-- ---- STATUS
abbrev IsOnePoint : Interval → Type 0
IsOnePoint piece = (r : Rational) × (piece ≡ point_of r)

point_step : (a b : Bool) → (a ≡ true → b ≡ true → ⊥)
    → cond (a || (not b && not a)) zero one ≡ cond b one zero
point_step true true h = absurd (h refl refl)
point_step true false h = refl
point_step false true h = refl
point_step false false h = refl

gap_step : (a b : Bool) → (a ≡ false) ⊎ (b ≡ false) → (a ≡ false → b ≡ false → ⊥)
    → cond (a || (a && b)) zero one ≡ cond b one zero
gap_step true true (inl e) h = absurd (true≢false e)
gap_step true true (inr e) h = absurd (true≢false e)
gap_step true false beside h = refl
gap_step false true beside h = refl
gap_step false false beside h = absurd (h refl refl)

not_both : (p : Rational) → less p zero ≡ true → less zero p ≡ true → ⊥
not_both p e f =
    order-apart p zero (order-below_is_at_most p zero ((tests-less p zero).0 e))
    ((tests-less zero p).0 f)

not_neither : (low high : Rational) → less low high ≡ true → less low zero ≡ false
    → less zero high ≡ false → ⊥
not_neither low high rises e f =
    order-apart high zero ((tests-not_less zero high).0 f)
    (order-at_most_below zero low high ((tests-not_less low zero).0 e)
    ((tests-less low high).0 rises))

least_is_greatest : (piece : Interval) → IsAtZero piece → least_step piece ≡ greatest_step piece
unfolding least_step greatest_step begins_below_zero ends_above_zero
least_is_greatest piece (inl point) =
    subst
    (λ one. least_step one ≡ greatest_step one) (sym point.1)
    (point_step (less point.0 zero) (less zero point.0) (not_both point.0))
least_is_greatest piece (inr gap) =
    subst
    (λ one. least_step one ≡ greatest_step one) (sym gap.is)
    (gap_step (less gap.low zero) (less zero gap.high) (gap.beside zero refl)
    (not_neither gap.low gap.high gap.rises))

step_point : (piece : Interval) → IsAtZero piece → step_hull piece ≡ point_of (greatest_step piece)
unfolding step_hull
step_point piece h = ap (λ r. closed r (greatest_step piece)) (least_is_greatest piece h)

status_decided : (x : Rules) (question : Question) (cell : Cell) (c : Condition)
    (object : ObjectNo) (q : Rational)
    → IsPieceOfKey (IsKeyPiece x question) (Object object attr.Setting)
    (piece_in (Object object attr.Setting) cell.keys)
    → IsDecidedBy x c q (over step_hull (present (piece_in (Object object attr.Setting) cell.keys)))
status_decided x question cell c object q own =
    let is = step_point own.piece (setting_at_zero x question object own.piece own.fact) in
    subst (λ o. IsDecidedBy x c q (over step_hull (present o))) (sym own.found)
    (subst (λ one. IsDecidedBy x c q (Within true one)) (sym is)
    (point_decided c (hours_of_step x.routing_step) (greatest_step own.piece) q))

-- ---- timers
same_tests : (a b : Bool) → (not a && not b) && (not a && not b) ≡ (not b && not a)
same_tests true true = refl
same_tests true false = refl
same_tests false true = refl
same_tests false false = refl

neither_both : (a b : Bool) → (a ≡ false) ⊎ (b ≡ false) → false ≡ (a && b)
neither_both false b h = refl
neither_both true b (inl e) = absurd (true≢false e)
neither_both true b (inr e) = sym e

-- a piece is the point 0 exactly where 0 lies in it
zero_known : (piece : Interval) → IsAtZero piece → is_point_zero piece ≡ lies_in piece zero
zero_known piece (inl point) =
    subst (λ one. is_point_zero one ≡ lies_in one zero) (sym point.1)
    (ap (λ b. b && b) (tests-same_by_less point.0 zero)
    ∙ same_tests (less point.0 zero) (less zero point.0))
zero_known piece (inr gap) =
    subst (λ one. is_point_zero one ≡ lies_in one zero) (sym gap.is)
    (neither_both (less gap.low zero) (less zero gap.high) (gap.beside zero refl))

open_by : (x : Rules) (c : Condition) (q : Rational) (timer : Interval)
    → IsDecidedBy x c q (Within true timer) → (point inside : Bool) → point ≡ inside
    → IsDecidedBy x c q (timer_reach point (not inside) (Some timer))
open_by x c q timer h true inside e = refl
open_by x c q timer h false false e = h
open_by x c q timer h false true e = absurd (true≢false (sym e))

closed_by : (x : Rules) (c : Condition) (q : Rational) (timer : Interval)
    → IsDecidedBy x c q (Within true timer) → (point inside : Bool) → point ≡ inside
    → IsDecidedBy x c q (timer_reach (not inside) point (Some timer))
closed_by x c q timer h point false e = refl
closed_by x c q timer h true true e = h
closed_by x c q timer h false true e = absurd (true≢false (sym e))

open_decided : (x : Rules) (question : Question) (cell : Cell) (c : Condition)
    (object : ObjectNo) (q : Rational)
    → IsReadAt x question cell c (Object object attr.TimeOpen) q
    → IsDecidedBy x c q
    (open_reach (piece_in (Object object attr.Setting) cell.keys)
    (piece_in (Object object attr.TimeOpen) cell.keys))
open_decided x question cell c object q h =
    let setting = h.pieces (Object object attr.Setting) (inl refl) in
    let timer = h.pieces (Object object attr.TimeOpen) (inr (inl refl)) in
    subst
    (λ o. IsDecidedBy x c q (open_reach o (piece_in (Object object attr.TimeOpen) cell.keys)))
    (sym setting.found)
    (subst (λ o. IsDecidedBy x c q (open_reach (Some setting.piece) o)) (sym timer.found)
    (open_by x c q timer.piece
    (within_decided x question cell c (Object object attr.TimeOpen) q h timer.piece timer.fact)
    (is_point_zero setting.piece) (lies_in setting.piece zero)
    (zero_known setting.piece (setting_at_zero x question object setting.piece setting.fact))))

closed_decided : (x : Rules) (question : Question) (cell : Cell) (c : Condition)
    (object : ObjectNo) (q : Rational)
    → IsReadAt x question cell c (Object object attr.TimeClosed) q
    → IsDecidedBy x c q
    (closed_reach (piece_in (Object object attr.Setting) cell.keys)
    (piece_in (Object object attr.TimeClosed) cell.keys))
closed_decided x question cell c object q h =
    let setting = h.pieces (Object object attr.Setting) (inl refl) in
    let timer = h.pieces (Object object attr.TimeClosed) (inr (inl refl)) in
    subst
    (λ o. IsDecidedBy x c q (closed_reach o (piece_in (Object object attr.TimeClosed) cell.keys)))
    (sym setting.found)
    (subst (λ o. IsDecidedBy x c q (closed_reach (Some setting.piece) o)) (sym timer.found)
    (closed_by x c q timer.piece
    (within_decided x question cell c (Object object attr.TimeClosed) q h timer.piece timer.fact)
    (is_point_zero setting.piece) (lies_in setting.piece zero)
    (zero_known setting.piece (setting_at_zero x question object setting.piece setting.fact))))

-- ---- each attribute
pub object_decided : (x : Rules) (question : Question) (start : ℤ) (cell : Cell) (c : Condition)
    (object : ObjectNo) (attribute : Attr) (q : Rational)
    → IsReadAt x question cell c (Object object attribute) q
    → IsDecidedBy x c q (key_reach start cell (Object object attribute))
unfolding key_reach
object_decided x question start cell c object attr.Intensity q h =
    present_decided x question cell c (Object object attr.Intensity) q h (inl refl)
object_decided x question start cell c object (attr.HourDepth hours) q h =
    present_decided x question cell c (Object object (attr.HourDepth hours)) q h (inl refl)
object_decided x question start cell c object attr.Depth q h =
    present_decided x question cell c (Object object attr.Depth) q h (inl refl)
object_decided x question start cell c object attr.MaxDepth q h =
    present_decided x question cell c (Object object attr.MaxDepth) q h (inl refl)
object_decided x question start cell c object attr.FullDepth q h =
    present_decided x question cell c (Object object attr.FullDepth) q h (inl refl)
object_decided x question start cell c object attr.Head q h =
    present_decided x question cell c (Object object attr.Head) q h (inl refl)
object_decided x question start cell c object attr.Volume q h =
    present_decided x question cell c (Object object attr.Volume) q h (inl refl)
object_decided x question start cell c object attr.Inflow q h =
    present_decided x question cell c (Object object attr.Inflow) q h (inl refl)
object_decided x question start cell c object attr.Flow q h =
    present_decided x question cell c (Object object attr.Flow) q h (inl refl)
object_decided x question start cell c object attr.FullFlow q h =
    present_decided x question cell c (Object object attr.FullFlow) q h (inl refl)
object_decided x question start cell c object attr.Velocity q h =
    present_decided x question cell c (Object object attr.Velocity) q h (inl refl)
object_decided x question start cell c object attr.Length q h =
    present_decided x question cell c (Object object attr.Length) q h (inl refl)
object_decided x question start cell c object attr.Slope q h =
    present_decided x question cell c (Object object attr.Slope) q h (inl refl)
object_decided x question start cell c object attr.Setting q h =
    present_decided x question cell c (Object object attr.Setting) q h (inl refl)
object_decided x question start cell c object attr.Status q h =
    status_decided x question cell c object q (h.pieces (Object object attr.Setting) (inl refl))
object_decided x question start cell c object attr.TimeOpen q h =
    open_decided x question cell c object q h
object_decided x question start cell c object attr.TimeClosed q h =
    closed_decided x question cell c object q h

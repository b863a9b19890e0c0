-- A state of a box lies in one of the parts into which the box is split.
use Rattle.std.proofs.Common.{◌≡◌, ℕ, Bool, true, false, not, ◌&&◌, Option, Some, None, List, []}
use Rattle.std.proofs.Common.{◌∷◌, ◌⊎◌, inl, inr, refl, sym, ap, subst, ◌∙◌, arith}
use Rattle.std.specs.Prelude.{IsTrue, IfSome, if◌then◌else◌}
use Rattle.std.specs.List.{All}
use Rattle.std.proofs.lemmas.Bool.{and_parts, and_from, true≢false}
use Rattle.std.proofs.lemmas.List.Elements.{All-head, All-tail, All-cons}
use Rattle.exact_fraction.specs.Number.{Rational}
use Rattle.exact_fraction.specs.Order.{◌≤ℚ◌, ◌<ℚ◌, less, same}
use Rattle.exact_fraction.proofs.PublicLaws.{order-at_most_below, order-below_at_most}
use Rattle.exact_fraction.proofs.PublicLaws.{order-transitive, tests-less, tests-not_less}
use Rattle.exact_fraction.proofs.PublicLaws.{tests-same, order-antisymmetric}
use Rattle.interval_sets.specs.declared.interval.Bound.{Bound}
use Rattle.interval_sets.specs.declared.interval.Bound.TheVariants as end
use Rattle.interval_sets.specs.declared.interval.Interval.{Interval}
use Rattle.interval_sets.specs.Intervals.{has_member, is_above, is_below, IsAbove, IsBelow}
use Rattle.interval_sets.specs.Intervals.{IsInside, lies_in, point_of}
use Rattle.interval_sets.proofs.PublicLaws.{intervals-inside, intervals-point}
use Rattle.interval_sets.proofs.PublicLaws.{normal_form-not_empty}
use Rattle.rule_types.specs.declared.key.Key.{Key}
use Rattle.rule_types.specs.declared.rules.Rules.{Rules}
use Rattle.rule_types.specs.declared.state.State.{State}
use Rattle.rule_meaning.specs.State.{value}
use Rattle.verdict_meaning.specs.declared.cell.Cell.{Cell}
use Rattle.verdict_meaning.specs.Boxes.{HasKey, IsEntryOf, IsInBox, IsStateFor, IsStateIn}
use Rattle.verdict_meaning.specs.Certificates.{above_of, are_apart, below_of, can_split}
use Rattle.verdict_meaning.specs.Certificates.{is_not_above, is_not_below, is_wide, part_at}
use Rattle.verdict_meaning.specs.Certificates.{part_with, with_piece}
use Rattle.verdict_meaning.specs.Reaches.{piece_in, same_key}

-- ---- the part in which the state is
pub record IsPart (x : Rules) (s : State) (o : Option Cell) : Type 0 where
  pub part : Cell
  pub is : o ≡ Some part
  pub inside : IsStateIn x part s

-- ---- the keys of a part
-- the entry of a key that is found
pub record EntryOf (x : Rules) (s : State) (key : Key) (piece : Interval)
    (keys : List (Key × Interval)) : Type 0 where
  pub its_key : Key
  pub now : IsEntryOf x s (its_key, piece)
  pub later : (other : Interval) → IsEntryOf x s (its_key, other)
      → All (IsEntryOf x s) (with_piece key other keys)
  pub keeps : (other : Interval) → All (λ entry. HasKey x s entry.0) keys
      → All (λ entry. HasKey x s entry.0) (with_piece key other keys)

entry_step : (x : Rules) (s : State) (key : Key) (piece : Interval) (entry : Key × Interval)
    (more : List (Key × Interval)) (b : Bool) → same_key key entry.0 ≡ b
    → All (IsEntryOf x s) (entry ∷ more)
    → (if b then Some entry.1 else piece_in key more) ≡ Some piece
    → (piece_in key more ≡ Some piece → EntryOf x s key piece more)
    → EntryOf x s key piece (entry ∷ more)
unfolding with_piece
entry_step x s key piece entry more true e h found rest = record {
  its_key = entry.0;
  now =
      (let is : entry.1 ≡ piece = grind arith in
      subst (λ one. IsEntryOf x s (entry.0, one)) is (All-head (IsEntryOf x s) entry more h));
  later = λ other g.
      rw e
      (All-cons (IsEntryOf x s) (entry.0, other) more g
      (All-tail (IsEntryOf x s) entry more h));
  keeps = λ other g.
      rw e
      (All-cons (λ one. HasKey x s one.0) (entry.0, other) more
      (All-head (λ one. HasKey x s one.0) entry more g)
      (All-tail (λ one. HasKey x s one.0) entry more g));
}
entry_step x s key piece entry more false e h found rest =
    let one = rest found in record {
      its_key = one.its_key;
      now = one.now;
      later = λ other g.
          rw e
          (All-cons (IsEntryOf x s) entry (with_piece key other more)
          (All-head (IsEntryOf x s) entry more h) (one.later other g));
      keeps = λ other g.
          rw e
          (All-cons (λ kept. HasKey x s kept.0) entry (with_piece key other more)
          (All-head (λ kept. HasKey x s kept.0) entry more g)
          (one.keeps other (All-tail (λ kept. HasKey x s kept.0) entry more g)));
    }

pub entry_of : (x : Rules) (s : State) (key : Key) (piece : Interval)
    (keys : List (Key × Interval)) → All (IsEntryOf x s) keys → piece_in key keys ≡ Some piece
    → EntryOf x s key piece keys
unfolding piece_in
entry_of x s key piece [] h found = grind arith
entry_of x s key piece (entry ∷ more) h found =
    entry_step x s key piece entry more (same_key key entry.0) refl h found
    (entry_of x s key piece more (All-tail (IsEntryOf x s) entry more h))

part_by : (x : Rules) (s : State) (key : Key) (piece other : Interval) (cell : Cell)
    → IsStateIn x cell s → (found : EntryOf x s key piece cell.keys)
    → IsEntryOf x s (found.its_key, other)
    → (b : Bool) → has_member other.low other.high ≡ b → b ≡ true
    → IsPart x s (part_with key other cell)
unfolding part_with
part_by x s key piece other cell h found fits true e g = record {
  part = record { keys = with_piece key other cell.keys; moments = cell.moments };
  is = rw e refl;
  inside = record {
    state = record {
      fits = h.state.fits;
      step = h.state.step;
      present = found.keeps other h.state.present;
      start = h.state.start;
    };
    inside = record { keys = found.later other fits; moment = h.inside.moment };
  };
}
part_by x s key piece other cell h found fits false e g = absurd (true≢false (sym g))

pub in_part : (x : Rules) (s : State) (key : Key) (piece other : Interval) (cell : Cell)
    → IsStateIn x cell s → (found : EntryOf x s key piece cell.keys)
    → IsEntryOf x s (found.its_key, other) → has_member other.low other.high ≡ true
    → IsPart x s (part_with key other cell)
in_part x s key piece other cell h found fits room =
    part_by x s key piece other cell h found fits (has_member other.low other.high) refl room

-- ---- which part it is
pub data Where (x : Rules) (s : State) (below at above : Option Cell) : Type 0 where
  Below : IsPart x s below → Where x s below at above
  At : IsPart x s at → Where x s below at above
  Above : IsPart x s above → Where x s below at above

above_on : (low : Bound) (p q : Rational) → p ≤ℚ q → IsAbove low p → IsAbove low q
above_on end.NoBound p q k h = tt
above_on (end.Bound n true) p q k h = order-below_at_most n p q h k
above_on (end.Bound n false) p q k h = order-transitive n p q h k

below_on : (high : Bound) (p q : Rational) → q ≤ℚ p → IsBelow high p → IsBelow high q
below_on end.NoBound p q k h = tt
below_on (end.Bound n true) p q k h = order-at_most_below q p n k h
below_on (end.Bound n false) p q k h = order-transitive q p n k h

same_inside : (piece : Interval) (p q : Rational) → p ≤ℚ q → q ≤ℚ p → IsTrue (lies_in piece p)
    → IsTrue (lies_in piece q)
same_inside piece p q h g i =
    let inside = (intervals-inside piece p).0 i in
    (intervals-inside piece q).1
    (record {
      above = above_on piece.low p q h inside.above;
      below = below_on piece.high p q g inside.below;
    })

-- what a state has of an entry, where the value of its key is known
entry_some : (x : Rules) (s : State) (key : Key) (v : Rational) (other : Interval)
    → value x s key ≡ Some v → IsTrue (lies_in other v) → IsEntryOf x s (key, other)
entry_some x s key v other e h =
    subst (λ o. IfSome o (λ q. IsTrue (lies_in other q))) (sym e) h

entry_none : (x : Rules) (s : State) (key : Key) (other : Interval) → value x s key ≡ None
    → IsEntryOf x s (key, other)
entry_none x s key other e = subst (λ o. IfSome o (λ q. IsTrue (lies_in other q))) (sym e) tt

its_value : (x : Rules) (s : State) (key : Key) (v : Rational) (piece : Interval)
    → value x s key ≡ Some v → IsEntryOf x s (key, piece) → IsTrue (lies_in piece v)
its_value x s key v piece e h = subst (λ o. IfSome o (λ q. IsTrue (lies_in piece q))) e h

room_of : (piece : Interval) (v : Rational) → IsTrue (lies_in piece v)
    → has_member piece.low piece.high ≡ true
room_of piece v h = (normal_form-not_empty piece).1 (v, h)

at_point : (x : Rules) (s : State) (key : Key) (piece : Interval) (q v : Rational) (cell : Cell)
    → IsStateIn x cell s → (found : EntryOf x s key piece cell.keys)
    → value x s found.its_key ≡ Some v → IsTrue (lies_in piece q) → same v q ≡ true
    → IsPart x s (part_at key piece q cell)
unfolding part_at
at_point x s key piece q v cell h found e inside is =
    let point : IsTrue (lies_in (point_of q) v) = intervals-point q v ∙ is in
    rw inside
    (in_part x s key piece (point_of q) cell h found
    (entry_some x s found.its_key v (point_of q) e point) (room_of (point_of q) v point))

where_of : (x : Rules) (s : State) (key : Key) (piece : Interval) (q v : Rational) (cell : Cell)
    → IsStateIn x cell s → (found : EntryOf x s key piece cell.keys)
    → value x s found.its_key ≡ Some v → (b c : Bool) → less v q ≡ b → less q v ≡ c
    → Where x s (part_with key (below_of piece q) cell) (part_at key piece q cell)
    (part_with key (above_of piece q) cell)
where_of x s key piece q v cell h found e true c f g =
    let parts =
    and_parts (is_above piece.low v) (is_below piece.high v)
    (its_value x s found.its_key v piece e found.now) in
    let inside : IsTrue (lies_in (below_of piece q) v) =
    and_from (is_above piece.low v) (less v q) parts.0 f in
    Below
    (in_part x s key piece (below_of piece q) cell h found
    (entry_some x s found.its_key v (below_of piece q) e inside)
    (room_of (below_of piece q) v inside))
where_of x s key piece q v cell h found e false true f g =
    let parts =
    and_parts (is_above piece.low v) (is_below piece.high v)
    (its_value x s found.its_key v piece e found.now) in
    let inside : IsTrue (lies_in (above_of piece q) v) =
    and_from (less q v) (is_below piece.high v) g parts.1 in
    Above
    (in_part x s key piece (above_of piece q) cell h found
    (entry_some x s found.its_key v (above_of piece q) e inside)
    (room_of (above_of piece q) v inside))
where_of x s key piece q v cell h found e false false f g =
    let at_least = (tests-not_less v q).0 f in
    let at_most = (tests-not_less q v).0 g in
    At
    (at_point x s key piece q v cell h found e
    (same_inside piece v q at_most at_least
    (its_value x s found.its_key v piece e found.now))
    ((tests-same v q).1 (order-antisymmetric v q at_most at_least)))

-- a wide interval has a number below or above the cut
room_by : (p q r : Rational) (m n b : Bool) → less p r ≡ true → less p q ≡ b
    → (has_member (end.Bound p m) (end.Bound q true) ≡ true)
    ⊎ (has_member (end.Bound q true) (end.Bound r n) ≡ true)
room_by p q r true n true wide e = inl e
room_by p q r false n true wide e = inl e
room_by p q r m n false wide e =
    inr
    ((tests-less q r).1
    (order-at_most_below q p r ((tests-not_less p q).0 e) ((tests-less p r).0 wide)))

room : (low high : Bound) (q : Rational) → are_apart low high ≡ true
    → (has_member low (end.Bound q true) ≡ true) ⊎ (has_member (end.Bound q true) high ≡ true)
room end.NoBound high q wide = inl refl
room (end.Bound p m) end.NoBound q wide = inr refl
room (end.Bound p m) (end.Bound r n) q wide = room_by p q r m n (less p q) wide refl

where_none : (x : Rules) (s : State) (key : Key) (piece : Interval) (q : Rational) (cell : Cell)
    → IsStateIn x cell s → (found : EntryOf x s key piece cell.keys)
    → value x s found.its_key ≡ None
    → (has_member piece.low (end.Bound q true) ≡ true)
    ⊎ (has_member (end.Bound q true) piece.high ≡ true)
    → Where x s (part_with key (below_of piece q) cell) (part_at key piece q cell)
    (part_with key (above_of piece q) cell)
where_none x s key piece q cell h found e (inl g) =
    Below
    (in_part x s key piece (below_of piece q) cell h found
    (entry_none x s found.its_key (below_of piece q) e) g)
where_none x s key piece q cell h found e (inr g) =
    Above
    (in_part x s key piece (above_of piece q) cell h found
    (entry_none x s found.its_key (above_of piece q) e) g)

where_by : (x : Rules) (s : State) (key : Key) (piece : Interval) (q : Rational) (cell : Cell)
    → IsStateIn x cell s → (found : EntryOf x s key piece cell.keys) → is_wide piece ≡ true
    → (o : Option Rational) → value x s found.its_key ≡ o
    → Where x s (part_with key (below_of piece q) cell) (part_at key piece q cell)
    (part_with key (above_of piece q) cell)
where_by x s key piece q cell h found wide None e =
    where_none x s key piece q cell h found e (room piece.low piece.high q wide)
where_by x s key piece q cell h found wide (Some v) e =
    where_of x s key piece q v cell h found e (less v q) (less q v) refl refl

pub where_is : (x : Rules) (s : State) (key : Key) (piece : Interval) (q : Rational) (cell : Cell)
    → IsStateIn x cell s → piece_in key cell.keys ≡ Some piece → can_split piece q ≡ true
    → Where x s (part_with key (below_of piece q) cell) (part_at key piece q cell)
    (part_with key (above_of piece q) cell)
unfolding can_split
where_is x s key piece q cell h is split =
    let found = entry_of x s key piece cell.keys h.inside.keys is in
    where_by x s key piece q cell h found
    (and_parts (is_wide piece) (is_not_below piece.low q && is_not_above piece.high q) split).0
    (value x s found.its_key) refl

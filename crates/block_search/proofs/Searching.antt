-- The steps of a search.
use Rattle.std.proofs.Common.{◌≡◌, ℕ, zero, ◌+◌, ◌-◌, ◌*◌, ◌≤◌, ◌<◌, Bool, true, false, not, ◌||◌, Option, Some, None, Result, Ok, Err}
use Rattle.std.proofs.Common.{List, [], ◌∷◌, ◌++◌, map, length, refl, sym, ap, ◌∙◌, subst, arith}
use Rattle.std.specs.Prelude.{slice_set, slice_get, slice_index_or, is_some, if◌then◌else◌, IfOk}
use Rattle.std.specs.List.{find, list_any}
use Rattle.std.specs.Option.{option_or}
use Rattle.std.proofs.lemmas.Option.{get_or_from_slice_get, slice_get_within}
use Rattle.block_search.specs.declared.outcome.Outcome.{Outcome}
use Rattle.block_search.specs.declared.outcome.Outcome.TheVariants.{Proved, Event, Open}
use Rattle.block_search.specs.declared.span.Span.{Span}
use Rattle.block_search.specs.Blocks.{block_of, cells, IsWithin, is_none, is_wide, low_of, size, span_from, wide_from, width}
use Rattle.block_search.specs.Judgements.{Judgement, is_open}
use Rattle.block_search.specs.Outcomes.{IsFirstOpen, IsFound, IsOpen}
use Rattle.block_search.specs.internal.Cuts.{IsMiddle}
use Rattle.block_search.proofs.CellLists.{IsOneCell, IsWideAt, cells_none, one_cell_is, wide_in, within_part}
use Rattle.block_search.proofs.Joining.{IsCut, find_is, part_of}
use Rattle.block_search.proofs.Sizes.{inner_third, part_less, part_third, size_some, sized}

-- ---- the axis that is cut
wide_here : (block : List Span) (axis : ℕ) → list_any is_none block ≡ false
    → wide_from 0 block ≡ Some axis → (span : Span) × IsWideAt block axis span
wide_here block axis h k =
    let wide = wide_in 0 block axis h k in
    let is : wide.offset ≡ axis = offset_is wide.offset axis wide.is in
    (wide.span, subst (λ n. IsWideAt block n wide.span) is wide.wide)
  where
    offset_is : (n axis : ℕ) → axis ≡ 0 + n → n ≡ axis
    offset_is n axis e = omega (arith, e)

pub axis_within : (block : List Span) (axis : ℕ) → list_any is_none block ≡ false
    → wide_from 0 block ≡ Some axis → axis < length block
axis_within block axis h k =
    let wide = wide_here block axis h k in
    slice_get_within block axis wide.0 wide.1.get

pub wide_at : (block : List Span) (axis : ℕ) (other : Span) → list_any is_none block ≡ false
    → wide_from 0 block ≡ Some axis → IsWideAt block axis (slice_index_or block axis other)
wide_at block axis other h k =
    let wide = wide_here block axis h k in
    subst (IsWideAt block axis)
    (sym (get_or_from_slice_get block axis wide.0 other wide.1.get)) wide.1

pub axis_wide : (block : List Span) (axis : ℕ) (span : Span)
    → span ≡ slice_index_or block axis (span_from 0 0) → list_any is_none block ≡ false
    → wide_from 0 block ≡ Some axis → is_wide span ≡ true
axis_wide block axis span e h k =
    subst (λ s. is_wide s ≡ true) (sym e) (wide_at block axis (span_from 0 0) h k).wide

pub cut_made : (judged : Judgement) (block : List Span) (axis : ℕ) (of_moments : Bool)
    (span : Span) (at from : ℕ) → span ≡ slice_index_or block axis (span_from 0 0)
    → list_any is_none block ≡ false → wide_from 0 block ≡ Some axis
    → of_moments ≡ judged.has_moments axis → IsMiddle of_moments span at from
    → IsCut judged block axis of_moments span at from
cut_made judged block axis of_moments span at from e h k moments middle = record {
  some = h;
  wide_at = subst (IsWideAt block axis) (sym e) (wide_at block axis (span_from 0 0) h k);
  moments = moments;
  middle = middle;
}

-- ---- parts are smaller, and blocks of the grid
pub below_smaller : (judged : Judgement) (block : List Span) (axis : ℕ) (of_moments : Bool)
    (span : Span) (at from : ℕ) → IsCut judged block axis of_moments span at from
    → size (part_of block axis span.low at) < size block
below_smaller judged block axis of_moments span at from cut =
    part_less (size (part_of block axis span.low at)) (size block)
    (part_third block axis span (sized block axis span cut.some cut.wide_at.get) span.low at
    cut.middle.below)
    (size_some block cut.some)

pub inner_smaller : (judged : Judgement) (block : List Span) (axis : ℕ) (of_moments : Bool)
    (span : Span) (at from : ℕ) → IsCut judged block axis of_moments span at from
    → size (part_of block axis at from) < size block
inner_smaller judged block axis of_moments span at from cut =
    part_less (size (part_of block axis at from)) (size block)
    (part_third block axis span (sized block axis span cut.some cut.wide_at.get) at from
    (inner_third of_moments span at from cut.wide_at.wide cut.middle))
    (size_some block cut.some)

pub above_smaller : (judged : Judgement) (block : List Span) (axis : ℕ) (of_moments : Bool)
    (span : Span) (at from : ℕ) → IsCut judged block axis of_moments span at from
    → size (part_of block axis from span.high) < size block
above_smaller judged block axis of_moments span at from cut =
    part_less (size (part_of block axis from span.high)) (size block)
    (part_third block axis span (sized block axis span cut.some cut.wide_at.get) from span.high
    cut.middle.above)
    (size_some block cut.some)

pub below_within : (judged : Judgement) (block : List Span) (axis : ℕ) (of_moments : Bool)
    (span : Span) (at from : ℕ) → IsCut judged block axis of_moments span at from
    → IsWithin judged.axes block → IsWithin judged.axes (part_of block axis span.low at)
below_within judged block axis of_moments span at from cut h =
    let most = cut.middle.most in
    within_part judged.axes block axis span span.low at h cut.wide_at.get (omega (arith, most))

pub inner_within : (judged : Judgement) (block : List Span) (axis : ℕ) (of_moments : Bool)
    (span : Span) (at from : ℕ) → IsCut judged block axis of_moments span at from
    → IsWithin judged.axes block → IsWithin judged.axes (part_of block axis at from)
inner_within judged block axis of_moments span at from cut h =
    let most = cut.middle.most in
    let close = cut.middle.close in
    within_part judged.axes block axis span at from h cut.wide_at.get (omega (arith, most, close))

pub above_within : (judged : Judgement) (block : List Span) (axis : ℕ) (of_moments : Bool)
    (span : Span) (at from : ℕ) → IsCut judged block axis of_moments span at from
    → IsWithin judged.axes block → IsWithin judged.axes (part_of block axis from span.high)
above_within judged block axis of_moments span at from cut h =
    within_part judged.axes block axis span from span.high h cut.wide_at.get (omega arith)

-- ---- a block of one cell
pub lows_within : (judged : Judgement) (block : List Span) (cell : List ℕ)
    → list_any is_none block ≡ false → wide_from 0 block ≡ None → cell ≡ map low_of block
    → IsWithin judged.axes block → IsWithin judged.axes (block_of cell)
lows_within judged block cell h k e within =
    let one = one_cell_is 0 block h k in
    subst (IsWithin judged.axes) (sym (ap block_of e ∙ one.block_is)) within

find_one : (test : List ℕ → Bool) (cell : List ℕ) (b : Bool) → test cell ≡ b
    → find test (cell ∷ []) ≡ (if b then Some cell else None)
find_one test cell b e = ap (λ b. if b then Some cell else None) e

pub event_found : (judged : Judgement) (block : List Span) (cell : List ℕ) (b : Bool)
    → list_any is_none block ≡ false → wide_from 0 block ≡ None → cell ≡ map low_of block
    → b ≡ judged.event cell
    → find judged.event (cells block) ≡ (if b then Some cell else None)
event_found judged block cell b h k e found =
    let one = one_cell_is 0 block h k in
    ap (find judged.event) (one.cells_is ∙ ap (λ cell. cell ∷ []) (sym e))
    ∙ find_one judged.event cell b (sym found)

or_false : (b : Bool) → b ≡ true → (b || false) ≡ true
or_false true e = refl
or_false false e = absurd (grind arith)

pub open_cell_found : (judged : Judgement) (block : List Span) (cell : List ℕ)
    → list_any is_none block ≡ false → wide_from 0 block ≡ None → cell ≡ map low_of block
    → false ≡ judged.event cell → judged.shown block ≡ false → IsFound judged block Open
open_cell_found judged block cell h k e found closed =
    let one = one_cell_is 0 block h k in
    record {
      none = event_found judged block cell false h k e found;
      some =
          ap (list_any (is_open judged)) one.cells_is
          ∙ or_false (not (judged.shown (block_of (map low_of block))))
          (ap (λ list. not (judged.shown list)) one.block_is ∙ ap not closed);
    }

-- ---- the first cell that is not shown
pub none_open : (judged : Judgement) (block : List Span) → list_any is_none block ≡ true
    → None ≡ find (is_open judged) (cells block)
none_open judged block h = sym (ap (find (is_open judged)) (cells_none block h))

pub one_open : (judged : Judgement) (block : List Span) (cell : List ℕ) (b : Bool)
    → list_any is_none block ≡ false → wide_from 0 block ≡ None → cell ≡ map low_of block
    → judged.shown block ≡ b
    → (if not b then Some cell else None) ≡ find (is_open judged) (cells block)
one_open judged block cell b h k e shown =
    let one = one_cell_is 0 block h k in
    sym
    (ap (find (is_open judged)) (one.cells_is ∙ ap (λ cell. cell ∷ []) (sym e))
    ∙ find_one (is_open judged) cell (not b)
    (ap (λ list. not (judged.shown list)) (ap block_of e ∙ one.block_is) ∙ ap not shown))

or_some : {A : Type 0} (x y : Option A) → is_some x ≡ true → x ≡ option_or x y
or_some (Some a) y e = refl
or_some None y e = absurd (grind arith)

or_none : {A : Type 0} (x y : Option A) → is_some x ≡ false → y ≡ option_or x y
or_none (Some a) y e = absurd (grind arith)
or_none None y e = refl

pub open_first : (judged : Judgement) (block : List Span) (axis : ℕ) (of_moments : Bool)
    (span : Span) (at from : ℕ) → IsCut judged block axis of_moments span at from
    → (o : Option (List ℕ)) → is_some o ≡ true
    → o ≡ find (is_open judged) (cells (part_of block axis span.low at))
    → o ≡ find (is_open judged) (cells block)
open_first judged block axis of_moments span at from cut o some e =
    let inner = find (is_open judged) (cells (part_of block axis at from)) in
    let above = find (is_open judged) (cells (part_of block axis from span.high)) in
    or_some o (option_or inner above) some
    ∙ sym
    (find_is judged block axis of_moments span at from cut (is_open judged) o inner above (sym e)
    refl refl)

pub open_second : (judged : Judgement) (block : List Span) (axis : ℕ) (of_moments : Bool)
    (span : Span) (at from : ℕ) → IsCut judged block axis of_moments span at from
    → (o p : Option (List ℕ)) → is_some o ≡ false → is_some p ≡ true
    → o ≡ find (is_open judged) (cells (part_of block axis span.low at))
    → p ≡ find (is_open judged) (cells (part_of block axis at from))
    → p ≡ find (is_open judged) (cells block)
open_second judged block axis of_moments span at from cut o p none some e f =
    let above = find (is_open judged) (cells (part_of block axis from span.high)) in
    or_some p above some
    ∙ or_none o (option_or p above) none
    ∙ sym
    (find_is judged block axis of_moments span at from cut (is_open judged) o p above (sym e)
    (sym f) refl)

pub open_third : (judged : Judgement) (block : List Span) (axis : ℕ) (of_moments : Bool)
    (span : Span) (at from : ℕ) → IsCut judged block axis of_moments span at from
    → (o p q : Option (List ℕ)) → is_some o ≡ false → is_some p ≡ false
    → o ≡ find (is_open judged) (cells (part_of block axis span.low at))
    → p ≡ find (is_open judged) (cells (part_of block axis at from))
    → q ≡ find (is_open judged) (cells (part_of block axis from span.high))
    → q ≡ find (is_open judged) (cells block)
open_third judged block axis of_moments span at from cut o p q none nil e f g =
    or_none p q nil
    ∙ or_none o (option_or p q) none
    ∙ sym
    (find_is judged block axis of_moments span at from cut (is_open judged) o p q (sym e) (sym f)
    (sym g))

-- ---- the decision
find_here : (test : List ℕ → Bool) (cell : List ℕ) (more : List (List ℕ)) (b : Bool)
    → (b || list_any test more) ≡ true → None ≡ (if b then Some cell else find test more)
    → (list_any test more ≡ true → None ≡ find test more → ⊥) → ⊥
find_here test cell more true h e rest = absurd (grind arith)
find_here test cell more false h e rest = rest h e

find_any : (test : List ℕ → Bool) (list : List (List ℕ)) → list_any test list ≡ true
    → None ≡ find test list → ⊥
find_any test [] h e = absurd (grind arith)
find_any test (cell ∷ more) h e =
    find_here test cell more (test cell) h e (find_any test more)

pub not_none : (judged : Judgement) (block : List Span) → IsOpen judged block
    → None ≡ find (is_open judged) (cells block) → ⊥
not_none judged block h e = find_any (is_open judged) (cells block) h.some e

pub first_is : (judged : Judgement) (block : List Span) (cell : List ℕ) → IsOpen judged block
    → Some cell ≡ find (is_open judged) (cells block) → IsFirstOpen judged block cell
first_is judged block cell h e = record { none = h.none; first = sym e }

pub if_ok : {A E : Type 0} (r : Result A E) (P Q : A → Type 0) → ((x : A) → P x → Q x) → IfOk r P
    → IfOk r Q
if_ok (Ok x) P Q f h = f x h
if_ok (Err e) P Q f h = h

pub is_found : {E : Type 0} (judged : Judgement) (block : List Span) (r : Result Outcome E)
    (o : Outcome) → IsFound judged block o → IfOk r (λ found. found ≡ o)
    → IfOk r (IsFound judged block)
is_found judged block r o h =
    if_ok r (λ found. found ≡ o) (IsFound judged block)
    (λ found e. subst (IsFound judged block) (sym e) h)

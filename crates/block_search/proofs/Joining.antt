-- What is found in a block, by what is found in its parts.
use Rattle.std.proofs.Common.{◌≡◌, ℕ, zero, suc, ◌+◌, ◌-◌, ◌*◌, ◌^◌, ◌%◌, ◌≤◌, ◌<◌, max, Bool, true, false, not, ◌&&◌, ◌||◌, Option, Some, None}
use Rattle.std.proofs.Common.{List, [], ◌∷◌, ◌++◌, length, refl, sym, ap, ap₂, ◌∙◌, subst, arith}
use Rattle.std.specs.Prelude.{slice_set, slice_get, nat_lt, nat_le, nat_eq, if◌then◌else◌}
use Rattle.std.specs.List.{find, list_any}
use Rattle.std.specs.Option.{option_or}
use Rattle.std.proofs.Math.Nat.{max-le}
use Rattle.std.proofs.lemmas.Bool.Decides.{nat_tests}
use Rattle.std.proofs.lemmas.List.Folds.{find-append, list_any-append}
use Rattle.std.proofs.lemmas.Option.{slice_get_within}
use Rattle.block_search.specs.declared.outcome.Outcome.{Outcome}
use Rattle.block_search.specs.declared.outcome.Outcome.TheVariants.{Proved, Event, Open}
use Rattle.block_search.specs.declared.span.Span.{Span}
use Rattle.block_search.specs.declared.tree.Tree.{Tree}
use Rattle.block_search.specs.declared.tree.Tree.TheOpen.{Tree-F}
use Rattle.block_search.specs.declared.tree.Tree.TheFolds.{fold-Tree, fold-roll-Tree}
use Rattle.block_search.specs.declared.tree.Tree.TheVariants.{Leaf, Split, Before, rolls-Leaf, rolls-Split, rolls-Before}
use Rattle.block_search.specs.Blocks.{cells, is_none, is_wide, one_piece, size, span_from, width}
use Rattle.block_search.specs.Judgements.{Judgement, is_open}
use Rattle.block_search.specs.Outcomes.{IsFound, IsOpen, IsProof, is_event, joined, third_alone, tree_of}
use Rattle.block_search.specs.Trees.{Proof, before_proves, depth, is_later_of, is_nil, is_point_of, leaf_proves, may_cut, node_depth, node_proves, proves, split_proves}
use Rattle.block_search.specs.internal.Cuts.{IsMiddle}
use Rattle.block_search.proofs.CellLists.{IsWideAt, cells_cut, cells_none}
use Rattle.block_search.proofs.Sizes.{inner_third, level_less, level_some, part_third, size_two, sized}

-- ---- where a block is cut
pub record IsCut (judged : Judgement) (block : List Span) (axis : ℕ) (of_moments : Bool)
    (span : Span) (at from : ℕ) : Type 0 where
  pub some : list_any is_none block ≡ false
  pub wide_at : IsWideAt block axis span
  pub moments : of_moments ≡ judged.has_moments axis
  pub middle : IsMiddle of_moments span at from

-- the part in which an axis has these pieces
abbrev pub part_of : List Span → ℕ → ℕ → ℕ → List Span
part_of block axis low high = slice_set block axis (span_from low high)

set_same : (block : List Span) (axis : ℕ) (span : Span) → slice_get block axis ≡ Some span
    → block ≡ slice_set block axis span
set_same [] axis span get = refl
set_same (first ∷ more) zero span get = ap (λ s. s ∷ more) (some_same first span get)
  where
    some_same : (m n : Span) → Some m ≡ Some n → m ≡ n
    some_same m n e = grind arith
set_same (first ∷ more) (suc axis) span get = ap (λ list. first ∷ list) (set_same more axis span get)

pub cells_parts : (judged : Judgement) (block : List Span) (axis : ℕ) (of_moments : Bool)
    (span : Span) (at from : ℕ) → IsCut judged block axis of_moments span at from
    → cells block
    ≡ cells (part_of block axis span.low at)
    ++ (cells (part_of block axis at from) ++ cells (part_of block axis from span.high))
cells_parts judged block axis of_moments span at from cut =
    let least = cut.middle.least in
    let most = cut.middle.most in
    let close = cut.middle.close in
    let within : axis < length block = slice_get_within block axis span cut.wide_at.get in
    ap cells (set_same block axis span cut.wide_at.get)
    ∙ cells_cut axis block span.low at span.high least (omega (arith, most)) cut.wide_at.single within
    ∙ ap (λ list. cells (part_of block axis span.low at) ++ list)
    (cells_cut axis block at from span.high cut.middle.order (omega (arith, most, close))
    cut.wide_at.single within)

pub find_is : (judged : Judgement) (block : List Span) (axis : ℕ) (of_moments : Bool)
    (span : Span) (at from : ℕ) → IsCut judged block axis of_moments span at from
    → (test : List ℕ → Bool) (x y z : Option (List ℕ))
    → find test (cells (part_of block axis span.low at)) ≡ x
    → find test (cells (part_of block axis at from)) ≡ y
    → find test (cells (part_of block axis from span.high)) ≡ z
    → find test (cells block) ≡ option_or x (option_or y z)
find_is judged block axis of_moments span at from cut test x y z e f g =
    let below = cells (part_of block axis span.low at) in
    let inner = cells (part_of block axis at from) in
    let above = cells (part_of block axis from span.high) in
    ap (find test) (cells_parts judged block axis of_moments span at from cut)
    ∙ find-append test below (inner ++ above)
    ∙ ap₂ option_or e (find-append test inner above ∙ ap₂ option_or f g)

any_is : (judged : Judgement) (block : List Span) (axis : ℕ) (of_moments : Bool)
    (span : Span) (at from : ℕ) → IsCut judged block axis of_moments span at from
    → (test : List ℕ → Bool)
    → list_any test (cells block)
    ≡ (list_any test (cells (part_of block axis span.low at))
    || (list_any test (cells (part_of block axis at from))
    || list_any test (cells (part_of block axis from span.high))))
any_is judged block axis of_moments span at from cut test =
    let below = cells (part_of block axis span.low at) in
    let inner = cells (part_of block axis at from) in
    let above = cells (part_of block axis from span.high) in
    ap (list_any test) (cells_parts judged block axis of_moments span at from cut)
    ∙ list_any-append test below (inner ++ above)
    ∙ ap (λ b. list_any test below || b) (list_any-append test inner above)

or_left : (a b c : Bool) → a ≡ true → (a || (b || c)) ≡ true
or_left true b c e = refl
or_left false b c e = absurd (grind arith)

or_inner : (a b c : Bool) → b ≡ true → (a || (b || c)) ≡ true
or_inner true b c e = refl
or_inner false true c e = refl
or_inner false false c e = absurd (grind arith)

or_right : (a b c : Bool) → c ≡ true → (a || (b || c)) ≡ true
or_right true b c e = refl
or_right false true c e = refl
or_right false false c e = e

any_first : (judged : Judgement) (block : List Span) (axis : ℕ) (of_moments : Bool)
    (span : Span) (at from : ℕ) → IsCut judged block axis of_moments span at from
    → (test : List ℕ → Bool) → list_any test (cells (part_of block axis span.low at)) ≡ true
    → list_any test (cells block) ≡ true
any_first judged block axis of_moments span at from cut test h =
    any_is judged block axis of_moments span at from cut test
    ∙ or_left (list_any test (cells (part_of block axis span.low at)))
    (list_any test (cells (part_of block axis at from)))
    (list_any test (cells (part_of block axis from span.high))) h

any_inner : (judged : Judgement) (block : List Span) (axis : ℕ) (of_moments : Bool)
    (span : Span) (at from : ℕ) → IsCut judged block axis of_moments span at from
    → (test : List ℕ → Bool) → list_any test (cells (part_of block axis at from)) ≡ true
    → list_any test (cells block) ≡ true
any_inner judged block axis of_moments span at from cut test h =
    any_is judged block axis of_moments span at from cut test
    ∙ or_inner (list_any test (cells (part_of block axis span.low at)))
    (list_any test (cells (part_of block axis at from)))
    (list_any test (cells (part_of block axis from span.high))) h

any_last : (judged : Judgement) (block : List Span) (axis : ℕ) (of_moments : Bool)
    (span : Span) (at from : ℕ) → IsCut judged block axis of_moments span at from
    → (test : List ℕ → Bool) → list_any test (cells (part_of block axis from span.high)) ≡ true
    → list_any test (cells block) ≡ true
any_last judged block axis of_moments span at from cut test h =
    any_is judged block axis of_moments span at from cut test
    ∙ or_right (list_any test (cells (part_of block axis span.low at)))
    (list_any test (cells (part_of block axis at from)))
    (list_any test (cells (part_of block axis from span.high))) h

-- ---- leaves
some_leaf : (b : Bool) (facts : List (ℕ × Bool)) (accepted : Bool) → b ≡ false → accepted ≡ true
    → (if b then is_nil facts else accepted) ≡ true
some_leaf true facts accepted e f = absurd (grind arith)
some_leaf false facts accepted e f = f

none_leaf : (b accepted : Bool) → b ≡ true → (if b then true else accepted) ≡ true
none_leaf true accepted e = refl
none_leaf false accepted e = absurd (grind arith)

pub none_found : (judged : Judgement) (block : List Span) (o : Outcome) → is_event o ≡ false
    → IsFound judged block o → find judged.event (cells block) ≡ None
none_found judged block (Proved tree) e h = h.none
none_found judged block (Event cell) e h = absurd (grind arith)
none_found judged block Open e h = h.none

leaf_is : (judged : Judgement) (facts : List (ℕ × Bool))
    → proves judged (Leaf facts) ≡ node_proves judged (Tree-F.Leaf facts)
unfolding proves
leaf_is judged facts =
    ap (fold-Tree Proof (node_proves judged)) (sym (rolls-Leaf facts))
    ∙ fold-roll-Tree Proof (node_proves judged) (Tree-F.Leaf facts)

leaf_depth : (facts : List (ℕ × Bool)) → depth (Leaf facts) ≡ 1
unfolding depth node_depth
leaf_depth facts =
    ap (fold-Tree ℕ node_depth) (sym (rolls-Leaf facts))
    ∙ fold-roll-Tree ℕ node_depth (Tree-F.Leaf facts)

leaf_flat : (facts : List (ℕ × Bool)) (f : ℕ) → depth (Leaf facts) ≤ suc f
leaf_flat facts f = let one = leaf_depth facts in omega (arith, one)

pub empty_found : (judged : Judgement) (block : List Span) → list_any is_none block ≡ true
    → IsFound judged block (Proved (Leaf []))
unfolding node_proves
empty_found judged block h = record {
  none = ap (find judged.event) (cells_none block h);
  accepted =
      ap (λ proof. proof block) (leaf_is judged [])
      ∙ none_leaf (list_any is_none block) (judged.accepts block []) h;
  flat = λ f few. leaf_flat [] f;
}

pub shown_found : (judged : Judgement) (block : List Span) (facts : List (ℕ × Bool))
    → list_any is_none block ≡ false → judged.accepts block facts ≡ true
    → find judged.event (cells block) ≡ None
    → IsFound judged block (Proved (Leaf facts))
unfolding node_proves
shown_found judged block facts h accepted none = record {
  none = none;
  accepted =
      ap (λ proof. proof block) (leaf_is judged facts)
      ∙ some_leaf (list_any is_none block) facts (judged.accepts block facts) h accepted;
  flat = λ f few. leaf_flat facts f;
}

-- ---- trees of a cut
split_is : (judged : Judgement) (axis at : ℕ) (a b c : Tree)
    → proves judged (Split axis at a b c)
    ≡ node_proves judged
    (Tree-F.Split axis at (proves judged a) (proves judged b) (proves judged c))
unfolding proves
split_is judged axis at a b c =
    ap (fold-Tree Proof (node_proves judged)) (sym (rolls-Split axis at a b c))
    ∙ fold-roll-Tree Proof (node_proves judged) (Tree-F.Split axis at a b c)

before_is : (judged : Judgement) (axis at : ℕ) (a c : Tree)
    → proves judged (Before axis at a c)
    ≡ node_proves judged (Tree-F.Before axis at (proves judged a) (proves judged c))
unfolding proves
before_is judged axis at a c =
    ap (fold-Tree Proof (node_proves judged)) (sym (rolls-Before axis at a c))
    ∙ fold-roll-Tree Proof (node_proves judged) (Tree-F.Before axis at a c)

split_depth : (axis at : ℕ) (a b c : Tree)
    → depth (Split axis at a b c) ≡ suc (max (depth a) (max (depth b) (depth c)))
unfolding depth node_depth
split_depth axis at a b c =
    ap (fold-Tree ℕ node_depth) (sym (rolls-Split axis at a b c))
    ∙ fold-roll-Tree ℕ node_depth (Tree-F.Split axis at a b c)

before_depth : (axis at : ℕ) (a c : Tree)
    → depth (Before axis at a c) ≡ suc (max (depth a) (depth c))
unfolding depth node_depth
before_depth axis at a c =
    ap (fold-Tree ℕ node_depth) (sym (rolls-Before axis at a c))
    ∙ fold-roll-Tree ℕ node_depth (Tree-F.Before axis at a c)

both : (a b : Bool) → a ≡ true → b ≡ true → (a && b) ≡ true
both a b e f = ap₂ (λ x y. x && y) e f

lt_true : (a b : ℕ) → a < b → nat_lt a b ≡ true
lt_true a b h = grind (arith, nat_tests)

le_true : (a b : ℕ) → a ≤ b → nat_le a b ≡ true
le_true a b h = grind (arith, nat_tests)

eq_true : (a b : ℕ) → a ≡ b → nat_eq a b ≡ true
eq_true a b h = grind (arith, nat_tests)

cut_may : (judged : Judgement) (block : List Span) → list_any is_none block ≡ false
    → judged.shown block ≡ false → may_cut judged block ≡ true
cut_may judged block e f = ap₂ (λ x y. not x && not y) e f

split_accepted : (judged : Judgement) (block : List Span) (axis : ℕ) (span : Span) (at from : ℕ)
    → IsCut judged block axis false span at from → judged.shown block ≡ false → (a b c : Tree)
    → proves judged a (part_of block axis span.low at) ≡ true
    → proves judged b (part_of block axis at from) ≡ true
    → proves judged c (part_of block axis from span.high) ≡ true
    → proves judged (Split axis at a b c) block ≡ true
unfolding node_proves
split_accepted judged block axis span at from cut closed a b c e f g =
    let point = cut.middle.point refl in
    ap (λ proof. proof block) (split_is judged axis at a b c)
    ∙ both (may_cut judged block) _ (cut_may judged block cut.some closed)
    (both (not (judged.has_moments axis)) _ (ap not (sym cut.moments))
    (ap (split_proves axis at (proves judged a) (proves judged b) (proves judged c) block)
    cut.wide_at.get
    ∙ both (is_point_of span at) _
    (both (is_wide span) _ cut.wide_at.wide
    (both (nat_eq (at % 2) 0) _ (eq_true (at % 2) 0 point.0)
    (both (nat_le span.low at) (nat_lt at span.high) (le_true span.low at cut.middle.least)
    (lt_true at span.high cut.middle.most))))
    (both (proves judged a (part_of block axis span.low at)) _ e
    (both (proves judged b (slice_set block axis (one_piece at))) _
    (subst (λ k. proves judged b (part_of block axis at k) ≡ true) point.1 f)
    (subst (λ k. proves judged c (part_of block axis k span.high) ≡ true) point.1 g)))))

before_accepted : (judged : Judgement) (block : List Span) (axis : ℕ) (span : Span) (at from : ℕ)
    → IsCut judged block axis true span at from → judged.shown block ≡ false → (a c : Tree)
    → proves judged a (part_of block axis span.low at) ≡ true
    → proves judged c (part_of block axis from span.high) ≡ true
    → proves judged (Before axis at a c) block ≡ true
unfolding node_proves
before_accepted judged block axis span at from cut closed a c e g =
    let later = cut.middle.later refl in
    ap (λ proof. proof block) (before_is judged axis at a c)
    ∙ both (may_cut judged block) _ (cut_may judged block cut.some closed)
    (both (judged.has_moments axis) _ (sym cut.moments)
    (ap (before_proves axis at (proves judged a) (proves judged c) block) cut.wide_at.get
    ∙ both (is_later_of span at) _
    (both (nat_lt span.low at) (nat_lt at span.high) (lt_true span.low at later.0)
    (lt_true at span.high cut.middle.most))
    (both (proves judged a (part_of block axis span.low at)) _ e
    (subst (λ k. proves judged c (part_of block axis k span.high) ≡ true) later.1 g))))

-- ---- depth
suc_le : (m n : ℕ) → m ≤ n → suc m ≤ suc n
suc_le m n h = omega (arith, h)

-- what holds of the depth of a tree of a block of so many cells
abbrev IsFlat : ℕ → ℕ → Type 0
IsFlat size depth = (f : ℕ) → size * 2 ^ f ≤ 3 ^ f → depth ≤ suc f

three_flat : (s x y z a b c : ℕ) → 2 ≤ s → 3 * x ≤ 2 * s → 3 * y ≤ 2 * s → 3 * z ≤ 2 * s
    → IsFlat x a → IsFlat y b → IsFlat z c → IsFlat s (suc (max a (max b c)))
three_flat s x y z a b c two u v w h k l zero few = absurd (level_some s two few)
three_flat s x y z a b c two u v w h k l (suc f) few =
    suc_le (max a (max b c)) (suc f)
    (max-le (h f (level_less x s f u few))
    (max-le (k f (level_less y s f v few)) (l f (level_less z s f w few))))

two_flat : (s x z a c : ℕ) → 2 ≤ s → 3 * x ≤ 2 * s → 3 * z ≤ 2 * s
    → IsFlat x a → IsFlat z c → IsFlat s (suc (max a c))
two_flat s x z a c two u w h l zero few = absurd (level_some s two few)
two_flat s x z a c two u w h l (suc f) few =
    suc_le (max a c) (suc f)
    (max-le (h f (level_less x s f u few)) (l f (level_less z s f w few)))

-- ---- a block whose parts are all shown
proof_joined : (judged : Judgement) (block : List Span) (axis : ℕ) (of_moments : Bool)
    (span : Span) (at from : ℕ) → IsCut judged block axis of_moments span at from
    → judged.shown block ≡ false → (a b c : Tree)
    → IsProof judged (part_of block axis span.low at) a
    → IsProof judged (part_of block axis at from) b
    → IsProof judged (part_of block axis from span.high) c
    → IsProof judged block (tree_of of_moments axis at a b c)
proof_joined judged block axis true span at from cut closed a b c h k l =
    let whole = sized block axis span cut.some cut.wide_at.get in
    record {
      none = find_is judged block axis true span at from cut judged.event None None None h.none k.none l.none;
      accepted = before_accepted judged block axis span at from cut closed a c h.accepted l.accepted;
      flat =
          subst (IsFlat (size block)) (sym (before_depth axis at a c))
          (two_flat (size block) (size (part_of block axis span.low at))
          (size (part_of block axis from span.high)) (depth a) (depth c)
          (size_two block axis span whole cut.wide_at.wide)
          (part_third block axis span whole span.low at cut.middle.below)
          (part_third block axis span whole from span.high cut.middle.above) h.flat l.flat);
    }
proof_joined judged block axis false span at from cut closed a b c h k l =
    let whole = sized block axis span cut.some cut.wide_at.get in
    record {
      none = find_is judged block axis false span at from cut judged.event None None None h.none k.none l.none;
      accepted = split_accepted judged block axis span at from cut closed a b c h.accepted k.accepted l.accepted;
      flat =
          subst (IsFlat (size block)) (sym (split_depth axis at a b c))
          (three_flat (size block) (size (part_of block axis span.low at))
          (size (part_of block axis at from)) (size (part_of block axis from span.high)) (depth a)
          (depth b) (depth c) (size_two block axis span whole cut.wide_at.wide)
          (part_third block axis span whole span.low at cut.middle.below)
          (part_third block axis span whole at from
          (inner_third false span at from cut.wide_at.wide cut.middle))
          (part_third block axis span whole from span.high cut.middle.above) h.flat k.flat l.flat);
    }

-- ---- a block of which some cell is not shown
third_found : (judged : Judgement) (block : List Span) (axis : ℕ) (of_moments : Bool)
    (span : Span) (at from : ℕ) → IsCut judged block axis of_moments span at from
    → find judged.event (cells (part_of block axis span.low at)) ≡ None
    → find judged.event (cells (part_of block axis at from)) ≡ None
    → list_any (is_open judged) (cells block) ≡ true → (o : Outcome)
    → IsFound judged (part_of block axis from span.high) o → IsFound judged block (third_alone o)
third_found judged block axis of_moments span at from cut h k some (Proved tree) l = record {
  none = find_is judged block axis of_moments span at from cut judged.event None None None h k l.none;
  some = some;
}
third_found judged block axis of_moments span at from cut h k some (Event cell) l =
    find_is judged block axis of_moments span at from cut judged.event None None (Some cell) h k l
third_found judged block axis of_moments span at from cut h k some Open l = record {
  none = find_is judged block axis of_moments span at from cut judged.event None None None h k l.none;
  some = some;
}

-- ---- a block
pub second_event : (judged : Judgement) (block : List Span) (axis : ℕ) (of_moments : Bool)
    (span : Span) (at from : ℕ) → IsCut judged block axis of_moments span at from
    → find judged.event (cells (part_of block axis span.low at)) ≡ None → (o : Outcome)
    → is_event o ≡ true → IsFound judged (part_of block axis at from) o → IsFound judged block o
second_event judged block axis of_moments span at from cut h (Proved tree) e k = absurd (grind arith)
second_event judged block axis of_moments span at from cut h (Event cell) e k =
    find_is judged block axis of_moments span at from cut judged.event None (Some cell) _ h k refl
second_event judged block axis of_moments span at from cut h Open e k = absurd (grind arith)

pub first_event : (judged : Judgement) (block : List Span) (axis : ℕ) (of_moments : Bool)
    (span : Span) (at from : ℕ) → IsCut judged block axis of_moments span at from → (o : Outcome)
    → is_event o ≡ true → IsFound judged (part_of block axis span.low at) o
    → IsFound judged block o
first_event judged block axis of_moments span at from cut (Proved tree) e k = absurd (grind arith)
first_event judged block axis of_moments span at from cut (Event cell) e k =
    find_is judged block axis of_moments span at from cut judged.event (Some cell) _ _ k refl refl
first_event judged block axis of_moments span at from cut Open e k = absurd (grind arith)

pub found_joined : (judged : Judgement) (block : List Span) (axis : ℕ) (of_moments : Bool)
    (span : Span) (at from : ℕ) → IsCut judged block axis of_moments span at from
    → judged.shown block ≡ false → (o p q : Outcome)
    → IsFound judged (part_of block axis span.low at) o
    → IsFound judged (part_of block axis at from) p
    → IsFound judged (part_of block axis from span.high) q
    → IsFound judged block (joined of_moments axis at o p q)
found_joined judged block axis m span at from cut closed (Event cell) p q h k l =
    first_event judged block axis m span at from cut (Event cell) refl h
found_joined judged block axis m span at from cut closed (Proved a) (Event cell) q h k l =
    second_event judged block axis m span at from cut h.none (Event cell) refl k
found_joined judged block axis m span at from cut closed Open (Event cell) q h k l =
    second_event judged block axis m span at from cut h.none (Event cell) refl k
found_joined judged block axis m span at from cut closed Open (Proved b) q h k l =
    third_found judged block axis m span at from cut h.none k.none
    (any_first judged block axis m span at from cut (is_open judged) h.some) q l
found_joined judged block axis m span at from cut closed Open Open q h k l =
    third_found judged block axis m span at from cut h.none k.none
    (any_first judged block axis m span at from cut (is_open judged) h.some) q l
found_joined judged block axis m span at from cut closed (Proved a) Open q h k l =
    third_found judged block axis m span at from cut h.none k.none
    (any_inner judged block axis m span at from cut (is_open judged) k.some) q l
found_joined judged block axis m span at from cut closed (Proved a) (Proved b) (Event cell) h k l =
    find_is judged block axis m span at from cut judged.event None None (Some cell) h.none k.none l
found_joined judged block axis m span at from cut closed (Proved a) (Proved b) Open h k l = record {
  none = find_is judged block axis m span at from cut judged.event None None None h.none k.none l.none;
  some = any_last judged block axis m span at from cut (is_open judged) l.some;
}
found_joined judged block axis m span at from cut closed (Proved a) (Proved b) (Proved c) h k l =
    proof_joined judged block axis m span at from cut closed a b c h k l

-- The entry of a key, which is narrowed in place.
use Rattle.std.proofs.Common.{◌≡◌, ℕ, zero, suc, ◌+◌, ◌<◌, ◌≤◌, true, false, Option, Some, None, List, [], ◌∷◌, ◌++◌, length, get_or, set, take, drop, refl, sym, ap, ◌∙◌, arith}
use Rattle.std.proofs.lemmas.List.{drop_more, drop_all, get_or_default, set-set, set-get_or, take_more}
use Rattle.std.specs.Prelude.{ℤ}
use Rattle.verdict_meaning.specs.declared.cell.Cell.{Cell}
use Rattle.interval_sets.specs.declared.interval.Interval.{Interval}
use Rattle.rule_types.specs.declared.key.Key.{Key}
use Rattle.verdict_meaning.specs.Certificates.{with_piece}
use Rattle.verdict_meaning.specs.Reaches.{piece_in, same_key}
use Rattle.cert_checker.specs.internal.Narrowing.{IsPlaceOf}

-- the entries before a place are of other keys
pub record IsPassed (key : Key) (at : ℕ) (keys : List (Key × Interval)) : Type 0 where
  pub piece : piece_in key (drop at keys) ≡ piece_in key keys
  pub narrowed :
      (piece : Interval) → with_piece key piece keys
      ≡ take at keys ++ with_piece key piece (drop at keys)

pub none_passed : (key : Key) (keys : List (Key × Interval)) → IsPassed key 0 keys
none_passed key keys = record { piece = refl; narrowed = λ piece. refl }

pass_piece : (key : Key) (entry : Key × Interval) (more : List (Key × Interval))
    → same_key key entry.0 ≡ false → piece_in key (entry ∷ more) ≡ piece_in key more
unfolding piece_in
pass_piece key entry more e = rw e refl

pass_narrowed : (key : Key) (piece : Interval) (entry : Key × Interval)
    (more : List (Key × Interval)) → same_key key entry.0 ≡ false
    → with_piece key piece (entry ∷ more) ≡ entry ∷ with_piece key piece more
unfolding with_piece
pass_narrowed key piece entry more e = rw e refl

stop_piece : (key : Key) (entry : Key × Interval) (more : List (Key × Interval))
    → same_key key entry.0 ≡ true → piece_in key (entry ∷ more) ≡ Some entry.1
unfolding piece_in
stop_piece key entry more e = rw e refl

stop_narrowed : (key : Key) (piece : Interval) (entry : Key × Interval)
    (more : List (Key × Interval)) → same_key key entry.0 ≡ true
    → with_piece key piece (entry ∷ more) ≡ (entry.0, piece) ∷ more
unfolding with_piece
stop_narrowed key piece entry more e = rw e refl

snoc : {A : Type 0} (xs : List A) (y : A) (ys : List A) → xs ++ y ∷ ys ≡ (xs ++ y ∷ []) ++ ys
snoc [] y ys = refl
snoc (x ∷ xs) y ys = ap (λ list. x ∷ list) (snoc xs y ys)

pub one_passed : (key : Key) (at : ℕ) (keys : List (Key × Interval)) (d : Key × Interval)
    → at < length keys → same_key key (get_or keys at d).0 ≡ false → IsPassed key at keys
    → IsPassed key (at + 1) keys
one_passed key at keys d within e h = record {
  piece =
      sym
      (ap (piece_in key) (drop_more keys at d within)
      ∙ pass_piece key (get_or keys at d) (drop (at + 1) keys) e)
      ∙ h.piece;
  narrowed = λ piece.
      h.narrowed piece
      ∙ ap (λ list. take at keys ++ with_piece key piece list) (drop_more keys at d within)
      ∙ ap (λ list. take at keys ++ list)
      (pass_narrowed key piece (get_or keys at d) (drop (at + 1) keys) e)
      ∙ snoc (take at keys) (get_or keys at d) (with_piece key piece (drop (at + 1) keys))
      ∙ ap (λ list. list ++ with_piece key piece (drop (at + 1) keys))
      (sym (take_more keys at d within));
}

pub all_passed : (key : Key) (at : ℕ) (keys : List (Key × Interval)) → length keys ≤ at
    → IsPassed key at keys → piece_in key keys ≡ None
unfolding piece_in
all_passed key at keys past h = sym h.piece ∙ ap (piece_in key) (drop_all at keys past)

set_is : {A : Type 0} (xs : List A) (at : ℕ) (y : A) → at < length xs
    → set xs at y ≡ take at xs ++ y ∷ drop (at + 1) xs
set_is [] at y within = absurd (omega (arith, within))
set_is (x ∷ xs) zero y within = refl
set_is (x ∷ xs) (suc at) y within =
    ap (λ list. x ∷ list) (set_is xs at y (omega (arith, within)))
    ∙ ap (λ k. x ∷ take at xs ++ y ∷ drop k (x ∷ xs))
    (let e : suc (at + 1) ≡ suc at + 1 = omega arith in e)

pub found_at : (key : Key) (at : ℕ) (keys : List (Key × Interval)) (entry : Key × Interval)
    → at < length keys → entry ≡ get_or keys at entry → same_key key entry.0 ≡ true
    → IsPassed key at keys → IsPlaceOf key at keys
found_at key at keys entry within is e h =
    let same : (d : Key × Interval) → same_key key (get_or keys at d).0 ≡ true =
    λ d.
    ap (λ one. same_key key one.0) (get_or_default keys at d entry within ∙ sym is) ∙ e in
    record {
      within = within;
      piece = λ d.
          sym h.piece ∙ ap (piece_in key) (drop_more keys at d within)
          ∙ stop_piece key (get_or keys at d) (drop (at + 1) keys) (same d);
      narrowed = λ d piece.
          h.narrowed piece
          ∙ ap (λ list. take at keys ++ with_piece key piece list) (drop_more keys at d within)
          ∙ ap (λ list. take at keys ++ list)
          (stop_narrowed key piece (get_or keys at d) (drop (at + 1) keys) (same d))
          ∙ sym (set_is keys at ((get_or keys at d).0, piece) within);
    }

pub entry_passed : (key : Key) (at : ℕ) (keys : List (Key × Interval)) (entry : Key × Interval)
    → at < length keys → entry ≡ get_or keys at entry → same_key key entry.0 ≡ false
    → IsPassed key at keys → IsPassed key (at + 1) keys
entry_passed key at keys entry within is e h =
    one_passed key at keys entry within (ap (λ one. same_key key one.0) (sym is) ∙ e) h

-- an entry that is put back
pub put_back : (keys : List (Key × Interval)) (at : ℕ) (other d : Key × Interval)
    → set (set keys at other) at (get_or keys at d) ≡ keys
put_back keys at other d = set-set keys at other (get_or keys at d) ∙ set-get_or keys at d

pub cell_put_back : (cell : Cell) (at : ℕ) (other entry : Key × Interval)
    (keys : List (Key × Interval)) (moments : Option (ℤ × ℤ)) → entry ≡ get_or cell.keys at entry
    → keys ≡ set (set cell.keys at other) at entry → moments ≡ cell.moments
    → record { keys = keys; moments = moments } ≡ cell
cell_put_back cell at other entry keys moments is e f =
    let same : keys ≡ cell.keys =
    e ∙ ap (set (set cell.keys at other) at) is ∙ put_back cell.keys at other entry in
    let first : record { keys = keys; moments = moments } ≡ record { keys = cell.keys; moments = moments } =
    ap (λ list. record { keys = list; moments = moments }) same in
    first ∙ ap (λ span. record { keys = cell.keys; moments = span }) f

pub cell_narrowed : (cell : Cell) (key : Key) (at : ℕ) (entry : Key × Interval)
    (piece : Interval) (keys : List (Key × Interval)) → IsPlaceOf key at cell.keys
    → entry ≡ get_or cell.keys at entry → keys ≡ set cell.keys at (entry.0, piece)
    → keys ≡ with_piece key piece cell.keys
cell_narrowed cell key at entry piece keys place is e =
    e ∙ ap (λ one. set cell.keys at (one.0, piece)) is ∙ sym (place.narrowed entry piece)

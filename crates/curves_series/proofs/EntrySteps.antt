-- Items are read as entries one by one, from the front.
use Rattle.std.proofs.Common.{◌≡◌, ℕ, zero, suc, ◌+◌, ◌≤◌, Option, Some, None, List, [], ◌∷◌, ◌++◌, ℤ, length, get_or, map, drop, refl, sym, ap, ap₂, subst, ◌∙◌, arith, append_assoc, drop-drop}
use Rattle.std.specs.Borrow.{Bor}
use Rattle.std.proofs.lemmas.List.{map-append, append-nil, drop_all}
use Rattle.num_text.specs.Dates.{date_of}
use Rattle.curves_series.specs.Pairs.{Pair}
use Rattle.curves_series.specs.Series.{Entries, with_entry, entry_pair, entry_then, three_items, entries_of, axis_at}
use Rattle.curves_series.specs.declared.axis.Axis.{Axis}
use Rattle.curves_series.specs.declared.pair.PairRead.{PairRead}
use Rattle.curves_series.specs.declared.entry.EntryCut.{EntryCut}
use Rattle.curves_series.specs.internal.Views.{pair_now, texts, after_cut, entries_after}

-- two items or more, and three
pub two_up : (found : List (Bor (List ℕ))) (d e : Bor (List ℕ)) → 2 ≤ length found → texts found ≡ (get_or found 0 d).now ∷ (get_or found 1 e).now ∷ texts (drop 2 found)
two_up [] d e h = grind arith
two_up (a ∷ []) d e h = grind arith
two_up (a ∷ b ∷ rest) d e h = refl

pub three_up : (found : List (Bor (List ℕ))) (d e f : Bor (List ℕ)) → 3 ≤ length found → texts found ≡ (get_or found 0 d).now ∷ (get_or found 1 e).now ∷ (get_or found 2 f).now ∷ texts (drop 3 found)
three_up [] d e f h = grind arith
three_up (a ∷ []) d e f h = grind arith
three_up (a ∷ b ∷ []) d e f h = grind arith
three_up (a ∷ b ∷ c ∷ rest) d e f h = refl

-- an entry with a date, and one without
pub dated_cut : (axis : Axis) (day passed : ℤ) (found : List (List ℕ)) (a b c : List ℕ) (rest : List (List ℕ)) (cut : Option EntryCut) → found ≡ a ∷ b ∷ c ∷ rest → Some day ≡ date_of a → passed ≡ day → ((xs : List (List ℕ)) → entry_then (axis_at axis (Some passed)) b c (λ t. entries_of t (drop 3 xs)) ≡ after_cut xs cut) → entries_of axis found ≡ after_cut found cut
unfolding entries_of
dated_cut axis day passed found a b c rest cut is date own read =
    let here : entries_of axis (a ∷ b ∷ c ∷ rest) ≡ after_cut (a ∷ b ∷ c ∷ rest) cut = ap (λ d. three_items axis d a b c (λ t. entries_of t (c ∷ rest)) (λ t. entries_of t rest)) (sym date) ∙ ap (λ d. entry_then (axis_at axis (Some d)) b c (λ t. entries_of t rest)) (sym own) ∙ read (a ∷ b ∷ c ∷ rest) in
    subst (λ xs. entries_of axis xs ≡ after_cut xs cut) (sym is) here

pub plain_cut : (axis : Axis) (found : List (List ℕ)) (a b c : List ℕ) (rest : List (List ℕ)) (cut : Option EntryCut) → found ≡ a ∷ b ∷ c ∷ rest → None ≡ date_of a → ((xs : List (List ℕ)) → entry_then (axis_at axis None) a b (λ t. entries_of t (drop 2 xs)) ≡ after_cut xs cut) → entries_of axis found ≡ after_cut found cut
unfolding entries_of
plain_cut axis found a b c rest cut is date read =
    let here : entries_of axis (a ∷ b ∷ c ∷ rest) ≡ after_cut (a ∷ b ∷ c ∷ rest) cut = ap (λ d. three_items axis d a b c (λ t. entries_of t (c ∷ rest)) (λ t. entries_of t rest)) (sym date) ∙ read (a ∷ b ∷ c ∷ rest) in
    subst (λ xs. entries_of axis xs ≡ after_cut xs cut) (sym is) here

one_more : (done : List Pair) (pair : Pair) (later : Option Entries) → entries_after done (with_entry pair later) ≡ entries_after (done ++ pair ∷ []) later
one_more done pair None = refl
one_more done pair (Some entries) = ap (λ pairs. Some (record { pairs = pairs; axis = entries.axis })) (sym (append_assoc done (pair ∷ []) entries.pairs))

pub entry_step : (found : List (List ℕ)) (old new : List PairRead) (pair : PairRead) (at taken : ℕ) (axis after : Axis) (time value : List ℕ) (whole : Option Entries) → new ≡ old ++ pair ∷ [] → pair_now pair ≡ entry_pair after time value → entries_of axis (drop at found) ≡ with_entry (entry_pair after time value) (entries_of after (drop taken (drop at found))) → entries_after (map pair_now old) (entries_of axis (drop at found)) ≡ whole → entries_after (map pair_now new) (entries_of after (drop (at + taken) found)) ≡ whole
entry_step found old new pair at taken axis after time value whole pushed read cut all =
    let rest = entries_of after (drop taken (drop at found)) in
    let done : map pair_now new ≡ map pair_now old ++ entry_pair after time value ∷ [] = ap (map pair_now) pushed ∙ map-append pair_now old (pair ∷ []) ∙ ap (λ p. map pair_now old ++ p ∷ []) read in
    ap₂ (λ front xs. entries_after front (entries_of after xs)) done (sym (drop-drop taken at found))
    ∙ sym (one_more (map pair_now old) (entry_pair after time value) rest)
    ∙ sym (ap (entries_after (map pair_now old)) cut)
    ∙ all

pub entries_end : (found : List (List ℕ)) (done : List Pair) (at : ℕ) (axis : Axis) (whole : Option Entries) → length found ≤ at → entries_after done (entries_of axis (drop at found)) ≡ whole → Some (record { pairs = done; axis = axis }) ≡ whole
unfolding entries_of
entries_end found done at axis whole most all =
    ap (λ pairs. Some (record { pairs = pairs; axis = axis })) (sym (append-nil done))
    ∙ sym (ap (λ xs. entries_after done (entries_of axis xs)) (drop_all at found most))
    ∙ all

pub entries_none : (found : List (List ℕ)) (done : List Pair) (at : ℕ) (axis : Axis) (whole : Option Entries) → entries_of axis (drop at found) ≡ None → entries_after done (entries_of axis (drop at found)) ≡ whole → None ≡ whole
entries_none found done at axis whole none all = sym (ap (entries_after done) none) ∙ all

pub texts_drop : (found : List (Bor (List ℕ))) (n : ℕ) → texts (drop n found) ≡ drop n (texts found)
texts_drop found zero = refl
texts_drop [] (suc n) = refl
texts_drop (a ∷ found) (suc n) = texts_drop found n

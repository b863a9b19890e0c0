-- Cuts that are made of sorted numbers.
use Rattle.std.proofs.Common.{◌≡◌, ℕ, suc, ◌+◌, ◌-◌, ◌*◌, ◌<◌, ◌≤◌, true, false, List, [], ◌∷◌, ◌++◌, length, get_or, take, refl, sym, ap, subst, ◌∙◌, arith, All, Some, None, slice_get}
use Rattle.std.specs.Prelude.{◌==◌, IsTrue}
use Rattle.std.specs.List.{list_any}
use Rattle.std.specs.List.Sorted.{IsSortedBy}
use Rattle.std.proofs.lemmas.List.{take_all, get_or_default}
use Rattle.std.proofs.lemmas.List.Elements.{All-head, All-tail, All-more, All-weaker}
use Rattle.std.proofs.lemmas.List.Sorted.{sorted_far}
use Rattle.std.proofs.lemmas.Option.{none-some, same_Some}
use Rattle.std.specs.Cmp.{IsStrictWeakOrder}
use Rattle.std.specs.declared.cmp.Ordering.{Ordering}
use Rattle.std.specs.declared.cmp.Ordering.TheVariants.{Less, Equal, Greater}
use Rattle.exact_fraction.specs.Number.{Rational}
use Rattle.exact_fraction.specs.Order.{compares, less, ◌<ℚ◌, ◌≤ℚ◌, ◌=ℚ◌}
use Rattle.exact_fraction.proofs.PublicLaws.{order-antisymmetric, order-below_is_at_most, order-below_transitive, order-transitive, order-below_at_most, tests-less, tests-not_less}
use Rattle.interval_sets.specs.Cuts.{IsRising}
use Rattle.interval_sets.proofs.PublicLaws.{cuts-one, cuts-next}
use Rattle.table_plan.specs.Pieces.{piece_by, piece, IsCut}
use Rattle.table_plan.specs.internal.CutSteps.{above_last}
use Rattle.table_plan.proofs.PieceOrder.{above_is, same_is}

pub weak_order : IsStrictWeakOrder less
weak_order = record {
  one_way = λ x y h. (tests-not_less y x).1 (order-below_is_at_most x y ((tests-less x y).0 h));
  chain = λ x y z h g. (tests-not_less x z).1 (order-transitive z y x ((tests-not_less y z).0 g) ((tests-not_less x y).0 h));
}

-- ---- a cut stays one
kept_by : (o : Ordering) (a b i : ℕ) → piece_by o a ≡ 2 * i + 1 → ((j : ℕ) → a ≡ 2 * j + 1 → b ≡ a) → piece_by o b ≡ piece_by o a
kept_by Less a b i odd later = refl
kept_by Equal a b i odd later = refl
kept_by Greater a b i odd later =
    let is : suc (suc a) ≡ 2 * i + 1 = odd in
    ap (λ k. suc (suc k)) (later (i - 1) (omega arith))

piece_kept : (cuts more : List Rational) (p : Rational) (i : ℕ) → piece cuts p ≡ 2 * i + 1 → piece (cuts ++ more) p ≡ piece cuts p
unfolding piece
piece_kept [] more p i odd = absurd (let none : 0 ≡ 2 * i + 1 = odd in omega arith)
piece_kept (c ∷ cs) more p i odd = kept_by (compares p c) (piece cs p) (piece (cs ++ more) p) i odd (λ j h. piece_kept cs more p j h)

pub cut_kept : (cuts more : List Rational) (p : Rational) → IsCut cuts p → IsCut (cuts ++ more) p
cut_kept cuts more p cut = record { place = cut.place; odd = piece_kept cuts more p cut.place cut.odd ∙ cut.odd }

-- ---- a number above all cuts
abbrev AreBelow : List Rational → Rational → Type 0
AreBelow [] x = Unit {0}
AreBelow (c ∷ cs) x = (c <ℚ x) × AreBelow cs x

below_last : (cuts : List Rational) (x : Rational) → IsRising cuts → above_last cuts x ≡ true → AreBelow cuts x
below_last [] x rises above = tt
below_last (c ∷ []) x rises above = ((tests-less c x).0 above, tt)
below_last (c ∷ d ∷ cs) x rises above =
    let next = (cuts-next c d cs).0 rises in
    let later : AreBelow (d ∷ cs) x = below_last (d ∷ cs) x next.1 above in
    (order-below_transitive c d x next.0 later.0, later)

itself : (q : Rational) → q =ℚ q
itself q = record { eq = refl }

last_piece : (cuts : List Rational) (x : Rational) → AreBelow cuts x → piece (cuts ++ x ∷ []) x ≡ 2 * length cuts + 1
unfolding piece
last_piece [] x h = ap (λ o. piece_by o 0) (same_is x x (itself x))
last_piece (c ∷ cs) x h =
    let later : piece (cs ++ x ∷ []) x ≡ 2 * length cs + 1 = last_piece cs x h.1 in
    let two : suc (suc (2 * length cs + 1)) ≡ 2 * suc (length cs) + 1 = omega arith in
    ap (λ o. piece_by o (piece (cs ++ x ∷ []) x)) (above_is x c h.0) ∙ ap (λ k. suc (suc k)) later ∙ two

pub cut_pushed : (cuts : List Rational) (x : Rational) → IsRising cuts → above_last cuts x ≡ true → IsCut (cuts ++ x ∷ []) x
cut_pushed cuts x rises above = record { place = length cuts; odd = last_piece cuts x (below_last cuts x rises above) }

pub rising_pushed : (cuts : List Rational) (x : Rational) → IsRising cuts → above_last cuts x ≡ true → IsRising (cuts ++ x ∷ [])
rising_pushed [] x rises above = cuts-one x
rising_pushed (c ∷ []) x rises above = (cuts-next c x []).1 ((tests-less c x).0 above, cuts-one x)
rising_pushed (c ∷ d ∷ cs) x rises above =
    let next = (cuts-next c d cs).0 rises in
    (cuts-next c d (cs ++ x ∷ [])).1 (next.0, rising_pushed (d ∷ cs) x next.1 above)

-- ---- a number that is the last cut
abbrev pub AreNotAbove : List Rational → Rational → Type 0
AreNotAbove cuts x = All (λ cut. less x cut ≡ false) cuts

heads : (c d : Rational) (cs ds : List Rational) → c ∷ cs ≡ d ∷ ds → c ≡ d
heads c d cs ds is = cc

first_at : (c d x : Rational) → c ≡ d → c ≤ℚ x → d ≤ℚ x
first_at c d x is h = rw (← is) h

pub cut_repeated : (cuts : List Rational) (x : Rational) → IsRising cuts → AreNotAbove cuts x → above_last cuts x ≡ false → (IsCut cuts x) × ((c : Rational) (cs : List Rational) → cuts ≡ c ∷ cs → c ≤ℚ x)
unfolding piece
cut_repeated [] x rises under above = absurd (let no : true ≡ false = above in cc)
cut_repeated (c ∷ []) x rises under above =
    let low : x ≤ℚ c = (tests-not_less c x).0 above in
    let high : c ≤ℚ x = (tests-not_less x c).0 (All-head (λ cut. less x cut ≡ false) c [] under) in
    (record { place = 0; odd = ap (λ o. piece_by o 0) (same_is x c (order-antisymmetric x c low high)) }, λ d ds is. (let same : c ≡ d = heads c d [] ds is in first_at c d x same high))
cut_repeated (c ∷ d ∷ cs) x rises under above =
    let next = (cuts-next c d cs).0 rises in
    let later = cut_repeated (d ∷ cs) x next.1 (All-tail (λ cut. less x cut ≡ false) c (d ∷ cs) under) above in
    let beyond : c <ℚ x = order-below_at_most c d x next.0 (later.1 d cs refl) in
    let two : suc (suc (2 * later.0.place + 1)) ≡ 2 * suc later.0.place + 1 = omega arith in
    (record { place = suc later.0.place; odd = ap (λ o. piece_by o (piece (d ∷ cs) x)) (above_is x c beyond) ∙ ap (λ k. suc (suc k)) later.0.odd ∙ two }, λ e es is. (let same : c ≡ e = heads c e (d ∷ cs) es is in first_at c e x same (order-below_is_at_most c x beyond)))

-- the last of cuts, read at the end
pub above_read : (cuts : List Rational) (x last : Rational) → slice_get cuts (length cuts - 1) ≡ Some last → above_last cuts x ≡ less last x
above_read [] x last is = absurd (none-some last is)
above_read (c ∷ []) x last is = ap (λ cut. less cut x) (same_Some c last is)
above_read (c ∷ e ∷ cs) x last is =
    let one : suc (suc (length cs)) - 1 ≡ suc (suc (length cs) - 1) = omega arith in
    above_read (e ∷ cs) x last (ap (slice_get (c ∷ e ∷ cs)) (sym one) ∙ is)

pub above_none : (cuts : List Rational) (x : Rational) → slice_get cuts (length cuts - 1) ≡ None → above_last cuts x ≡ true
above_none [] x is = refl
above_none (c ∷ []) x is = absurd (none-some c (sym is))
above_none (c ∷ e ∷ cs) x is =
    let one : suc (suc (length cs)) - 1 ≡ suc (suc (length cs) - 1) = omega arith in
    above_none (e ∷ cs) x (ap (slice_get (c ∷ e ∷ cs)) (sym one) ∙ is)

-- ---- one sorted number more
pub cuts_more : (sorted : List Rational) (i : ℕ) (x : Rational) (old new : List Rational) → i < length sorted → x ≡ get_or sorted i x → All (IsCut old) (take i sorted) → ((p : Rational) → IsCut old p → IsCut new p) → IsCut new x → All (IsCut new) (take (i + 1) sorted)
cuts_more sorted i x old new within is so_far kept here =
    All-more (IsCut new) sorted i x within (All-weaker (IsCut old) (IsCut new) kept (take i sorted) so_far) (subst (IsCut new) is here)

pub above_more : (sorted : List Rational) (i : ℕ) (x : Rational) (old new : List Rational) → IsSortedBy less sorted → i < length sorted → x ≡ get_or sorted i x
    → ((k : ℕ) (d : Rational) → i ≤ k → k < length sorted → AreNotAbove old (get_or sorted k d)) → ((y : Rational) → less y x ≡ false → AreNotAbove old y → AreNotAbove new y)
    → (k : ℕ) (d : Rational) → i + 1 ≤ k → k < length sorted → AreNotAbove new (get_or sorted k d)
above_more sorted i x old new up within is above among k d past below =
    let far : less (get_or sorted k d) (get_or sorted i d) ≡ false = sorted_far less weak_order sorted up i k d (omega arith) below in
    let here : get_or sorted i d ≡ x = get_or_default sorted i d x within ∙ sym is in
    among (get_or sorted k d) (ap (less (get_or sorted k d)) (sym here) ∙ far) (above k d (omega arith) below)

pub all_taken : {X : Type 0} (P : X → Type 0) (xs : List X) (i : ℕ) → length xs ≤ i → All P (take i xs) → All P xs
all_taken P xs i past all = subst (All P) (take_all i xs past) all

-- ---- numbers that are listed
pub listed_more : (sorted : List ℕ) (i : ℕ) (old new : List ℕ) → i < length sorted → All (λ column. IsTrue (list_any (λ c. c == column) old)) (take i sorted)
    → ((other : ℕ) → list_any (λ c. c == other) old ≡ true → list_any (λ c. c == other) new ≡ true) → list_any (λ c. c == get_or sorted i 0) new ≡ true
    → All (λ column. IsTrue (list_any (λ c. c == column) new)) (take (i + 1) sorted)
listed_more sorted i old new within so_far kept here =
    All-more (λ column. IsTrue (list_any (λ c. c == column) new)) sorted i 0 within
    (All-weaker (λ column. IsTrue (list_any (λ c. c == column) old)) (λ column. IsTrue (list_any (λ c. c == column) new)) kept (take i sorted) so_far) here

-- Numbers in rising order, each once.
use Rattle.std.proofs.Common.{◌≡◌, ℕ, ◌+◌, ◌<◌, ◌≤◌, ◌⊎◌, inl, inr, Bool, true, false, List, [], ◌∷◌, length, get_or, drop, map, refl, sym, ap, ◌∙◌}
use Rattle.std.proofs.lemmas.List.{drop_all, drop_more}
use Rattle.std.proofs.lemmas.List.Elements.{All-cons, All-head, All-nil, All-tail}
use Rattle.std.specs.Prelude.{All, ⊤, if◌then◌else◌}
use Rattle.std.specs.BTreeSet.{insert_key}
use Rattle.std.specs.Ordering.{match_ordering, is_gt, is_lt}
use Rattle.std.specs.declared.cmp.Ordering.{Ordering}
use Rattle.std.specs.declared.cmp.Ordering.TheVariants.{Less, Equal, Greater}
use Rattle.exact_fraction.specs.Number.{Rational}
use Rattle.exact_fraction.specs.Order.{◌<ℚ◌, ◌≤ℚ◌, compares, less}
use Rattle.exact_fraction.proofs.PublicLaws.{order-below_is_at_most, order-below_transitive, order-same_is_at_most, tells-less, tests-less, tests-not_less}
use Rattle.verdict_meaning.specs.Grids.{inserted, rising}
use Rattle.grid_cuts.specs.declared.cut.Cut.{Cut}
use Rattle.grid_cuts.specs.internal.NumberOrder.{cut_cmp, number_of, ranked}

-- ---- a set of cuts

tests_of : (q p : Rational) (o : Ordering) → compares q p ≡ o
    → (less q p ≡ is_lt o) × (less p q ≡ is_gt o)
tests_of q p Less is =
    let below = ranked q p Less is in (
      (tests-less q p).1 below,
      (tests-not_less p q).1 (order-below_is_at_most q p below),
    )
tests_of q p Equal is =
    let same = order-same_is_at_most q p (ranked q p Equal is) in (
      (tests-not_less q p).1 same.1,
      (tests-not_less p q).1 same.0,
    )
tests_of q p Greater is =
    let below = ranked q p Greater is in (
      (tests-not_less q p).1 (order-below_is_at_most p q below),
      (tests-less p q).1 below,
    )

placed_by : (cut next : Cut) (more later : List Cut) (after : List Rational) (o : Ordering)
    → (less cut.number next.number ≡ is_lt o) × (less next.number cut.number ≡ is_gt o)
    → map number_of later ≡ after
    → map number_of (match_ordering o (cut ∷ next ∷ more) (next ∷ more) (next ∷ later))
    ≡ (if less cut.number next.number then cut.number ∷ next.number ∷ map number_of more
    else (if less next.number cut.number then next.number ∷ after
    else next.number ∷ map number_of more))
placed_by cut next more later after Less tests is = rw tests.0 refl
placed_by cut next more later after Equal tests is = rw (tests.0, tests.1) refl
placed_by cut next more later after Greater tests is =
    rw (tests.0, tests.1) (ap (λ list. next.number ∷ list) is)

pub insert_is : (cut : Cut) (keys : List Cut)
    → map number_of (insert_key cut_cmp keys cut) ≡ inserted cut.number (map number_of keys)
unfolding inserted
insert_is cut [] = refl
insert_is cut (next ∷ more) =
    placed_by cut next more (insert_key cut_cmp more cut)
    (inserted cut.number (map number_of more)) (cut_cmp cut next)
    (tests_of cut.number next.number (cut_cmp cut next) refl) (insert_is cut more)

pub none_rising : (numbers : List Rational) (k : ℕ) → length numbers ≤ k
    → [] ≡ rising (drop k numbers)
unfolding rising
none_rising numbers k past = ap rising (sym (drop_all k numbers past))

pub one_rising : (numbers : List Rational) (before after : List Cut) (k : ℕ) (q : Rational)
    → k < length numbers → q ≡ get_or numbers k q
    → map number_of before ≡ rising (drop (k + 1) numbers)
    → map number_of after ≡ inserted q (map number_of before)
    → map number_of after ≡ rising (drop k numbers)
unfolding rising
one_rising numbers before after k q within here so_far is =
    is ∙ ap (inserted q) so_far
    ∙ ap (λ r. inserted r (rising (drop (k + 1) numbers))) here
    ∙ ap rising (sym (drop_more numbers k q within))

-- ---- what holds of them

either_all : (P : Rational → Type 0) (a b : Bool) (q p : Rational) (cuts later : List Rational)
    → P q → All P (p ∷ cuts) → All P later
    → All P (if a then q ∷ p ∷ cuts else (if b then p ∷ later else p ∷ cuts))
either_all P true b q p cuts later one all more = All-cons P q (p ∷ cuts) one all
either_all P false true q p cuts later one all more =
    All-cons P p later (All-head P p cuts all) more
either_all P false false q p cuts later one all more = all

pub all_inserted : (P : Rational → Type 0) (q : Rational) (cuts : List Rational) → P q
    → All P cuts → All P (inserted q cuts)
unfolding inserted
all_inserted P q [] one all = All-cons P q [] one (All-nil P)
all_inserted P q (p ∷ cuts) one all =
    either_all P (less q p) (less p q) q p cuts (inserted q cuts) one all
    (all_inserted P q cuts one (All-tail P p cuts all))

pub all_rising : (P : Rational → Type 0) (numbers : List Rational) → All P numbers
    → All P (rising numbers)
unfolding rising
all_rising P [] all = All-nil P
all_rising P (q ∷ numbers) all =
    all_inserted P q (rising numbers) (All-head P q numbers all)
    (all_rising P numbers (All-tail P q numbers all))

-- each number is below those after it
unfoldable pub Rises : List Rational → Type 0
Rises [] = ⊤
Rises (p ∷ cuts) = All (λ r. p <ℚ r) cuts × Rises cuts

below_all : (q p : Rational) (cuts : List Rational) → q <ℚ p → All (λ r. p <ℚ r) cuts
    → All (λ r. q <ℚ r) (p ∷ cuts)
below_all q p cuts below all =
    All-cons (λ r. q <ℚ r) p cuts below
    (λ k d within. order-below_transitive q p (get_or cuts k d) below (all k d within))

rises_by : (q p : Rational) (cuts : List Rational)
    → ((less q p ≡ true) × (q <ℚ p)) ⊎ ((less q p ≡ false) × (p ≤ℚ q))
    → ((less p q ≡ true) × (p <ℚ q)) ⊎ ((less p q ≡ false) × (q ≤ℚ p))
    → Rises (p ∷ cuts) → Rises (inserted q cuts)
    → Rises (if less q p then q ∷ p ∷ cuts
    else (if less p q then p ∷ inserted q cuts else p ∷ cuts))
unfolding Rises
rises_by q p cuts (inl below) other h later =
    rw below.0 (below_all q p cuts below.1 h.0, h)
rises_by q p cuts (inr above) (inl below) h later =
    rw (above.0, below.0) (all_inserted (λ r. p <ℚ r) q cuts below.1 h.0, later)
rises_by q p cuts (inr above) (inr same) h later = rw (above.0, same.0) h

pub rises_inserted : (q : Rational) (cuts : List Rational) → Rises cuts
    → Rises (inserted q cuts)
unfolding Rises inserted
rises_inserted q [] h = (All-nil (λ r. q <ℚ r), tt)
rises_inserted q (p ∷ cuts) h =
    rises_by q p cuts (tells-less q p) (tells-less p q) h (rises_inserted q cuts h.1)

pub rises : (numbers : List Rational) → Rises (rising numbers)
unfolding rising Rises
rises [] = tt
rises (q ∷ numbers) = rises_inserted q (rising numbers) (rises numbers)

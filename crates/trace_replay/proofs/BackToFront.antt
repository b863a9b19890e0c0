-- Lists that are written from the last place to the first.
use Rattle.std.proofs.Common.{◌≡◌, ℕ, zero, suc, ◌<◌, List, [], ◌∷◌, ◌++◌, length, get_or, set, take, drop, Option, refl, ap, sym, ◌∙◌, arith, append-nil, drop-cons, ℤ}
use Rattle.std.proofs.lemmas.List.{take_all, at_drop_all}
use Rattle.exact_fraction.specs.Number.{Rational}
use Rattle.rule_types.specs.declared.state.LinkState.{LinkState}
use Rattle.rule_meaning.specs.History.{Standing, stayed}
use Rattle.rule_meaning.specs.Replay.{timer_at, links_at}

-- an item before those that were written
pub written : {A : Type 0} (old rest : List A) (k : ℕ) (item : A) → k < length old
    → set (take (suc k) old ++ rest) k item ≡ take k old ++ item ∷ rest
written [] rest k item within = absurd (omega arith)
written (first ∷ old) rest zero item within = refl
written (first ∷ old) rest (suc k) item within = ap (λ list. first ∷ list) (written old rest k item (omega arith))

-- the item that is still as before
pub as_before : {A : Type 0} (old rest : List A) (k : ℕ) (d : A) → k < length old → get_or (take (suc k) old ++ rest) k d ≡ get_or old k d
as_before [] rest k d within = absurd (omega arith)
as_before (first ∷ old) rest zero d within = refl
as_before (first ∷ old) rest (suc k) d within = as_before old rest k d (omega arith)

stayed-drop : (links : List LinkState) (k : ℕ) → drop k (stayed links) ≡ stayed (drop k links)
stayed-drop [] zero = refl
stayed-drop [] (suc k) = refl
stayed-drop (link ∷ links) zero = refl
stayed-drop (link ∷ links) (suc k) = stayed-drop links k

-- ---- timers
-- nothing is written yet, and all is written
pub timers_start : (start moment : ℤ) (links : List LinkState) (switches : List (Option ℤ))
    → links ≡ take (length links) links ++ links_at start moment (stayed (drop (length links) links)) (drop (length links) switches)
unfolding links_at
timers_start start moment links switches =
    sym (append-nil links)
    ∙ sym (ap (λ list. list ++ []) (take_all (length links) links (omega arith)))
    ∙ sym (at_drop_all (λ list. take (length links) links ++ links_at start moment (stayed list) (drop (length links) switches)) links (length links) (omega arith))

pub timers_step : (start moment : ℤ) (old : List LinkState) (switches : List (Option ℤ)) (k at : ℕ) (d : LinkState) (e : Option ℤ) (links : List LinkState) (timer : Rational)
    → at ≡ suc k → k < length old → length switches ≡ length old
    → links ≡ take at old ++ links_at start moment (stayed (drop at old)) (drop at switches)
    → timer ≡ timer_at start (get_or switches k e) moment
    → set links k (record { setting = (get_or links k d).setting; target = (get_or links k d).target; timer = timer })
    ≡ take k old ++ links_at start moment (stayed (drop k old)) (drop k switches)
unfolding links_at
timers_step start moment old switches k at d e links timer next within each is read =
    let before : links ≡ take (suc k) old ++ links_at start moment (stayed (drop (suc k) old)) (drop (suc k) switches) =
    is ∙ ap (λ n. take n old ++ links_at start moment (stayed (drop n old)) (drop n switches)) next in
    let here : get_or links k d ≡ get_or old k d = ap (λ list. get_or list k d) before ∙ as_before old _ k d within in
    ap (λ list. set list k (record { setting = (get_or links k d).setting; target = (get_or links k d).target; timer = timer })) before
    ∙ written old (links_at start moment (stayed (drop (suc k) old)) (drop (suc k) switches)) k (record { setting = (get_or links k d).setting; target = (get_or links k d).target; timer = timer }) within
    ∙ (λ i. take k old ++ record { setting = (here i).setting; target = (here i).target; timer = read i }
    ∷ links_at start moment (stayed (drop (suc k) old)) (drop (suc k) switches))
    ∙ sym (λ i. take k old ++ links_at start moment (stayed (at_place old k d within i)) (at_place switches k e (rw each within) i))
  where
    at_place : {A : Type 0} (xs : List A) (k : ℕ) (d : A) → k < length xs → drop k xs ≡ get_or xs k d ∷ drop (suc k) xs
    at_place xs k d within = drop-cons xs k d within

-- settings and targets stay
pub stayed_timed : (start moment : ℤ) (standings : List Standing) (switches : List (Option ℤ)) → length standings ≡ length switches
    → stayed (links_at start moment standings switches) ≡ standings
unfolding links_at
stayed_timed start moment [] switches long = refl
stayed_timed start moment (at ∷ more) [] long = absurd (omega (arith, long))
stayed_timed start moment (at ∷ more) (switch ∷ switches) long = ap (λ later. at ∷ later) (stayed_timed start moment more switches (omega (arith, long)))

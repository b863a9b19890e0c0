-- Two lists side by side.
use Rattle.std.proofs.Common.{◌≡◌, ℕ, zero, suc, ◌+◌, ◌<◌, Some, List, [], ◌∷◌, ◌++◌, length, get_or, take, refl, sym, ap, subst, ◌∙◌, ◌≤◌, arith}
use Rattle.std.proofs.lemmas.List.{take_all, take_more}
use Rattle.std.proofs.lemmas.Option.{none-some, same_Some}
use Rattle.std.specs.Prelude.{slice_get}
use Rattle.std.specs.List.{AllZip}

pub zipped : {A B : Type 0} (R : A → B → Type 0) (xs : List A) (ys : List B) → AllZip R xs ys
    → (k : ℕ) (d : A) (e : B) → k < length xs → R (get_or xs k d) (get_or ys k e)
zipped R [] [] all k d e within = absurd (omega arith)
zipped R [] (y ∷ ys) all k d e within = elim all [ ]
zipped R (x ∷ xs) [] all k d e within = elim all [ ]
zipped R (x ∷ xs) (y ∷ ys) all zero d e within = all.0
zipped R (x ∷ xs) (y ∷ ys) all (suc k) d e within = zipped R xs ys all.1 k d e (omega arith)

pub zip_long : {A B : Type 0} (R : A → B → Type 0) (xs : List A) (ys : List B) → AllZip R xs ys
    → length xs ≡ length ys
zip_long R [] [] all = refl
zip_long R [] (y ∷ ys) all = elim all [ ]
zip_long R (x ∷ xs) [] all = elim all [ ]
zip_long R (x ∷ xs) (y ∷ ys) all = let h : length xs ≡ length ys = zip_long R xs ys all.1 in omega arith

pub zip_at : {A B : Type 0} (R : A → B → Type 0) (xs : List A) (ys : List B) (k : ℕ) (one : A)
    (other : B)
    → AllZip R xs ys → slice_get xs k ≡ Some one → slice_get ys k ≡ Some other → R one other
zip_at R [] [] k one other all is beside = absurd (none-some one is)
zip_at R [] (y ∷ ys) k one other all is beside = elim all [ ]
zip_at R (x ∷ xs) [] k one other all is beside = elim all [ ]
zip_at R (x ∷ xs) (y ∷ ys) zero one other all is beside =
    let e : x ≡ one = same_Some x one is in
    let f : y ≡ other = same_Some y other beside in
    subst (λ v. R one v) f (subst (λ u. R u y) e all.0)
zip_at R (x ∷ xs) (y ∷ ys) (suc k) one other all is beside = zip_at R xs ys k one other all.1 is beside

pub zip_all : {A B : Type 0} (R : A → B → Type 0) (xs items : List A) (ys : List B) (i : ℕ)
    → items ≡ xs → length items ≤ i → AllZip R (take i xs) ys → AllZip R xs ys
zip_all {A} R xs items ys i same past all =
    subst (λ (l : List A). AllZip R l ys) (take_all i xs (omega (arith, past, ap length same))) all

-- one more at the end of both
pub zip_push : {A B : Type 0} (R : A → B → Type 0) (xs : List A) (ys : List B) (one : A) (other : B)
    → AllZip R xs ys → R one other → AllZip R (xs ++ one ∷ []) (ys ++ other ∷ [])
zip_push R [] [] one other all here = (here, tt)
zip_push R [] (y ∷ ys) one other all here = elim all [ ]
zip_push R (x ∷ xs) [] one other all here = elim all [ ]
zip_push R (x ∷ xs) (y ∷ ys) one other all here = (all.0, zip_push R xs ys one other all.1 here)

pub zip_more : {A B : Type 0} (R : A → B → Type 0) (xs items : List A) (ys new : List B) (i : ℕ)
    (one : A) (other : B)
    → items ≡ xs → i < length items → one ≡ get_or items i one → new ≡ ys ++ other ∷ []
    → AllZip R (take i xs) ys → R one other → AllZip R (take (i + 1) xs) new
zip_more {A} {B} R xs items ys new i one other same within is pushed all here =
    let at : one ≡ get_or xs i one = is ∙ ap (λ l. get_or l i one) same in
    let inside : i < length xs = omega (arith, within, ap length same) in
    let front : take (i + 1) xs ≡ take i xs ++ one ∷ [] =
    take_more xs i one inside ∙ ap (λ y. take i xs ++ y ∷ []) (sym at) in
    subst (λ (l : List A). AllZip R l new) (sym front)
    (subst (λ (l : List B). AllZip R (take i xs ++ one ∷ []) l) (sym pushed) (zip_push R (take i xs) ys one other all here))

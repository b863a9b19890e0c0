-- Members of lists that are joined, filtered and flattened.
use Rattle.std.proofs.Common.{◌≡◌, ℕ, zero, suc, ◌+◌, ◌<◌, Bool, true, false, ◌||◌}
use Rattle.std.proofs.Common.{◌⊎◌, inl, inr, Option, Some, None, List, [], ◌∷◌, ◌++◌, cond, refl}
use Rattle.std.proofs.Common.{sym, subst, ap, ◌∙◌, arith}
use Rattle.std.proofs.lemmas.Bool.{and_parts, true≢false}
use Rattle.std.proofs.lemmas.Option.{none-some, same_Some}
use Rattle.std.specs.List.{AllByRecursion, cons_option, filter, filter_map, flat_map, list_all}
use Rattle.std.specs.List.{list_any, range_with_len}
use Rattle.std.specs.Prelude.{slice_get}

-- a thing is one of a list
abbrev pub Among : {A : Type 0} → List A → A → Type 0
Among [] x = ⊥
Among (y ∷ ys) x = (y ≡ x) ⊎ Among ys x

pub among_front : {A : Type 0} (xs ys : List A) (x : A) → Among xs x → Among (xs ++ ys) x
among_front [] ys x at = absurd at
among_front (y ∷ xs) ys x (inl e) = inl e
among_front (y ∷ xs) ys x (inr at) = inr (among_front xs ys x at)

pub among_back : {A : Type 0} (xs ys : List A) (x : A) → Among ys x → Among (xs ++ ys) x
among_back [] ys x at = at
among_back (y ∷ xs) ys x at = inr (among_back xs ys x at)

pub among_flat : {A B : Type 0} (f : A → List B) (xs : List A) (x : A) (y : B) → Among xs x
    → Among (f x) y → Among (flat_map f xs) y
among_flat f [] x y at own = absurd at
among_flat f (first ∷ xs) x y (inl e) own =
    among_front (f first) (flat_map f xs) y (subst (λ one. Among (f one) y) (sym e) own)
among_flat f (first ∷ xs) x y (inr at) own =
    among_back (f first) (flat_map f xs) y (among_flat f xs x y at own)

kept_first : {A : Type 0} (b : Bool) (y : A) (ys : List A) → b ≡ true
    → Among (cond b (y ∷ ys) ys) y
kept_first true y ys h = inl refl
kept_first false y ys h = absurd (true≢false (sym h))

kept_later : {A : Type 0} (b : Bool) (y : A) (ys : List A) (x : A) → Among ys x
    → Among (cond b (y ∷ ys) ys) x
kept_later true y ys x at = inr at
kept_later false y ys x at = at

pub among_filter : {A : Type 0} (test : A → Bool) (xs : List A) (x : A) → Among xs x
    → test x ≡ true → Among (filter test xs) x
among_filter test [] x at h = absurd at
among_filter test (y ∷ ys) x (inl e) h =
    subst (Among (filter test (y ∷ ys))) e
    (kept_first (test y) y (filter test ys) (ap test e ∙ h))
among_filter test (y ∷ ys) x (inr at) h =
    kept_later (test y) y (filter test ys) x (among_filter test ys x at h)

found_first : {A : Type 0} (o : Option A) (ys : List A) (y : A) → o ≡ Some y
    → Among (cons_option o ys) y
found_first None ys y e = absurd (none-some y e)
found_first (Some one) ys y e = inl (same_Some one y e)

found_later : {A : Type 0} (o : Option A) (ys : List A) (y : A) → Among ys y
    → Among (cons_option o ys) y
found_later None ys y at = at
found_later (Some one) ys y at = inr at

pub among_map : {A B : Type 0} (f : A → Option B) (xs : List A) (x : A) (y : B) → Among xs x
    → f x ≡ Some y → Among (filter_map f xs) y
among_map f [] x y at is = absurd at
among_map f (first ∷ xs) x y (inl e) is =
    found_first (f first) (filter_map f xs) y (ap f e ∙ is)
among_map f (first ∷ xs) x y (inr at) is =
    found_later (f first) (filter_map f xs) y (among_map f xs x y at is)

pub among_range : (from n k : ℕ) → k < n → Among (range_with_len from n) (from + k)
among_range from zero k h = absurd (omega (arith, h))
among_range from (suc n) zero h = inl (omega arith)
among_range from (suc n) (suc k) h =
    let same : from + 1 + k ≡ from + suc k = omega arith in
    inr (subst (Among (range_with_len (from + 1) n)) same
    (among_range (from + 1) n k (omega (arith, h))))

pub among_at : {A : Type 0} (xs : List A) (k : ℕ) (x : A) → slice_get xs k ≡ Some x
    → Among xs x
among_at [] k x is = absurd (none-some x is)
among_at (y ∷ ys) zero x is = inl (same_Some y x is)
among_at (y ∷ ys) (suc k) x is = inr (among_at ys k x is)

pub each_among : {A : Type 0} (P : A → Type 0) (xs : List A) (x : A) → AllByRecursion P xs
    → Among xs x → P x
each_among P [] x h at = absurd at
each_among P (y ∷ ys) x h (inl e) = subst P e h.0
each_among P (y ∷ ys) x h (inr at) = each_among P ys x h.1 at

pub each_in : {A : Type 0} (P : A → Type 0) (xs : List A) → ((x : A) → Among xs x → P x)
    → AllByRecursion P xs
each_in P [] h = tt
each_in P (y ∷ ys) h = (h y (inl refl), each_in P ys (λ x at. h x (inr at)))

pub all_among : {A : Type 0} (test : A → Bool) (xs : List A) (x : A) → list_all test xs ≡ true
    → Among xs x → test x ≡ true
all_among test [] x h at = absurd at
all_among test (y ∷ ys) x h (inl e) =
    ap test (sym e) ∙ (and_parts (test y) (list_all test ys) h).0
all_among test (y ∷ ys) x h (inr at) =
    all_among test ys x (and_parts (test y) (list_all test ys) h).1 at

-- ---- one of two
pub or_cases : (a b : Bool) → (a || b) ≡ true → (a ≡ true) ⊎ (b ≡ true)
or_cases true b h = inl refl
or_cases false b h = inr h

pub or_left : (a b : Bool) → a ≡ true → (a || b) ≡ true
or_left a b h = rw h refl

pub or_right : (a b : Bool) → b ≡ true → (a || b) ≡ true
or_right true b h = refl
or_right false b h = h

pub neither_left : (a b : Bool) → (a || b) ≡ false → a ≡ false
neither_left true b h = absurd (true≢false h)
neither_left false b h = refl

pub neither_right : (a b : Bool) → (a || b) ≡ false → b ≡ false
neither_right true b h = absurd (true≢false h)
neither_right false b h = h

pub any_among : {A : Type 0} (test : A → Bool) (xs : List A) (x : A) → Among xs x
    → test x ≡ true → list_any test xs ≡ true
any_among test [] x at h = absurd at
any_among test (y ∷ ys) x (inl e) h = or_left (test y) (list_any test ys) (ap test e ∙ h)
any_among test (y ∷ ys) x (inr at) h =
    or_right (test y) (list_any test ys) (any_among test ys x at h)

pub none_among : {A : Type 0} (test : A → Bool) (xs : List A) (x : A)
    → list_any test xs ≡ false → Among xs x → test x ≡ false
none_among test [] x h at = absurd at
none_among test (y ∷ ys) x h (inl e) =
    ap test (sym e) ∙ neither_left (test y) (list_any test ys) h
none_among test (y ∷ ys) x h (inr at) =
    none_among test ys x (neither_right (test y) (list_any test ys) h) at

-- ---- what holds of each item
pub each_append : {A : Type 0} (P : A → Type 0) (xs ys : List A) → AllByRecursion P xs
    → AllByRecursion P ys → AllByRecursion P (xs ++ ys)
each_append P [] ys h k = k
each_append P (x ∷ xs) ys h k = (h.0, each_append P xs ys h.1 k)

pub each_flat : {A B : Type 0} (P : B → Type 0) (f : A → List B) (xs : List A)
    → AllByRecursion (λ x. AllByRecursion P (f x)) xs → AllByRecursion P (flat_map f xs)
each_flat P f [] h = tt
each_flat P f (x ∷ xs) h = each_append P (f x) (flat_map f xs) h.0 (each_flat P f xs h.1)

pub each_by : {A : Type 0} (P Q : A → Type 0) → ((x : A) → P x → Q x) → (xs : List A)
    → AllByRecursion P xs → AllByRecursion Q xs
each_by P Q f [] h = tt
each_by P Q f (x ∷ xs) h = (f x h.0, each_by P Q f xs h.1)

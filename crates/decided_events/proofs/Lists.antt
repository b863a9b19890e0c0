-- Tests of lists: the item that fails, and items by their places.
use Rattle.std.proofs.Common.{◌≡◌, ℕ, zero, suc, ◌+◌, ◌<◌, Bool, true, false, ◌==◌}
use Rattle.std.proofs.Common.{Option, Some, None, List, [], ◌∷◌, ◌++◌, ◌⊎◌, inl, inr}
use Rattle.std.proofs.Common.{refl, sym, ap, subst, ◌∙◌, arith, cond}
use Rattle.std.proofs.lemmas.Bool.Decides.{nat_tests}
use Rattle.std.proofs.lemmas.Bool.{and_cases, and_from, and_parts, or_left, or_right, true≢false}
use Rattle.std.proofs.lemmas.List.Elements.{Contains-get_or}
use Rattle.std.proofs.lemmas.List.FromFn.{get_or-range_with_len, length-range_with_len}
use Rattle.std.specs.List.{list_all, list_any, slice_get, Contains, filter, range_with_len}
use Rattle.rule_meaning.proofs.PublicLaws.{members-cases}

-- ---- equal numbers and options
pub test_of : (m n : ℕ) → m ≡ n → (m == n) ≡ true
test_of m n e = grind (arith, nat_tests)

pub same_of : (m n : ℕ) → (m == n) ≡ true → m ≡ n
same_of m n e = grind (arith, nat_tests)

abbrev value_or : {A : Type 0} → A → Option A → A
value_or other None = other
value_or other (Some thing) = thing

pub some_same : {A : Type 0} (a b : A) → Some a ≡ Some b → a ≡ b
some_same a b h = ap (value_or a) h

abbrev is_some_thing : {A : Type 0} → Option A → Bool
is_some_thing None = false
is_some_thing (Some thing) = true

pub none_some : {A : Type 0} (a : A) → None ≡ Some a → ⊥
none_some a h = true≢false (sym (ap is_some_thing h))

-- ---- an item that fails
pub record Fails (A : Type 0) (p : A → Bool) (xs : List A) : Type 0 where
  pub place : ℕ
  pub one : A
  pub is : slice_get xs place ≡ Some one
  pub fails : p one ≡ false

fails_by : {A : Type 0} (p : A → Bool) (x : A) (xs : List A)
    → (p x ≡ false) ⊎ (list_all p xs ≡ false) → (list_all p xs ≡ false → Fails A p xs)
    → Fails A p (x ∷ xs)
fails_by p x xs (inl e) later = record { place = 0; one = x; is = refl; fails = e }
fails_by p x xs (inr e) later =
    let found = later e in
    record { place = suc found.place; one = found.one; is = found.is; fails = found.fails }

pub fails_in : {A : Type 0} (p : A → Bool) (xs : List A) → list_all p xs ≡ false → Fails A p xs
fails_in p [] h = absurd (true≢false h)
fails_in p (x ∷ xs) h = fails_by p x xs (and_cases (p x) (list_all p xs) h) (fails_in p xs)

-- ---- an item that passes
pub any_at : {A : Type 0} (p : A → Bool) (xs : List A) (k : ℕ) (one : A)
    → slice_get xs k ≡ Some one → p one ≡ true → list_any p xs ≡ true
any_at p [] k one e h = absurd (none_some one e)
any_at p (y ∷ ys) zero one e h =
    or_left (p y) (list_any p ys) (ap p (some_same y one e) ∙ h)
any_at p (y ∷ ys) (suc k) one e h = or_right (p y) (list_any p ys) (any_at p ys k one e h)

pub all_at : {A : Type 0} (p : A → Bool) (xs : List A) (k : ℕ) (one : A) → list_all p xs ≡ true
    → slice_get xs k ≡ Some one → p one ≡ true
all_at p [] k one h e = absurd (none_some one e)
all_at p (y ∷ ys) zero one h e =
    ap p (sym (some_same y one e)) ∙ (and_parts (p y) (list_all p ys) h).0
all_at p (y ∷ ys) (suc k) one h e = all_at p ys k one (and_parts (p y) (list_all p ys) h).1 e

none_in : {A : Type 0} (x : A) → Contains [] x → ⊥
none_in x c = omega (arith, c.1)

any_by : {A : Type 0} (p : A → Bool) (y : A) (ys : List A) (x : A) → p x ≡ true
    → (Contains ys x → list_any p ys ≡ true) → (y ≡ x) ⊎ Contains ys x
    → list_any p (y ∷ ys) ≡ true
any_by p y ys x h later (inl e) = or_left (p y) (list_any p ys) (ap p e ∙ h)
any_by p y ys x h later (inr c) = or_right (p y) (list_any p ys) (later c)

pub any_of : {A : Type 0} (p : A → Bool) (xs : List A) (x : A) → Contains xs x → p x ≡ true
    → list_any p xs ≡ true
any_of p [] x c h = absurd (none_in x c)
any_of p (y ∷ ys) x c h =
    any_by p y ys x h (λ later. any_of p ys x later h) (members-cases y ys x c)

-- ---- what holds of the kept items holds of one that the test keeps
all_kept_by : {A : Type 0} (p test : A → Bool) (y : A) (ys : List A) (b : Bool)
    → list_all p (cond b (y ∷ filter test ys) (filter test ys)) ≡ true
    → list_all p (filter test ys) ≡ true
all_kept_by p test y ys true h = (and_parts (p y) (list_all p (filter test ys)) h).1
all_kept_by p test y ys false h = h

all_kept_first : {A : Type 0} (p test : A → Bool) (y : A) (ys : List A) → test y ≡ true
    → list_all p (filter test (y ∷ ys)) ≡ true → p y ≡ true
all_kept_first p test y ys e h =
    (and_parts (p y) (list_all p (filter test ys))
    (subst (λ b. list_all p (cond b (y ∷ filter test ys) (filter test ys)) ≡ true) e h)).0

pub all_kept : {A : Type 0} (p test : A → Bool) (xs : List A) (k : ℕ) (one : A)
    → list_all p (filter test xs) ≡ true → slice_get xs k ≡ Some one → test one ≡ true
    → p one ≡ true
all_kept p test [] k one h e t = absurd (none_some one e)
all_kept p test (y ∷ ys) zero one h e t =
    let is = some_same y one e in
    ap p (sym is) ∙ all_kept_first p test y ys (ap test is ∙ t) h
all_kept p test (y ∷ ys) (suc k) one h e t =
    all_kept p test ys k one (all_kept_by p test y ys (test y) h) e t

-- the kept items of a part of a list are among those of the list
front_by : {A : Type 0} (p test : A → Bool) (y : A) (ys zs : List A) (b : Bool)
    → list_all p (cond b (y ∷ filter test (ys ++ zs)) (filter test (ys ++ zs))) ≡ true
    → (list_all p (filter test (ys ++ zs)) ≡ true → list_all p (filter test ys) ≡ true)
    → list_all p (cond b (y ∷ filter test ys) (filter test ys)) ≡ true
front_by p test y ys zs true h later =
    let parts = and_parts (p y) (list_all p (filter test (ys ++ zs))) h in
    and_from (p y) (list_all p (filter test ys)) parts.0 (later parts.1)
front_by p test y ys zs false h later = later h

pub front_kept : {A : Type 0} (p test : A → Bool) (xs ys : List A)
    → list_all p (filter test (xs ++ ys)) ≡ true → list_all p (filter test xs) ≡ true
front_kept p test [] ys h = refl
front_kept p test (x ∷ xs) ys h =
    front_by p test x xs ys (test x) h (front_kept p test xs ys)

pub back_kept : {A : Type 0} (p test : A → Bool) (xs ys : List A)
    → list_all p (filter test (xs ++ ys)) ≡ true → list_all p (filter test ys) ≡ true
back_kept p test [] ys h = h
back_kept p test (x ∷ xs) ys h =
    back_kept p test xs ys (all_kept_by p test x (xs ++ ys) (test x) h)

-- ---- numbers that a test keeps
kept_by : (test : ℕ → Bool) (y : ℕ) (ys : List ℕ) (n : ℕ) (b : Bool) → test y ≡ b
    → test n ≡ true → (Contains ys n → list_any (λ other. n == other) (filter test ys) ≡ true)
    → (y ≡ n) ⊎ Contains ys n → list_any (λ other. n == other) (filter test (y ∷ ys)) ≡ true
kept_by test y ys n true e h later (inl same) =
    rw e
    (or_left (n == y) (list_any (λ other. n == other) (filter test ys)) (test_of n y (sym same)))
kept_by test y ys n true e h later (inr c) =
    rw e (or_right (n == y) (list_any (λ other. n == other) (filter test ys)) (later c))
kept_by test y ys n false e h later (inl same) =
    absurd (true≢false (sym h ∙ (ap test (sym same) ∙ e)))
kept_by test y ys n false e h later (inr c) = rw e (later c)

pub kept : (test : ℕ → Bool) (xs : List ℕ) (n : ℕ) → Contains xs n → test n ≡ true
    → list_any (λ other. n == other) (filter test xs) ≡ true
kept test [] n c h = absurd (none_in n c)
kept test (y ∷ ys) n c h =
    kept_by test y ys n (test y) refl h (λ later. kept test ys n later h)
    (members-cases y ys n c)

pub numbered : (n count : ℕ) → n < count → Contains (range_with_len 0 count) n
numbered n count h =
    let from_zero : 0 + n ≡ n = omega arith in
    subst (Contains (range_with_len 0 count)) (get_or-range_with_len 0 count n 0 h ∙ from_zero)
    (Contains-get_or (range_with_len 0 count) n 0
    (subst (λ m. n < m) (sym (length-range_with_len 0 count)) h))

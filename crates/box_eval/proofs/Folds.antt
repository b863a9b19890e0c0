-- Tests of all rules, number by number, and of all actions.
use Rattle.std.proofs.Common.{◌≡◌, ℕ, zero, suc, ◌+◌, ◌<◌, Bool, true, false, ◌&&◌, ◌||◌, refl, sym, ap, ◌∙◌, arith, subst}
use Rattle.std.specs.List.{list_all, list_any, range_with_len}
use Rattle.std.proofs.lemmas.List.Folds.{list_any-append}

pub ruleset either_list = (list_any-append)

or_assoc : (a b c : Bool) → (a || (b || c)) ≡ ((a || b) || c)
or_assoc true b c = refl
or_assoc false b c = refl

and_assoc : (a b c : Bool) → (a && (b && c)) ≡ ((a && b) && c)
and_assoc true b c = refl
and_assoc false b c = refl

or_none : (a : Bool) → (a || false) ≡ a
or_none true = refl
or_none false = refl

and_all : (a : Bool) → (a && true) ≡ a
and_all true = refl
and_all false = refl

any_from : (p : ℕ → Bool) (a n : ℕ)
    → list_any p (range_with_len a (suc n)) ≡ (list_any p (range_with_len a n) || p (a + n))
any_from p a zero =
    or_none (p a) ∙ ap p (let e : a ≡ a + 0 = omega arith in e)
any_from p a (suc n) =
    ap (λ t. p a || t) (any_from p (a + 1) n)
    ∙ or_assoc (p a) (list_any p (range_with_len (a + 1) n)) (p (a + 1 + n))
    ∙ ap (λ k. (p a || list_any p (range_with_len (a + 1) n)) || p k)
    (let e : a + 1 + n ≡ a + suc n = omega arith in e)

all_from : (p : ℕ → Bool) (a n : ℕ)
    → list_all p (range_with_len a (suc n)) ≡ (list_all p (range_with_len a n) && p (a + n))
all_from p a zero =
    and_all (p a) ∙ ap p (let e : a ≡ a + 0 = omega arith in e)
all_from p a (suc n) =
    ap (λ t. p a && t) (all_from p (a + 1) n)
    ∙ and_assoc (p a) (list_all p (range_with_len (a + 1) n)) (p (a + 1 + n))
    ∙ ap (λ k. (p a && list_all p (range_with_len (a + 1) n)) && p k)
    (let e : a + 1 + n ≡ a + suc n = omega arith in e)

pub any_more : (p : ℕ → Bool) (n : ℕ)
    → list_any p (range_with_len 0 (n + 1)) ≡ (list_any p (range_with_len 0 n) || p n)
any_more p n =
    ap (λ k. list_any p (range_with_len 0 k)) (let e : n + 1 ≡ suc n = omega arith in e)
    ∙ any_from p 0 n
    ∙ ap (λ k. list_any p (range_with_len 0 n) || p k) (let e : 0 + n ≡ n = omega arith in e)

pub all_more : (p : ℕ → Bool) (n : ℕ)
    → list_all p (range_with_len 0 (n + 1)) ≡ (list_all p (range_with_len 0 n) && p n)
all_more p n =
    ap (λ k. list_all p (range_with_len 0 k)) (let e : n + 1 ≡ suc n = omega arith in e)
    ∙ all_from p 0 n
    ∙ ap (λ k. list_all p (range_with_len 0 n) && p k) (let e : 0 + n ≡ n = omega arith in e)

-- where one number fails, not all pass
fails_at : (p : ℕ → Bool) (a n k : ℕ) → k < n → p (a + k) ≡ false
    → list_all p (range_with_len a n) ≡ false
fails_at p a zero k within e = absurd (omega (arith, within))
fails_at p a (suc n) zero within e =
    ap (λ t. t && list_all p (range_with_len (a + 1) n))
    (ap p (let s : a ≡ a + 0 = omega arith in s) ∙ e)
fails_at p a (suc n) (suc k) within e =
    let later : k < n = omega (arith, within) in
    let same : a + 1 + k ≡ a + suc k = omega arith in
    ap (λ t. p a && t)
    (fails_at p (a + 1) n k later (subst (λ m. p m ≡ false) (sym same) e))
    ∙ and_none (p a)
  where
    and_none : (b : Bool) → (b && false) ≡ false
    and_none true = refl
    and_none false = refl

pub one_fails : (p : ℕ → Bool) (n k : ℕ) → k < n → p k ≡ false
    → list_all p (range_with_len 0 n) ≡ false
one_fails p n k within e =
    fails_at p 0 n k within
    (subst (λ m. p m ≡ false) (let s : k ≡ 0 + k = omega arith in s) e)

both_pass : (a b : Bool) → a ≡ true → b ≡ true → (a && b) ≡ true
both_pass true b e f = f
both_pass false b e f = e

pub all_goes_on : (p : ℕ → Bool) (n : ℕ) → list_all p (range_with_len 0 n) ≡ true
    → p n ≡ true → list_all p (range_with_len 0 (n + 1)) ≡ true
all_goes_on p n so_far here =
    all_more p n ∙ both_pass (list_all p (range_with_len 0 n)) (p n) so_far here

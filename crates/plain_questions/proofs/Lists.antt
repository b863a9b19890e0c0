-- What is found in a list, and what is not.
use Rattle.std.proofs.Common.{◌≡◌, ℕ, zero, suc, Bool, true, false, Option, Some, None}
use Rattle.std.proofs.Common.{List, [], ◌∷◌, cond, refl, sym, subst, ap, ◌∙◌}
use Rattle.std.proofs.lemmas.Option.{none-some, same_Some}
use Rattle.std.specs.List.{AllByRecursion, cons_option, filter_map, find}
use Rattle.std.specs.Prelude.{slice_get}

pub each_at : {A : Type 0} (P : A → Type 0) (xs : List A) (k : ℕ) (x : A)
    → AllByRecursion P xs → slice_get xs k ≡ Some x → P x
each_at P [] k x h is = absurd (none-some x is)
each_at P (y ∷ ys) zero x h is = subst P (same_Some y x is) h.0
each_at P (y ∷ ys) (suc k) x h is = each_at P ys k x h.1 is

-- ---- what is found has a place, and passes the test
pub record IsFound (A : Type 0) (test : A → Bool) (xs : List A) (x : A) : Type 0 where
  pub place : ℕ
  pub is : slice_get xs place ≡ Some x
  pub passes : test x ≡ true

found_by : {A : Type 0} (test : A → Bool) (y : A) (ys : List A) (x : A) (b : Bool)
    → test y ≡ b → cond b (Some y) (find test ys) ≡ Some x
    → (find test ys ≡ Some x → IsFound A test ys x) → IsFound A test (y ∷ ys) x
found_by test y ys x true is e later =
    record { place = 0; is = e; passes = ap test (sym (same_Some y x e)) ∙ is }
found_by test y ys x false is e later =
    let found = later e in
    record { place = suc found.place; is = found.is; passes = found.passes }

pub found_in : {A : Type 0} (test : A → Bool) (xs : List A) (x : A) → find test xs ≡ Some x
    → IsFound A test xs x
found_in test [] x e = absurd (none-some x e)
found_in test (y ∷ ys) x e = found_by test y ys x (test y) refl e (found_in test ys x)

-- ---- where nothing is found among what is there of some things, none of it passes the test
first_fails : {A : Type 0} (test : A → Bool) (y : A) (o : Option A) (b : Bool) → test y ≡ b
    → cond b (Some y) o ≡ None → test y ≡ false
first_fails test y o true is h = absurd (none-some y (sym h))
first_fails test y o false is h = is

later_none : {A : Type 0} (y : A) (o : Option A) (b : Bool) → cond b (Some y) o ≡ None
    → o ≡ None
later_none y o true h = absurd (none-some y (sym h))
later_none y o false h = h

others_none : {A : Type 0} (test : A → Bool) (o : Option A) (ys : List A)
    → find test (cons_option o ys) ≡ None → find test ys ≡ None
others_none test None ys h = h
others_none test (Some y) ys h = later_none y (find test ys) (test y) h

pub none_passes : {A B : Type 0} (test : B → Bool) (f : A → Option B) (xs : List A) (k : ℕ)
    (x : A) (y : B) → find test (filter_map f xs) ≡ None → slice_get xs k ≡ Some x
    → f x ≡ Some y → test y ≡ false
none_passes test f [] k x y h is e = absurd (none-some x is)
none_passes test f (z ∷ zs) zero x y h is e =
    first_fails test y (find test (filter_map f zs)) (test y) refl
    (subst (λ o. find test (cons_option o (filter_map f zs)) ≡ None)
    (ap f (same_Some z x is) ∙ e) h)
none_passes test f (z ∷ zs) (suc k) x y h is e =
    none_passes test f zs k x y (others_none test (f z) (filter_map f zs) h) is e

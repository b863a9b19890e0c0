-- Facts of each item of lists that are joined.
use Rattle.std.proofs.Common.{◌≡◌, ℕ, zero as nothing, suc, Option, Some, None, List, [], ◌∷◌, ◌++◌, refl, subst}
use Rattle.std.proofs.lemmas.Option.{none-some, same_Some}
use Rattle.std.specs.List.{AllByRecursion, cons_option, filter_map, flat_map}
use Rattle.std.specs.Prelude.{slice_get}

pub each_append : {A : Type 0} (P : A → Type 0) (xs ys : List A) → AllByRecursion P xs
    → AllByRecursion P ys → AllByRecursion P (xs ++ ys)
each_append P [] ys h k = k
each_append P (x ∷ xs) ys h k = (h.0, each_append P xs ys h.1 k)

each_front : {A : Type 0} (P : A → Type 0) (xs ys : List A) → AllByRecursion P (xs ++ ys)
    → AllByRecursion P xs
each_front P [] ys h = tt
each_front P (x ∷ xs) ys h = (h.0, each_front P xs ys h.1)

each_back : {A : Type 0} (P : A → Type 0) (xs ys : List A) → AllByRecursion P (xs ++ ys)
    → AllByRecursion P ys
each_back P [] ys h = h
each_back P (x ∷ xs) ys h = each_back P xs ys h.1

pub each_flat : {A B : Type 0} (P : B → Type 0) (f : A → List B) (xs : List A)
    → AllByRecursion (λ x. AllByRecursion P (f x)) xs → AllByRecursion P (flat_map f xs)
each_flat P f [] h = tt
each_flat P f (x ∷ xs) h = each_append P (f x) (flat_map f xs) h.0 (each_flat P f xs h.1)

pub flat_each : {A B : Type 0} (P : B → Type 0) (f : A → List B) (xs : List A)
    → AllByRecursion P (flat_map f xs) → AllByRecursion (λ x. AllByRecursion P (f x)) xs
flat_each P f [] h = tt
flat_each P f (x ∷ xs) h = (
  each_front P (f x) (flat_map f xs) h,
  flat_each P f xs (each_back P (f x) (flat_map f xs) h),
)

pub each_of : {A : Type 0} (P : A → Type 0) → ((x : A) → P x) → (xs : List A)
    → AllByRecursion P xs
each_of P h [] = tt
each_of P h (x ∷ xs) = (h x, each_of P h xs)

pub each_by : {A : Type 0} (P Q : A → Type 0) → ((x : A) → P x → Q x) → (xs : List A)
    → AllByRecursion P xs → AllByRecursion Q xs
each_by P Q f [] h = tt
each_by P Q f (x ∷ xs) h = (f x h.0, each_by P Q f xs h.1)

pub each_by_both : {A : Type 0} (P Q R : A → Type 0) → ((x : A) → P x → Q x → R x)
    → (xs : List A) → AllByRecursion P xs → AllByRecursion Q xs → AllByRecursion R xs
each_by_both P Q R f [] h k = tt
each_by_both P Q R f (x ∷ xs) h k = (f x h.0 k.0, each_by_both P Q R f xs h.1 k.1)

-- ---- the items of some places
each_got : {A : Type 0} (P : A → Type 0) (xs : List A) (k : ℕ) (x : A) → AllByRecursion P xs
    → slice_get xs k ≡ Some x → P x
each_got P [] k x h is = absurd (none-some x is)
each_got P (first ∷ xs) nothing x h is = subst P (same_Some first x is) h.0
each_got P (first ∷ xs) (suc k) x h is = each_got P xs k x h.1 is

one_got : {A : Type 0} (P : A → Type 0) (xs rest : List A) (k : ℕ) (o : Option A)
    → slice_get xs k ≡ o → AllByRecursion P xs → AllByRecursion P rest
    → AllByRecursion P (cons_option o rest)
one_got P xs rest k None is h later = later
one_got P xs rest k (Some x) is h later = (each_got P xs k x h is, later)

pub each_at : {A : Type 0} (P : A → Type 0) (xs : List A) (places : List ℕ)
    → AllByRecursion P xs → AllByRecursion P (filter_map (slice_get xs) places)
each_at P xs [] h = tt
each_at P xs (k ∷ places) h =
    one_got P xs (filter_map (slice_get xs) places) k (slice_get xs k) refl h
    (each_at P xs places h)

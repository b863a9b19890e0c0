-- Facts of each item of lists.
use Rattle.std.proofs.Common.{◌≡◌, Bool, true, false, Option, Some, None, List}
use Rattle.std.proofs.Common.{[], ◌∷◌, ◌++◌, map, cond}
use Rattle.std.proofs.Common.{refl, ap, subst, ◌∙◌}
use Rattle.std.proofs.lemmas.Option.{none-some, same_Some}
use Rattle.std.specs.List.{AllByRecursion, find, flat_map}

pub each_append : {A : Type 0} (P : A → Type 0) (xs ys : List A) → AllByRecursion P xs
    → AllByRecursion P ys → AllByRecursion P (xs ++ ys)
each_append P [] ys h k = k
each_append P (x ∷ xs) ys h k = (h.0, each_append P xs ys h.1 k)

pub each_flat : {A B : Type 0} (P : B → Type 0) (f : A → List B) (xs : List A)
    → AllByRecursion (λ x. AllByRecursion P (f x)) xs → AllByRecursion P (flat_map f xs)
each_flat P f [] h = tt
each_flat P f (x ∷ xs) h = each_append P (f x) (flat_map f xs) h.0 (each_flat P f xs h.1)

pub each_map : {A B : Type 0} (P : B → Type 0) (f : A → B) (xs : List A)
    → AllByRecursion (λ x. P (f x)) xs → AllByRecursion P (map f xs)
each_map P f [] h = tt
each_map P f (x ∷ xs) h = (h.0, each_map P f xs h.1)

pub each_by : {A : Type 0} (P Q : A → Type 0) → ((x : A) → P x → Q x) → (xs : List A)
    → AllByRecursion P xs → AllByRecursion Q xs
each_by P Q f [] h = tt
each_by P Q f (x ∷ xs) h = (f x h.0, each_by P Q f xs h.1)

pub each_front : {A : Type 0} (P : A → Type 0) (xs ys : List A) → AllByRecursion P (xs ++ ys)
    → AllByRecursion P xs
each_front P [] ys h = tt
each_front P (x ∷ xs) ys h = (h.0, each_front P xs ys h.1)

pub each_back : {A : Type 0} (P : A → Type 0) (xs ys : List A) → AllByRecursion P (xs ++ ys)
    → AllByRecursion P ys
each_back P [] ys h = h
each_back P (x ∷ xs) ys h = each_back P xs ys h.1

pub flat_each : {A B : Type 0} (P : B → Type 0) (f : A → List B) (xs : List A)
    → AllByRecursion P (flat_map f xs) → AllByRecursion (λ x. AllByRecursion P (f x)) xs
flat_each P f [] h = tt
flat_each P f (x ∷ xs) h = (
  each_front P (f x) (flat_map f xs) h,
  flat_each P f xs (each_back P (f x) (flat_map f xs) h),
)

pub map_each : {A B : Type 0} (P : B → Type 0) (f : A → B) (xs : List A)
    → AllByRecursion P (map f xs) → AllByRecursion (λ x. P (f x)) xs
map_each P f [] h = tt
map_each P f (x ∷ xs) h = (h.0, map_each P f xs h.1)

-- nothing is found where nothing passes
pub none_passes : {A : Type 0} (test : A → Bool) (xs : List A)
    → AllByRecursion (λ x. test x ≡ false) xs → find test xs ≡ None
none_passes test [] h = refl
none_passes test (x ∷ xs) h =
    ap (λ b. cond b (Some x) (find test xs)) h.0 ∙ none_passes test xs h.1

-- what holds of each item holds of the one that is found
found_by : {A : Type 0} (P : A → Type 0) (first item : A) (b : Bool) (later : Option A) → P first
    → cond b (Some first) later ≡ Some item → (later ≡ Some item → P item) → P item
found_by P first item true later h is ih = subst P (same_Some first item is) h
found_by P first item false later h is ih = ih is

pub of_found : {A : Type 0} (P : A → Type 0) (test : A → Bool) (xs : List A) (item : A)
    → AllByRecursion P xs → find test xs ≡ Some item → P item
of_found P test [] item each is = absurd (none-some item is)
of_found P test (x ∷ xs) item each is =
    found_by P x item (test x) (find test xs) each.0 is (of_found P test xs item each.1)

-- The question's rules, by their numbers.
use Rattle.std.proofs.Common.{◌≡◌, ℕ, zero, suc, ◌+◌, ◌<◌, ◌≤◌, Bool, true, false, cond, Option, Some, None, List, [], ◌∷◌, ◌++◌, length, refl, sym, ap, ◌∙◌, subst, arith, ◌⊎◌, inl, inr}
use Rattle.std.proofs.lemmas.Bool.Decides.{nat_tests}
use Rattle.std.proofs.lemmas.List.Elements.{All-nil, All-cons, All-filter, filter-append}
use Rattle.std.proofs.lemmas.Option.{slice_get_within}
use Rattle.std.specs.Prelude.{◌==◌, ◌||◌, All, Contains, filter, filter_map, if◌then◌else◌, slice_get}
use Rattle.std.specs.List.{range_with_len, cons_option}
use Rattle.rule_types.specs.declared.rule.Rule.{Rule}
use Rattle.rule_types.specs.declared.rules.Rules.{Rules}
use Rattle.rule_meaning.specs.SomeRules.{is_among}
use Rattle.rule_meaning.proofs.PublicLaws.{members-first, members-later, members-cases}
use Rattle.verdict_meaning.specs.declared.question.Question.{Question}
use Rattle.verdict_meaning.specs.Questions.{asked_numbers, asked_rules, is_asked}

-- ---- numbers in a row

range_from : (a n : ℕ) → range_with_len a (suc n) ≡ range_with_len a n ++ (a + n) ∷ []
range_from a zero = ap (λ k. k ∷ []) (let e : a ≡ a + 0 = omega arith in e)
range_from a (suc n) =
    ap (λ l. a ∷ l) (range_from (a + 1) n)
    ∙ ap (λ k. a ∷ range_with_len (a + 1) n ++ k ∷ [])
    (let e : a + 1 + n ≡ a + suc n = omega arith in e)

range_more : (n : ℕ) → range_with_len 0 (n + 1) ≡ range_with_len 0 n ++ n ∷ []
range_more n = ap (range_with_len 0) (let e : n + 1 ≡ suc n = omega arith in e) ∙ range_from 0 n
    ∙ ap (λ k. range_with_len 0 n ++ k ∷ []) (let e : 0 + n ≡ n = omega arith in e)

range_below : (a n top : ℕ) → a + n ≤ top → All (λ k. k < top) (range_with_len a n)
range_below a zero top h = All-nil (λ k. k < top)
range_below a (suc n) top h =
    All-cons (λ k. k < top) a (range_with_len (a + 1) n) (omega (arith, h))
    (range_below (a + 1) n top (omega (arith, h)))

in_range_by : (a n k : ℕ) (t : Bool) → (a == k) ≡ t → a ≤ k
    → (a + 1 ≤ k → Contains (range_with_len (a + 1) n) k) → Contains (range_with_len a (suc n)) k
in_range_by a n k true e low later =
    let same : a ≡ k = grind (arith, nat_tests) in
    subst (λ m. Contains (range_with_len a (suc n)) m) same (members-first a (range_with_len (a + 1) n))
in_range_by a n k false e low later =
    let other : a + 1 ≤ k = grind (arith, nat_tests) in
    members-later a (range_with_len (a + 1) n) k (later other)

in_range : (a n k : ℕ) → a ≤ k → k < a + n → Contains (range_with_len a n) k
in_range a zero k low high = absurd (omega (arith, low, high))
in_range a (suc n) k low high =
    in_range_by a n k (a == k) refl low
    (λ other. in_range (a + 1) n k other (omega (arith, high)))

-- ---- what passes a test

in_cond : {A : Type 0} (t : Bool) (x : A) (xs : List A) (y : A) → Contains xs y
    → Contains (cond t (x ∷ xs) xs) y
in_cond true x xs y h = members-later x xs y h
in_cond false x xs y h = h

first_in : {A : Type 0} (t : Bool) (x : A) (xs : List A) → t ≡ true
    → Contains (cond t (x ∷ xs) xs) x
first_in true x xs e = members-first x xs
first_in false x xs e = absurd (grind arith)

in_filter_by : {A : Type 0} (p : A → Bool) (x : A) (xs : List A) (y : A) → p y ≡ true
    → (Contains xs y → Contains (filter p xs) y) → (x ≡ y) ⊎ Contains xs y
    → Contains (filter p (x ∷ xs)) y
in_filter_by p x xs y e h (inl same) =
    subst (λ z. Contains (filter p (x ∷ xs)) z) same
    (first_in (p x) x (filter p xs) (ap p same ∙ e))
in_filter_by p x xs y e h (inr later) = in_cond (p x) x (filter p xs) y (h later)

in_filter : {A : Type 0} (p : A → Bool) (xs : List A) (y : A) → p y ≡ true → Contains xs y
    → Contains (filter p xs) y
in_filter p [] y e h = absurd (omega (arith, h.1))
in_filter p (x ∷ xs) y e h =
    in_filter_by p x xs y e (in_filter p xs y e) (members-cases x xs y h)

among_first : (p : ℕ → Bool) (n x : ℕ) (t rest : Bool) → (n == x) ≡ t → p x ≡ true
    → (rest ≡ true → p n ≡ true) → (t || rest) ≡ true → p n ≡ true
among_first p n x true rest same passes h all =
    let is : n ≡ x = grind (arith, nat_tests) in ap p is ∙ passes
among_first p n x false rest same passes h all = h all

among_test : (p : ℕ → Bool) (n x : ℕ) (xs : List ℕ) (t : Bool) → p x ≡ t
    → (is_among xs n ≡ true → p n ≡ true) → is_among (cond t (x ∷ xs) xs) n ≡ true
    → p n ≡ true
among_test p n x xs true passes h all =
    among_first p n x (n == x) (is_among xs n) refl passes h all
among_test p n x xs false passes h all = h all

among_by : (p : ℕ → Bool) (xs : List ℕ) (n : ℕ) → is_among (filter p xs) n ≡ true → p n ≡ true
among_by p [] n e = absurd (grind arith)
among_by p (x ∷ xs) n e = among_test p n x (filter p xs) (p x) refl (among_by p xs n) e

same_number : (n : ℕ) → (n == n) ≡ true
same_number n = grind (arith, nat_tests)

or_later : (a b : Bool) → b ≡ true → (a || b) ≡ true
or_later true b e = refl
or_later false b e = e

among_case : (x : ℕ) (xs : List ℕ) (n : ℕ) → (Contains xs n → is_among xs n ≡ true)
    → (x ≡ n) ⊎ Contains xs n → is_among (x ∷ xs) n ≡ true
among_case x xs n h (inl same) =
    ap (λ m. n == m || is_among xs n) same ∙ ap (λ t. t || is_among xs n) (same_number n)
among_case x xs n h (inr later) = or_later (n == x) (is_among xs n) (h later)

among_in : (xs : List ℕ) (n : ℕ) → Contains xs n → is_among xs n ≡ true
among_in [] n h = absurd (omega (arith, h.1))
among_in (x ∷ xs) n h = among_case x xs n (among_in xs n) (members-cases x xs n h)

later_in : {A : Type 0} (o : Option A) (rest : List A) (one : A) → Contains rest one
    → Contains (cons_option o rest) one
later_in None rest one g = g
later_in (Some y) rest one g = members-later y rest one g

in_each_by : {A : Type 0} (f : ℕ → Option A) (x : ℕ) (xs : List ℕ) (n : ℕ) (one : A)
    → f n ≡ Some one → (Contains xs n → Contains (filter_map f xs) one)
    → (x ≡ n) ⊎ Contains xs n → Contains (filter_map f (x ∷ xs)) one
in_each_by f x xs n one e h (inl same) =
    subst (λ o. Contains (cons_option o (filter_map f xs)) one) (sym (ap f same ∙ e))
    (members-first one (filter_map f xs))
in_each_by f x xs n one e h (inr later) = later_in (f x) (filter_map f xs) one (h later)

in_each : {A : Type 0} (f : ℕ → Option A) (xs : List ℕ) (n : ℕ) (one : A) → Contains xs n
    → f n ≡ Some one → Contains (filter_map f xs) one
in_each f [] n one h e = absurd (omega (arith, h.1))
in_each f (x ∷ xs) n one h e =
    in_each_by f x xs n one e (λ g. in_each f xs n one g e) (members-cases x xs n h)

-- ---- the question's rules

pub all_exist : (x : Rules) (question : Question)
    → All (λ number. number < length x.rules) (asked_numbers x question)
unfolding asked_numbers
all_exist x question =
    All-filter (is_asked x question) (λ number. number < length x.rules)
    (range_with_len 0 (length x.rules))
    (range_below 0 (length x.rules) (length x.rules) (omega arith))

pub among_asked : (x : Rules) (question : Question) (number : ℕ)
    → is_among (asked_numbers x question) number ≡ true → is_asked x question number ≡ true
unfolding asked_numbers
among_asked x question number e =
    among_by (is_asked x question) (range_with_len 0 (length x.rules)) number e

asked_in : (x : Rules) (question : Question) (number : ℕ) → number < length x.rules
    → is_asked x question number ≡ true → Contains (asked_numbers x question) number
unfolding asked_numbers
asked_in x question number within e =
    in_filter (is_asked x question) (range_with_len 0 (length x.rules)) number e
    (in_range 0 (length x.rules) number (omega arith) (omega (arith, within)))

pub asked_rule : (x : Rules) (question : Question) (number : ℕ) (row : Rule)
    → is_asked x question number ≡ true → slice_get x.rules number ≡ Some row
    → Contains (asked_rules x question) row
asked_rule x question number row e is =
    in_each (slice_get x.rules) (asked_numbers x question) number row
    (asked_in x question number (slice_get_within x.rules number row is) e) is

pub asked_is : (x : Rules) (question : Question) (number : ℕ) → number < length x.rules
    → is_among (asked_numbers x question) number ≡ is_asked x question number
asked_is x question number within = by_test (is_asked x question number) refl
  where
    by_test : (t : Bool) → is_asked x question number ≡ t
        → is_among (asked_numbers x question) number ≡ is_asked x question number
    by_test true e =
        among_in (asked_numbers x question) number (asked_in x question number within e) ∙ sym e
    by_test false e = not_among (is_among (asked_numbers x question) number) refl ∙ sym e
      where
        not_among : (t : Bool) → is_among (asked_numbers x question) number ≡ t
            → is_among (asked_numbers x question) number ≡ false
        not_among true g =
            let h : false ≡ true = sym e ∙ among_asked x question number g in
            absurd (grind arith)
        not_among false g = g

-- one more number
added : (p : ℕ → Bool) (n : ℕ)
    → filter p (n ∷ []) ≡ (if p n then n ∷ [] else [])
added p n = refl

pub asked_more : (p : ℕ → Bool) (n : ℕ) (old new : List ℕ)
    → old ≡ filter p (range_with_len 0 n)
    → new ≡ old ++ (if p n then n ∷ [] else [])
    → new ≡ filter p (range_with_len 0 (n + 1))
asked_more p n old new is pushed =
    pushed ∙ ap (λ l. l ++ (if p n then n ∷ [] else [])) is
    ∙ sym (filter-append p (range_with_len 0 n) (n ∷ []))
    ∙ ap (filter p) (sym (range_more n))

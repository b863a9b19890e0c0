-- What is settled once one more pair is listed.
use Rattle.std.proofs.Common.{◌≡◌, ℕ, if◌then◌else◌, Bool, true, false, not, ◌&&◌, ◌||◌, ◌==◌, nat_lt, Option, Some, None, List, [], ◌∷◌, ◌++◌, ◌⊎◌, inl, inr, ⊎_elim, refl, sym, ap, subst, ◌∙◌, arith}
use Rattle.std.proofs.lemmas.Bool.Decides.{nat_tests}
use Rattle.std.proofs.lemmas.List.Folds.{find-append, list_all-append}
use Rattle.std.specs.Option.{option_or}
use Rattle.std.specs.List.{list_all, find, Contains}
use Rattle.rule_types.specs.declared.action.ActionAt.{ActionAt}
use Rattle.rule_types.specs.declared.rule.Rule.{Rule}
use Rattle.rule_types.specs.Ranks.{outranks}
use Rattle.rule_meaning.specs.Settled.{is_on, beats, priority_at, IsSettled, is_unbeaten, is_settled, settled_on}
use Rattle.rule_meaning.proofs.PublicLaws.{members-first, members-later, members-cases}
use Rattle.rule_meaning.proofs.PublicLaws.{settling-at_least_one, settling-none_given}
use Rattle.priority_settle.specs.internal.Firsts.{first_of}

-- lists and tests
all_of : {A : Type 0} (test : A → Bool) (xs : List A) (x : A) → list_all test xs ≡ true
    → Contains xs x → test x ≡ true
all_of test [] x h is_in = absurd (omega (arith, is_in.1))
all_of test (y ∷ ys) x h is_in =
    ⊎_elim (λ e. (let g : test y ≡ true = grind arith in ap test (sym e) ∙ g))
    (λ later. all_of test ys x (grind arith) later) (members-cases y ys x is_in)

of_all : {A : Type 0} (test : A → Bool) (xs : List A)
    → ((x : A) → Contains xs x → test x ≡ true) → list_all test xs ≡ true
of_all test [] h = refl
of_all test (y ∷ ys) h =
    let first : test y ≡ true = h y (members-first y ys) in
    let more : list_all test ys ≡ true =
    of_all test ys (λ x later. h x (members-later y ys x later)) in
    grind arith

found_by : {A : Type 0} (test : A → Bool) (y : A) (ys : List A) (x : A) (b : Bool) → test y ≡ b
    → (find test ys ≡ Some x → Contains ys x × (test x ≡ true)) → find test (y ∷ ys) ≡ Some x
    → Contains (y ∷ ys) x × (test x ≡ true)
found_by test y ys x true is later h =
    let e : y ≡ x = grind arith in
    (subst (Contains (y ∷ ys)) e (members-first y ys), ap test (sym e) ∙ is)
found_by test y ys x false is later h =
    let rest = later (grind arith) in (members-later y ys x rest.0, rest.1)

found : {A : Type 0} (test : A → Bool) (xs : List A) (x : A) → find test xs ≡ Some x
    → Contains xs x × (test x ≡ true)
found test [] x h = grind arith
found test (y ∷ ys) x h = found_by test y ys x (test y) refl (found test ys x) h

-- what passes one test first and another test too passes both first
both_first : {A : Type 0} (test more : A → Bool) (xs : List A) (x : A) → find test xs ≡ Some x → more x ≡ true → find (λ y. test y && more y) xs ≡ Some x
both_first test more [] x h g = grind arith
both_first test more (y ∷ ys) x h g = both_by (test y) refl (λ rest. both_first test more ys x rest g)
  where
    both_by : (b : Bool) → test y ≡ b → (find test ys ≡ Some x → find (λ z. test z && more z) ys ≡ Some x) → find (λ z. test z && more z) (y ∷ ys) ≡ Some x
    both_by true e later = let is : y ≡ x = grind arith in let also : more y ≡ true = ap more is ∙ g in grind arith
    both_by false e later = let rest : find (λ z. test z && more z) ys ≡ Some x = later (grind arith) in grind arith

none_both : {A : Type 0} (test more : A → Bool) (xs : List A) → ((x : A) → Contains xs x → test x ≡ true → more x ≡ false) → find (λ y. test y && more y) xs ≡ None
none_both test more [] h = refl
none_both test more (y ∷ ys) h =
    let rest : find (λ z. test z && more z) ys ≡ None = none_both test more ys (λ x later. h x (members-later y ys x later)) in
    none_by (test y) (more y) refl refl rest
  where
    none_by : (a b : Bool) → test y ≡ a → more y ≡ b → find (λ z. test z && more z) ys ≡ None → find (λ z. test z && more z) (y ∷ ys) ≡ None
    none_by true true e f rest = let no : more y ≡ false = h y (members-first y ys) e in grind arith
    none_by true false e f rest = grind arith
    none_by false b e f rest = grind arith

-- two pairs of which neither goes before the other stand at one place of one rule
ties_by : (a b : Bool) (m n i j : ℕ) → ((a || ((not a && not b) && nat_lt m n)) || (m == n && nat_lt i j)) ≡ false → ((b || ((not b && not a) && nat_lt n m)) || (n == m && nat_lt j i)) ≡ false → (m ≡ n) × (i ≡ j)
ties_by true b m n i j h g = grind arith
ties_by false true m n i j h g = grind arith
ties_by false false m n i j h g = grind (arith, nat_tests)

ties : (rules : List Rule) (p q : ActionAt) → beats rules p q ≡ false → beats rules q p ≡ false → (p.rule ≡ q.rule) × (p.action ≡ q.action)
unfolding beats priority_at
ties rules p q h g =
    ties_by (outranks (priority_at rules p) (priority_at rules q)) (outranks (priority_at rules q) (priority_at rules p))
    p.rule q.rule p.action q.action h g

-- so a pair goes before both or neither
beats_alike : (rules : List Rule) (x p q : ActionAt) → p.rule ≡ q.rule → p.action ≡ q.action → beats rules x p ≡ beats rules x q
unfolding beats priority_at
beats_alike rules x p q e f = rw (e, f)

beats_tied : (rules : List Rule) (x p q : ActionAt) → beats rules p q ≡ false → beats rules q p ≡ false → beats rules x p ≡ beats rules x q
beats_tied rules x p q h g = let same = ties rules p q h g in beats_alike rules x p q same.0 same.1

-- what an unbeaten pair is, as a test and as a fact
not_both : (a b : Bool) → not (a && b) ≡ true → a ≡ true → b ≡ false
not_both a b h g = grind arith

both_not : (a b : Bool) → (a ≡ true → b ≡ false) → not (a && b) ≡ true
both_not true b h = let no : b ≡ false = h refl in grind arith
both_not false b h = refl

tells_unbeaten : (rules : List Rule) (pairs : List ActionAt) (link : ℕ) (p : ActionAt) → is_settled rules pairs link p ≡ true → (q : ActionAt) → Contains pairs q → is_on rules link q ≡ true → beats rules q p ≡ false
unfolding is_settled is_unbeaten
tells_unbeaten rules pairs link p h q q_in q_on =
    let free : is_unbeaten rules pairs link p ≡ true = grind arith in
    not_both (is_on rules link q) (beats rules q p) (all_of (λ r. not (is_on rules link r && beats rules r p)) pairs q free q_in) q_on

tells_on : (rules : List Rule) (pairs : List ActionAt) (link : ℕ) (p : ActionAt) → is_settled rules pairs link p ≡ true → is_on rules link p ≡ true
unfolding is_settled
tells_on rules pairs link p h = grind arith

is_unbeaten_by : (rules : List Rule) (pairs : List ActionAt) (link : ℕ) (p : ActionAt) → ((q : ActionAt) → Contains pairs q → is_on rules link q ≡ true → beats rules q p ≡ false) → is_unbeaten rules pairs link p ≡ true
unfolding is_unbeaten
is_unbeaten_by rules pairs link p h =
    of_all (λ q. not (is_on rules link q && beats rules q p)) pairs (λ q q_in. both_not (is_on rules link q) (beats rules q p) (h q q_in))

-- the test of one more pair
regrouped : (a u t : Bool) → (a && (u && (t && true))) ≡ ((a && u) && t)
regrouped true true true = refl
regrouped true true false = refl
regrouped true false t = refl
regrouped false u t = refl

longer_test : (rules : List Rule) (pairs : List ActionAt) (link : ℕ) (at q : ActionAt) → is_settled rules (pairs ++ at ∷ []) link q ≡ (is_settled rules pairs link q && not (is_on rules link at && beats rules at q))
unfolding is_settled is_unbeaten
longer_test rules pairs link at q =
    let test : ActionAt → Bool = λ r. not (is_on rules link r && beats rules r q) in
    ap (λ b. is_on rules link q && b) (list_all-append test pairs (at ∷ []))
    ∙ regrouped (is_on rules link q) (list_all test pairs) (test at)

option_or_none : (o : Option ActionAt) → option_or o None ≡ o
option_or_none None = refl
option_or_none (Some x) = refl

longer : (rules : List Rule) (pairs : List ActionAt) (link : ℕ) (at : ActionAt) (test : ActionAt → Bool) → ((q : ActionAt) → is_settled rules (pairs ++ at ∷ []) link q ≡ test q) → settled_on rules (pairs ++ at ∷ []) link ≡ option_or (find test pairs) (find test (at ∷ []))
unfolding settled_on
longer rules pairs link at test same =
    ap (λ t. find t (pairs ++ at ∷ [])) (λ i q. same q i) ∙ find-append test pairs (at ∷ [])

-- a pair on another link changes nothing
without : (a b : Bool) → (a && not (false && b)) ≡ a
without true b = refl
without false b = refl

off_fails : (rules : List Rule) (pairs : List ActionAt) (link : ℕ) (at : ActionAt) → is_on rules link at ≡ false → is_settled rules pairs link at ≡ false
unfolding is_settled
off_fails rules pairs link at off = rw off refl

pub one_more_off : (rules : List Rule) (pairs : List ActionAt) (link : ℕ) (at : ActionAt) → is_on rules link at ≡ false → settled_on rules (pairs ++ at ∷ []) link ≡ settled_on rules pairs link
unfolding settled_on
one_more_off rules pairs link at off =
    let test : ActionAt → Bool = is_settled rules pairs link in
    let none : find test (at ∷ []) ≡ None = rw (off_fails rules pairs link at off) refl in
    longer rules pairs link at test
    (λ q. longer_test rules pairs link at q ∙ ap (λ b. is_settled rules pairs link q && not (b && beats rules at q)) off ∙ without (is_settled rules pairs link q) (beats rules at q))
    ∙ ap (λ o. option_or (find test pairs) o) none ∙ option_or_none (find test pairs)

-- a pair on the link
abbrev still : List Rule → List ActionAt → ℕ → ActionAt → ActionAt → Bool
still rules pairs link at q = is_settled rules pairs link q && not (beats rules at q)

longer_on : (rules : List Rule) (pairs : List ActionAt) (link : ℕ) (at : ActionAt) → is_on rules link at ≡ true → settled_on rules (pairs ++ at ∷ []) link ≡ option_or (find (still rules pairs link at) pairs) (find (still rules pairs link at) (at ∷ []))
longer_on rules pairs link at on =
    longer rules pairs link at (still rules pairs link at)
    (λ q. longer_test rules pairs link at q ∙ ap (λ b. is_settled rules pairs link q && not (b && beats rules at q)) on)

self_by : (rules : List Rule) (link : ℕ) (at q : ActionAt) → is_on rules link at ≡ true → IsSettled rules (at ∷ []) link q → Contains (at ∷ []) q → beats rules at at ≡ false
self_by rules link at q on h q_in =
    ⊎_elim (λ e. ap (beats rules at) e ∙ h.unbeaten at (members-first at []) on)
    (λ none. absurd (omega (arith, none.1))) (members-cases at [] q q_in)

not_itself : (rules : List Rule) (link : ℕ) (at : ActionAt) → is_on rules link at ≡ true → beats rules at at ≡ false
not_itself rules link at on =
    let first = settling-at_least_one rules (at ∷ []) link at (members-first at []) on in
    self_by rules link at first.0 on first.1 first.1.member

passes : (rules : List Rule) (pairs : List ActionAt) (link : ℕ) (at : ActionAt) → is_on rules link at ≡ true → is_unbeaten rules pairs link at ≡ true → beats rules at at ≡ false → find (still rules pairs link at) (at ∷ []) ≡ Some at
unfolding is_settled
passes rules pairs link at on free self = rw (on, free, self) refl

new_first : (rules : List Rule) (pairs : List ActionAt) (link : ℕ) (at : ActionAt) → is_on rules link at ≡ true → find (still rules pairs link at) pairs ≡ None → is_unbeaten rules pairs link at ≡ true → settled_on rules (pairs ++ at ∷ []) link ≡ Some at
new_first rules pairs link at on none free =
    longer_on rules pairs link at on
    ∙ ap (λ o. option_or o (find (still rules pairs link at) (at ∷ []))) none
    ∙ passes rules pairs link at on free (not_itself rules link at on)

-- where none was settled, no pair was on the link
where_none : (rules : List Rule) (pairs : List ActionAt) (link : ℕ) (at : ActionAt) → is_on rules link at ≡ true → settled_on rules pairs link ≡ None → settled_on rules (pairs ++ at ∷ []) link ≡ Some at
where_none rules pairs link at on none =
    new_first rules pairs link at on
    (none_both (is_settled rules pairs link) (λ q. not (beats rules at q)) pairs
    (λ q q_in q_settled. (let never : true ≡ false = sym (tells_on rules pairs link q q_settled) ∙ settling-none_given rules pairs link q none q_in in grind arith)))
    (is_unbeaten_by rules pairs link at
    (λ q q_in q_on. (let never : true ≡ false = sym q_on ∙ settling-none_given rules pairs link q none q_in in grind arith)))

-- where one was settled that the new pair does not go before, it stays
where_kept : (rules : List Rule) (pairs : List ActionAt) (link : ℕ) (at b : ActionAt) → is_on rules link at ≡ true → settled_on rules pairs link ≡ Some b → beats rules at b ≡ false → settled_on rules (pairs ++ at ∷ []) link ≡ Some b
unfolding settled_on
where_kept rules pairs link at b on is below =
    longer_on rules pairs link at on
    ∙ ap (λ o. option_or o (find (still rules pairs link at) (at ∷ [])))
    (both_first (is_settled rules pairs link) (λ q. not (beats rules at q)) pairs b is (ap not below))

-- one that the new pair goes before: among the two and any other on the link the new pair is first
abbrev Three : ActionAt → ActionAt → ActionAt → List ActionAt
Three q at b = q ∷ at ∷ b ∷ []

second_in : (q at b : ActionAt) → Contains (Three q at b) at
second_in q at b = members-later q (at ∷ b ∷ []) at (members-first at (b ∷ []))

third_in : (q at b : ActionAt) → Contains (Three q at b) b
third_in q at b =
    members-later q (at ∷ b ∷ []) b (members-later at (b ∷ []) b (members-first b []))

one_of_three : (q at b x : ActionAt) → Contains (Three q at b) x → (q ≡ x) ⊎ ((at ≡ x) ⊎ (b ≡ x))
one_of_three q at b x h =
    ⊎_elim inl
    (λ more. inr
    (⊎_elim inl
    (λ last. inr (⊎_elim (λ e. e) (λ none. absurd (omega (arith, none.1))) (members-cases b [] x last)))
    (members-cases at (b ∷ []) x more)))
    (members-cases q (at ∷ b ∷ []) x h)

first_of_three : (rules : List Rule) (link : ℕ) (q at b x : ActionAt) → is_on rules link q ≡ true
    → is_on rules link at ≡ true → is_on rules link b ≡ true → beats rules q b ≡ false
    → beats rules at b ≡ true → IsSettled rules (Three q at b) link x
    → (q ≡ x) ⊎ ((at ≡ x) ⊎ (b ≡ x)) → beats rules q at ≡ false
first_of_three rules link q at b x q_on at_on b_on below above h (inl e) =
    let at_not : beats rules at q ≡ false =
    ap (beats rules at) e ∙ h.unbeaten at (second_in q at b) at_on in
    let b_not : beats rules b q ≡ false =
    ap (beats rules b) e ∙ h.unbeaten b (third_in q at b) b_on in
    let never : true ≡ false = sym above ∙ sym (beats_tied rules at q b below b_not) ∙ at_not in
    grind arith
first_of_three rules link q at b x q_on at_on b_on below above h (inr (inl e)) =
    ap (beats rules q) e ∙ h.unbeaten q (members-first q (at ∷ b ∷ [])) q_on
first_of_three rules link q at b x q_on at_on b_on below above h (inr (inr e)) =
    let never : true ≡ false =
    sym above ∙ ap (beats rules at) e ∙ h.unbeaten at (second_in q at b) at_on in
    grind arith

where_beaten : (rules : List Rule) (pairs : List ActionAt) (link : ℕ) (at b : ActionAt) → is_on rules link at ≡ true → settled_on rules pairs link ≡ Some b → beats rules at b ≡ true → settled_on rules (pairs ++ at ∷ []) link ≡ Some at
unfolding settled_on
where_beaten rules pairs link at b on is above =
    let held = found (is_settled rules pairs link) pairs b is in
    let b_on : is_on rules link b ≡ true = tells_on rules pairs link b held.1 in
    let below : (q : ActionAt) → Contains pairs q → is_on rules link q ≡ true → beats rules q b ≡ false = tells_unbeaten rules pairs link b held.1 in
    new_first rules pairs link at on
    (none_both (is_settled rules pairs link) (λ q. not (beats rules at q)) pairs
    (λ q q_in q_settled. ap not
    (beats_tied rules at q b (below q q_in (tells_on rules pairs link q q_settled)) (tells_unbeaten rules pairs link q q_settled b held.0 b_on) ∙ above)))
    (is_unbeaten_by rules pairs link at
    (λ q q_in q_on. (
    let first = settling-at_least_one rules (Three q at b) link at (second_in q at b) on in
    first_of_three rules link q at b first.0 q_on on b_on (below q q_in q_on) above first.1
    (one_of_three q at b first.0 first.1.member))))

one_more_by : (rules : List Rule) (pairs : List ActionAt) (link : ℕ) (at : ActionAt) (o : Option ActionAt) → is_on rules link at ≡ true → settled_on rules pairs link ≡ o → settled_on rules (pairs ++ at ∷ []) link ≡ Some (first_of rules o at)
one_more_by rules pairs link at None on is = where_none rules pairs link at on is
one_more_by rules pairs link at (Some b) on is = by_test (beats rules at b) refl
  where
    by_test : (t : Bool) → beats rules at b ≡ t → settled_on rules (pairs ++ at ∷ []) link ≡ Some (if beats rules at b then at else b)
    by_test true e = rw e (where_beaten rules pairs link at b on is e)
    by_test false e = rw e (where_kept rules pairs link at b on is e)

-- on its link the new pair is compared with the one that was settled
pub one_more_on : (rules : List Rule) (pairs : List ActionAt) (link : ℕ) (at : ActionAt) → is_on rules link at ≡ true → settled_on rules (pairs ++ at ∷ []) link ≡ Some (first_of rules (settled_on rules pairs link) at)
one_more_on rules pairs link at on = one_more_by rules pairs link at (settled_on rules pairs link) on refl

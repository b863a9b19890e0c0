-- On each link with a listed pair just one pair is settled.
use Rattle.std.proofs.Common.{◌≡◌, ℕ, Bool, true, false, not, ◌&&◌, ◌||◌, ◌==◌, nat_lt, Option}
use Rattle.std.proofs.Common.{Some, None, List, [], ◌∷◌, ◌⊎◌, inl, inr, IsTrue, refl, sym, ap}
use Rattle.std.proofs.Common.{subst, ◌∙◌, arith}
use Rattle.std.proofs.lemmas.Bool.Decides.{nat_tests}
use Rattle.std.specs.List.{list_all, find, Contains}
use Rattle.exact_fraction.specs.Number.{Rational}
use Rattle.exact_fraction.proofs.PublicLaws.{order_steps}
use Rattle.rule_types.specs.declared.action.ActionAt.{ActionAt}
use Rattle.rule_types.specs.declared.rule.Rule.{Rule}
use Rattle.rule_types.specs.Ranks.{outranks}
use Rattle.rule_meaning.proofs.Members.{none_in, at_first, at_later, in_each}
use Rattle.rule_meaning.specs.Settled.{is_on, beats, priority_at, IsSettled, is_unbeaten}
use Rattle.rule_meaning.specs.Settled.{is_settled, settled_on, IsOneBranchEach}

-- lists and tests
pub all_holds : {A : Type 0} (test : A → Bool) (xs : List A) (x : A) → list_all test xs ≡ true
    → Contains xs x → test x ≡ true
all_holds test [] x h is_in = absurd (none_in x is_in)
all_holds test (y ∷ ys) x h is_in =
    in_each (λ z. test z ≡ true) y ys x
    (λ e. (let g : test y ≡ true = grind arith in ap test (sym e) ∙ g))
    (λ later. all_holds test ys x (grind arith) later) is_in

pub holds_all : {A : Type 0} (test : A → Bool) (xs : List A)
    → ((x : A) → Contains xs x → test x ≡ true) → list_all test xs ≡ true
holds_all test [] h = refl
holds_all test (y ∷ ys) h =
    let first : test y ≡ true = h y (at_first y ys y refl) in
    let more : list_all test ys ≡ true =
    holds_all test ys (λ x later. h x (at_later y ys x later)) in
    grind arith

find_step : {A : Type 0} (test : A → Bool) (y : A) (ys : List A) (x : A) (b : Bool) → test y ≡ b
    → (find test ys ≡ Some x → Contains ys x × (test x ≡ true)) → find test (y ∷ ys) ≡ Some x
    → Contains (y ∷ ys) x × (test x ≡ true)
find_step test y ys x true is later h =
    let e : y ≡ x = grind arith in (at_first y ys x e, ap test (sym e) ∙ is)
find_step test y ys x false is later h =
    let found = later (grind arith) in (at_later y ys x found.0, found.1)

pub find_some : {A : Type 0} (test : A → Bool) (xs : List A) (x : A) → find test xs ≡ Some x
    → Contains xs x × (test x ≡ true)
find_some test [] x h = grind arith
find_some test (y ∷ ys) x h = find_step test y ys x (test y) refl (find_some test ys x) h

none_step : {A : Type 0} (test : A → Bool) (y : A) (ys : List A) (b : Bool) → test y ≡ b
    → find test (y ∷ ys) ≡ None → (test y ≡ false) × (find test ys ≡ None)
none_step test y ys true is h = grind arith
none_step test y ys false is h = (is, grind arith)

pub find_none : {A : Type 0} (test : A → Bool) (xs : List A) (x : A) → find test xs ≡ None
    → Contains xs x → test x ≡ false
find_none test [] x h is_in = absurd (none_in x is_in)
find_none test (y ∷ ys) x h is_in =
    let step = none_step test y ys (test y) refl h in
    in_each (λ z. test z ≡ false) y ys x (λ e. ap test (sym e) ∙ step.0)
    (λ later. find_none test ys x step.1 later) is_in

-- ranks are a weak order
pub outranks_asym : (p q : Option Rational) → outranks p q ≡ true → outranks q p ≡ false
outranks_asym None q h = grind arith
outranks_asym (Some p) None h = refl
outranks_asym (Some p) (Some q) h = grind (arith, order_steps)

pub outranks_through : (p q r : Option Rational) → outranks p q ≡ false → outranks q r ≡ false
    → outranks p r ≡ false
outranks_through None q r h g = refl
outranks_through (Some p) None r h g = grind arith
outranks_through (Some p) (Some q) None h g = grind arith
outranks_through (Some p) (Some q) (Some r) h g = grind (arith, order_steps)

irreflexive : (p : Option Rational) → outranks p p ≡ false
irreflexive None = refl
irreflexive (Some p) = grind (arith, order_steps)

-- the test of `beats`, of two answers on ranks, two places of rules and two places of actions
abbrev before : Bool → Bool → ℕ → ℕ → ℕ → ℕ → Bool
before a b m n i j = (a || ((not a && not b) && nat_lt m n)) || (m == n && nat_lt i j)

before_asym : (a b : Bool) (m n i j : ℕ) → (a ≡ true → b ≡ false) → (m ≡ n → a ≡ false)
    → (m ≡ n → b ≡ false) → before a b m n i j ≡ true → before b a n m j i ≡ false
before_asym true true m n i j asym even equal h = grind arith
before_asym true false m n i j asym even equal h =
    let apart : ¬ (m ≡ n) = λ e. (let no : true ≡ false = even e in grind arith) in
    grind (arith, nat_tests)
before_asym false true m n i j asym even equal h =
    let same : m ≡ n = grind (arith, nat_tests) in
    let no : true ≡ false = equal same in
    grind arith
before_asym false false m n i j asym even equal h = grind (arith, nat_tests)

before_ties : (a b : Bool) (m n i j : ℕ) → before a b m n i j ≡ false → before b a n m j i ≡ false
    → (m ≡ n) × (i ≡ j)
before_ties true b m n i j h g = grind arith
before_ties false true m n i j h g = grind arith
before_ties false false m n i j h g = grind (arith, nat_tests)

-- where the ranks do not tell, the places do
ties_through : (m n k i j l : ℕ) → before false false m n i j ≡ false
    → before false false n k j l ≡ false → before false false m k i l ≡ false
ties_through m n k i j l h g = grind (arith, nat_tests)

apart_by_rank : (c' : Bool) (m k i l : ℕ) → (m ≡ k → c' ≡ false) → c' ≡ true
    → before false c' m k i l ≡ false
apart_by_rank c' m k i l same is =
    let apart : ¬ (m ≡ k) = λ e. (let no : c' ≡ false = same e in grind arith) in
    grind (arith, nat_tests)

before_through : (a a' b b' c c' : Bool) (m n k i j l : ℕ) → (a ≡ false → b ≡ false → c ≡ false)
    → (b' ≡ false → a' ≡ false → c' ≡ false) → (b ≡ false → c' ≡ false → a' ≡ false)
    → (c' ≡ false → a ≡ false → b' ≡ false) → (m ≡ k → c' ≡ false) → before a a' m n i j ≡ false
    → before b b' n k j l ≡ false → before c c' m k i l ≡ false
before_through true a' b b' c c' m n k i j l p q u t same h g = grind arith
before_through false a' true b' c c' m n k i j l p q u t same h g = grind arith
before_through false a' false b' true c' m n k i j l p q u t same h g =
    let no : true ≡ false = p refl refl in grind arith
before_through false a' false b' false true m n k i j l p q u t same h g =
    apart_by_rank true m k i l same refl
before_through false true false b' false false m n k i j l p q u t same h g =
    let no : true ≡ false = u refl refl in grind arith
before_through false false false true false false m n k i j l p q u t same h g =
    let no : true ≡ false = t refl refl in grind arith
before_through false false false false false false m n k i j l p q u t same h g =
    ties_through m n k i j l h g

-- so pairs go before one another in a weak order, which is strict among the pairs of one rule
same_priority : (rules : List Rule) (p q : ActionAt) → p.rule ≡ q.rule
    → outranks (priority_at rules p) (priority_at rules q) ≡ false
unfolding priority_at
same_priority rules p q e = rw e (irreflexive (priority_at rules q))

pub beats_asym : (rules : List Rule) (p q : ActionAt) → beats rules p q ≡ true
    → beats rules q p ≡ false
unfolding beats priority_at
beats_asym rules p q h =
    before_asym (outranks (priority_at rules p) (priority_at rules q))
    (outranks (priority_at rules q) (priority_at rules p))
    p.rule q.rule p.action q.action (outranks_asym (priority_at rules p) (priority_at rules q))
    (same_priority rules p q) (λ e. same_priority rules q p (sym e)) h

pub beats_through : (rules : List Rule) (p q r : ActionAt) → beats rules p q ≡ false
    → beats rules q r ≡ false → beats rules p r ≡ false
unfolding beats priority_at
beats_through rules p q r h g =
    let a = priority_at rules p in
    let b = priority_at rules q in
    let c = priority_at rules r in
    before_through (outranks a b) (outranks b a) (outranks b c) (outranks c b) (outranks a c)
    (outranks c a)
    p.rule q.rule r.rule p.action q.action r.action
    (outranks_through a b c) (outranks_through c b a) (outranks_through b c a)
    (outranks_through c a b)
    (λ e. same_priority rules r p (sym e)) h g

pub beats_ties : (rules : List Rule) (p q : ActionAt) → beats rules p q ≡ false
    → beats rules q p ≡ false → (p.rule ≡ q.rule) × (p.action ≡ q.action)
unfolding beats priority_at
beats_ties rules p q h g =
    before_ties (outranks (priority_at rules p) (priority_at rules q))
    (outranks (priority_at rules q) (priority_at rules p))
    p.rule q.rule p.action q.action h g

not_both : (a b : Bool) → not (a && b) ≡ true → a ≡ true → b ≡ false
not_both a b h g = grind arith

both_not : (a b : Bool) → (a ≡ true → b ≡ false) → not (a && b) ≡ true
both_not true b h = let no : b ≡ false = h refl in grind arith
both_not false b h = refl

and_true : (a b : Bool) → a ≡ true → b ≡ true → (a && b) ≡ true
and_true a b h g = grind arith

-- the definition as a relation and as a test
pub settled_told : (rules : List Rule) (pairs : List ActionAt) (link : ℕ) (p : ActionAt)
    → Contains pairs p → is_settled rules pairs link p ≡ true → IsSettled rules pairs link p
unfolding is_settled is_unbeaten
settled_told rules pairs link p is_in h =
    let on : is_on rules link p ≡ true = grind arith in
    let free : is_unbeaten rules pairs link p ≡ true = grind arith in
    record {
      member = is_in;
      on_link = on;
      unbeaten = λ q q_in q_on. (
          let test : not (is_on rules link q && beats rules q p) ≡ true =
          all_holds (λ q. not (is_on rules link q && beats rules q p)) pairs q free q_in in
          not_both (is_on rules link q) (beats rules q p) test q_on);
    }

pub tells_settled : (rules : List Rule) (pairs : List ActionAt) (link : ℕ) (p : ActionAt)
    → IsSettled rules pairs link p → is_settled rules pairs link p ≡ true
unfolding is_settled is_unbeaten
tells_settled rules pairs link p h =
    let free : is_unbeaten rules pairs link p ≡ true =
    holds_all (λ q. not (is_on rules link q && beats rules q p)) pairs
    (λ q q_in. both_not (is_on rules link q) (beats rules q p) (h.unbeaten q q_in)) in
    and_true (is_on rules link p) (is_unbeaten rules pairs link p) h.on_link free

-- at most one pair
places_same : (p q : ActionAt) → p.rule ≡ q.rule → p.branch ≡ q.branch → p.action ≡ q.action → p ≡ q
places_same p q e f g = λ i. record { rule = e i; branch = f i; action = g i }

pub at_most_one : (rules : List Rule) (pairs : List ActionAt) (link : ℕ) (p q : ActionAt)
    → IsOneBranchEach pairs → IsSettled rules pairs link p → IsSettled rules pairs link q → p ≡ q
at_most_one rules pairs link p q each h g =
    let ties =
    beats_ties rules p q (g.unbeaten p h.member h.on_link) (h.unbeaten q g.member g.on_link) in
    places_same p q ties.0 (each.branch p q h.member g.member ties.0) ties.1

-- the best of a pair and some others on the link: none of them goes before it
record Best (rules : List Rule) (pairs : List ActionAt) (link : ℕ) (p b : ActionAt) : Type 0 where
  among : (b ≡ p) ⊎ Contains pairs b
  on : is_on rules link b ≡ true
  not_first : beats rules p b ≡ false
  none_first : (q : ActionAt) → Contains pairs q → is_on rules link q ≡ true
      → beats rules q b ≡ false

beats_self_by : (rules : List Rule) (p : ActionAt) (b : Bool) → beats rules p p ≡ b
    → beats rules p p ≡ false
beats_self_by rules p true h = beats_asym rules p p h
beats_self_by rules p false h = h

none_of : (rules : List Rule) (x : ActionAt) (pairs : List ActionAt) (link : ℕ) (b : ActionAt)
    → (is_on rules link x ≡ true → beats rules x b ≡ false)
    → ((q : ActionAt) → Contains pairs q → is_on rules link q ≡ true → beats rules q b ≡ false)
    → (q : ActionAt) → Contains (x ∷ pairs) q → is_on rules link q ≡ true → beats rules q b ≡ false
none_of rules x pairs link b first more q q_in on =
    in_each (λ z. is_on rules link z ≡ true → beats rules z b ≡ false) x pairs q
    (λ e on. ap (λ z. beats rules z b) (sym e) ∙ first (ap (is_on rules link) e ∙ on))
    (λ later on. more q later on) q_in on

among_later : (x : ActionAt) (pairs : List ActionAt) (p b : ActionAt) → (b ≡ p) ⊎ Contains pairs b
    → (b ≡ p) ⊎ Contains (x ∷ pairs) b
among_later x pairs p b (inl e) = inl e
among_later x pairs p b (inr later) = inr (at_later x pairs b later)

among_new : (x : ActionAt) (pairs : List ActionAt) (p b : ActionAt) → (b ≡ x) ⊎ Contains pairs b
    → (b ≡ p) ⊎ Contains (x ∷ pairs) b
among_new x pairs p b (inl e) = inr (at_first x pairs b (sym e))
among_new x pairs p b (inr later) = inr (at_later x pairs b later)

best_off : (rules : List Rule) (x : ActionAt) (pairs : List ActionAt) (link : ℕ) (p : ActionAt)
    → is_on rules link x ≡ false → (b : ActionAt) × Best rules pairs link p b
    → (b : ActionAt) × Best rules (x ∷ pairs) link p b
best_off rules x pairs link p off (b, best) = (
  b,
  record {
    among = among_later x pairs p b best.among;
    on = best.on;
    not_first = best.not_first;
    none_first =
        none_of rules x pairs link b
        (λ on. (let no : true ≡ false = sym on ∙ off in grind arith)) best.none_first;
  },
)

best_kept : (rules : List Rule) (x : ActionAt) (pairs : List ActionAt) (link : ℕ) (p : ActionAt)
    → beats rules x p ≡ false → (b : ActionAt) × Best rules pairs link p b
    → (b : ActionAt) × Best rules (x ∷ pairs) link p b
best_kept rules x pairs link p below (b, best) = (
  b,
  record {
    among = among_later x pairs p b best.among;
    on = best.on;
    not_first = best.not_first;
    none_first =
        none_of rules x pairs link b
        (λ on. beats_through rules x p b below best.not_first) best.none_first;
  },
)

best_new : (rules : List Rule) (x : ActionAt) (pairs : List ActionAt) (link : ℕ) (p : ActionAt)
    → beats rules x p ≡ true → (b : ActionAt) × Best rules pairs link x b
    → (b : ActionAt) × Best rules (x ∷ pairs) link p b
best_new rules x pairs link p above (b, best) = (
  b,
  record {
    among = among_new x pairs p b best.among;
    on = best.on;
    not_first = beats_through rules p x b (beats_asym rules x p above) best.not_first;
    none_first = none_of rules x pairs link b (λ on. best.not_first) best.none_first;
  },
)

best_cons : (rules : List Rule) (x : ActionAt) (pairs : List ActionAt) (link : ℕ) (p : ActionAt)
    (a c : Bool) → is_on rules link x ≡ a → beats rules x p ≡ c
    → (b : ActionAt) × Best rules pairs link p b
    → (is_on rules link x ≡ true → (b : ActionAt) × Best rules pairs link x b)
    → (b : ActionAt) × Best rules (x ∷ pairs) link p b
best_cons rules x pairs link p false c off above kept new = best_off rules x pairs link p off kept
best_cons rules x pairs link p true false on below kept new =
    best_kept rules x pairs link p below kept
best_cons rules x pairs link p true true on above kept new =
    best_new rules x pairs link p above (new on)

best : (rules : List Rule) (pairs : List ActionAt) (link : ℕ) (p : ActionAt)
    → is_on rules link p ≡ true → (b : ActionAt) × Best rules pairs link p b
best rules [] link p on = (
  p,
  record {
    among = inl refl;
    on = on;
    not_first = beats_self_by rules p (beats rules p p) refl;
    none_first = λ q q_in q_on. absurd (none_in q q_in);
  },
)
best rules (x ∷ pairs) link p on =
    best_cons rules x pairs link p (is_on rules link x) (beats rules x p) refl refl
    (best rules pairs link p on)
    (λ x_on. best rules pairs link x x_on)

among_is : (pairs : List ActionAt) (p b : ActionAt) → Contains pairs p → (b ≡ p) ⊎ Contains pairs b
    → Contains pairs b
among_is pairs p b is_in (inl e) = subst (λ z. Contains pairs z) (sym e) is_in
among_is pairs p b is_in (inr later) = later

-- at least one pair, where some listed pair is on the link
pub at_least_one : (rules : List Rule) (pairs : List ActionAt) (link : ℕ) (p : ActionAt)
    → Contains pairs p → IsTrue (is_on rules link p) → (b : ActionAt) × IsSettled rules pairs link b
at_least_one rules pairs link p is_in on =
    let found = best rules pairs link p on in (
      found.0,
      record {
        member = among_is pairs p found.0 is_in found.1.among;
        on_link = found.1.on;
        unbeaten = found.1.none_first;
      },
    )

-- the function gives the settled pair
pub given_is_settled : (rules : List Rule) (pairs : List ActionAt) (link : ℕ) (p : ActionAt)
    → settled_on rules pairs link ≡ Some p → IsSettled rules pairs link p
unfolding settled_on
given_is_settled rules pairs link p h =
    let found = find_some (is_settled rules pairs link) pairs p h in
    settled_told rules pairs link p found.0 found.1

given_by : (rules : List Rule) (pairs : List ActionAt) (link : ℕ) (p : ActionAt)
    (o : Option ActionAt) → settled_on rules pairs link ≡ o → IsOneBranchEach pairs
    → IsSettled rules pairs link p → settled_on rules pairs link ≡ Some p
unfolding settled_on
given_by rules pairs link p None is each h =
    let no : is_settled rules pairs link p ≡ false =
    find_none (is_settled rules pairs link) pairs p is h.member in
    let yes : is_settled rules pairs link p ≡ true = tells_settled rules pairs link p h in
    let never : true ≡ false = sym yes ∙ no in
    grind arith
given_by rules pairs link p (Some q) is each h =
    is ∙ ap Some (at_most_one rules pairs link q p each (given_is_settled rules pairs link q is) h)

pub settled_is_given : (rules : List Rule) (pairs : List ActionAt) (link : ℕ) (p : ActionAt)
    → IsOneBranchEach pairs → IsSettled rules pairs link p → settled_on rules pairs link ≡ Some p
settled_is_given rules pairs link p each h =
    given_by rules pairs link p (settled_on rules pairs link) refl each h

none_by : (rules : List Rule) (pairs : List ActionAt) (link : ℕ) (p : ActionAt) (a : Bool)
    → is_on rules link p ≡ a → settled_on rules pairs link ≡ None → Contains pairs p
    → is_on rules link p ≡ false
unfolding settled_on
none_by rules pairs link p false off h is_in = off
none_by rules pairs link p true on h is_in =
    let found = at_least_one rules pairs link p is_in on in
    let no : is_settled rules pairs link found.0 ≡ false =
    find_none (is_settled rules pairs link) pairs found.0 h found.1.member in
    let never : true ≡ false = sym (tells_settled rules pairs link found.0 found.1) ∙ no in
    grind arith

pub none_given : (rules : List Rule) (pairs : List ActionAt) (link : ℕ) (p : ActionAt)
    → settled_on rules pairs link ≡ None → Contains pairs p → is_on rules link p ≡ false
none_given rules pairs link p h is_in = none_by rules pairs link p (is_on rules link p) refl h is_in

-- the order of the listed pairs does not matter
settled_among : (rules : List Rule) (pairs others : List ActionAt) (link : ℕ) (p : ActionAt)
    → ((q : ActionAt) → Contains pairs q → Contains others q)
    → ((q : ActionAt) → Contains others q → Contains pairs q) → IsSettled rules pairs link p
    → IsSettled rules others link p
settled_among rules pairs others link p there back h = record {
  member = there p h.member;
  on_link = h.on_link;
  unbeaten = λ q q_in q_on. h.unbeaten q (back q q_in) q_on;
}

one_branch_among : (pairs others : List ActionAt)
    → ((q : ActionAt) → Contains others q → Contains pairs q) → IsOneBranchEach pairs
    → IsOneBranchEach others
one_branch_among pairs others back each =
    record { branch = λ p q p_in q_in e. each.branch p q (back p p_in) (back q q_in) e }

order_by_cases : (rules : List Rule) (pairs others : List ActionAt) (link : ℕ)
    (o u : Option ActionAt) → settled_on rules pairs link ≡ o → settled_on rules others link ≡ u
    → IsOneBranchEach pairs → ((q : ActionAt) → Contains pairs q → Contains others q)
    → ((q : ActionAt) → Contains others q → Contains pairs q)
    → settled_on rules pairs link ≡ settled_on rules others link
order_by_cases rules pairs others link (Some p) u is us each there back =
    is ∙ sym (settled_is_given rules others link p (one_branch_among pairs others back each)
    (settled_among rules pairs others link p there back (given_is_settled rules pairs link p is)))
order_by_cases rules pairs others link None None is us each there back = is ∙ sym us
order_by_cases rules pairs others link None (Some q) is us each there back =
    let h = given_is_settled rules others link q us in
    let never : true ≡ false = sym h.on_link ∙ none_given rules pairs link q is (back q h.member) in
    grind arith

pub order_free : (rules : List Rule) (pairs others : List ActionAt) (link : ℕ)
    → IsOneBranchEach pairs → ((q : ActionAt) → Contains pairs q → Contains others q)
    → ((q : ActionAt) → Contains others q → Contains pairs q)
    → settled_on rules pairs link ≡ settled_on rules others link
order_free rules pairs others link each there back =
    order_by_cases rules pairs others link (settled_on rules pairs link)
    (settled_on rules others link) refl refl each there back

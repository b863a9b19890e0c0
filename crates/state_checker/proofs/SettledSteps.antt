-- The pairs that are settled on links, and the rules that they are of.
use Rattle.std.proofs.Common.{◌≡◌, ℕ, suc, zero, ◌<◌, Bool, true, false, cond, Option, Some, None, List, [], ◌∷◌, length, position, refl, sym, ap, ◌∙◌, subst, arith, ◌⊎◌, inl, inr}
use Rattle.std.proofs.lemmas.Bool.Decides.{nat_tests}
use Rattle.std.proofs.lemmas.List.Elements.{All-contains, Contains-append_left, Contains-append_right, filter_passes}
use Rattle.std.proofs.lemmas.Option.{none-some, slice_get-map, slice_get_within, get_or_from_slice_get}
use Rattle.std.specs.Prelude.{option_map, ◌==◌, ◌&&◌, All, Contains, IsTrue, filter, slice_get, if◌then◌else◌}
use Rattle.std.specs.List.{find, flat_map}
use Rattle.rule_types.specs.declared.action.Action.{Action}
use Rattle.rule_types.specs.declared.action.ActionAt.{ActionAt}
use Rattle.rule_types.specs.declared.rule.Rule.{Rule}
use Rattle.rule_types.specs.declared.rules.Rules.{Rules}
use Rattle.rule_types.specs.declared.state.State.{State}
use Rattle.rule_types.specs.WellFormed.{WellFormed}
use Rattle.rule_types.specs.declared.action.Branch.{Branch}
use Rattle.rule_types.specs.declared.action.Branch.TheVariants.{Then, Otherwise}
use Rattle.rule_types.specs.Reading.{action_at, branch_action, branch_actions, links_acted, rule_actions}
use Rattle.rule_types.proofs.PublicLaws.{opened-lists}
use Rattle.rule_types.specs.Tables.{HoldsTableOf, HoldsTables, TableSet}
use Rattle.rule_meaning.specs.Premise.{listed, listed_among, premise_holds}
use Rattle.verdict_meaning.specs.Events.{branch_at, branch_listed}
use Rattle.state_checker.proofs.SideSteps.{none_past}
use Rattle.rule_meaning.specs.State.{beside}
use Rattle.rule_meaning.specs.Settled.{acts_on, is_on, is_settled, is_unbeaten, settled_on}
use Rattle.rule_meaning.specs.SomeRules.{is_among}
use Rattle.rule_meaning.proofs.PublicLaws.{look_ups-absent, members-cases, members-first, members-later}
use Rattle.priority_settle.specs.Settling.{settled_each}
use Rattle.verdict_meaning.specs.declared.question.Question.{Question}
use Rattle.verdict_meaning.specs.Questions.{asked_numbers, is_asked}
use Rattle.state_checker.proofs.AskedSteps.{among_asked}

-- ---- what is found

found_at : {A : Type 0} (x : A) (xs : List A) (one : A) (t : Bool) (rest : Option A)
    → (rest ≡ Some one → Contains xs one) → cond t (Some x) rest ≡ Some one
    → Contains (x ∷ xs) one
found_at x xs one true rest h g =
    subst (λ y. Contains (x ∷ xs) y) (let same : x ≡ one = grind arith in same) (members-first x xs)
found_at x xs one false rest h g = members-later x xs one (h g)

found_in : {A : Type 0} (p : A → Bool) (xs : List A) (one : A) → find p xs ≡ Some one
    → Contains xs one
found_in p [] one e = absurd (grind arith)
found_in p (x ∷ xs) one e = found_at x xs one (p x) (find p xs) (found_in p xs one) e

passes_at : {A : Type 0} (p : A → Bool) (x one : A) (t : Bool) (rest : Option A) → p x ≡ t
    → (rest ≡ Some one → p one ≡ true) → cond t (Some x) rest ≡ Some one → p one ≡ true
passes_at p x one true rest is h g =
    ap p (sym (let same : x ≡ one = grind arith in same)) ∙ is
passes_at p x one false rest is h g = h g

found_passes : {A : Type 0} (p : A → Bool) (xs : List A) (one : A) → find p xs ≡ Some one
    → p one ≡ true
found_passes p [] one e = absurd (grind arith)
found_passes p (x ∷ xs) one e =
    passes_at p x one (p x) (find p xs) refl (found_passes p xs one) e

-- ---- the rule of a settled pair

pub settled_asked : (x : Rules) (question : Question) (s : State) (link : ℕ) (at : ActionAt)
    → settled_on x.rules (listed_among (asked_numbers x question) x s) link ≡ Some at
    → IsTrue (is_asked x question at.rule)
unfolding settled_on listed_among
settled_asked x question s link at e =
    let pairs = filter (λ pair. is_among (asked_numbers x question) pair.rule) (listed x s) in
    among_asked x question at.rule
    (All-contains (λ pair. is_among (asked_numbers x question) pair.rule ≡ true) pairs at
    (filter_passes (λ pair. is_among (asked_numbers x question) pair.rule) (listed x s))
    (found_in (is_settled x.rules pairs link) pairs at e))

-- ---- the pair of a link

pub pair_is : (x : Rules) (pairs : List ActionAt) (firsts : List (Option ActionAt)) (link at : ℕ)
    (found : Option ActionAt) → slice_get x.controlled at ≡ Some link
    → firsts ≡ settled_each x.rules x.controlled pairs
    → ((pair : Option ActionAt) → slice_get firsts at ≡ Some pair → found ≡ pair)
    → found ≡ settled_on x.rules pairs link
pair_is x pairs firsts link at found is are each =
    each (settled_on x.rules pairs link)
    (ap (λ l. slice_get l at) are
    ∙ slice_get-map (settled_on x.rules pairs) x.controlled at
    ∙ ap (option_map (settled_on x.rules pairs)) is)

-- ---- a link that no rule acts on

present_by : (t : Bool) (one : ℕ) (rest : Option ℕ) → (if t then Some one else rest) ≡ None
    → (t ≡ true → ⊥) × (rest ≡ None)
present_by true one rest e = absurd (none-some one (sym e))
present_by false one rest e = ((λ f. let g : false ≡ true = f in absurd (grind arith)), e)

same_number : (n : ℕ) → (n == n) ≡ true
same_number n = grind (arith, nat_tests)

not_either : (first : ℕ) (links : List ℕ) (link : ℕ) → ((link == first) ≡ true → ⊥)
    → (Contains links link → ⊥) → (first ≡ link) ⊎ Contains links link → ⊥
not_either first links link here h (inl same) =
    here (ap (λ n. link == n) same ∙ same_number link)
not_either first links link here h (inr later) = h later

not_there : (links : List ℕ) (link : ℕ) → beside (λ other. link == other) links links ≡ None
    → Contains links link → ⊥
unfolding beside
not_there [] link e h = omega (arith, h.1)
not_there (first ∷ links) link e h =
    let parts = present_by (link == first) first (beside (λ other. link == other) links links) e in
    not_either first links link parts.0 (not_there links link parts.1)
    (members-cases first links link h)

no_place : (links : List ℕ) (link : ℕ) → position (λ other. link == other) links ≡ None
    → Contains links link → ⊥
no_place links link absent h =
    not_there links link (look_ups-absent (λ other. link == other) links links absent) h

at_place : {A : Type 0} (xs : List A) (k : ℕ) (x : A) → slice_get xs k ≡ Some x → Contains xs x
at_place xs k x e = (k, slice_get_within xs k x e, get_or_from_slice_get xs k x x e)

in_row : {A B : Type 0} (f : A → List B) (xs : List A) (x : A) (y : B) → Contains xs x
    → Contains (f x) y → Contains (flat_map f xs) y
in_row f [] x y h i = absurd (omega (arith, h.1))
in_row f (first ∷ xs) x y (zero, lt, e) i =
    Contains-append_left (f first) (flat_map f xs) y (subst (λ z. Contains (f z) y) (sym e) i)
in_row f (first ∷ xs) x y (suc k, lt, e) i =
    Contains-append_right (f first) (flat_map f xs) y (in_row f xs x y (k, omega arith, e) i)

of_branch : (rule : Rule) (branch : Branch) (action : Action)
    → Contains (branch_actions rule branch) action → Contains (rule_actions rule) action
of_branch rule Then action h =
    Contains-append_left rule.then_actions rule.else_actions action h
of_branch rule Otherwise action h =
    Contains-append_right rule.then_actions rule.else_actions action h

acted_by : (rules : List Rule) (at : ActionAt) (rule : Rule) (action : Action)
    → slice_get rules at.rule ≡ Some rule
    → slice_get (branch_actions rule at.branch) at.action ≡ Some action
    → Contains (links_acted rules) action.link
acted_by rules at rule action is has =
    in_row (λ one. flat_map (λ act. act.link ∷ []) (rule_actions one)) rules rule action.link
    (at_place rules at.rule rule is)
    (in_row (λ act. act.link ∷ []) (rule_actions rule) action action.link
    (of_branch rule at.branch action
    (at_place (branch_actions rule at.branch) at.action action has))
    (members-first action.link []))

acted : (rules : List Rule) (link : ℕ) (at : ActionAt) → is_on rules link at ≡ true
    → Contains (links_acted rules) link
unfolding is_on action_at
acted rules link at e = by_rule (slice_get rules at.rule) refl e
  where
    by_action : (rule : Rule) (o : Option Action) → slice_get rules at.rule ≡ Some rule
        → slice_get (branch_actions rule at.branch) at.action ≡ o → acts_on link o ≡ true
        → Contains (links_acted rules) link
    by_action rule None is has on = absurd (grind arith)
    by_action rule (Some action) is has on =
        let same : action.link ≡ link = grind (arith, nat_tests) in
        subst (λ n. Contains (links_acted rules) n) same (acted_by rules at rule action is has)

    by_rule : (o : Option Rule) → slice_get rules at.rule ≡ o
        → acts_on link (branch_action at o) ≡ true → Contains (links_acted rules) link
    by_rule None is on = absurd (grind arith)
    by_rule (Some rule) is on =
        by_action rule (slice_get (branch_actions rule at.branch) at.action) is refl on

on_by : (a b : Bool) → (a && b) ≡ true → a ≡ true
on_by true b e = refl
on_by false b e = e

settled_acts : (rules : List Rule) (pairs : List ActionAt) (link : ℕ) (at : ActionAt)
    → settled_on rules pairs link ≡ Some at → is_on rules link at ≡ true
unfolding settled_on is_settled
settled_acts rules pairs link at e =
    on_by (is_on rules link at) (is_unbeaten rules pairs link at)
    (found_passes (is_settled rules pairs link) pairs at e)

pub no_pair : (x : Rules) (pairs : List ActionAt) (link : ℕ) → WellFormed x
    → position (λ other. link == other) x.controlled ≡ None → None ≡ settled_on x.rules pairs link
no_pair x pairs link formed absent = by_pair (settled_on x.rules pairs link) refl
  where
    by_pair : (o : Option ActionAt) → settled_on x.rules pairs link ≡ o
        → None ≡ settled_on x.rules pairs link
    by_pair None e = sym e
    by_pair (Some at) e =
        absurd (no_place x.controlled link absent
        (All-contains (Contains x.controlled) (links_acted x.rules) link
        (opened-lists x formed.lists).acted_links
        (acted x.rules link at (settled_acts x.rules pairs link at e))))

-- ---- the table that an action names

pub table_held : (tables : TableSet) (rules : List Rule) (at : ActionAt) (action : Action)
    → HoldsTables tables rules → Some action ≡ action_at rules at
    → HoldsTableOf tables action.what
unfolding action_at
table_held tables rules at action h e = by_rule (slice_get rules at.rule) refl (sym e)
  where
    by_rule : (o : Option Rule) → slice_get rules at.rule ≡ o → branch_action at o ≡ Some action
        → HoldsTableOf tables action.what
    by_rule None is has = absurd (grind arith)
    by_rule (Some rule) is has =
        All-contains (λ one. HoldsTableOf tables one.what) (rule_actions rule) action
        (All-contains (λ row. All (λ one. HoldsTableOf tables one.what) (rule_actions row)) rules rule h
        (at_place rules at.rule rule is))
        (of_branch rule at.branch action
        (at_place (branch_actions rule at.branch) at.action action has))

-- ---- the branch that a rule lists

pub branch_is : (x : Rules) (s : State) (number : ℕ) (holds : Bool) → number < length x.rules
    → ((row : Rule) → slice_get x.rules number ≡ Some row → holds ≡ premise_holds x s row)
    → (if holds then Then else Otherwise) ≡ branch_at x s number
branch_is x s number holds within each = by_rule (slice_get x.rules number) refl
  where
    by_rule : (o : Option Rule) → slice_get x.rules number ≡ o
        → (if holds then Then else Otherwise) ≡ branch_listed x s (slice_get x.rules number)
    by_rule None e =
        absurd (let past = none_past x.rules number e in omega (arith, past, within))
    by_rule (Some row) e =
        ap (λ t. if t then Then else Otherwise) (each row e) ∙ ap (branch_listed x s) (sym e)

-- The pairs that a question's rules list, one rule after another.
use Rattle.std.proofs.Common.{◌≡◌, ℕ, suc, ◌+◌, ◌<◌, ◌≤◌, Bool, true, false, cond, Some, List, [], ◌∷◌, ◌++◌, length, get_or, drop, refl, sym, ap, ◌∙◌, append_assoc, add-one, arith}
use Rattle.std.proofs.lemmas.List.{drop_more, drop_all, append-nil}
use Rattle.std.proofs.lemmas.List.Elements.{filter-append}
use Rattle.std.proofs.lemmas.Option.{slice_get-get_or}
use Rattle.std.specs.Prelude.{filter, if◌then◌else◌, slice_get}
use Rattle.rule_types.specs.declared.action.Action.{Action}
use Rattle.rule_types.specs.declared.action.ActionAt.{ActionAt}
use Rattle.rule_types.specs.declared.action.Branch.{Branch}
use Rattle.rule_types.specs.declared.rule.Rule.{Rule}
use Rattle.rule_types.specs.declared.rules.Rules.{Rules}
use Rattle.rule_types.specs.declared.state.State.{State}
use Rattle.rule_types.specs.Reading.{branch_actions}
use Rattle.rule_meaning.specs.Premise.{listed, listed_among, listed_branch, listed_by, places_of}
use Rattle.rule_meaning.specs.SomeRules.{is_among}
use Rattle.verdict_meaning.specs.declared.question.Question.{Question}
use Rattle.verdict_meaning.specs.Questions.{asked_numbers, is_asked}
use Rattle.state_checker.proofs.AskedSteps.{asked_is}

item_at : {A : Type 0} (xs : List A) (k : ℕ) → k < length xs → A
item_at [] k within = absurd (omega arith)
item_at (x ∷ xs) k within = x

-- ---- the actions of a branch

places_cons : (rule : ℕ) (branch : Branch) (action : ℕ) (one : Action) (more : List Action)
    → places_of rule branch action (one ∷ more)
    ≡ record { rule = rule; branch = branch; action = action } ∷ places_of rule branch (suc action) more
unfolding places_of
places_cons rule branch action one more = refl

pub place_step : (rule : ℕ) (branch : Branch) (actions : List Action) (k : ℕ)
    (start now new : List ActionAt)
    → k < length actions → now ++ places_of rule branch k (drop k actions) ≡ start
    → new ≡ now ++ record { rule = rule; branch = branch; action = k } ∷ []
    → new ++ places_of rule branch (k + 1) (drop (k + 1) actions) ≡ start
place_step rule branch actions k start now new within goes pushed =
    let at : ActionAt = record { rule = rule; branch = branch; action = k } in
    let d = item_at actions k within in
    ap (λ l. l ++ places_of rule branch (k + 1) (drop (k + 1) actions)) pushed
    ∙ append_assoc now (at ∷ []) (places_of rule branch (k + 1) (drop (k + 1) actions))
    ∙ ap (λ n. now ++ at ∷ places_of rule branch n (drop (k + 1) actions)) (add-one k)
    ∙ ap (λ l. now ++ l) (sym (places_cons rule branch k (get_or actions k d) (drop (k + 1) actions)))
    ∙ ap (λ l. now ++ places_of rule branch k l) (sym (drop_more actions k d within))
    ∙ goes

pub place_end : (rule : ℕ) (branch : Branch) (actions : List Action) (k : ℕ)
    (start now : List ActionAt)
    → length actions ≤ k → now ++ places_of rule branch k (drop k actions) ≡ start → now ≡ start
unfolding places_of
place_end rule branch actions k start now past goes =
    sym (append-nil now)
    ∙ ap (λ l. now ++ places_of rule branch k l) (sym (drop_all k actions past))
    ∙ goes

-- ---- the pairs of some rules

listed_cons : (b : ℕ → Rule → Branch) (place : ℕ) (rule : Rule) (more : List Rule)
    → listed_by b place (rule ∷ more)
    ≡ places_of place (b place rule) 0 (branch_actions rule (b place rule)) ++ listed_by b (suc place) more
unfolding listed_by
listed_cons b place rule more = refl

-- the pairs of one rule all pass or all fail a test of the rule
passed_by : (t : Bool) (at : ActionAt) (more : List ActionAt)
    → cond t (at ∷ (if t then more else [])) (if t then more else [])
    ≡ (if t then at ∷ more else [])
passed_by true at more = refl
passed_by false at more = refl

nothing : (t : Bool) (none : List ActionAt) → none ≡ (if t then none else none)
nothing true none = refl
nothing false none = refl

one_rule : (p : ℕ → Bool) (rule : ℕ) (branch : Branch) (k : ℕ) (actions : List Action)
    → filter (λ at. p at.rule) (places_of rule branch k actions)
    ≡ (if p rule then places_of rule branch k actions else [])
unfolding places_of
one_rule p rule branch k [] = nothing (p rule) []
one_rule p rule branch k (one ∷ more) =
    let at : ActionAt = record { rule = rule; branch = branch; action = k } in
    ap (λ l. cond (p rule) (at ∷ l) l) (one_rule p rule branch (suc k) more)
    ∙ passed_by (p rule) at (places_of rule branch (suc k) more)

-- the pairs from a place on that pass a test of their rule
abbrev pub passing : (ℕ → Bool) → (ℕ → Rule → Branch) → ℕ → List Rule → List ActionAt
passing p b k rules = filter (λ at. p at.rule) (listed_by b k (drop k rules))

pub rule_step : (p : ℕ → Bool) (asked : Bool) (b : ℕ → Rule → Branch) (rules : List Rule) (k : ℕ)
    (start now new : List ActionAt)
    → k < length rules → p k ≡ asked → now ++ passing p b k rules ≡ start
    → ((row : Rule) → slice_get rules k ≡ Some row
    → new ≡ now ++ (if asked then places_of k (b k row) 0 (branch_actions row (b k row)) else []))
    → new ++ passing p b (k + 1) rules ≡ start
rule_step p asked b rules k start now new within is goes pushed =
    let d = item_at rules k within in
    let row = get_or rules k d in
    let places = places_of k (b k row) 0 (branch_actions row (b k row)) in
    let rest = passing p b (k + 1) rules in
    ap (λ l. l ++ rest) (pushed row (slice_get-get_or rules k d within))
    ∙ append_assoc now (if asked then places else []) rest
    ∙ ap (λ t. now ++ ((if t then places else []) ++ rest)) (sym is)
    ∙ ap (λ l. now ++ (l ++ rest)) (sym (one_rule p k (b k row) 0 (branch_actions row (b k row))))
    ∙ ap (λ l. now ++ l)
    (sym (filter-append (λ at. p at.rule) places (listed_by b (k + 1) (drop (k + 1) rules))))
    ∙ ap (λ n. now ++ filter (λ at. p at.rule) (places ++ listed_by b n (drop (k + 1) rules))) (add-one k)
    ∙ ap (λ l. now ++ filter (λ at. p at.rule) l) (sym (listed_cons b k row (drop (k + 1) rules)))
    ∙ ap (λ l. now ++ filter (λ at. p at.rule) (listed_by b k l)) (sym (drop_more rules k d within))
    ∙ goes

pub rule_end : (p : ℕ → Bool) (b : ℕ → Rule → Branch) (rules : List Rule) (k : ℕ)
    (start now : List ActionAt)
    → length rules ≤ k → now ++ passing p b k rules ≡ start → now ≡ start
unfolding listed_by
rule_end p b rules k start now past goes =
    sym (append-nil now)
    ∙ ap (λ l. now ++ filter (λ at. p at.rule) (listed_by b k l)) (sym (drop_all k rules past))
    ∙ goes

-- ---- those of a question

abbrev pub branches : Rules → State → ℕ → Rule → Branch
branches x s place rule = listed_branch x s rule

pub asked_step : (x : Rules) (question : Question) (s : State) (k : ℕ) (now new : List ActionAt)
    → k < length x.rules
    → now ++ passing (is_among (asked_numbers x question)) (branches x s) k x.rules
    ≡ listed_among (asked_numbers x question) x s
    → ((row : Rule) → slice_get x.rules k ≡ Some row
    → new ≡ now ++ (if is_asked x question k
    then places_of k (listed_branch x s row) 0 (branch_actions row (listed_branch x s row)) else []))
    → new ++ passing (is_among (asked_numbers x question)) (branches x s) (k + 1) x.rules
    ≡ listed_among (asked_numbers x question) x s
asked_step x question s k now new within goes pushed =
    rule_step (is_among (asked_numbers x question)) (is_asked x question k) (branches x s) x.rules k
    (listed_among (asked_numbers x question) x s) now new within (asked_is x question k within) goes
    pushed

pub asked_start : (x : Rules) (question : Question) (s : State)
    → passing (is_among (asked_numbers x question)) (branches x s) 0 x.rules
    ≡ listed_among (asked_numbers x question) x s
unfolding listed_among listed
asked_start x question s = refl

pub asked_end : (x : Rules) (question : Question) (s : State) (k : ℕ) (now : List ActionAt)
    → length x.rules ≤ k
    → now ++ passing (is_among (asked_numbers x question)) (branches x s) k x.rules
    ≡ listed_among (asked_numbers x question) x s
    → now ≡ listed_among (asked_numbers x question) x s
asked_end x question s k now past goes =
    rule_end (is_among (asked_numbers x question)) (branches x s) x.rules k
    (listed_among (asked_numbers x question) x s) now past goes

pub asked_first : (x : Rules) (question : Question) (s : State) (pairs : List ActionAt)
    → pairs ≡ []
    → pairs ++ passing (is_among (asked_numbers x question)) (branches x s) 0 x.rules
    ≡ listed_among (asked_numbers x question) x s
asked_first x question s pairs none =
    ap (λ l. l ++ passing (is_among (asked_numbers x question)) (branches x s) 0 x.rules) none
    ∙ asked_start x question s

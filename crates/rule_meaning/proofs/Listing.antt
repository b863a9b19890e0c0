-- Each rule lists one of its branches.
use Rattle.std.proofs.Common.{◌≡◌, ℕ, suc, ◌+◌, ◌≤◌, Some, List, [], ◌∷◌, ◌++◌, ◌⊎◌, inl, inr, refl}
use Rattle.std.proofs.Common.{sym, ap, subst, ◌∙◌, arith}
use Rattle.std.proofs.lemmas.List.Elements.{Contains-append_cases}
use Rattle.std.specs.List.{slice_get, Contains}
use Rattle.rule_types.specs.declared.action.Action.{Action}
use Rattle.rule_types.specs.declared.action.ActionAt.{ActionAt}
use Rattle.rule_types.specs.declared.action.Branch.{Branch}
use Rattle.rule_types.specs.declared.rule.Rule.{Rule}
use Rattle.rule_types.specs.declared.rules.Rules.{Rules}
use Rattle.rule_types.specs.declared.state.State.{State}
use Rattle.rule_types.specs.Reading.{branch_actions}
use Rattle.rule_meaning.specs.Premise.{places_of, listed_branch, listed_by, listed}
use Rattle.rule_meaning.specs.Settled.{IsOneBranchEach}
use Rattle.rule_meaning.proofs.Members.{none_in, in_each}

abbrev rule_in : ActionAt → ℕ
rule_in p = p.rule

abbrev branch_in : ActionAt → Branch
branch_in p = p.branch

pub placed : (rule : ℕ) (branch : Branch) (at : ℕ) (actions : List Action) (p : ActionAt)
    → Contains (places_of rule branch at actions) p → (p.rule ≡ rule) × (p.branch ≡ branch)
unfolding places_of
placed rule branch at [] p h = absurd (none_in p h)
placed rule branch at (one ∷ more) p h =
    in_each (λ z. (z.rule ≡ rule) × (z.branch ≡ branch))
    (record { rule = rule; branch = branch; action = at })
    (places_of rule branch (suc at) more) p (λ e. (ap rule_in (sym e), ap branch_in (sym e)))
    (λ later. placed rule branch (suc at) more p later) h

abbrev pub here : (ℕ → Rule → Branch) → ℕ → Rule → List ActionAt
here lists n one = places_of n (lists n one) 0 (branch_actions one (lists n one))

not_before_by : (n : ℕ) (heads tails : List ActionAt) (p : ActionAt)
    → (Contains heads p → p.rule ≡ n) → (Contains tails p → suc n ≤ p.rule)
    → Contains heads p ⊎ Contains tails p → n ≤ p.rule
not_before_by n heads tails p at later (inl h) = omega (arith, at h)
not_before_by n heads tails p at later (inr h) = omega (arith, later h)

pub not_before : (lists : ℕ → Rule → Branch) (n : ℕ) (rules : List Rule) (p : ActionAt)
    → Contains (listed_by lists n rules) p → n ≤ p.rule
unfolding listed_by
not_before lists n [] p h = absurd (none_in p h)
not_before lists n (one ∷ more) p h =
    not_before_by n (here lists n one) (listed_by lists (suc n) more) p
    (λ at. (placed n (lists n one) 0 (branch_actions one (lists n one)) p at).0)
    (λ later. not_before lists (suc n) more p later)
    (Contains-append_cases (here lists n one) (listed_by lists (suc n) more) p h)

same_branch_by : (n : ℕ) (branch : Branch) (heads tails : List ActionAt) (p q : ActionAt)
    → ((z : ActionAt) → Contains heads z → (z.rule ≡ n) × (z.branch ≡ branch))
    → ((z : ActionAt) → Contains tails z → suc n ≤ z.rule)
    → (Contains tails p → Contains tails q → p.branch ≡ q.branch) → p.rule ≡ q.rule
    → Contains heads p ⊎ Contains tails p → Contains heads q ⊎ Contains tails q
    → p.branch ≡ q.branch
same_branch_by n branch heads tails p q at later rest e (inl h) (inl g) =
    (at p h).1 ∙ sym ((at q g).1)
same_branch_by n branch heads tails p q at later rest e (inl h) (inr g) =
    absurd (omega (arith, (at p h).0, later q g, e))
same_branch_by n branch heads tails p q at later rest e (inr h) (inl g) =
    absurd (omega (arith, (at q g).0, later p h, e))
same_branch_by n branch heads tails p q at later rest e (inr h) (inr g) = rest h g

same_branch : (lists : ℕ → Rule → Branch) (n : ℕ) (rules : List Rule) (p q : ActionAt)
    → p.rule ≡ q.rule → Contains (listed_by lists n rules) p → Contains (listed_by lists n rules) q
    → p.branch ≡ q.branch
unfolding listed_by
same_branch lists n [] p q e h g = absurd (none_in p h)
same_branch lists n (one ∷ more) p q e h g =
    same_branch_by n (lists n one) (here lists n one) (listed_by lists (suc n) more) p q
    (λ z at. placed n (lists n one) 0 (branch_actions one (lists n one)) z at)
    (λ z later. not_before lists (suc n) more z later)
    (λ h' g'. same_branch lists (suc n) more p q e h' g') e
    (Contains-append_cases (here lists n one) (listed_by lists (suc n) more) p h)
    (Contains-append_cases (here lists n one) (listed_by lists (suc n) more) q g)

pub one_branch_each_by : (lists : ℕ → Rule → Branch) (n : ℕ) (rules : List Rule)
    → IsOneBranchEach (listed_by lists n rules)
one_branch_each_by lists n rules =
    record { branch = λ p q h g e. same_branch lists n rules p q e h g }

pub one_branch_each : (x : Rules) (s : State) → IsOneBranchEach (listed x s)
unfolding listed
one_branch_each x s = one_branch_each_by (λ place rule. listed_branch x s rule) 0 x.rules

-- two ways to tell branches that agree on the rules list the same pairs
same_listed_from : (lists other : ℕ → Rule → Branch) (n : ℕ) (rules : List Rule)
    → ((k : ℕ) (rule : Rule) → slice_get rules k ≡ Some rule
    → lists (k + n) rule ≡ other (k + n) rule) → listed_by lists n rules ≡ listed_by other n rules
unfolding listed_by
same_listed_from lists other n [] h = refl
same_listed_from lists other n (one ∷ more) h =
    let start : 0 + n ≡ n = omega arith in
    let first : lists n one ≡ other n one =
    subst (λ m. lists m one ≡ other m one) start (h 0 one refl) in
    let later : listed_by lists (suc n) more ≡ listed_by other (suc n) more =
    same_listed_from lists other (suc n) more (λ k rule is.
    (let next : suc k + n ≡ k + suc n =
    omega arith in subst (λ m. lists m rule ≡ other m rule) next (h (suc k) rule is))) in
    λ i. places_of n (first i) 0 (branch_actions one (first i)) ++ later i

pub same_listed : (lists other : ℕ → Rule → Branch) (rules : List Rule)
    → ((place : ℕ) (rule : Rule) → slice_get rules place ≡ Some rule
    → lists place rule ≡ other place rule) → listed_by lists 0 rules ≡ listed_by other 0 rules
same_listed lists other rules h =
    same_listed_from lists other 0 rules (λ k rule is.
    (let e : k ≡ k + 0 = omega arith in subst (λ m. lists m rule ≡ other m rule) e (h k rule is)))

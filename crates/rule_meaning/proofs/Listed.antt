-- The listed pairs are those that the definition says.
use Rattle.std.proofs.Common.{◌≡◌, ℕ, zero, suc, ◌+◌, ◌<◌, Some, List, [], ◌∷◌, length, ◌⊎◌}
use Rattle.std.proofs.Common.{inl, inr, refl, sym, ap, subst, ◌∙◌, arith}
use Rattle.std.proofs.lemmas.List.Elements.{Contains-append_cases, Contains-append_left}
use Rattle.std.proofs.lemmas.List.Elements.{Contains-append_right}
use Rattle.std.specs.List.{slice_get, Contains}
use Rattle.rule_types.specs.declared.action.Action.{Action}
use Rattle.rule_types.specs.declared.action.ActionAt.{ActionAt}
use Rattle.rule_types.specs.declared.action.Branch.{Branch}
use Rattle.rule_types.specs.declared.rule.Rule.{Rule}
use Rattle.rule_types.specs.declared.rules.Rules.{Rules}
use Rattle.rule_types.specs.declared.state.State.{State}
use Rattle.rule_types.specs.Reading.{branch_actions}
use Rattle.rule_meaning.specs.Premise.{places_of, listed_branch, listed_by, listed, IsListed}
use Rattle.rule_meaning.proofs.Members.{none_in, at_first, at_later, in_each}
use Rattle.rule_meaning.proofs.Listing.{placed, here}

abbrev action_in : ActionAt → ℕ
action_in p = p.action

within : (rule : ℕ) (branch : Branch) (at : ℕ) (actions : List Action) (p : ActionAt)
    → Contains (places_of rule branch at actions) p → p.action < at + length actions
unfolding places_of
within rule branch at [] p h = absurd (none_in p h)
within rule branch at (one ∷ more) p h =
    in_each (λ z. z.action < at + length (one ∷ more))
    (record { rule = rule; branch = branch; action = at })
    (places_of rule branch (suc at) more) p
    (λ e. (let same = ap action_in e in omega (arith, same)))
    (λ later. (let below = within rule branch (suc at) more p later in omega (arith, below))) h

-- a listed pair of the rules from a place on
record Found (lists : ℕ → Rule → Branch) (n : ℕ) (rules : List Rule) (p : ActionAt) : Type 0 where
  k : ℕ
  rule : Rule
  place : p.rule ≡ k + n
  is : slice_get rules k ≡ Some rule
  branch : p.branch ≡ lists p.rule rule
  action : p.action < length (branch_actions rule p.branch)

later_found : (lists : ℕ → Rule → Branch) (n : ℕ) (one : Rule) (more : List Rule) (p : ActionAt)
    → Found lists (suc n) more p → Found lists n (one ∷ more) p
later_found lists n one more p found = record {
  k = suc found.k;
  rule = found.rule;
  place = omega (arith, found.place);
  is = found.is;
  branch = found.branch;
  action = found.action;
}

first_found : (lists : ℕ → Rule → Branch) (n : ℕ) (one : Rule) (more : List Rule) (p : ActionAt)
    → Contains (here lists n one) p → Found lists n (one ∷ more) p
first_found lists n one more p h =
    let at = placed n (lists n one) 0 (branch_actions one (lists n one)) p h in
    let most = within n (lists n one) 0 (branch_actions one (lists n one)) p h in
    let fewer : p.action < length (branch_actions one (lists n one)) = omega (arith, most) in
    record {
      k = 0;
      rule = one;
      place = omega (arith, at.0);
      is = refl;
      branch = at.1 ∙ ap (λ m. lists m one) (sym at.0);
      action = subst (λ c. p.action < length (branch_actions one c)) (sym at.1) fewer;
    }

found_by : (lists : ℕ → Rule → Branch) (n : ℕ) (one : Rule) (more : List Rule) (p : ActionAt)
    → (Contains (listed_by lists (suc n) more) p → Found lists (suc n) more p)
    → Contains (here lists n one) p ⊎ Contains (listed_by lists (suc n) more) p
    → Found lists n (one ∷ more) p
found_by lists n one more p rest (inl h) = first_found lists n one more p h
found_by lists n one more p rest (inr h) = later_found lists n one more p (rest h)

found : (lists : ℕ → Rule → Branch) (n : ℕ) (rules : List Rule) (p : ActionAt)
    → Contains (listed_by lists n rules) p → Found lists n rules p
unfolding listed_by
found lists n [] p h = absurd (none_in p h)
found lists n (one ∷ more) p h =
    found_by lists n one more p (λ later. found lists (suc n) more p later)
    (Contains-append_cases (here lists n one) (listed_by lists (suc n) more) p h)

pub listed_is : (x : Rules) (s : State) (p : ActionAt) → Contains (listed x s) p → IsListed x s p
unfolding listed
listed_is x s p h =
    let f = found (λ place rule. listed_branch x s rule) 0 x.rules p h in
    let place : p.rule ≡ f.k = omega (arith, f.place) in
    record {
      rule = f.rule;
      is = subst (λ m. slice_get x.rules m ≡ Some f.rule) (sym place) f.is;
      branch = f.branch;
      action = f.action;
    }

-- and back
place_in : (rule : ℕ) (branch : Branch) (at j : ℕ) (actions : List Action) → j < length actions
    → Contains (places_of rule branch at actions)
    (record { rule = rule; branch = branch; action = j + at })
unfolding places_of
place_in rule branch at j [] h = absurd (omega (arith, h))
place_in rule branch at zero (one ∷ more) h = let e : at ≡ 0 + at = omega arith in
    at_first (record { rule = rule; branch = branch; action = at })
    (places_of rule branch (suc at) more) _
    (λ i. record { rule = rule; branch = branch; action = e i })
place_in rule branch at (suc j) (one ∷ more) h =
    let e : j + suc at ≡ suc j + at = omega arith in
    at_later (record { rule = rule; branch = branch; action = at })
    (places_of rule branch (suc at) more) _
    (subst
    (λ a. Contains (places_of rule branch (suc at) more)
    (record { rule = rule; branch = branch; action = a })) e
    (place_in rule branch (suc at) j more (omega (arith, h))))

has : (lists : ℕ → Rule → Branch) (n k : ℕ) (rules : List Rule) (rule : Rule) (j : ℕ)
    → slice_get rules k ≡ Some rule → j < length (branch_actions rule (lists (k + n) rule))
    → Contains (listed_by lists n rules)
    (record { rule = k + n; branch = lists (k + n) rule; action = j + 0 })
unfolding listed_by
has lists n k [] rule j is h = grind arith
has lists n zero (one ∷ more) rule j is h =
    let e : one ≡ rule = grind arith in
    let start : n ≡ 0 + n = omega arith in
    Contains-append_left (here lists n one) (listed_by lists (suc n) more) _
    (subst
    (λ r. Contains (here lists n one)
    (record { rule = 0 + n; branch = lists (0 + n) r; action = j + 0 })) e
    (subst
    (λ m. Contains (here lists n one)
    (record { rule = m; branch = lists m one; action = j + 0 })) start
    (place_in n (lists n one) 0 j (branch_actions one (lists n one))
    (subst (λ m. j < length (branch_actions one (lists m one))) (sym start)
    (subst (λ r. j < length (branch_actions r (lists (0 + n) r))) (sym e) h)))))
has lists n (suc k) (one ∷ more) rule j is h =
    let e : k + suc n ≡ suc k + n = omega arith in
    Contains-append_right (here lists n one) (listed_by lists (suc n) more) _
    (subst
    (λ m. Contains (listed_by lists (suc n) more)
    (record { rule = m; branch = lists m rule; action = j + 0 })) e
    (has lists (suc n) k more rule j is
    (subst (λ m. j < length (branch_actions rule (lists m rule))) (sym e) h)))

pub is_listed : (x : Rules) (s : State) (p : ActionAt) → IsListed x s p → Contains (listed x s) p
unfolding listed
is_listed x s p h =
    let e : p.rule + 0 ≡ p.rule = omega arith in
    let f : p.action + 0 ≡ p.action = omega arith in
    let b : listed_branch x s h.rule ≡ p.branch = sym h.branch in
    let there =
    has (λ place rule. listed_branch x s rule) 0 p.rule x.rules h.rule p.action h.is
    (subst (λ c. p.action < length (branch_actions h.rule c)) h.branch h.action) in
    subst (λ q. Contains (listed_by (λ place rule. listed_branch x s rule) 0 x.rules) q)
    (λ i. record { rule = e i; branch = b i; action = f i }) there

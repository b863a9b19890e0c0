-- The tables that candidates name are held.
use Rattle.std.proofs.Common.{◌≡◌, ℕ, Bool, true, false, cond, Option, Some, None, List, [], ◌∷◌, ◌++◌, refl, sym, subst, arith}
use Rattle.std.specs.Prelude.{All, IfSome, slice_get, ◌==◌}
use Rattle.std.specs.List.{find}
use Rattle.std.proofs.lemmas.List.Elements.{All-nil, All-cons, All-head, All-tail, All-get_or}
use Rattle.std.proofs.lemmas.Option.{slice_get_within, get_or_from_slice_get}
use Rattle.rule_types.specs.declared.action.Action.{Action}
use Rattle.rule_types.specs.declared.action.Branch.{Branch}
use Rattle.rule_types.specs.declared.action.Branch.TheVariants.{Then, Otherwise}
use Rattle.rule_types.specs.declared.rule.Rule.{Rule}
use Rattle.rule_types.specs.Reading.{branch_actions, rule_actions}
use Rattle.rule_types.specs.Tables.{HoldsTableOf, HoldsTables, TableSet}
use Rattle.verdict_meaning.specs.Events.{candidate, rule_candidate}

found_by : (P : Action → Type 0) (test : Action → Bool) (y : Action) (ys : List Action)
    (b : Bool) (action : Action) → P y → (find test ys ≡ Some action → P action)
    → cond b (Some y) (find test ys) ≡ Some action → P action
found_by P test y ys true action h later e = subst P (let same : y ≡ action = grind arith in same) h
found_by P test y ys false action h later e = later e

found : (P : Action → Type 0) (test : Action → Bool) (xs : List Action) (action : Action)
    → All P xs → find test xs ≡ Some action → P action
found P test [] action h e = absurd (grind arith)
found P test (y ∷ ys) action h e =
    found_by P test y ys (test y) action (All-head P y ys h)
    (found P test ys action (All-tail P y ys h)) e

first_part : (P : Action → Type 0) (xs ys : List Action) → All P (xs ++ ys) → All P xs
first_part P [] ys h = All-nil P
first_part P (x ∷ xs) ys h =
    All-cons P x xs (All-head P x (xs ++ ys) h) (first_part P xs ys (All-tail P x (xs ++ ys) h))

second_part : (P : Action → Type 0) (xs ys : List Action) → All P (xs ++ ys) → All P ys
second_part P [] ys h = h
second_part P (x ∷ xs) ys h = second_part P xs ys (All-tail P x (xs ++ ys) h)

of_branch : (P : Action → Type 0) (rule : Rule) (branch : Branch) → All P (rule_actions rule)
    → All P (branch_actions rule branch)
of_branch P rule Then h = first_part P rule.then_actions rule.else_actions h
of_branch P rule Otherwise h = second_part P rule.then_actions rule.else_actions h

HeldActions : TableSet → Rule → Type 0
HeldActions tables rule = All (λ action. HoldsTableOf tables action.what) (rule_actions rule)

held_by : (tables : TableSet) (o : Option Rule) (branch : Branch) (link : ℕ) (action : Action)
    → IfSome o (HeldActions tables) → rule_candidate o branch link ≡ Some action
    → HoldsTableOf tables action.what
unfolding HeldActions
held_by tables None branch link action h e = absurd (grind arith)
held_by tables (Some rule) branch link action h e =
    found (λ one. HoldsTableOf tables one.what) (λ one. one.link == link)
    (branch_actions rule branch) action
    (of_branch (λ one. HoldsTableOf tables one.what) rule branch h) e

each_at : (P : Rule → Type 0) (rules : List Rule) (number : ℕ) (o : Option Rule)
    → slice_get rules number ≡ o → All P rules → IfSome o P
each_at P rules number None e h = tt
each_at P rules number (Some rule) e h =
    subst P (get_or_from_slice_get rules number rule rule e)
    (All-get_or P rules number rule (slice_get_within rules number rule e) h)

-- the table that a candidate names is held
pub candidate_held : (tables : TableSet) (rules : List Rule) (number : ℕ) (branch : Branch)
    (link : ℕ) (action : Action) → HoldsTables tables rules
    → Some action ≡ candidate rules number branch link → HoldsTableOf tables action.what
unfolding candidate HeldActions
candidate_held tables rules number branch link action h e =
    held_by tables (slice_get rules number) branch link action
    (each_at (HeldActions tables) rules number (slice_get rules number) refl h) (sym e)

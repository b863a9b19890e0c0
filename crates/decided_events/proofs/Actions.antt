-- The first action of a branch on a link, and the actions of a rule.
use Rattle.std.proofs.Common.{◌≡◌, ℕ, zero, suc, ◌<◌, Bool, true, false, ◌==◌, nat_lt}
use Rattle.std.proofs.Common.{Option, Some, None, List, [], ◌∷◌, refl, sym, ap, subst, ◌∙◌, arith}
use Rattle.std.proofs.Common.{cond}
use Rattle.std.proofs.lemmas.Bool.{or_left, or_right, true≢false}
use Rattle.std.proofs.lemmas.Bool.Decides.{nat_tests}
use Rattle.std.proofs.lemmas.List.Folds.{list_any-append}
use Rattle.std.specs.List.{list_any, slice_get}
use Rattle.rule_types.specs.declared.action.Action.{Action}
use Rattle.rule_types.specs.declared.action.Branch.{Branch}
use Rattle.rule_types.specs.declared.action.Branch.TheVariants.{Then, Otherwise}
use Rattle.rule_types.specs.declared.rule.Rule.{Rule}
use Rattle.rule_types.specs.Reading.{branch_actions, rule_actions}
use Rattle.rule_meaning.specs.SomeRules.{rule_acts_on}
use Rattle.verdict_meaning.specs.Events.{first_on}
use Rattle.verdict_meaning.specs.Shown.{is_there}
use Rattle.decided_events.proofs.Lists.{any_at, none_some, some_same}

-- ---- the first action on a link
pub record FirstOn (link : ℕ) (actions : List Action) (action : Action) : Type 0 where
  pub at : ℕ
  pub is : slice_get actions at ≡ Some action
  pub passes : (action.link == link) ≡ true
  pub earlier :
      (j : ℕ) (other : Action) → j < at → slice_get actions j ≡ Some other
      → (other.link == link) ≡ false

earlier_by : (link : ℕ) (one : Action) (more : List Action) (at : ℕ)
    → (one.link == link) ≡ false
    → ((j : ℕ) (other : Action) → j < at → slice_get more j ≡ Some other
    → (other.link == link) ≡ false)
    → (j : ℕ) (other : Action) → j < suc at → slice_get (one ∷ more) j ≡ Some other
    → (other.link == link) ≡ false
earlier_by link one more at e earlier zero other h g =
    ap (λ action. action.link == link) (sym (some_same one other g)) ∙ e
earlier_by link one more at e earlier (suc j) other h g =
    earlier j other (omega (arith, h)) g

first_by : (link : ℕ) (one : Action) (more : List Action) (action : Action) (b : Bool)
    → (one.link == link) ≡ b → first_on link (one ∷ more) ≡ Some action
    → (first_on link more ≡ Some action → FirstOn link more action)
    → FirstOn link (one ∷ more) action
first_by link one more action true e h later =
    let is : Some one ≡ Some action =
    subst (λ c. cond c (Some one) (first_on link more) ≡ Some action) e h in
    record {
      at = 0;
      is = is;
      passes = ap (λ other. other.link == link) (sym (some_same one action is)) ∙ e;
      earlier = λ j other below g. absurd (omega (arith, below));
    }
first_by link one more action false e h later =
    let found =
    later (subst (λ c. cond c (Some one) (first_on link more) ≡ Some action) e h) in
    record {
      at = suc found.at;
      is = found.is;
      passes = found.passes;
      earlier = earlier_by link one more found.at e found.earlier;
    }

pub first_at : (link : ℕ) (actions : List Action) (action : Action)
    → first_on link actions ≡ Some action → FirstOn link actions action
first_at link [] action h = absurd (none_some action h)
first_at link (one ∷ more) action h =
    first_by link one more action (one.link == link) refl h (first_at link more action)

-- an action on the link does not stand before the first one
not_before_by : (link : ℕ) (actions : List Action) (action : Action)
    → (first : FirstOn link actions action) → (j : ℕ) (other : Action)
    → slice_get actions j ≡ Some other → (other.link == link) ≡ true → (b : Bool)
    → nat_lt j first.at ≡ b → b ≡ false
not_before_by link actions action first j other e h true is =
    let below : j < first.at = grind (arith, nat_tests, is) in
    absurd (true≢false (sym h ∙ first.earlier j other below e))
not_before_by link actions action first j other e h false is = refl

pub not_before : (link : ℕ) (actions : List Action) (action : Action)
    → (first : FirstOn link actions action) → (j : ℕ) (other : Action)
    → slice_get actions j ≡ Some other → (other.link == link) ≡ true
    → nat_lt j first.at ≡ false
not_before link actions action first j other e h =
    not_before_by link actions action first j other e h (nat_lt j first.at) refl

-- where an action is on the link, there is a first one
there_or : (b : Bool) (one : Action) (o : Option Action) → is_there o ≡ true
    → is_there (cond b (Some one) o) ≡ true
there_or true one o h = refl
there_or false one o h = h

pub there_by : (link : ℕ) (actions : List Action) (k : ℕ) (action : Action)
    → slice_get actions k ≡ Some action → (action.link == link) ≡ true
    → is_there (first_on link actions) ≡ true
there_by link [] k action e h = absurd (none_some action e)
there_by link (one ∷ more) zero action e h =
    ap (λ b. is_there (cond b (Some one) (first_on link more)))
    (ap (λ other. other.link == link) (some_same one action e) ∙ h)
there_by link (one ∷ more) (suc k) action e h =
    there_or (one.link == link) one (first_on link more) (there_by link more k action e h)

pub record Found (link : ℕ) (actions : List Action) : Type 0 where
  pub action : Action
  pub is : first_on link actions ≡ Some action

found_by : (link : ℕ) (actions : List Action) (o : Option Action) → first_on link actions ≡ o
    → is_there o ≡ true → Found link actions
found_by link actions None e h = absurd (true≢false (sym h))
found_by link actions (Some action) e h = record { action = action; is = e }

pub found : (link : ℕ) (actions : List Action) (k : ℕ) (action : Action)
    → slice_get actions k ≡ Some action → (action.link == link) ≡ true → Found link actions
found link actions k action e h =
    found_by link actions (first_on link actions) refl (there_by link actions k action e h)

-- ---- the actions of a branch are the rule's
pub any_branch : (p : Action → Bool) (rule : Rule) (branch : Branch)
    → list_any p (branch_actions rule branch) ≡ true → list_any p (rule_actions rule) ≡ true
any_branch p rule Then h =
    list_any-append p rule.then_actions rule.else_actions
    ∙ or_left (list_any p rule.then_actions) (list_any p rule.else_actions) h
any_branch p rule Otherwise h =
    list_any-append p rule.then_actions rule.else_actions
    ∙ or_right (list_any p rule.then_actions) (list_any p rule.else_actions) h

pub acts : (link : ℕ) (rule : Rule) (branch : Branch) (k : ℕ) (action : Action)
    → slice_get (branch_actions rule branch) k ≡ Some action → (action.link == link) ≡ true
    → rule_acts_on link rule ≡ true
acts link rule branch k action e h =
    any_branch (λ one. one.link == link) rule branch
    (any_at (λ one. one.link == link) (branch_actions rule branch) k action e h)

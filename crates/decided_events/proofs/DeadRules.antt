-- Where premises are decided and do not show that a rule is dead, it is alive.
use Rattle.std.proofs.Common.{◌≡◌, ℕ, true, false, ◌||◌, ◌==◌, Option, Some, None}
use Rattle.std.proofs.Common.{◌⊎◌, inl, inr, refl, sym, ap, subst, ◌∙◌}
use Rattle.std.proofs.lemmas.Bool.{and_cases, or_left, or_parts, or_right, true≢false}
use Rattle.std.specs.List.{list_all, list_any, slice_get}
use Rattle.rule_types.specs.declared.action.Action.{Action}
use Rattle.rule_types.specs.declared.action.ActionAt.{ActionAt}
use Rattle.rule_types.specs.declared.action.Branch.{Branch}
use Rattle.rule_types.specs.declared.action.Branch.TheVariants.{Then, Otherwise}
use Rattle.rule_types.specs.declared.rule.Rule.{Rule}
use Rattle.rule_types.specs.declared.rules.Rules.{Rules}
use Rattle.rule_types.specs.declared.state.State.{State}
use Rattle.rule_types.specs.Reading.{branch_actions}
use Rattle.rule_meaning.specs.Premise.{listed, listed_among, listed_branch}
use Rattle.rule_meaning.specs.Settled.{settled_on}
use Rattle.rule_meaning.specs.SomeRules.{rule_acts_on}
use Rattle.rule_meaning.proofs.PublicLaws.{listing-one_branch_each, settling-given}
use Rattle.rule_meaning.proofs.PublicLaws.{some_rules-listed}
use Rattle.verdict_meaning.specs.declared.question.Question.TheVariants.{Dead}
use Rattle.verdict_meaning.specs.Events.{actions_of, is_alive, is_pair_of}
use Rattle.verdict_meaning.specs.Questions.{asked_numbers, is_asked, share_link}
use Rattle.verdict_meaning.specs.Shown.{actions_in, dead_branch, dead_shown, is_preceded}
use Rattle.verdict_meaning.specs.Shown.{is_unlisted, KnownPremises}
use Rattle.decided_events.specs.DecidedPremises.{IsDecidedAt}
use Rattle.decided_events.proofs.Actions.{any_branch, found}
use Rattle.decided_events.proofs.Branches.{is_listed}
use Rattle.decided_events.proofs.Lists.{any_at, fails_in, test_of}
use Rattle.decided_events.proofs.SettledPairs.{AsksAllOn, have_rules, takes}

-- ---- an action of a branch that is listed, on a link where no preceding rule surely acts
record OpenAction (x : Rules) (known : KnownPremises) (number : ℕ) : Type 0 where
  rule : Rule
  rule_at : slice_get x.rules number ≡ Some rule
  branch : Branch
  place : ℕ
  action : Action
  action_is : slice_get (branch_actions rule branch) place ≡ Some action
  listed : is_unlisted known number branch ≡ false
  first : is_preceded x known number action.link ≡ false

open_action_by : (x : Rules) (known : KnownPremises) (number : ℕ) (branch : Branch)
    (o : Option Rule) → slice_get x.rules number ≡ o
    → list_all
    (λ action. is_unlisted known number branch || is_preceded x known number action.link)
    (actions_in o branch) ≡ false
    → OpenAction x known number
open_action_by x known number branch None e h = absurd (true≢false h)
open_action_by x known number branch (Some rule) e h =
    let one =
    fails_in (λ action. is_unlisted known number branch || is_preceded x known number action.link)
    (branch_actions rule branch) h in
    let parts =
    or_parts (is_unlisted known number branch) (is_preceded x known number one.one.link)
    one.fails in
    record {
      rule = rule;
      rule_at = e;
      branch = branch;
      place = one.place;
      action = one.one;
      action_is = one.is;
      listed = parts.0;
      first = parts.1;
    }

open_action : (x : Rules) (known : KnownPremises) (number : ℕ) (branch : Branch)
    → dead_branch x known number branch ≡ false → OpenAction x known number
unfolding dead_branch
open_action x known number branch h =
    open_action_by x known number branch (slice_get x.rules number) refl h

open_either : (x : Rules) (known : KnownPremises) (number : ℕ)
    → (dead_branch x known number Then ≡ false) ⊎ (dead_branch x known number Otherwise ≡ false)
    → OpenAction x known number
open_either x known number (inl h) = open_action x known number Then h
open_either x known number (inr h) = open_action x known number Otherwise h

open_dead : (x : Rules) (known : KnownPremises) (number : ℕ)
    → dead_shown x known number ≡ false → OpenAction x known number
unfolding dead_shown
open_dead x known number h =
    open_either x known number
    (and_cases (dead_branch x known number Then) (dead_branch x known number Otherwise) h)

-- ---- the question's rules are all that act on its links
asks_itself : (x : Rules) (number : ℕ) → is_asked x (Dead number) number ≡ true
unfolding is_asked
asks_itself x number =
    or_left (number == number) (share_link (slice_get x.rules number) (slice_get x.rules number))
    (test_of number number refl)

asks_all : (x : Rules) (number : ℕ) (rule : Rule) (branch : Branch) (place : ℕ)
    (action : Action) → slice_get x.rules number ≡ Some rule
    → slice_get (branch_actions rule branch) place ≡ Some action
    → AsksAllOn x (Dead number) action.link
unfolding AsksAllOn is_asked
asks_all x number rule branch place action e g other acting k h =
    or_right (other == number) (share_link (slice_get x.rules number) (slice_get x.rules other))
    (rw (e, k)
    (any_branch (λ one. rule_acts_on one.link acting) rule branch
    (any_at (λ one. rule_acts_on one.link acting) (branch_actions rule branch) place action g h)))

-- ---- the rule lives by a settled pair
pair_by : (number : ℕ) (at : ActionAt) (o : Option ActionAt) → o ≡ Some at → at.rule ≡ number
    → is_pair_of number o ≡ true
pair_by number at o e h = ap (is_pair_of number) e ∙ test_of at.rule number h

pair_of : (x : Rules) (s : State) (known : KnownPremises) (number : ℕ)
    → IsDecidedAt x (Dead number) s known → (one : OpenAction x known number)
    → is_pair_of number
    (settled_on x.rules (listed_among (asked_numbers x (Dead number)) x s) one.action.link)
    ≡ true
pair_of x s known number d one =
    let link = one.action.link in
    let all : AsksAllOn x (Dead number) link =
    asks_all x number one.rule one.branch one.place one.action one.rule_at one.action_is in
    let branch =
    is_listed x (Dead number) s known d number one.rule one.rule_at (asks_itself x number)
    one.branch one.listed in
    let candidate =
    found link (branch_actions one.rule (listed_branch x s one.rule)) one.place one.action
    (subst
    (λ b. slice_get (branch_actions one.rule b) one.place ≡ Some one.action) (sym branch)
    one.action_is)
    (test_of link link refl) in
    let taken =
    takes x (Dead number) s known d number link one.rule candidate.action one.rule_at
    candidate.is all one.first in
    pair_by number taken.at
    (settled_on x.rules (listed_among (asked_numbers x (Dead number)) x s) link)
    (some_rules-listed x s link (asked_numbers x (Dead number))
    (have_rules x (Dead number) link all)
    ∙ (settling-given x.rules (listed x s) link taken.at (listing-one_branch_each x s)).1
    taken.settled)
    taken.rule_is

pub alive_there : (x : Rules) (s : State) (known : KnownPremises) (number : ℕ)
    → IsDecidedAt x (Dead number) s known → dead_shown x known number ≡ false
    → is_alive x s (asked_numbers x (Dead number)) number ≡ true
unfolding is_alive
alive_there x s known number d h =
    let one = open_dead x known number h in
    let p =
    λ (action : Action).
    is_pair_of number
    (settled_on x.rules (listed_among (asked_numbers x (Dead number)) x s) action.link) in
    ap (λ o. list_any p (actions_of o)) one.rule_at
    ∙ any_branch p one.rule one.branch
    (any_at p (branch_actions one.rule one.branch) one.place one.action one.action_is
    (pair_of x s known number d one))

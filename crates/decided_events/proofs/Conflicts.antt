-- Where premises are decided and do not show that two rules have no conflict, they have one.
use Rattle.std.proofs.Common.{◌≡◌, ℕ, true, false, not, ◌&&◌, ◌||◌, ◌==◌, Option, Some, None}
use Rattle.std.proofs.Common.{List, ◌⊎◌, inl, inr, refl, sym, subst, ◌∙◌}
use Rattle.std.proofs.lemmas.Bool.{and_cases, and_from, not-false, or_left, or_parts, or_right}
use Rattle.std.proofs.lemmas.Bool.{true≢false}
use Rattle.std.specs.List.{slice_get}
use Rattle.exact_fraction.specs.Number.{Rational}
use Rattle.rule_types.specs.declared.action.Action.{Action}
use Rattle.rule_types.specs.declared.action.Branch.{Branch}
use Rattle.rule_types.specs.declared.action.Branch.TheVariants.{Then, Otherwise}
use Rattle.rule_types.specs.declared.condition.Condition.{Condition}
use Rattle.rule_types.specs.declared.names.NameDef.{NameDef}
use Rattle.rule_types.specs.declared.rule.Rule.{Rule}
use Rattle.rule_types.specs.declared.rules.Rules.{Rules}
use Rattle.rule_types.specs.declared.state.State.{State}
use Rattle.rule_meaning.specs.Worth.{rate_of}
use Rattle.verdict_meaning.specs.declared.question.Question.TheVariants.{Conflict}
use Rattle.verdict_meaning.specs.Events.{are_level, both_disagree, branch_at, candidate, disagree}
use Rattle.verdict_meaning.specs.Events.{is_conflict, rule_candidate}
use Rattle.verdict_meaning.specs.Premises.{conditions_of}
use Rattle.verdict_meaning.specs.Questions.{is_asked}
use Rattle.verdict_meaning.specs.Shown.{conflict_shown, is_unlisted, KnownPremises, pair_shown}
use Rattle.decided_events.specs.DecidedPremises.{IsDecidedAt}
use Rattle.decided_events.proofs.Branches.{branch_is, is_listed}
use Rattle.decided_events.proofs.Lists.{test_of}

-- ---- two branches that are not excluded disagree
record OpenPair (x : Rules) (known : KnownPremises) (first second link : ℕ) : Type 0 where
  branch : Branch
  other : Branch
  fails : pair_shown x known first branch second other link ≡ false

open_half : (x : Rules) (known : KnownPremises) (first second link : ℕ) (branch : Branch)
    → (pair_shown x known first branch second Then link ≡ false)
    ⊎ (pair_shown x known first branch second Otherwise link ≡ false)
    → OpenPair x known first second link
open_half x known first second link branch (inl h) =
    record { branch = branch; other = Then; fails = h }
open_half x known first second link branch (inr h) =
    record { branch = branch; other = Otherwise; fails = h }

open_by : (x : Rules) (known : KnownPremises) (first second link : ℕ)
    → ((pair_shown x known first Then second Then link
    && pair_shown x known first Then second Otherwise link) ≡ false)
    ⊎ ((pair_shown x known first Otherwise second Then link
    && pair_shown x known first Otherwise second Otherwise link) ≡ false)
    → OpenPair x known first second link
open_by x known first second link (inl h) =
    open_half x known first second link Then
    (and_cases (pair_shown x known first Then second Then link)
    (pair_shown x known first Then second Otherwise link) h)
open_by x known first second link (inr h) =
    open_half x known first second link Otherwise
    (and_cases (pair_shown x known first Otherwise second Then link)
    (pair_shown x known first Otherwise second Otherwise link) h)

-- ---- both rules are there
record RuleAt (x : Rules) (number : ℕ) : Type 0 where
  rule : Rule
  is : slice_get x.rules number ≡ Some rule

first_there : (x : Rules) (names : List NameDef) (rate : Rational)
    (conditions others : List Condition) (number : ℕ) (branch : Branch) (link : ℕ)
    (b : Option Action) (o : Option Rule) → slice_get x.rules number ≡ o
    → both_disagree names rate conditions others (rule_candidate o branch link) b ≡ true
    → RuleAt x number
first_there x names rate conditions others number branch link b None e h =
    absurd (true≢false (sym h))
first_there x names rate conditions others number branch link b (Some rule) e h =
    record { rule = rule; is = e }

none_disagrees : (names : List NameDef) (rate : Rational) (conditions others : List Condition)
    (a : Option Action) → both_disagree names rate conditions others a None ≡ true → ⊥
none_disagrees names rate conditions others None h = true≢false (sym h)
none_disagrees names rate conditions others (Some a) h = true≢false (sym h)

second_there : (x : Rules) (names : List NameDef) (rate : Rational)
    (conditions others : List Condition) (number : ℕ) (branch : Branch) (link : ℕ)
    (a : Option Action) (o : Option Rule) → slice_get x.rules number ≡ o
    → both_disagree names rate conditions others a (rule_candidate o branch link) ≡ true
    → RuleAt x number
second_there x names rate conditions others number branch link a None e h =
    absurd (none_disagrees names rate conditions others a h)
second_there x names rate conditions others number branch link a (Some rule) e h =
    record { rule = rule; is = e }

rule_first : (x : Rules) (first second link : ℕ) (branch other : Branch)
    → disagree x first branch second other link ≡ true → RuleAt x first
unfolding disagree candidate
rule_first x first second link branch other h =
    first_there x x.names (rate_of x link) (conditions_of (slice_get x.rules first))
    (conditions_of (slice_get x.rules second)) first branch link
    (rule_candidate (slice_get x.rules second) other link) (slice_get x.rules first) refl h

rule_second : (x : Rules) (first second link : ℕ) (branch other : Branch)
    → disagree x first branch second other link ≡ true → RuleAt x second
unfolding disagree candidate
rule_second x first second link branch other h =
    second_there x x.names (rate_of x link) (conditions_of (slice_get x.rules first))
    (conditions_of (slice_get x.rules second)) second other link
    (rule_candidate (slice_get x.rules first) branch link) (slice_get x.rules second) refl h

-- ---- both rules are the question's
asks_first : (x : Rules) (first second link : ℕ)
    → is_asked x (Conflict first second link) first ≡ true
unfolding is_asked
asks_first x first second link =
    or_left (first == first) (first == second) (test_of first first refl)

asks_second : (x : Rules) (first second link : ℕ)
    → is_asked x (Conflict first second link) second ≡ true
unfolding is_asked
asks_second x first second link =
    or_right (second == first) (second == second) (test_of second second refl)

-- ---- the conflict
pair_there : (x : Rules) (s : State) (known : KnownPremises) (first second link : ℕ)
    → IsDecidedAt x (Conflict first second link) s known → (branch other : Branch)
    → disagree x first branch second other link ≡ true
    → is_unlisted known first branch ≡ false → is_unlisted known second other ≡ false
    → disagree x first (branch_at x s first) second (branch_at x s second) link ≡ true
pair_there x s known first second link d branch other h g k =
    let one = rule_first x first second link branch other h in
    let two = rule_second x first second link branch other h in
    let first_is : branch_at x s first ≡ branch =
    branch_is x s first one.rule one.is
    ∙ is_listed x (Conflict first second link) s known d first one.rule one.is
    (asks_first x first second link) branch g in
    let second_is : branch_at x s second ≡ other =
    branch_is x s second two.rule two.is
    ∙ is_listed x (Conflict first second link) s known d second two.rule two.is
    (asks_second x first second link) other k in
    subst (λ b. disagree x first b second (branch_at x s second) link ≡ true) (sym first_is)
    (subst (λ b. disagree x first branch second b link ≡ true) (sym second_is) h)

pub conflict_there : (x : Rules) (s : State) (known : KnownPremises) (first second link : ℕ)
    → IsDecidedAt x (Conflict first second link) s known
    → conflict_shown x known first second link ≡ false
    → is_conflict x s first second link ≡ true
unfolding conflict_shown is_conflict
conflict_there x s known first second link d h =
    let p = λ (one : Branch) (two : Branch). pair_shown x known first one second two link in
    let parts =
    or_parts (not (are_level x.rules first second))
    ((p Then Then && p Then Otherwise) && (p Otherwise Then && p Otherwise Otherwise)) h in
    let pair =
    open_by x known first second link
    (and_cases (p Then Then && p Then Otherwise) (p Otherwise Then && p Otherwise Otherwise)
    parts.1) in
    let halves =
    or_parts (not (disagree x first pair.branch second pair.other link))
    (is_unlisted known first pair.branch || is_unlisted known second pair.other) pair.fails in
    let unlisted =
    or_parts (is_unlisted known first pair.branch) (is_unlisted known second pair.other)
    halves.1 in
    and_from (are_level x.rules first second)
    (disagree x first (branch_at x s first) second (branch_at x s second) link)
    (not-false (are_level x.rules first second) parts.0)
    (pair_there x s known first second link d pair.branch pair.other
    (not-false (disagree x first pair.branch second pair.other link) halves.0) unlisted.0
    unlisted.1)

-- What is known of the premises at a state excludes conflicts and living rules.
use Rattle.std.proofs.Common.{◌≡◌, ℕ, suc, ◌+◌, ◌<◌, Bool, true, false, not, ◌&&◌, ◌||◌, ◌==◌}
use Rattle.std.proofs.Common.{Option, Some, None, List, [], ◌∷◌, ◌⊎◌, inl, inr, IsTrue, length}
use Rattle.std.proofs.Common.{refl, sym, ap, subst, ◌∙◌, arith, cond, nat_lt, zero}
use Rattle.std.proofs.lemmas.Bool.Decides.{nat_tests}
use Rattle.std.proofs.lemmas.List.Elements.{Contains-get_or}
use Rattle.std.proofs.lemmas.List.FromFn.{get_or-range_with_len, length-range_with_len}
use Rattle.std.proofs.lemmas.Option.{slice_get_within}
use Rattle.std.proofs.lemmas.Bool.{and_parts, true≢false}
use Rattle.std.specs.List.{list_all, list_any, find, slice_get, Contains, filter, range_with_len}
use Rattle.rule_types.specs.declared.action.Action.{Action}
use Rattle.rule_types.specs.declared.action.ActionAt.{ActionAt}
use Rattle.rule_types.specs.declared.action.Branch.{Branch}
use Rattle.rule_types.specs.declared.action.Branch.TheVariants.{Then, Otherwise}
use Rattle.rule_types.specs.declared.rule.Rule.{Rule}
use Rattle.rule_types.specs.declared.rules.Rules.{Rules}
use Rattle.rule_types.specs.declared.state.State.{State}
use Rattle.rule_types.specs.Ranks.{precedes}
use Rattle.rule_types.specs.Reading.{branch_action, branch_actions, rule_actions}
use Rattle.rule_meaning.specs.Premise.{listed, listed_among, listed_branch, IsListed}
use Rattle.rule_meaning.specs.Settled.{action_at, acts_on, beats, is_on, priority_at, IsSettled}
use Rattle.rule_meaning.specs.Settled.{settled_on}
use Rattle.rule_meaning.specs.SomeRules.{is_among, rule_acts_on, HaveRulesOn}
use Rattle.rule_meaning.proofs.PublicLaws.{listing-listed, listing-one_branch_each}
use Rattle.rule_meaning.proofs.PublicLaws.{members-cases, members-first, members-later}
use Rattle.rule_meaning.proofs.PublicLaws.{settling-given, some_rules-listed}
use Rattle.verdict_meaning.specs.declared.question.Question.{Question}
use Rattle.verdict_meaning.specs.declared.question.Question.TheVariants.{Dead}
use Rattle.verdict_meaning.specs.Events.{are_level, branch_at, branch_listed, candidate, disagree}
use Rattle.verdict_meaning.specs.Events.{actions_of, first_on, is_alive, is_conflict, is_pair_of}
use Rattle.verdict_meaning.specs.Events.{priority_of, rule_candidate}
use Rattle.verdict_meaning.specs.Questions.{all_numbers, asked_numbers, is_asked, share_link}
use Rattle.verdict_meaning.specs.Shown.{KnownPremises, IsKnownAt, is_unlisted, is_there}
use Rattle.verdict_meaning.specs.Shown.{has_candidate, surely_acts, rule_precedes, is_preceded}
use Rattle.verdict_meaning.specs.Shown.{pair_shown, conflict_shown, actions_in, dead_branch}
use Rattle.verdict_meaning.specs.Shown.{dead_shown}
use Rattle.verdict_meaning.proofs.Tests.{or_cases, or_left, or_right, passes_not}

-- ---- branches
abbrev is_then : Branch → Bool
is_then Then = true
is_then Otherwise = false

branches_differ : Then ≡ Otherwise → ⊥
branches_differ e = true≢false (ap is_then e)

pub listed_not : (x : Rules) (s : State) (known : KnownPremises) → IsKnownAt x s known
    → (number : ℕ) (branch : Branch) → is_unlisted known number branch ≡ true
    → branch_at x s number ≡ branch → ⊥
listed_not x s known k number Then h e = branches_differ (sym e ∙ k.fails number h)
listed_not x s known k number Otherwise h e = branches_differ (sym (k.holds number h) ∙ e)

-- ---- conflicts
neither_by : (x : Rules) (s : State) (known : KnownPremises) → IsKnownAt x s known → (first : ℕ)
    (branch : Branch) (second : ℕ) (other : Branch) → branch_at x s first ≡ branch
    → branch_at x s second ≡ other
    → (is_unlisted known first branch ≡ true) ⊎ (is_unlisted known second other ≡ true) → ⊥
neither_by x s known k first branch second other e g (inl h) =
    listed_not x s known k first branch h e
neither_by x s known k first branch second other e g (inr h) =
    listed_not x s known k second other h g

pair_by : (x : Rules) (s : State) (known : KnownPremises) → IsKnownAt x s known → (first : ℕ)
    (branch : Branch) (second : ℕ) (other : Branch) (link : ℕ) → branch_at x s first ≡ branch
    → branch_at x s second ≡ other → disagree x first branch second other link ≡ true
    → (not (disagree x first branch second other link) ≡ true)
    ⊎ ((is_unlisted known first branch || is_unlisted known second other) ≡ true) → ⊥
pair_by x s known k first branch second other link e g d (inl h) =
    passes_not (disagree x first branch second other link) d h
pair_by x s known k first branch second other link e g d (inr h) =
    neither_by x s known k first branch second other e g
    (or_cases (is_unlisted known first branch) (is_unlisted known second other) h)

one_of : (x : Rules) (known : KnownPremises) (first second link : ℕ)
    → pair_shown x known first Then second Then link ≡ true
    → pair_shown x known first Then second Otherwise link ≡ true
    → pair_shown x known first Otherwise second Then link ≡ true
    → pair_shown x known first Otherwise second Otherwise link ≡ true → (branch other : Branch)
    → pair_shown x known first branch second other link ≡ true
one_of x known first second link a b c d Then Then = a
one_of x known first second link a b c d Then Otherwise = b
one_of x known first second link a b c d Otherwise Then = c
one_of x known first second link a b c d Otherwise Otherwise = d

all_pairs : (x : Rules) (known : KnownPremises) (first second link : ℕ) (branch other : Branch)
    → ((pair_shown x known first Then second Then link
    && pair_shown x known first Then second Otherwise link)
    && (pair_shown x known first Otherwise second Then link
    && pair_shown x known first Otherwise second Otherwise link)) ≡ true
    → pair_shown x known first branch second other link ≡ true
all_pairs x known first second link branch other h =
    let p = λ (one : Branch) (two : Branch). pair_shown x known first one second two link in
    let halves =
    and_parts (p Then Then && p Then Otherwise) (p Otherwise Then && p Otherwise Otherwise) h in
    let upper = and_parts (p Then Then) (p Then Otherwise) halves.0 in
    let lower = and_parts (p Otherwise Then) (p Otherwise Otherwise) halves.1 in
    one_of x known first second link upper.0 upper.1 lower.0 lower.1 branch other

conflict_by : (x : Rules) (s : State) (known : KnownPremises) → IsKnownAt x s known
    → (first second link : ℕ) → are_level x.rules first second ≡ true
    → disagree x first (branch_at x s first) second (branch_at x s second) link ≡ true
    → (not (are_level x.rules first second) ≡ true)
    ⊎ (((pair_shown x known first Then second Then link
    && pair_shown x known first Then second Otherwise link)
    && (pair_shown x known first Otherwise second Then link
    && pair_shown x known first Otherwise second Otherwise link)) ≡ true) → ⊥
conflict_by x s known k first second link l d (inl h) =
    passes_not (are_level x.rules first second) l h
conflict_by x s known k first second link l d (inr h) =
    let one = branch_at x s first in
    let two = branch_at x s second in
    pair_by x s known k first one second two link refl refl d
    (or_cases (not (disagree x first one second two link))
    (is_unlisted known first one || is_unlisted known second two)
    (all_pairs x known first second link one two h))

pub no_conflict : (x : Rules) (s : State) (known : KnownPremises) → IsKnownAt x s known
    → (first second link : ℕ) → conflict_shown x known first second link ≡ true
    → is_conflict x s first second link ≡ true → ⊥
unfolding conflict_shown is_conflict
no_conflict x s known k first second link h event =
    let parts =
    and_parts (are_level x.rules first second)
    (disagree x first (branch_at x s first) second (branch_at x s second) link) event in
    conflict_by x s known k first second link parts.0 parts.1
    (or_cases (not (are_level x.rules first second))
    ((pair_shown x known first Then second Then link
    && pair_shown x known first Then second Otherwise link)
    && (pair_shown x known first Otherwise second Then link
    && pair_shown x known first Otherwise second Otherwise link)) h)

-- ---- rules that surely act on a link list a pair there
record FoundOn (link : ℕ) (actions : List Action) : Type 0 where
  pub at : ℕ
  pub action : Action
  pub is : slice_get actions at ≡ Some action
  pub passes : (action.link == link) ≡ true
  pub within : at < length actions

found_by : (link : ℕ) (action : Action) (more : List Action) (b : Bool) → (action.link == link) ≡ b
    → is_there (first_on link (action ∷ more)) ≡ true
    → (is_there (first_on link more) ≡ true → FoundOn link more)
    → FoundOn link (action ∷ more)
found_by link action more true e h later =
    record { at = 0; action = action; is = refl; passes = e; within = omega arith }
found_by link action more false e h later =
    let rest : is_there (first_on link more) ≡ true =
    subst (λ c. is_there (cond c (Some action) (first_on link more)) ≡ true) e h in
    let found = later rest in
    record {
      at = suc found.at;
      action = found.action;
      is = found.is;
      passes = found.passes;
      within = omega (arith, found.within);
    }

found_on : (link : ℕ) (actions : List Action) → is_there (first_on link actions) ≡ true
    → FoundOn link actions
found_on link [] h = absurd (true≢false (sym h))
found_on link (action ∷ more) h =
    found_by link action more (action.link == link) refl h (found_on link more)

pub record Rival (x : Rules) (s : State) (link number : ℕ) : Type 0 where
  pub pair : ActionAt
  pub member : Contains (listed x s) pair
  pub on_link : IsTrue (is_on x.rules link pair)
  pub rule_is : pair.rule ≡ number

on_by : (rules : List Rule) (link : ℕ) (at : ActionAt) (rule : Rule) (action : Action)
    → slice_get rules at.rule ≡ Some rule
    → slice_get (branch_actions rule at.branch) at.action ≡ Some action
    → (action.link == link) ≡ true → IsTrue (is_on rules link at)
unfolding is_on action_at
on_by rules link at rule action e g h = rw e (rw g h)

rival_by : (x : Rules) (s : State) (link number : ℕ) (o : Option Rule)
    → slice_get x.rules number ≡ o
    → is_there (rule_candidate o (branch_listed x s o) link) ≡ true → Rival x s link number
rival_by x s link number None e h = absurd (true≢false (sym h))
rival_by x s link number (Some rule) e h =
    let found = found_on link (branch_actions rule (listed_branch x s rule)) h in
    let at : ActionAt =
    record { rule = number; branch = listed_branch x s rule; action = found.at } in
    record {
      pair = at;
      member =
          (listing-listed x s at).1
          (record { rule = rule; is = e; branch = refl; action = found.within });
      on_link = on_by x.rules link at rule found.action e found.is found.passes;
      rule_is = refl;
    }

rival : (x : Rules) (s : State) (link number : ℕ)
    → has_candidate x number (branch_at x s number) link ≡ true → Rival x s link number
unfolding candidate
rival x s link number h = rival_by x s link number (slice_get x.rules number) refl h

has_either : (x : Rules) (number link : ℕ) (branch : Branch)
    → has_candidate x number Then link ≡ true → has_candidate x number Otherwise link ≡ true
    → has_candidate x number branch link ≡ true
has_either x number link Then h g = h
has_either x number link Otherwise h g = g

acts_one : (x : Rules) (s : State) (known : KnownPremises) → IsKnownAt x s known
    → (number link : ℕ)
    → ((has_candidate x number Then link && known.holds number) ≡ true)
    ⊎ ((has_candidate x number Otherwise link && known.fails number) ≡ true)
    → has_candidate x number (branch_at x s number) link ≡ true
acts_one x s known k number link (inl h) =
    let parts = and_parts (has_candidate x number Then link) (known.holds number) h in
    subst (λ branch. has_candidate x number branch link ≡ true) (sym (k.holds number parts.1))
    parts.0
acts_one x s known k number link (inr h) =
    let parts = and_parts (has_candidate x number Otherwise link) (known.fails number) h in
    subst (λ branch. has_candidate x number branch link ≡ true) (sym (k.fails number parts.1))
    parts.0

acts_by : (x : Rules) (s : State) (known : KnownPremises) → IsKnownAt x s known
    → (number link : ℕ)
    → (((has_candidate x number Then link && known.holds number)
    || (has_candidate x number Otherwise link && known.fails number)) ≡ true)
    ⊎ ((has_candidate x number Then link && has_candidate x number Otherwise link) ≡ true)
    → has_candidate x number (branch_at x s number) link ≡ true
acts_by x s known k number link (inl h) =
    acts_one x s known k number link
    (or_cases (has_candidate x number Then link && known.holds number)
    (has_candidate x number Otherwise link && known.fails number) h)
acts_by x s known k number link (inr h) =
    let parts =
    and_parts (has_candidate x number Then link) (has_candidate x number Otherwise link) h in
    has_either x number link (branch_at x s number) parts.0 parts.1

acts : (x : Rules) (s : State) (known : KnownPremises) → IsKnownAt x s known → (number link : ℕ)
    → surely_acts x known number link ≡ true
    → has_candidate x number (branch_at x s number) link ≡ true
unfolding surely_acts
acts x s known k number link h =
    acts_by x s known k number link
    (or_cases
    ((has_candidate x number Then link && known.holds number)
    || (has_candidate x number Otherwise link && known.fails number))
    (has_candidate x number Then link && has_candidate x number Otherwise link) h)

-- ---- a settled pair's rule is preceded by none that surely acts on its link
either_none : {P Q : Type 0} → P ⊎ Q → (P → ⊥) → (Q → ⊥) → ⊥
either_none (inl h) f g = f h
either_none (inr h) f g = g h

any_none : {A : Type 0} (p : A → Bool) (xs : List A) → ((x : A) → p x ≡ true → ⊥)
    → list_any p xs ≡ true → ⊥
any_none p [] none h = true≢false (sym h)
any_none p (x ∷ xs) none h =
    either_none (or_cases (p x) (list_any p xs) h) (none x) (any_none p xs none)

beats_by : (x : Rules) (p q : ActionAt) (other number : ℕ) → p.rule ≡ other → q.rule ≡ number
    → rule_precedes x other number ≡ true → beats x.rules p q ≡ true
unfolding beats priority_at rule_precedes
beats_by x p q other number e g h =
    or_left
    (precedes (priority_of x.rules p.rule) p.rule (priority_of x.rules q.rule) q.rule)
    (p.rule == q.rule && nat_lt p.action q.action)
    (subst
    (λ n. precedes (priority_of x.rules p.rule) p.rule (priority_of x.rules n) n ≡ true) (sym g)
    (subst
    (λ n. precedes (priority_of x.rules n) n (priority_of x.rules number) number ≡ true) (sym e)
    h))

pub not_preceded : (x : Rules) (s : State) (known : KnownPremises) → IsKnownAt x s known
    → (number link : ℕ) (at : ActionAt) → at.rule ≡ number
    → IsSettled x.rules (listed x s) link at → is_preceded x known number link ≡ true → ⊥
unfolding is_preceded
not_preceded x s known k number link at e settled h =
    any_none (λ other. rule_precedes x other number && surely_acts x known other link)
    (all_numbers x)
    (λ other both.
    let parts =
    and_parts (rule_precedes x other number) (surely_acts x known other link) both in
    let one = rival x s link other (acts x s known k other link parts.1) in
    true≢false
    (sym (beats_by x one.pair at other number one.rule_is e parts.0)
    ∙ settled.unbeaten one.pair one.member one.on_link))
    h

-- ---- a rule that is shown to be dead has no settled pair
all_at : {A : Type 0} (p : A → Bool) (xs : List A) (k : ℕ) (x : A) → list_all p xs ≡ true
    → slice_get xs k ≡ Some x → p x ≡ true
all_at p [] k x h e = grind arith
all_at p (y ∷ ys) zero x h e =
    let same : y ≡ x = grind arith in ap p (sym same) ∙ (and_parts (p y) (list_all p ys) h).0
all_at p (y ∷ ys) (suc k) x h e = all_at p ys k x (and_parts (p y) (list_all p ys) h).1 e

pub record ActionOn (rule : Rule) (link : ℕ) (at : ActionAt) : Type 0 where
  pub action : Action
  pub is : slice_get (branch_actions rule at.branch) at.action ≡ Some action
  pub link_is : action.link ≡ link

action_by : (rule : Rule) (link : ℕ) (at : ActionAt) (o : Option Action)
    → slice_get (branch_actions rule at.branch) at.action ≡ o → acts_on link o ≡ true
    → ActionOn rule link at
action_by rule link at None e h = absurd (true≢false (sym h))
action_by rule link at (Some action) e h =
    record { action = action; is = e; link_is = grind (arith, nat_tests) }

on_of : (rules : List Rule) (link : ℕ) (at : ActionAt) (rule : Rule)
    → slice_get rules at.rule ≡ Some rule → is_on rules link at ≡ true
    → acts_on link (slice_get (branch_actions rule at.branch) at.action) ≡ true
unfolding is_on action_at
on_of rules link at rule e h = subst (λ o. acts_on link (branch_action at o) ≡ true) e h

pub action_on : (rules : List Rule) (link : ℕ) (at : ActionAt) (rule : Rule)
    → slice_get rules at.rule ≡ Some rule → is_on rules link at ≡ true → ActionOn rule link at
action_on rules link at rule e h =
    action_by rule link at (slice_get (branch_actions rule at.branch) at.action) refl
    (on_of rules link at rule e h)

pub branch_is : (x : Rules) (s : State) (number : ℕ) (rule : Rule)
    → slice_get x.rules number ≡ Some rule → branch_at x s number ≡ listed_branch x s rule
branch_is x s number rule e = ap (branch_listed x s) e

one_action : (x : Rules) (known : KnownPremises) (number : ℕ) (branch : Branch) (rule : Rule)
    (k : ℕ) (action : Action) → slice_get x.rules number ≡ Some rule
    → slice_get (branch_actions rule branch) k ≡ Some action
    → dead_branch x known number branch ≡ true
    → (is_unlisted known number branch || is_preceded x known number action.link) ≡ true
unfolding dead_branch
one_action x known number branch rule k action e g h =
    all_at (λ one. is_unlisted known number branch || is_preceded x known number one.link)
    (branch_actions rule branch) k action
    (subst
    (λ o.
    list_all
    (λ one. is_unlisted known number branch || is_preceded x known number one.link)
    (actions_in o branch) ≡ true)
    e h)
    g

dead_or : (x : Rules) (s : State) (known : KnownPremises) → IsKnownAt x s known
    → (number link : ℕ) (at : ActionAt) → at.rule ≡ number
    → IsSettled x.rules (listed x s) link at → branch_at x s number ≡ at.branch
    → (is_unlisted known number at.branch ≡ true) ⊎ (is_preceded x known number link ≡ true) → ⊥
dead_or x s known k number link at e settled b (inl h) =
    listed_not x s known k number at.branch h b
dead_or x s known k number link at e settled b (inr h) =
    not_preceded x s known k number link at e settled h

dead_at : (x : Rules) (s : State) (known : KnownPremises) → IsKnownAt x s known
    → (number link : ℕ) (at : ActionAt) → at.rule ≡ number
    → IsSettled x.rules (listed x s) link at → dead_branch x known number at.branch ≡ true → ⊥
dead_at x s known k number link at e settled h =
    let is_listed = (listing-listed x s at).0 settled.member in
    let found = action_on x.rules link at is_listed.rule is_listed.is settled.on_link in
    let is : slice_get x.rules number ≡ Some is_listed.rule =
    subst (λ n. slice_get x.rules n ≡ Some is_listed.rule) e is_listed.is in
    let both =
    one_action x known number at.branch is_listed.rule at.action found.action is found.is h in
    dead_or x s known k number link at e settled
    (branch_is x s number is_listed.rule is ∙ sym is_listed.branch)
    (or_cases (is_unlisted known number at.branch) (is_preceded x known number link)
    (subst
    (λ n. (is_unlisted known number at.branch || is_preceded x known number n) ≡ true)
    found.link_is both))

dead_half : (x : Rules) (known : KnownPremises) (number : ℕ) (branch : Branch)
    → dead_branch x known number Then ≡ true → dead_branch x known number Otherwise ≡ true
    → dead_branch x known number branch ≡ true
dead_half x known number Then h g = h
dead_half x known number Otherwise h g = g

pub none_settled : (x : Rules) (s : State) (known : KnownPremises) → IsKnownAt x s known
    → (number link : ℕ) (at : ActionAt) → at.rule ≡ number
    → IsSettled x.rules (listed x s) link at → dead_shown x known number ≡ true → ⊥
unfolding dead_shown
none_settled x s known k number link at e settled h =
    let parts =
    and_parts (dead_branch x known number Then) (dead_branch x known number Otherwise) h in
    dead_at x s known k number link at e settled
    (dead_half x known number at.branch parts.0 parts.1)

-- ---- the question's rules are all that act on its links
pub none_in : {A : Type 0} (x : A) → Contains [] x → ⊥
none_in x c = omega (arith, c.1)

any_by : {A : Type 0} (p : A → Bool) (y : A) (ys : List A) (x : A) → p x ≡ true
    → (Contains ys x → list_any p ys ≡ true) → (y ≡ x) ⊎ Contains ys x
    → list_any p (y ∷ ys) ≡ true
any_by p y ys x h later (inl e) = or_left (p y) (list_any p ys) (ap p e ∙ h)
any_by p y ys x h later (inr c) = or_right (p y) (list_any p ys) (later c)

any_of : {A : Type 0} (p : A → Bool) (xs : List A) (x : A) → Contains xs x → p x ≡ true
    → list_any p xs ≡ true
any_of p [] x c h = absurd (none_in x c)
any_of p (y ∷ ys) x c h =
    any_by p y ys x h (λ later. any_of p ys x later h) (members-cases y ys x c)

kept_by : (test : ℕ → Bool) (y : ℕ) (ys : List ℕ) (n : ℕ) (b : Bool) → test y ≡ b
    → test n ≡ true → (Contains ys n → list_any (λ other. n == other) (filter test ys) ≡ true)
    → (y ≡ n) ⊎ Contains ys n → list_any (λ other. n == other) (filter test (y ∷ ys)) ≡ true
kept_by test y ys n true e h later (inl same) =
    let first : (n == y) ≡ true = grind (arith, nat_tests) in
    rw e (or_left (n == y) (list_any (λ other. n == other) (filter test ys)) first)
kept_by test y ys n true e h later (inr c) =
    rw e (or_right (n == y) (list_any (λ other. n == other) (filter test ys)) (later c))
kept_by test y ys n false e h later (inl same) =
    absurd (true≢false (sym h ∙ (ap test (sym same) ∙ e)))
kept_by test y ys n false e h later (inr c) = rw e (later c)

kept : (test : ℕ → Bool) (xs : List ℕ) (n : ℕ) → Contains xs n → test n ≡ true
    → list_any (λ other. n == other) (filter test xs) ≡ true
kept test [] n c h = absurd (none_in n c)
kept test (y ∷ ys) n c h =
    kept_by test y ys n (test y) refl h (λ later. kept test ys n later h)
    (members-cases y ys n c)

pub numbered : (n count : ℕ) → n < count → Contains (range_with_len 0 count) n
numbered n count h =
    let from_zero : 0 + n ≡ n = omega arith in
    subst (Contains (range_with_len 0 count)) (get_or-range_with_len 0 count n 0 h ∙ from_zero)
    (Contains-get_or (range_with_len 0 count) n 0
    (subst (λ m. n < m) (sym (length-range_with_len 0 count)) h))

pub asked_in : (x : Rules) (question : Question) (number : ℕ) → number < length x.rules
    → is_asked x question number ≡ true → IsTrue (is_among (asked_numbers x question) number)
unfolding asked_numbers
asked_in x question number within h =
    kept (is_asked x question) (all_numbers x) number (numbered number (length x.rules) within) h

shared : (x : Rules) (number : ℕ) (rule : Rule) (other : ℕ) (acting : Rule) (action : Action)
    → slice_get x.rules number ≡ Some rule → slice_get x.rules other ≡ Some acting
    → Contains (rule_actions rule) action → rule_acts_on action.link acting ≡ true
    → is_asked x (Dead number) other ≡ true
unfolding is_asked
shared x number rule other acting action e g c h =
    or_right (other == number) (share_link (slice_get x.rules number) (slice_get x.rules other))
    (rw (e, g) (any_of (λ one. rule_acts_on one.link acting) (rule_actions rule) action c h))

have_rules : (x : Rules) (number : ℕ) (rule : Rule) (action : Action)
    → slice_get x.rules number ≡ Some rule → Contains (rule_actions rule) action
    → HaveRulesOn x.rules action.link (asked_numbers x (Dead number))
have_rules x number rule action e c = record {
  each = λ other acting g h.
      asked_in x (Dead number) other (slice_get_within x.rules other acting g)
      (shared x number rule other acting action e g c h);
}

any_in : {A : Type 0} (p : A → Bool) (xs : List A)
    → ((x : A) → Contains xs x → p x ≡ true → ⊥) → list_any p xs ≡ true → ⊥
any_in p [] none h = true≢false (sym h)
any_in p (y ∷ ys) none h =
    either_none (or_cases (p y) (list_any p ys) h) (none y (members-first y ys))
    (any_in p ys (λ x later. none x (members-later y ys x later)))

pair_is : (number : ℕ) (o : Option ActionAt) → is_pair_of number o ≡ true
    → (at : ActionAt) × (o ≡ Some at) × (at.rule ≡ number)
pair_is number None h = absurd (true≢false (sym h))
pair_is number (Some at) h = (at, refl, grind (arith, nat_tests))

life_by : (x : Rules) (s : State) (known : KnownPremises) → IsKnownAt x s known → (number : ℕ)
    → dead_shown x known number ≡ true → (o : Option Rule) → slice_get x.rules number ≡ o
    → list_any
    (λ action.
    is_pair_of number
    (settled_on x.rules (listed_among (asked_numbers x (Dead number)) x s) action.link))
    (actions_of o) ≡ true
    → ⊥
life_by x s known k number h None e event = true≢false (sym event)
life_by x s known k number h (Some rule) e event =
    any_in
    (λ action.
    is_pair_of number
    (settled_on x.rules (listed_among (asked_numbers x (Dead number)) x s) action.link))
    (rule_actions rule)
    (λ action c is.
    let whole =
    some_rules-listed x s action.link (asked_numbers x (Dead number))
    (have_rules x number rule action e c) in
    let found =
    pair_is number (settled_on x.rules (listed x s) action.link)
    (subst (λ o. is_pair_of number o ≡ true) whole is) in
    none_settled x s known k number action.link found.0 found.2
    ((settling-given x.rules (listed x s) action.link found.0
    (listing-one_branch_each x s)).0 found.1)
    h)
    event

pub no_life : (x : Rules) (s : State) (known : KnownPremises) → IsKnownAt x s known → (number : ℕ)
    → dead_shown x known number ≡ true
    → is_alive x s (asked_numbers x (Dead number)) number ≡ true → ⊥
unfolding is_alive
no_life x s known k number h event =
    life_by x s known k number h (slice_get x.rules number) refl event

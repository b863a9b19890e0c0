-- Where a limit is shown by what is known at a state of the box, the state does not have its event.
use Rattle.std.proofs.Common.{◌≡◌, ℕ, zero, suc, ◌<◌, Bool, true, false, not, ◌&&◌, ◌||◌, ◌==◌}
use Rattle.std.proofs.Common.{Option, Some, None, List, [], ◌∷◌, ◌⊎◌, inl, inr, Result, Ok, Err}
use Rattle.std.proofs.Common.{refl, sym, subst, ap, ◌∙◌, arith, cond, length, nat_lt, ◌-◌, ◌++◌}
use Rattle.std.specs.Prelude.{IsTrue, IfOk, IfSome, slice_get, option_and_then, if◌then◌else◌}
use Rattle.std.specs.List.{All, AllByRecursion, Contains, find, list_all, list_any}
use Rattle.std.proofs.lemmas.Bool.{and_from, and_parts, true≢false}
use Rattle.std.proofs.lemmas.Bool.Decides.{nat_tests}
use Rattle.std.proofs.lemmas.List.Elements.{All-from_recursion, recursion_from_All}
use Rattle.std.proofs.lemmas.List.Folds.{list_any-append}
use Rattle.std.proofs.lemmas.Option.{get_or_from_slice_get, slice_get_within}
use Rattle.exact_fraction.specs.Number.{Rational}
use Rattle.exact_fraction.specs.declared.error.Overflow.{Overflow}
use Rattle.interval_sets.specs.declared.interval.Interval.{Interval}
use Rattle.interval_sets.specs.Intervals.{has_member, lies_in, overlap_of}
use Rattle.interval_sets.proofs.PublicLaws.{intervals-overlap, normal_form-not_empty}
use Rattle.rule_types.specs.declared.action.Action.{Action}
use Rattle.rule_types.specs.declared.action.ActionAt.{ActionAt}
use Rattle.rule_types.specs.declared.action.Branch.{Branch}
use Rattle.rule_types.specs.declared.action.Branch.TheVariants.{Then, Otherwise}
use Rattle.rule_types.specs.declared.action.PidMemory.{PidMemory}
use Rattle.rule_types.specs.declared.condition.Condition.{Condition}
use Rattle.rule_types.specs.declared.key.Attr.TheVariants.{Setting}
use Rattle.rule_types.specs.declared.rule.Rule.{Rule}
use Rattle.rule_types.specs.declared.rules.Rules.{Rules}
use Rattle.rule_types.specs.declared.state.LinkState.{LinkState}
use Rattle.rule_types.specs.declared.state.State.{State}
use Rattle.rule_types.specs.Ranks.{precedes}
use Rattle.rule_types.specs.Reading.{branch_action, branch_actions, rule_actions}
use Rattle.rule_types.specs.Tables.{HoldsTableOf, HoldsTables, TableSet}
use Rattle.rule_meaning.specs.Formula.{names_stop_for}
use Rattle.rule_meaning.specs.Premise.{listed, listed_among, listed_branch, IsListed}
use Rattle.rule_meaning.specs.Reading.{action_worth, conditions_at}
use Rattle.rule_meaning.specs.Settled.{action_at, beats, is_on, IsSettled, priority_at, settled_on}
use Rattle.rule_meaning.specs.SomeRules.{HaveRulesOn, is_among, rule_acts_on}
use Rattle.rule_meaning.specs.State.{link_state, link_value, value}
use Rattle.rule_meaning.specs.Worth.{capped, last_of, old_target, rate_of, target_or_zero}
use Rattle.rule_meaning.specs.Worth.{what_worth, worth}
use Rattle.rule_meaning.proofs.PublicLaws.{last_conditions-at_end, listing-listed}
use Rattle.rule_meaning.proofs.PublicLaws.{listing-one_branch_each, members-cases, settling-given}
use Rattle.rule_meaning.proofs.PublicLaws.{some_rules-listed}
use Rattle.verdict_meaning.specs.declared.cell.Cell.{Cell}
use Rattle.verdict_meaning.specs.declared.question.Question.{Question}
use Rattle.verdict_meaning.specs.declared.question.Question.TheVariants.{Limit}
use Rattle.verdict_meaning.specs.ActionHulls.{stays_within}
use Rattle.verdict_meaning.specs.Boxes.{IsStateIn}
use Rattle.verdict_meaning.specs.Events.{branch_at, candidate, first_on, is_outside, is_past}
use Rattle.verdict_meaning.specs.Events.{leads_outside, rule_candidate, stands_within}
use Rattle.verdict_meaning.specs.Hulls.{closed}
use Rattle.verdict_meaning.specs.Premises.{conditions_of}
use Rattle.verdict_meaning.specs.Questions.{acts_there, all_numbers, asked_numbers, asked_rules}
use Rattle.verdict_meaning.specs.Questions.{is_asked, setting_key}
use Rattle.verdict_meaning.specs.Reaches.{piece_in}
use Rattle.verdict_meaning.specs.Shown.{branch_safe, candidate_safe, is_preceded, is_unlisted}
use Rattle.verdict_meaning.specs.Shown.{IsKnownAt, KnownPremises, limit_shown, meets_limit}
use Rattle.verdict_meaning.proofs.ConditionTruths.{SideGoesOn}
use Rattle.verdict_meaning.proofs.Excludes.{action_on, ActionOn, asked_in, branch_is, listed_not}
use Rattle.verdict_meaning.proofs.Excludes.{none_in, not_preceded, numbered}
use Rattle.verdict_meaning.proofs.KeyReaches.{found_key}
use Rattle.verdict_meaning.proofs.KnownTruths.{asked_place, condition_goes_on}
use Rattle.verdict_meaning.proofs.Tests.{or_cases, or_left, or_right, passes_not}
use Rattle.verdict_meaning.proofs.WorthKept.{LastGoesOn, worth_stays}

-- ---- the settled pair's action is the branch's candidate
first_found : {A : Type 0} (p : A → Bool) (xs : List A) (k : ℕ) (one : A)
    → slice_get xs k ≡ Some one → p one ≡ true
    → ((j : ℕ) (other : A) → j < k → slice_get xs j ≡ Some other → p other ≡ false)
    → find p xs ≡ Some one
first_found p [] k one e h none = absurd (grind arith)
first_found p (y ∷ ys) zero one e h none =
    let is : y ≡ one = grind arith in
    ap (λ b. cond b (Some y) (find p ys)) (ap p is ∙ h) ∙ ap (λ a. Some a) is
first_found p (y ∷ ys) (suc k) one e h none =
    ap (λ b. cond b (Some y) (find p ys)) (none 0 y (omega arith) refl)
    ∙ first_found p ys k one e h (λ j other less_k g. none (suc j) other (omega (arith, less_k)) g)

-- an earlier action of the branch is not on the link
beaten_by : (rules : List Rule) (rule : ℕ) (branch : Branch) (j k : ℕ) → j < k
    → beats rules (record { rule = rule; branch = branch; action = j })
    (record { rule = rule; branch = branch; action = k }) ≡ true
unfolding beats
beaten_by rules rule branch j k h =
    let same : (rule == rule) ≡ true = grind (arith, nat_tests) in
    let earlier : nat_lt j k ≡ true = grind (arith, nat_tests, h) in
    or_right
    (precedes (priority_at rules (record { rule = rule; branch = branch; action = j })) rule
    (priority_at rules (record { rule = rule; branch = branch; action = k })) rule)
    (rule == rule && nat_lt j k) (and_from (rule == rule) (nat_lt j k) same earlier)

on_link_by : (rules : List Rule) (link : ℕ) (at : ActionAt) (rule : Rule) (action : Action)
    → slice_get rules at.rule ≡ Some rule
    → slice_get (branch_actions rule at.branch) at.action ≡ Some action
    → is_on rules link at ≡ (action.link == link)
unfolding is_on action_at
on_link_by rules link at rule action e g = rw e (rw g refl)

not_earlier : (x : Rules) (s : State) (link : ℕ) (at : ActionAt) (rule : Rule)
    → slice_get x.rules at.rule ≡ Some rule → at.branch ≡ listed_branch x s rule
    → IsSettled x.rules (listed x s) link at → (j : ℕ) (other : Action) → j < at.action
    → slice_get (branch_actions rule at.branch) j ≡ Some other → (b : Bool)
    → (other.link == link) ≡ b → b ≡ false
not_earlier x s link at rule e branch settled j other h g true is =
    let earlier : ActionAt = record { rule = at.rule; branch = at.branch; action = j } in
    absurd
    (true≢false
    (sym (beaten_by x.rules at.rule at.branch j at.action h)
    ∙ settled.unbeaten earlier
    ((listing-listed x s earlier).1
    (record {
      rule = rule;
      is = e;
      branch = branch;
      action = slice_get_within (branch_actions rule at.branch) j other g;
    }))
    (on_link_by x.rules link earlier rule other e g ∙ is)))
not_earlier x s link at rule e branch settled j other h g false is = refl

candidate_is : (x : Rules) (s : State) (link : ℕ) (at : ActionAt) (rule : Rule)
    (action : Action) → slice_get x.rules at.rule ≡ Some rule
    → at.branch ≡ listed_branch x s rule → IsSettled x.rules (listed x s) link at
    → slice_get (branch_actions rule at.branch) at.action ≡ Some action
    → (action.link == link) ≡ true → candidate x.rules at.rule at.branch link ≡ Some action
unfolding candidate
candidate_is x s link at rule action e branch settled g is =
    ap (λ o. rule_candidate o at.branch link) e
    ∙ first_found (λ one. one.link == link) (branch_actions rule at.branch) at.action action g is
    (λ j other less_k k.
    not_earlier x s link at rule e branch settled j other less_k k (other.link == link) refl)

test_of : (m n : ℕ) → m ≡ n → (m == n) ≡ true
test_of m n e = grind (arith, nat_tests)

-- ---- what the branch being safe says
all_of : {A : Type 0} (p : A → Bool) (xs : List A) (one : A) → list_all p xs ≡ true
    → Contains xs one → p one ≡ true
all_of p [] one h c = absurd (none_in one c)
all_of p (y ∷ ys) one h c =
    let parts = and_parts (p y) (list_all p ys) h in
    all_by p y ys one parts.0 (all_of p ys one parts.1) (members-cases y ys one c)
  where
    all_by : {A : Type 0} (p : A → Bool) (y : A) (ys : List A) (one : A) → p y ≡ true
        → (Contains ys one → p one ≡ true) → (y ≡ one) ⊎ Contains ys one → p one ≡ true
    all_by p y ys one h later (inl e) = ap p (sym e) ∙ h
    all_by p y ys one h later (inr c) = later c

half_safe : (x : Rules) (tables : TableSet) (cell : Cell) (known : KnownPremises) (link : ℕ)
    (lo hi : Rational) (number : ℕ) (branch : Branch)
    → (branch_safe x tables cell known link lo hi number Then
    && branch_safe x tables cell known link lo hi number Otherwise) ≡ true
    → branch_safe x tables cell known link lo hi number branch ≡ true
half_safe x tables cell known link lo hi number Then h =
    (and_parts (branch_safe x tables cell known link lo hi number Then)
    (branch_safe x tables cell known link lo hi number Otherwise) h).0
half_safe x tables cell known link lo hi number Otherwise h =
    (and_parts (branch_safe x tables cell known link lo hi number Then)
    (branch_safe x tables cell known link lo hi number Otherwise) h).1

one_safe : (x : Rules) (tables : TableSet) (cell : Cell) (known : KnownPremises) (link : ℕ)
    (lo hi : Rational) (number : ℕ) (branch : Branch) → number < length x.rules
    → list_all
    (λ one.
    branch_safe x tables cell known link lo hi one Then
    && branch_safe x tables cell known link lo hi one Otherwise)
    (all_numbers x) ≡ true
    → branch_safe x tables cell known link lo hi number branch ≡ true
one_safe x tables cell known link lo hi number branch within h =
    half_safe x tables cell known link lo hi number branch
    (all_of
    (λ one.
    branch_safe x tables cell known link lo hi one Then
    && branch_safe x tables cell known link lo hi one Otherwise)
    (all_numbers x) number h (numbered number (length x.rules) within))

safe_by : (x : Rules) (tables : TableSet) (s : State) (cell : Cell) (known : KnownPremises)
    → IsKnownAt x s known → (link : ℕ) (lo hi : Rational) (at : ActionAt)
    → IsSettled x.rules (listed x s) link at → branch_at x s at.rule ≡ at.branch
    → (o : Option Action) → candidate x.rules at.rule at.branch link ≡ o
    → ((is_unlisted known at.rule at.branch || is_preceded x known at.rule link) ≡ true)
    ⊎ (candidate_safe x tables cell at.rule link lo hi o ≡ true)
    → candidate_safe x tables cell at.rule link lo hi o ≡ true
safe_by x tables s cell known k link lo hi at settled b o is (inr h) = h
safe_by x tables s cell known k link lo hi at settled b o is (inl h) =
    absurd
    (unsafe (or_cases (is_unlisted known at.rule at.branch) (is_preceded x known at.rule link) h))
  where
    unsafe : (is_unlisted known at.rule at.branch ≡ true)
        ⊎ (is_preceded x known at.rule link ≡ true) → ⊥
    unsafe (inl e) = listed_not x s known k at.rule at.branch e b
    unsafe (inr e) = not_preceded x s known k at.rule link at refl settled e

candidate_stays : (x : Rules) (tables : TableSet) (s : State) (cell : Cell)
    (known : KnownPremises) → IsKnownAt x s known → (link : ℕ) (lo hi : Rational)
    (at : ActionAt) → IsSettled x.rules (listed x s) link at
    → branch_at x s at.rule ≡ at.branch → (action : Action)
    → candidate x.rules at.rule at.branch link ≡ Some action
    → branch_safe x tables cell known link lo hi at.rule at.branch ≡ true
    → stays_within x tables cell (conditions_of (slice_get x.rules at.rule)) link lo hi action.what
    ≡ true
unfolding branch_safe
candidate_stays x tables s cell known k link lo hi at settled b action is h =
    safe_by x tables s cell known k link lo hi at settled b (Some action) is
    (subst
    (λ o.
    ((is_unlisted known at.rule at.branch || is_preceded x known at.rule link) ≡ true)
    ⊎ (candidate_safe x tables cell at.rule link lo hi o ≡ true))
    is
    (or_cases (is_unlisted known at.rule at.branch || is_preceded x known at.rule link)
    (candidate_safe x tables cell at.rule link lo hi (candidate x.rules at.rule at.branch link))
    h))

-- ---- the setting of the link
setting_has : (x : Rules) (s : State) (link : ℕ) (l : LinkState) → link_state x s link ≡ Some l
    → value x s (setting_key link) ≡ Some l.setting
unfolding value link_value
setting_has x s link l e = ap (option_and_then (link_value Setting)) e

no_room : (x : Rules) (s : State) (cell : Cell) → IsStateIn x cell s → (link : ℕ)
    (l : LinkState) → link_state x s link ≡ Some l → (lo hi : Rational)
    → IsTrue (lies_in (closed lo hi) l.setting) → (o : Option Interval)
    → piece_in (setting_key link) cell.keys ≡ o → not (meets_limit lo hi o) ≡ true → ⊥
no_room x s cell h link l e lo hi i None is n = true≢false (sym n)
no_room x s cell h link l e lo hi i (Some piece) is n =
    let found =
    found_key x s (setting_key link) piece cell.keys h.inside.keys h.state.present is in
    let inside : IsTrue (lies_in piece l.setting) =
    subst (λ o. IfSome o (λ q. IsTrue (lies_in piece q))) (setting_has x s link l e)
    found.entry in
    let overlap = overlap_of piece (closed lo hi) in
    let both : IsTrue (lies_in overlap l.setting) =
    intervals-overlap piece (closed lo hi) l.setting
    ∙ and_from (lies_in piece l.setting) (lies_in (closed lo hi) l.setting) inside i in
    true≢false
    (sym n
    ∙ ap not ((normal_form-not_empty overlap).1 (l.setting, both)))

-- ---- the rule's last condition, and its tables
last_by : (x : Rules) (s : State) (rules : List Rule) → names_stop_for x rules s ≡ None
    → (k : ℕ) (rule : Rule) → slice_get rules k ≡ Some rule → (o : Option Condition)
    → slice_get rule.conditions (length rule.conditions - 1) ≡ o → LastGoesOn x s o
last_by x s rules go k rule e None is = tt
last_by x s rules go k rule e (Some c) is =
    condition_goes_on x s rules go k (length rule.conditions - 1) rule c e is

last_goes_on : (x : Rules) (s : State) (rules : List Rule) → names_stop_for x rules s ≡ None
    → (k : ℕ) (rule : Rule) → slice_get rules k ≡ Some rule
    → LastGoesOn x s (last_of rule.conditions)
last_goes_on x s rules go k rule e =
    subst (LastGoesOn x s) (sym (last_conditions-at_end rule.conditions))
    (last_by x s rules go k rule e (slice_get rule.conditions (length rule.conditions - 1)) refl)

-- what holds of all items holds of the one at a place
all_get : {A : Type 0} (P : A → Type 0) (xs : List A) (k : ℕ) (one : A) → All P xs
    → slice_get xs k ≡ Some one → P one
all_get P xs k one h e =
    subst P (get_or_from_slice_get xs k one one e) (h k one (slice_get_within xs k one e))

left_all : {A : Type 0} (P : A → Type 0) (xs ys : List A) → AllByRecursion P (xs ++ ys)
    → AllByRecursion P xs
left_all P [] ys h = tt
left_all P (one ∷ xs) ys h = (h.0, left_all P xs ys h.1)

right_all : {A : Type 0} (P : A → Type 0) (xs ys : List A) → AllByRecursion P (xs ++ ys)
    → AllByRecursion P ys
right_all P [] ys h = h
right_all P (one ∷ xs) ys h = right_all P xs ys h.1

branch_all : (P : Action → Type 0) (rule : Rule) (branch : Branch) → All P (rule_actions rule)
    → AllByRecursion P (branch_actions rule branch)
branch_all P rule Then h =
    left_all P rule.then_actions rule.else_actions
    (recursion_from_All P (rule.then_actions ++ rule.else_actions) h)
branch_all P rule Otherwise h =
    right_all P rule.then_actions rule.else_actions
    (recursion_from_All P (rule.then_actions ++ rule.else_actions) h)

table_held : (tables : TableSet) (rules : List Rule) → HoldsTables tables rules → (number : ℕ)
    (rule : Rule) → slice_get rules number ≡ Some rule → (branch : Branch) (k : ℕ)
    (action : Action) → slice_get (branch_actions rule branch) k ≡ Some action
    → HoldsTableOf tables action.what
table_held tables rules h number rule e branch k action g =
    let P = λ (one : Action). HoldsTableOf tables one.what in
    all_get P (branch_actions rule branch) k action
    (All-from_recursion P (branch_actions rule branch)
    (branch_all P rule branch
    (all_get (λ (one : Rule). All P (rule_actions one)) rules number rule h e)))
    g

any_at : {A : Type 0} (p : A → Bool) (xs : List A) (k : ℕ) (one : A)
    → slice_get xs k ≡ Some one → p one ≡ true → list_any p xs ≡ true
any_at p [] k one e h = absurd (grind arith)
any_at p (y ∷ ys) zero one e h =
    let is : y ≡ one = grind arith in or_left (p y) (list_any p ys) (ap p is ∙ h)
any_at p (y ∷ ys) (suc k) one e h = or_right (p y) (list_any p ys) (any_at p ys k one e h)

acts_by : (rule : Rule) (branch : Branch) (link : ℕ)
    → list_any (λ action. action.link == link) (branch_actions rule branch) ≡ true
    → rule_acts_on link rule ≡ true
acts_by rule Then link h =
    list_any-append (λ action. action.link == link) rule.then_actions rule.else_actions
    ∙ or_left (list_any (λ action. action.link == link) rule.then_actions)
    (list_any (λ action. action.link == link) rule.else_actions) h
acts_by rule Otherwise link h =
    list_any-append (λ action. action.link == link) rule.then_actions rule.else_actions
    ∙ or_right (list_any (λ action. action.link == link) rule.then_actions)
    (list_any (λ action. action.link == link) rule.else_actions) h

limit_asked : (x : Rules) (link : ℕ) (lo hi : Rational) (number : ℕ) (rule : Rule)
    → slice_get x.rules number ≡ Some rule → rule_acts_on link rule ≡ true
    → is_asked x (Limit link lo hi) number ≡ true
unfolding is_asked
limit_asked x link lo hi number rule e h = ap (acts_there link) e ∙ h

limit_rules : (x : Rules) (link : ℕ) (lo hi : Rational)
    → HaveRulesOn x.rules link (asked_numbers x (Limit link lo hi))
limit_rules x link lo hi = record {
  each = λ number rule e acts.
      asked_in x (Limit link lo hi) number (slice_get_within x.rules number rule e)
      (limit_asked x link lo hi number rule e acts);
}

-- ---- the settled pair does not lead outside
within_outside : (lo hi : Rational) (result : Result Rational Overflow)
    → IfOk result (λ v. IsTrue (lies_in (closed lo hi) v)) → is_outside lo hi result ≡ true → ⊥
within_outside lo hi (Ok v) h e = passes_not (lies_in (closed lo hi) v) h e
within_outside lo hi (Err why) h e = true≢false (sym e)

worth_within : (x : Rules) (tables : TableSet) (s : State) (memory : ℕ → PidMemory)
    (conditions : List Condition) (link : ℕ) (action : Action) → action.link ≡ link
    → (lo hi : Rational)
    → IfOk (capped (rate_of x link) (what_worth x tables s memory conditions link action.what))
    (λ v. IsTrue (lies_in (closed lo hi) v))
    → IfOk (worth x tables s memory conditions action)
    (λ v. IsTrue (lies_in (closed lo hi) v))
unfolding worth
worth_within x tables s memory conditions link action e lo hi h =
    subst
    (λ n.
    IfOk (capped (rate_of x n) (what_worth x tables s memory conditions n action.what))
    (λ v. IsTrue (lies_in (closed lo hi) v)))
    (sym e) h

-- the target of the link
target_is : (x : Rules) (s : State) (link : ℕ) (l : LinkState) → link_state x s link ≡ Some l
    → old_target x s link ≡ l.target
unfolding old_target
target_is x s link l e = ap target_or_zero e

abbrev worth_at : Rules → TableSet → State → (ℕ → PidMemory) → ActionAt
    → Result Rational Overflow
worth_at x tables s memory at =
    action_worth x tables s memory (conditions_at x.rules at) (action_at x.rules at)

worth_is : (x : Rules) (tables : TableSet) (s : State) (memory : ℕ → PidMemory)
    (at : ActionAt) (rule : Rule) (action : Action) → slice_get x.rules at.rule ≡ Some rule
    → slice_get (branch_actions rule at.branch) at.action ≡ Some action
    → worth_at x tables s memory at ≡ worth x tables s memory rule.conditions action
unfolding conditions_at action_at
worth_is x tables s memory at rule action e g = rw e (rw g refl)

pair_within : (x : Rules) (tables : TableSet) (s : State) (memory : ℕ → PidMemory)
    (cell : Cell) → IsStateIn x cell s → HoldsTables tables x.rules → (known : KnownPremises)
    → IsKnownAt x s known → (link : ℕ) (lo hi : Rational)
    → names_stop_for x (asked_rules x (Limit link lo hi)) s ≡ None → (l : LinkState)
    → link_state x s link ≡ Some l → IsTrue (lies_in (closed lo hi) l.target)
    → list_all
    (λ one.
    branch_safe x tables cell known link lo hi one Then
    && branch_safe x tables cell known link lo hi one Otherwise)
    (all_numbers x) ≡ true
    → (at : ActionAt) → IsSettled x.rules (listed x s) link at
    → IfOk (worth_at x tables s memory at) (λ v. IsTrue (lies_in (closed lo hi) v))
pair_within x tables s memory cell h held known k link lo hi go l link_is target safe at settled =
    let is_listed = (listing-listed x s at).0 settled.member in
    let rule = is_listed.rule in
    let found = action_on x.rules link at rule is_listed.is settled.on_link in
    let action = found.action in
    let passes : (action.link == link) ≡ true = test_of action.link link found.link_is in
    let candidate_found =
    candidate_is x s link at rule action is_listed.is is_listed.branch settled found.is
    passes in
    let listed_there = branch_is x s at.rule rule is_listed.is ∙ sym is_listed.branch in
    let stays : stays_within x tables cell rule.conditions link lo hi action.what ≡ true =
    subst
    (λ o. stays_within x tables cell (conditions_of o) link lo hi action.what ≡ true)
    is_listed.is
    (candidate_stays x tables s cell known k link lo hi at settled listed_there action
    candidate_found
    (one_safe x tables cell known link lo hi at.rule at.branch
    (slice_get_within x.rules at.rule rule is_listed.is) safe)) in
    let acts =
    acts_by rule at.branch link
    (any_at (λ one. one.link == link) (branch_actions rule at.branch) at.action action found.is
    passes) in
    let place =
    asked_place x (Limit link lo hi) at.rule rule is_listed.is
    (limit_asked x link lo hi at.rule rule is_listed.is acts) in
    subst (λ r. IfOk r (λ v. IsTrue (lies_in (closed lo hi) v)))
    (sym (worth_is x tables s memory at rule action is_listed.is found.is))
    (worth_within x tables s memory rule.conditions link action found.link_is lo hi
    (worth_stays x tables s memory cell h rule.conditions
    (last_goes_on x s (asked_rules x (Limit link lo hi)) go place.place rule place.is) link
    action.what
    (table_held tables x.rules held at.rule rule is_listed.is at.branch at.action action found.is)
    lo hi
    (subst (λ v. IsTrue (lies_in (closed lo hi) v)) (sym (target_is x s link l link_is)) target)
    stays))

outside_by : (x : Rules) (tables : TableSet) (s : State) (memory : ℕ → PidMemory)
    (cell : Cell) → IsStateIn x cell s → HoldsTables tables x.rules → (known : KnownPremises)
    → IsKnownAt x s known → (link : ℕ) (lo hi : Rational)
    → names_stop_for x (asked_rules x (Limit link lo hi)) s ≡ None → (l : LinkState)
    → link_state x s link ≡ Some l → IsTrue (lies_in (closed lo hi) l.target)
    → list_all
    (λ one.
    branch_safe x tables cell known link lo hi one Then
    && branch_safe x tables cell known link lo hi one Otherwise)
    (all_numbers x) ≡ true
    → (o : Option ActionAt) → settled_on x.rules (listed x s) link ≡ o
    → leads_outside x tables memory s lo hi o ≡ true → ⊥
outside_by x tables s memory cell h held known k link lo hi go l link_is target safe None is out =
    true≢false (sym out)
outside_by x tables s memory cell h held known k link lo hi go l link_is target safe (Some at) is
    out =
    within_outside lo hi (worth_at x tables s memory at)
    (pair_within x tables s memory cell h held known k link lo hi go l link_is target safe at
    ((settling-given x.rules (listed x s) link at (listing-one_branch_each x s)).0 is))
    out

past_by : (x : Rules) (tables : TableSet) (s : State) (memory : ℕ → PidMemory)
    (cell : Cell) → IsStateIn x cell s → HoldsTables tables x.rules → (known : KnownPremises)
    → IsKnownAt x s known → (link : ℕ) (lo hi : Rational)
    → names_stop_for x (asked_rules x (Limit link lo hi)) s ≡ None → (l : LinkState)
    → link_state x s link ≡ Some l
    → (lies_in (closed lo hi) l.setting && lies_in (closed lo hi) l.target) ≡ true
    → leads_outside x tables memory s lo hi (settled_on x.rules (listed x s) link) ≡ true
    → (not (meets_limit lo hi (piece_in (setting_key link) cell.keys)) ≡ true)
    ⊎ (list_all
    (λ one.
    branch_safe x tables cell known link lo hi one Then
    && branch_safe x tables cell known link lo hi one Otherwise)
    (all_numbers x) ≡ true)
    → ⊥
past_by x tables s memory cell h held known k link lo hi go l link_is stands out (inl far) =
    no_room x s cell h link l link_is lo hi
    (and_parts (lies_in (closed lo hi) l.setting) (lies_in (closed lo hi) l.target) stands).0
    (piece_in (setting_key link) cell.keys) refl far
past_by x tables s memory cell h held known k link lo hi go l link_is stands out (inr safe) =
    outside_by x tables s memory cell h held known k link lo hi go l link_is
    (and_parts (lies_in (closed lo hi) l.setting) (lies_in (closed lo hi) l.target) stands).1 safe
    (settled_on x.rules (listed x s) link) refl out

link_by : (x : Rules) (tables : TableSet) (s : State) (memory : ℕ → PidMemory)
    (cell : Cell) → IsStateIn x cell s → HoldsTables tables x.rules → (known : KnownPremises)
    → IsKnownAt x s known → (link : ℕ) (lo hi : Rational)
    → names_stop_for x (asked_rules x (Limit link lo hi)) s ≡ None → (o : Option LinkState)
    → link_state x s link ≡ o → stands_within lo hi o ≡ true
    → leads_outside x tables memory s lo hi (settled_on x.rules (listed x s) link) ≡ true
    → limit_shown x tables cell known link lo hi ≡ true → ⊥
unfolding limit_shown
link_by x tables s memory cell h held known k link lo hi go None is stands out shown =
    true≢false (sym stands)
link_by x tables s memory cell h held known k link lo hi go (Some l) is stands out shown =
    past_by x tables s memory cell h held known k link lo hi go l is stands out
    (or_cases (not (meets_limit lo hi (piece_in (setting_key link) cell.keys)))
    (list_all
    (λ one.
    branch_safe x tables cell known link lo hi one Then
    && branch_safe x tables cell known link lo hi one Otherwise)
    (all_numbers x))
    shown)

pub not_past : (x : Rules) (tables : TableSet) (s : State) (memory : ℕ → PidMemory)
    (cell : Cell) → IsStateIn x cell s → HoldsTables tables x.rules → (known : KnownPremises)
    → IsKnownAt x s known → (link : ℕ) (lo hi : Rational)
    → names_stop_for x (asked_rules x (Limit link lo hi)) s ≡ None
    → limit_shown x tables cell known link lo hi ≡ true
    → is_past x tables memory s (asked_numbers x (Limit link lo hi)) link lo hi ≡ true → ⊥
unfolding is_past
not_past x tables s memory cell h held known k link lo hi go shown event =
    let numbers = asked_numbers x (Limit link lo hi) in
    let parts =
    and_parts (stands_within lo hi (link_state x s link))
    (leads_outside x tables memory s lo hi
    (settled_on x.rules (listed_among numbers x s) link)) event in
    link_by x tables s memory cell h held known k link lo hi go (link_state x s link) refl parts.0
    (subst (λ o. leads_outside x tables memory s lo hi o ≡ true)
    (some_rules-listed x s link numbers (limit_rules x link lo hi)) parts.1)
    shown

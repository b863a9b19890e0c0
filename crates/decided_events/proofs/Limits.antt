-- Where premises and the setting are decided, and the actions on the link are numbers, a state is
-- past a limit that is not shown.
use Rattle.std.proofs.Common.{◌≡◌, ℕ, Bool, true, false, not, ◌&&◌, ◌==◌, Option, Some, None}
use Rattle.std.proofs.Common.{List, [], ◌∷◌, ◌⊎◌, inl, inr, sym, ap, subst, ◌∙◌}
use Rattle.std.specs.Prelude.{IsTrue, filter, filter_map}
use Rattle.std.proofs.lemmas.Bool.{and_from, and_parts, not-false, or_cases, or_parts}
use Rattle.std.proofs.lemmas.Bool.{true≢false}
use Rattle.std.proofs.lemmas.Option.{slice_get_within}
use Rattle.std.specs.List.{cons_option, list_all, list_any, slice_get}
use Rattle.exact_fraction.specs.Number.{Rational}
use Rattle.interval_sets.specs.declared.interval.Interval.{Interval}
use Rattle.interval_sets.specs.Intervals.{has_member, lies_in, overlap_of}
use Rattle.interval_sets.proofs.PublicLaws.{intervals-overlap, normal_form-not_empty}
use Rattle.rule_types.specs.declared.action.Action.{Action}
use Rattle.rule_types.specs.declared.action.ActionAt.{ActionAt}
use Rattle.rule_types.specs.declared.action.Branch.{Branch}
use Rattle.rule_types.specs.declared.action.Branch.TheVariants.{Then, Otherwise}
use Rattle.rule_types.specs.declared.action.PidMemory.{PidMemory}
use Rattle.rule_types.specs.declared.condition.Condition.{Condition}
use Rattle.rule_types.specs.declared.rule.Rule.{Rule}
use Rattle.rule_types.specs.declared.rules.Rules.{Rules}
use Rattle.rule_types.specs.declared.state.State.{State}
use Rattle.rule_types.specs.Reading.{branch_action, branch_actions, rule_actions}
use Rattle.rule_types.specs.Tables.{TableSet}
use Rattle.rule_meaning.specs.Premise.{listed, listed_among, listed_branch}
use Rattle.rule_meaning.specs.Reading.{action_worth, conditions_at}
use Rattle.rule_meaning.specs.Settled.{action_at, settled_on}
use Rattle.rule_meaning.specs.SomeRules.{rule_acts_on}
use Rattle.rule_meaning.specs.State.{link_state}
use Rattle.rule_meaning.specs.Worth.{capped, rate_of, what_worth, worth}
use Rattle.rule_meaning.proofs.PublicLaws.{listing-one_branch_each, settling-given}
use Rattle.rule_meaning.proofs.PublicLaws.{some_rules-listed}
use Rattle.verdict_meaning.specs.declared.cell.Cell.{Cell}
use Rattle.verdict_meaning.specs.declared.question.Question.TheVariants.{Limit}
use Rattle.verdict_meaning.specs.Events.{first_on, is_outside, is_past, leads_outside}
use Rattle.verdict_meaning.specs.Events.{stands_within}
use Rattle.verdict_meaning.specs.Hulls.{closed}
use Rattle.verdict_meaning.specs.Premises.{conditions_of}
use Rattle.verdict_meaning.specs.Questions.{acts_there, all_numbers, asked_numbers, asked_rules}
use Rattle.verdict_meaning.specs.Questions.{is_asked, setting_key}
use Rattle.verdict_meaning.specs.Reaches.{piece_in}
use Rattle.verdict_meaning.specs.Shown.{branch_safe}
use Rattle.verdict_meaning.specs.Shown.{KnownPremises, limit_shown, meets_limit}
use Rattle.verdict_meaning.specs.Verdicts.{is_number, orders_numbers}
use Rattle.decided_events.specs.DecidedLimits.{AllWithin, IsLimitDecided, NoneWithin}
use Rattle.decided_events.specs.DecidedPremises.{IsDecidedAt}
use Rattle.decided_events.proofs.Actions.{acts, first_at}
use Rattle.decided_events.proofs.Branches.{is_listed}
use Rattle.decided_events.proofs.Lists.{all_kept, back_kept, front_kept, none_some}
use Rattle.decided_events.proofs.Lists.{same_of, some_same}
use Rattle.decided_events.proofs.NumberHulls.{number_outside}
use Rattle.decided_events.proofs.OpenLimits.{open_limit, OpenBranch}
use Rattle.decided_events.proofs.SettledPairs.{asked_in, AsksAllOn, have_rules, takes}

-- ---- the setting lies from lo to hi
met_by : (lo hi : Rational) (piece : Interval) (setting : Rational)
    → IsTrue (lies_in piece setting) → AllWithin lo hi piece ⊎ NoneWithin lo hi piece
    → IsTrue
    (has_member (overlap_of piece (closed lo hi)).low (overlap_of piece (closed lo hi)).high)
    → lies_in (closed lo hi) setting ≡ true
met_by lo hi piece setting inside (inl all) h = all setting inside
met_by lo hi piece setting inside (inr none) h =
    let member = (normal_form-not_empty (overlap_of piece (closed lo hi))).0 h in
    let both =
    and_parts (lies_in piece member.0) (lies_in (closed lo hi) member.0)
    (sym (intervals-overlap piece (closed lo hi) member.0) ∙ member.1) in
    absurd (true≢false (sym both.1 ∙ none member.0 both.0))

stands : (x : Rules) (cell : Cell) (s : State) (link : ℕ) (lo hi : Rational)
    → IsLimitDecided x cell s link lo hi
    → meets_limit lo hi (piece_in (setting_key link) cell.keys) ≡ true
    → stands_within lo hi (link_state x s link) ≡ true
stands x cell s link lo hi d h =
    let inside : lies_in (closed lo hi) d.at.setting ≡ true =
    met_by lo hi d.piece d.at.setting d.inside d.decided
    (subst (λ o. meets_limit lo hi o ≡ true) d.piece_is h) in
    ap (stands_within lo hi) d.link_is
    ∙ and_from (lies_in (closed lo hi) d.at.setting) (lies_in (closed lo hi) d.at.target) inside
    (ap (lies_in (closed lo hi)) d.target_is ∙ inside)

-- ---- the question's rules are all that act on the link
asks_all : (x : Rules) (link : ℕ) (lo hi : Rational) → AsksAllOn x (Limit link lo hi) link
unfolding AsksAllOn is_asked
asks_all x link lo hi number rule e h = ap (acts_there link) e ∙ h

-- ---- their actions on the link are numbers
rule_passes_by : (p : Rule → Bool) (o : Option Rule) (more : List Rule) (rule : Rule)
    → o ≡ Some rule → list_all p (cons_option o more) ≡ true → p rule ≡ true
rule_passes_by p None more rule e h = absurd (none_some rule e)
rule_passes_by p (Some one) more rule e h =
    ap p (sym (some_same one rule e)) ∙ (and_parts (p one) (list_all p more) h).0

later_pass : (p : Rule → Bool) (o : Option Rule) (more : List Rule)
    → list_all p (cons_option o more) ≡ true → list_all p more ≡ true
later_pass p None more h = h
later_pass p (Some one) more h = (and_parts (p one) (list_all p more) h).1

passes_by : (p : Rule → Bool) (rules : List Rule) (n : ℕ) (numbers : List ℕ) (number : ℕ)
    (rule : Rule) → slice_get rules number ≡ Some rule
    → list_all p (filter_map (slice_get rules) (n ∷ numbers)) ≡ true
    → (list_any (λ other. number == other) numbers ≡ true
    → list_all p (filter_map (slice_get rules) numbers) ≡ true → p rule ≡ true)
    → ((number == n) ≡ true) ⊎ (list_any (λ other. number == other) numbers ≡ true)
    → p rule ≡ true
passes_by p rules n numbers number rule e h later (inl is) =
    rule_passes_by p (slice_get rules n) (filter_map (slice_get rules) numbers) rule
    (subst (λ one. slice_get rules one ≡ Some rule) (same_of number n is) e) h
passes_by p rules n numbers number rule e h later (inr among) =
    later among (later_pass p (slice_get rules n) (filter_map (slice_get rules) numbers) h)

passes : (p : Rule → Bool) (rules : List Rule) (numbers : List ℕ) (number : ℕ) (rule : Rule)
    → slice_get rules number ≡ Some rule
    → list_any (λ other. number == other) numbers ≡ true
    → list_all p (filter_map (slice_get rules) numbers) ≡ true → p rule ≡ true
passes p rules [] number rule e among h = absurd (true≢false (sym among))
passes p rules (n ∷ numbers) number rule e among h =
    passes_by p rules n numbers number rule e h
    (λ later all. passes p rules numbers number rule e later all)
    (or_cases (number == n) (list_any (λ other. number == other) numbers) among)

branch_kept : (p test : Action → Bool) (rule : Rule) (branch : Branch)
    → list_all p (filter test (rule_actions rule)) ≡ true → (k : ℕ) (action : Action)
    → slice_get (branch_actions rule branch) k ≡ Some action → test action ≡ true
    → p action ≡ true
branch_kept p test rule Then h k action e t =
    all_kept p test rule.then_actions k action
    (front_kept p test rule.then_actions rule.else_actions h) e t
branch_kept p test rule Otherwise h k action e t =
    all_kept p test rule.else_actions k action
    (back_kept p test rule.then_actions rule.else_actions h) e t

orders_number : (x : Rules) (link : ℕ) (lo hi : Rational) (number : ℕ) (rule : Rule)
    → orders_numbers link (asked_rules x (Limit link lo hi)) ≡ true
    → slice_get x.rules number ≡ Some rule
    → is_asked x (Limit link lo hi) number ≡ true → (branch : Branch) (k : ℕ) (action : Action)
    → slice_get (branch_actions rule branch) k ≡ Some action → (action.link == link) ≡ true
    → is_number action.what ≡ true
orders_number x link lo hi number rule h e asked branch k action g t =
    branch_kept (λ one. is_number one.what) (λ one. one.link == link) rule branch
    (passes
    (λ one.
    list_all (λ other. is_number other.what)
    (filter (λ other. other.link == link) (rule_actions one)))
    x.rules (asked_numbers x (Limit link lo hi)) number rule e
    (asked_in x (Limit link lo hi) number (slice_get_within x.rules number rule e) asked) h)
    k action g t

-- ---- the settled pair leads outside
worth_outside : (x : Rules) (tables : TableSet) (memory : ℕ → PidMemory) (s : State)
    (conditions : List Condition) (link : ℕ) (lo hi : Rational) (action : Action)
    → action.link ≡ link
    → is_outside lo hi
    (capped (rate_of x link) (what_worth x tables s memory conditions link action.what)) ≡ true
    → is_outside lo hi (worth x tables s memory conditions action) ≡ true
unfolding worth
worth_outside x tables memory s conditions link lo hi action e h =
    subst
    (λ n.
    is_outside lo hi
    (capped (rate_of x n) (what_worth x tables s memory conditions n action.what)) ≡ true)
    (sym e) h

pair_outside : (x : Rules) (tables : TableSet) (memory : ℕ → PidMemory) (s : State)
    (lo hi : Rational) (at : ActionAt) (rule : Rule) (action : Action)
    → slice_get x.rules at.rule ≡ Some rule
    → slice_get (branch_actions rule at.branch) at.action ≡ Some action
    → is_outside lo hi
    (worth x tables s memory (conditions_at x.rules at) action) ≡ true
    → leads_outside x tables memory s lo hi (Some at) ≡ true
unfolding action_at
pair_outside x tables memory s lo hi at rule action e g h =
    ap
    (λ o.
    is_outside lo hi
    (action_worth x tables s memory (conditions_at x.rules at) (branch_action at o)))
    e
    ∙ ap
    (λ o. is_outside lo hi (action_worth x tables s memory (conditions_at x.rules at) o)) g
    ∙ h

leads_by : (x : Rules) (tables : TableSet) (memory : ℕ → PidMemory) (s : State) (cell : Cell)
    (known : KnownPremises) (link : ℕ) (lo hi : Rational)
    → IsDecidedAt x (Limit link lo hi) s known
    → orders_numbers link (asked_rules x (Limit link lo hi)) ≡ true
    → (one : OpenBranch x tables cell known link lo hi)
    → listed_branch x s one.rule ≡ one.branch
    → is_asked x (Limit link lo hi) one.number ≡ true
    → leads_outside x tables memory s lo hi
    (settled_on x.rules (listed_among (asked_numbers x (Limit link lo hi)) x s) link) ≡ true
leads_by x tables memory s cell known link lo hi d numbers one branch asked =
    let all = asks_all x link lo hi in
    let taken =
    takes x (Limit link lo hi) s known d one.number link one.rule one.action one.rule_at
    (subst (λ b. first_on link (branch_actions one.rule b) ≡ Some one.action) (sym branch)
    one.action_is)
    all one.first in
    let first = first_at link (branch_actions one.rule one.branch) one.action one.action_is in
    let settled_is =
    some_rules-listed x s link (asked_numbers x (Limit link lo hi))
    (have_rules x (Limit link lo hi) link all)
    ∙ (settling-given x.rules (listed x s) link taken.at (listing-one_branch_each x s)).1
    taken.settled in
    ap (leads_outside x tables memory s lo hi) settled_is
    ∙ pair_outside x tables memory s lo hi taken.at one.rule one.action taken.rule_at
    taken.action_is
    (worth_outside x tables memory s (conditions_at x.rules taken.at) link lo hi one.action
    (same_of one.action.link link first.passes)
    (number_outside x tables memory s cell (conditions_of (slice_get x.rules one.number))
    (conditions_at x.rules taken.at) link lo hi one.action.what
    (orders_number x link lo hi one.number one.rule numbers one.rule_at asked one.branch first.at
    one.action first.is first.passes)
    one.unsafe))

leads : (x : Rules) (tables : TableSet) (memory : ℕ → PidMemory) (s : State) (cell : Cell)
    (known : KnownPremises) (link : ℕ) (lo hi : Rational)
    → IsDecidedAt x (Limit link lo hi) s known
    → orders_numbers link (asked_rules x (Limit link lo hi)) ≡ true
    → OpenBranch x tables cell known link lo hi
    → leads_outside x tables memory s lo hi
    (settled_on x.rules (listed_among (asked_numbers x (Limit link lo hi)) x s) link) ≡ true
unfolding is_asked
leads x tables memory s cell known link lo hi d numbers one =
    let first = first_at link (branch_actions one.rule one.branch) one.action one.action_is in
    let acting : rule_acts_on link one.rule ≡ true =
    acts link one.rule one.branch first.at one.action first.is first.passes in
    let asked : is_asked x (Limit link lo hi) one.number ≡ true =
    ap (acts_there link) one.rule_at ∙ acting in
    leads_by x tables memory s cell known link lo hi d numbers one
    (is_listed x (Limit link lo hi) s known d one.number one.rule one.rule_at asked one.branch
    one.listed)
    asked

pub past_there : (x : Rules) (tables : TableSet) (memory : ℕ → PidMemory) (s : State)
    (cell : Cell) (known : KnownPremises) (link : ℕ) (lo hi : Rational)
    → IsDecidedAt x (Limit link lo hi) s known → IsLimitDecided x cell s link lo hi
    → orders_numbers link (asked_rules x (Limit link lo hi)) ≡ true
    → limit_shown x tables cell known link lo hi ≡ false
    → is_past x tables memory s (asked_numbers x (Limit link lo hi)) link lo hi ≡ true
unfolding limit_shown is_past
past_there x tables memory s cell known link lo hi d l numbers h =
    let parts =
    or_parts (not (meets_limit lo hi (piece_in (setting_key link) cell.keys)))
    (list_all
    (λ number.
    branch_safe x tables cell known link lo hi number Then
    && branch_safe x tables cell known link lo hi number Otherwise)
    (all_numbers x))
    h in
    and_from (stands_within lo hi (link_state x s link))
    (leads_outside x tables memory s lo hi
    (settled_on x.rules (listed_among (asked_numbers x (Limit link lo hi)) x s) link))
    (stands x cell s link lo hi l
    (not-false (meets_limit lo hi (piece_in (setting_key link) cell.keys)) parts.0))
    (leads x tables memory s cell known link lo hi d numbers
    (open_limit x tables cell known link lo hi parts.1))

-- The events that questions ask for, at one state.
use Rattle.std.specs.Prelude.{ℕ, Bool, true, false, not, ◌&&◌, ◌||◌, ◌==◌, if◌then◌else◌}
use Rattle.std.specs.Prelude.{Option, Some, None, Result, Ok, Err, List, [], ◌∷◌, slice_get}
use Rattle.std.specs.List.{find, list_any}
use Rattle.exact_fraction.specs.Number.{Rational, one}
use Rattle.exact_fraction.specs.Order.{less, same, lesser_of}
use Rattle.exact_fraction.specs.declared.error.Overflow.{Overflow}
use Rattle.interval_sets.specs.Intervals.{lies_in}
use Rattle.rule_types.specs.declared.action.Action.{Action}
use Rattle.rule_types.specs.declared.action.ActionAt.{ActionAt}
use Rattle.rule_types.specs.declared.action.Branch.{Branch}
use Rattle.rule_types.specs.declared.action.Branch.TheVariants.{Then, Otherwise}
use Rattle.rule_types.specs.declared.action.PidMemory.{PidMemory}
use Rattle.rule_types.specs.declared.action.What.{What}
use Rattle.rule_types.specs.declared.action.What.TheVariants.{Constant, Curve, Series, Pid}
use Rattle.rule_types.specs.declared.condition.Condition.{Condition}
use Rattle.rule_types.specs.declared.condition.Side.{Side}
use Rattle.rule_types.specs.declared.condition.Side.TheVariants as side
use Rattle.rule_types.specs.declared.names.NameDef.{NameDef}
use Rattle.rule_types.specs.declared.rule.Rule.{Rule}
use Rattle.rule_types.specs.declared.rules.Rules.{Rules}
use Rattle.rule_types.specs.declared.state.LinkState.{LinkState}
use Rattle.rule_types.specs.declared.state.State.{State}
use Rattle.rule_types.specs.declared.stop.Stop.{Stop}
use Rattle.rule_types.specs.Ranks.{same_rank}
use Rattle.rule_types.specs.Reading.{branch_actions, rule_actions}
use Rattle.rule_types.specs.Tables.{TableSet}
use Rattle.rule_types.specs.WellFormed.{has_rate}
use Rattle.rule_meaning.specs.Formula.{names_stop_for}
use Rattle.rule_meaning.specs.Premise.{listed_branch, listed_among}
use Rattle.rule_meaning.specs.Reading.{action_worth, conditions_at}
use Rattle.rule_meaning.specs.Settled.{action_at, rule_priority, settled_on}
use Rattle.rule_meaning.specs.State.{link_state}
use Rattle.rule_meaning.specs.Worth.{last_of, rate_of}
use Rattle.moment_pieces.specs.Sides.{side_of}
use Rattle.verdict_meaning.specs.declared.question.Question.{Question}
use Rattle.verdict_meaning.specs.declared.question.Question.TheVariants.{Conflict, Dead, Limit}
use Rattle.verdict_meaning.specs.Hulls.{closed}
use Rattle.verdict_meaning.specs.Premises.{conditions_of}
use Rattle.verdict_meaning.specs.Questions.{asked_numbers, asked_rules}
use Rattle.verdict_meaning.specs.Reaches.{same_key}

-- ---- candidates, and whether they agree

-- the candidate of a branch on a link: its first action there
abbrev pub first_on : ℕ → List Action → Option Action
first_on link = find (λ action. action.link == link)

abbrev pub rule_candidate : Option Rule → Branch → ℕ → Option Action
rule_candidate None branch link = None
rule_candidate (Some rule) branch link = first_on link (branch_actions rule branch)

unfoldable pub candidate : List Rule → ℕ → Branch → ℕ → Option Action
candidate rules number branch link = rule_candidate (slice_get rules number) branch link

-- whether two sides are one
abbrev pub same_side : Side → Side → Bool
same_side (side.Key a) (side.Key b) = same_key a b
same_side (side.Expr m) (side.Expr n) = m == n
same_side (side.Key a) (side.Expr n) = false
same_side (side.Expr m) (side.Key b) = false

-- whether two rules have the same controller: the left sides of their last conditions are one side
abbrev pub same_last : List NameDef → Option Condition → Option Condition → Bool
same_last names (Some c) (Some d) = same_side (side_of names c.left) (side_of names d.left)
same_last names (Some c) None = false
same_last names None other = false

unfoldable pub same_controller : List NameDef → List Condition → List Condition → Bool
same_controller names conditions others = same_last names (last_of conditions) (last_of others)

-- what a number is worth on a link with this rate
abbrev pub number_worth : Rational → Rational → Rational
number_worth rate q = if has_rate rate then lesser_of one q else q

-- Two actions of rules with these conditions on a link with this rate agree: they are numbers of
-- one worth, the same curve with the same controller, or the same series.
unfoldable pub agree : List NameDef → Rational → List Condition → List Condition → What → What
    → Bool
agree names rate conditions others (Constant p) (Constant q) =
    same (number_worth rate p) (number_worth rate q)
agree names rate conditions others (Curve c) (Curve d) =
    c.index == d.index && same_controller names conditions others
agree names rate conditions others (Series c) (Series d) = c.index == d.index
agree names rate conditions others _ _ = false

-- whether there are two candidates, and they disagree
abbrev pub both_disagree : List NameDef → Rational → List Condition → List Condition
    → Option Action → Option Action → Bool
both_disagree names rate conditions others (Some a) (Some b) =
    not (agree names rate conditions others a.what b.what)
both_disagree names rate conditions others (Some a) None = false
both_disagree names rate conditions others None b = false

unfoldable pub disagree : Rules → ℕ → Branch → ℕ → Branch → ℕ → Bool
disagree x first branch second other link =
    both_disagree x.names (rate_of x link) (conditions_of (slice_get x.rules first))
    (conditions_of (slice_get x.rules second)) (candidate x.rules first branch link)
    (candidate x.rules second other link)

-- whether two rules have the same rank
abbrev pub priority_of : List Rule → ℕ → Option Rational
priority_of rules number = rule_priority (slice_get rules number)

unfoldable pub are_level : List Rule → ℕ → ℕ → Bool
are_level rules first second = same_rank (priority_of rules first) (priority_of rules second)

-- ---- the three events

-- the branch that a rule lists at a state
abbrev pub branch_listed : Rules → State → Option Rule → Branch
branch_listed x s None = Then
branch_listed x s (Some rule) = listed_branch x s rule

abbrev pub branch_at : Rules → State → ℕ → Branch
branch_at x s number = branch_listed x s (slice_get x.rules number)

-- conflict: both rules have the same rank, and the branches that they list have candidates on the
-- link that disagree
unfoldable pub is_conflict : Rules → State → ℕ → ℕ → ℕ → Bool
is_conflict x s first second link =
    are_level x.rules first second
    && disagree x first (branch_at x s first) second (branch_at x s second) link

-- whether the pair is one of a rule
abbrev pub is_pair_of : ℕ → Option ActionAt → Bool
is_pair_of number None = false
is_pair_of number (Some at) = at.rule == number

-- alive: some action of the rule is settled, where the rules of these numbers are read alone
abbrev pub actions_of : Option Rule → List Action
actions_of None = []
actions_of (Some rule) = rule_actions rule

unfoldable pub is_alive : Rules → State → List ℕ → ℕ → Bool
is_alive x s numbers number =
    list_any
    (λ action. is_pair_of number (settled_on x.rules (listed_among numbers x s) action.link))
    (actions_of (slice_get x.rules number))

-- whether a link's setting and target lie from lo to hi
abbrev pub stands_within : Rational → Rational → Option LinkState → Bool
stands_within lo hi None = false
stands_within lo hi (Some link) =
    lies_in (closed lo hi) link.setting && lies_in (closed lo hi) link.target

-- whether a pair gives a value that does not
abbrev pub is_outside : Rational → Rational → Result Rational Overflow → Bool
is_outside lo hi (Ok q) = not (lies_in (closed lo hi) q)
is_outside lo hi (Err why) = false

abbrev pub leads_outside : Rules → TableSet → (ℕ → PidMemory) → State → Rational → Rational
    → Option ActionAt → Bool
leads_outside x tables memory s lo hi None = false
leads_outside x tables memory s lo hi (Some at) =
    is_outside lo hi
    (action_worth x tables s memory (conditions_at x.rules at) (action_at x.rules at))

-- past the limit: setting and target of the link lie from lo to hi, and the link is settled with a
-- value that does not
unfoldable pub is_past : Rules → TableSet → (ℕ → PidMemory) → State → List ℕ → ℕ → Rational
    → Rational → Bool
is_past x tables memory s numbers link lo hi =
    stands_within lo hi (link_state x s link)
    && leads_outside x tables memory s lo hi
    (settled_on x.rules (listed_among numbers x s) link)

-- the question's event, where none of its names stops
unfoldable pub has_event_by : Rules → TableSet → (ℕ → PidMemory) → State → Question → Bool
has_event_by x tables memory s (Conflict first second link) = is_conflict x s first second link
has_event_by x tables memory s (Dead number) =
    is_alive x s (asked_numbers x (Dead number)) number
has_event_by x tables memory s (Limit link lo hi) =
    is_past x tables memory s (asked_numbers x (Limit link lo hi)) link lo hi

abbrev pub is_no_stop : Option Stop → Bool
is_no_stop None = true
is_no_stop (Some stop) = false

-- Whether a state, where PID actions have these memories, has the question's event. The question's
-- rules and the names that they use are read alone, and a state at which one of these names stops
-- has no event.
unfoldable pub has_event : Rules → TableSet → (ℕ → PidMemory) → State → Question → Bool
has_event x tables memory s question =
    is_no_stop (names_stop_for x (asked_rules x question) s)
    && has_event_by x tables memory s question

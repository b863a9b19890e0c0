-- Which boxes are shown: what is known of the premises excludes a question's event.
use Rattle.std.specs.Prelude.{◌≡◌, ℕ, Bool, true, false, not, ◌&&◌, ◌||◌, ◌==◌, if◌then◌else◌}
use Rattle.std.specs.Prelude.{Option, Some, None, List, [], ◌∷◌, slice_get}
use Rattle.std.specs.List.{list_all, list_any}
use Rattle.exact_fraction.specs.Number.{Rational}
use Rattle.interval_sets.specs.declared.interval.Interval.{Interval}
use Rattle.interval_sets.specs.Intervals.{has_member, overlap_of}
use Rattle.rule_types.specs.declared.action.Action.{Action}
use Rattle.rule_types.specs.declared.action.Branch.{Branch}
use Rattle.rule_types.specs.declared.action.Branch.TheVariants.{Then, Otherwise}
use Rattle.rule_types.specs.declared.rule.Rule.{Rule}
use Rattle.rule_types.specs.declared.rules.Rules.{Rules}
use Rattle.rule_types.specs.declared.state.State.{State}
use Rattle.rule_types.specs.Ranks.{precedes}
use Rattle.rule_types.specs.Reading.{branch_actions}
use Rattle.rule_types.specs.Tables.{TableSet}
use Rattle.verdict_meaning.specs.declared.cell.Cell.{Cell}
use Rattle.verdict_meaning.specs.declared.question.Question.{Question}
use Rattle.verdict_meaning.specs.declared.question.Question.TheVariants.{Conflict, Dead, Limit}
use Rattle.verdict_meaning.specs.declared.truth.Truth.{Truth}
use Rattle.verdict_meaning.specs.declared.truth.Truth.TheVariants.{Yes, No, Open}
use Rattle.verdict_meaning.specs.ActionHulls.{stays_within}
use Rattle.verdict_meaning.specs.Events.{branch_at, candidate, disagree, are_level, priority_of}
use Rattle.verdict_meaning.specs.Hulls.{closed}
use Rattle.verdict_meaning.specs.Premises.{conditions_of, rule_truth}
use Rattle.verdict_meaning.specs.Questions.{all_numbers, is_asked, setting_key}
use Rattle.verdict_meaning.specs.Reaches.{piece_in}

-- ---- what is known of premises

-- the rules whose premises are known to hold, and those whose premises are known not to hold
pub record KnownPremises : Type 0 where
  pub holds : ℕ → Bool
  pub fails : ℕ → Bool

-- what is known of a premise is also known where more is known
pub record IsMoreKnown (known more : KnownPremises) : Type 0 where
  pub holds : (number : ℕ) → known.holds number ≡ true → more.holds number ≡ true
  pub fails : (number : ℕ) → known.fails number ≡ true → more.fails number ≡ true

-- what is known of premises is so at a state: a rule whose premise is known to hold lists THEN
-- there, and one whose premise is known not to hold lists ELSE
pub record IsKnownAt (x : Rules) (s : State) (known : KnownPremises) : Type 0 where
  pub holds : (number : ℕ) → known.holds number ≡ true → branch_at x s number ≡ Then
  pub fails : (number : ℕ) → known.fails number ≡ true → branch_at x s number ≡ Otherwise

-- what a box tells of the premises of the question's rules; of all others it tells nothing
abbrev pub is_yes : Truth → Bool
is_yes Yes = true
is_yes No = false
is_yes Open = false

abbrev pub is_no : Truth → Bool
is_no Yes = false
is_no No = true
is_no Open = false

unfoldable pub known_in : Rules → Question → Cell → KnownPremises
known_in x question cell =
    record {
      holds = λ number. is_asked x question number && is_yes (rule_truth x cell number);
      fails = λ number. is_asked x question number && is_no (rule_truth x cell number);
    }

-- what facts tell: a fact is a rule, and true where its premise holds
unfoldable pub known_by : List (ℕ × Bool) → KnownPremises
known_by facts =
    record {
      holds = λ number. list_any (λ fact. fact.0 == number && fact.1) facts;
      fails = λ number. list_any (λ fact. fact.0 == number && not fact.1) facts;
    }

-- ---- what follows of the branches

-- whether a rule is known not to list a branch: THEN is listed as the premise says, and ELSE
-- contrariwise
abbrev pub is_unlisted : KnownPremises → ℕ → Branch → Bool
is_unlisted known number Then = known.fails number
is_unlisted known number Otherwise = known.holds number

-- whether a branch has a candidate on a link
abbrev pub is_there : {A : Type 0} → Option A → Bool
is_there None = false
is_there (Some thing) = true

abbrev pub has_candidate : Rules → ℕ → Branch → ℕ → Bool
has_candidate x number branch link = is_there (candidate x.rules number branch link)

-- whether a rule surely acts on a link: THEN is listed and has a candidate there, or ELSE is and
-- has one, or both have one
unfoldable pub surely_acts : Rules → KnownPremises → ℕ → ℕ → Bool
surely_acts x known number link =
    ((has_candidate x number Then link && known.holds number)
    || (has_candidate x number Otherwise link && known.fails number))
    || (has_candidate x number Then link && has_candidate x number Otherwise link)

-- whether a rule precedes another
unfoldable pub rule_precedes : Rules → ℕ → ℕ → Bool
rule_precedes x number other =
    precedes (priority_of x.rules number) number (priority_of x.rules other) other

-- whether a rule that precedes a rule surely acts on a link
unfoldable pub is_preceded : Rules → KnownPremises → ℕ → ℕ → Bool
is_preceded x known number link =
    list_any (λ other. rule_precedes x other number && surely_acts x known other link)
    (all_numbers x)

-- ---- the three questions

-- conflict: the ranks differ, or of each two branches whose candidates disagree one is not listed
abbrev pub pair_shown : Rules → KnownPremises → ℕ → Branch → ℕ → Branch → ℕ → Bool
pair_shown x known first branch second other link =
    not (disagree x first branch second other link)
    || (is_unlisted known first branch || is_unlisted known second other)

unfoldable pub conflict_shown : Rules → KnownPremises → ℕ → ℕ → ℕ → Bool
conflict_shown x known first second link =
    not (are_level x.rules first second)
    || ((pair_shown x known first Then second Then link
    && pair_shown x known first Then second Otherwise link)
    && (pair_shown x known first Otherwise second Then link
    && pair_shown x known first Otherwise second Otherwise link))

-- dead: each branch is not listed, or on each link on which it has a candidate a preceding rule
-- surely acts
abbrev pub actions_in : Option Rule → Branch → List Action
actions_in None branch = []
actions_in (Some rule) branch = branch_actions rule branch

unfoldable pub dead_branch : Rules → KnownPremises → ℕ → Branch → Bool
dead_branch x known number branch =
    list_all
    (λ action. is_unlisted known number branch || is_preceded x known number action.link)
    (actions_in (slice_get x.rules number) branch)

unfoldable pub dead_shown : Rules → KnownPremises → ℕ → Bool
dead_shown x known number = dead_branch x known number Then && dead_branch x known number Otherwise

-- limit: the setting does not lie from lo to hi, or each branch with a candidate is safe: it is not
-- listed, or a preceding rule surely acts on the link, or its candidate orders a number from lo to
-- hi
abbrev pub candidate_safe : Rules → TableSet → Cell → ℕ → ℕ → Rational → Rational → Option Action
    → Bool
candidate_safe x tables cell number link lo hi None = true
candidate_safe x tables cell number link lo hi (Some action) =
    stays_within x tables cell (conditions_of (slice_get x.rules number)) link lo hi action.what

unfoldable pub branch_safe : Rules → TableSet → Cell → KnownPremises → ℕ → Rational → Rational → ℕ
    → Branch → Bool
branch_safe x tables cell known link lo hi number branch =
    (is_unlisted known number branch || is_preceded x known number link)
    || candidate_safe x tables cell number link lo hi (candidate x.rules number branch link)

-- whether an interval has a member from lo to hi
abbrev pub meets_limit : Rational → Rational → Option Interval → Bool
meets_limit lo hi None = true
meets_limit lo hi (Some piece) =
    has_member (overlap_of piece (closed lo hi)).low (overlap_of piece (closed lo hi)).high

unfoldable pub limit_shown : Rules → TableSet → Cell → KnownPremises → ℕ → Rational → Rational
    → Bool
limit_shown x tables cell known link lo hi =
    not (meets_limit lo hi (piece_in (setting_key link) cell.keys))
    || list_all
    (λ number.
    branch_safe x tables cell known link lo hi number Then
    && branch_safe x tables cell known link lo hi number Otherwise)
    (all_numbers x)

-- whether a box is shown for a question by what is known of the premises
unfoldable pub shown_with : Rules → TableSet → Cell → KnownPremises → Question → Bool
shown_with x tables cell known (Conflict first second link) =
    conflict_shown x known first second link
shown_with x tables cell known (Dead number) = dead_shown x known number
shown_with x tables cell known (Limit link lo hi) = limit_shown x tables cell known link lo hi

-- whether a box is shown for a question, and whether it is by these facts alone
unfoldable pub shown : Rules → TableSet → Question → Cell → Bool
shown x tables question cell = shown_with x tables cell (known_in x question cell) question

unfoldable pub shown_by : Rules → TableSet → Question → Cell → List (ℕ × Bool) → Bool
shown_by x tables question cell facts = shown_with x tables cell (known_by facts) question

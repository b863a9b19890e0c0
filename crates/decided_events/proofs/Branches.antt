-- Where premises are decided, a rule lists the branch that is not excluded, and a rule that lists
-- an action on a link surely acts there.
use Rattle.std.proofs.Common.{◌≡◌, ℕ, Bool, true, false, not, ◌&&◌, ◌||◌, ◌==◌, Some}
use Rattle.std.proofs.Common.{sym, ap, ◌∙◌, cond}
use Rattle.std.specs.Prelude.{if◌then◌else◌}
use Rattle.std.proofs.lemmas.Bool.{and_from, not-false, or_left, or_right}
use Rattle.std.specs.List.{slice_get}
use Rattle.rule_types.specs.declared.action.Action.{Action}
use Rattle.rule_types.specs.declared.action.Branch.{Branch}
use Rattle.rule_types.specs.declared.action.Branch.TheVariants.{Then, Otherwise}
use Rattle.rule_types.specs.declared.rule.Rule.{Rule}
use Rattle.rule_types.specs.declared.rules.Rules.{Rules}
use Rattle.rule_types.specs.declared.state.State.{State}
use Rattle.rule_types.specs.Reading.{branch_actions}
use Rattle.rule_meaning.specs.Premise.{listed_branch, premise_holds}
use Rattle.verdict_meaning.specs.declared.question.Question.{Question}
use Rattle.verdict_meaning.specs.Events.{branch_at, branch_listed, candidate, rule_candidate}
use Rattle.verdict_meaning.specs.Questions.{is_asked}
use Rattle.verdict_meaning.specs.Shown.{has_candidate, is_there, is_unlisted, KnownPremises}
use Rattle.verdict_meaning.specs.Shown.{surely_acts}
use Rattle.decided_events.specs.DecidedPremises.{IsDecidedAt}
use Rattle.decided_events.proofs.Actions.{there_by}

-- ---- a branch that is not excluded is listed
pub is_listed : (x : Rules) (question : Question) (s : State) (known : KnownPremises)
    → IsDecidedAt x question s known → (number : ℕ) (rule : Rule)
    → slice_get x.rules number ≡ Some rule → is_asked x question number ≡ true
    → (branch : Branch) → is_unlisted known number branch ≡ false
    → listed_branch x s rule ≡ branch
is_listed x question s known d number rule e asked Then h =
    ap (λ b. cond b Then Otherwise)
    (not-false (premise_holds x s rule) (sym (d.fails number rule e asked) ∙ h))
is_listed x question s known d number rule e asked Otherwise h =
    ap (λ b. cond b Then Otherwise) (sym (d.holds number rule e asked) ∙ h)

pub branch_is : (x : Rules) (s : State) (number : ℕ) (rule : Rule)
    → slice_get x.rules number ≡ Some rule → branch_at x s number ≡ listed_branch x s rule
branch_is x s number rule e = ap (branch_listed x s) e

-- ---- a rule that lists an action on a link surely acts there
surely_by : (x : Rules) (known : KnownPremises) (number link : ℕ) (b : Bool)
    → known.holds number ≡ b → known.fails number ≡ not b
    → has_candidate x number (if b then Then else Otherwise) link ≡ true
    → surely_acts x known number link ≡ true
unfolding surely_acts
surely_by x known number link true holds fails has =
    or_left
    ((has_candidate x number Then link && known.holds number)
    || (has_candidate x number Otherwise link && known.fails number))
    (has_candidate x number Then link && has_candidate x number Otherwise link)
    (or_left (has_candidate x number Then link && known.holds number)
    (has_candidate x number Otherwise link && known.fails number)
    (and_from (has_candidate x number Then link) (known.holds number) has holds))
surely_by x known number link false holds fails has =
    or_left
    ((has_candidate x number Then link && known.holds number)
    || (has_candidate x number Otherwise link && known.fails number))
    (has_candidate x number Then link && has_candidate x number Otherwise link)
    (or_right (has_candidate x number Then link && known.holds number)
    (has_candidate x number Otherwise link && known.fails number)
    (and_from (has_candidate x number Otherwise link) (known.fails number) has fails))

has_by : (x : Rules) (number link : ℕ) (rule : Rule) (branch : Branch)
    → slice_get x.rules number ≡ Some rule → (k : ℕ) (action : Action)
    → slice_get (branch_actions rule branch) k ≡ Some action → (action.link == link) ≡ true
    → has_candidate x number branch link ≡ true
unfolding candidate
has_by x number link rule branch e k action g h =
    ap (λ o. is_there (rule_candidate o branch link)) e
    ∙ there_by link (branch_actions rule branch) k action g h

pub surely : (x : Rules) (question : Question) (s : State) (known : KnownPremises)
    → IsDecidedAt x question s known → (number : ℕ) (rule : Rule)
    → slice_get x.rules number ≡ Some rule → is_asked x question number ≡ true → (link : ℕ)
    (k : ℕ) (action : Action)
    → slice_get (branch_actions rule (listed_branch x s rule)) k ≡ Some action
    → (action.link == link) ≡ true → surely_acts x known number link ≡ true
surely x question s known d number rule e asked link k action g h =
    surely_by x known number link (premise_holds x s rule) (d.holds number rule e asked)
    (d.fails number rule e asked)
    (has_by x number link rule (listed_branch x s rule) e k action g h)

-- What the crates above may cite in their lemmas, and all that they may. Each term proves the
-- clause of src/laws.rt that its name gives, law and clause, and the answers of those laws are
-- these terms: so no more is cited than a public clause says.
use Rattle.std.proofs.Common.{◌≡◌, ℕ, true, false, None, ap}
use Rattle.std.proofs.lemmas.Bool.{and_from}
use Rattle.std.specs.List.{Contains}
use Rattle.rule_types.specs.Reading.{links_acted}
use Rattle.exact_fraction.specs.Number.{Rational}
use Rattle.rule_types.specs.declared.action.PidMemory.{PidMemory}
use Rattle.rule_types.specs.declared.rules.Rules.{Rules}
use Rattle.rule_types.specs.declared.state.State.{State}
use Rattle.rule_types.specs.Tables.{TableSet}
use Rattle.rule_meaning.specs.Formula.{names_stop_for}
use Rattle.verdict_meaning.specs.declared.cell.Cell.{Cell}
use Rattle.verdict_meaning.specs.declared.question.Question.{Question}
use Rattle.verdict_meaning.specs.declared.question.Question.TheVariants.{Conflict, Dead, Limit}
use Rattle.verdict_meaning.specs.Events.{has_event, has_event_by, is_no_stop}
use Rattle.verdict_meaning.specs.Questions.{asked_rules}
use Rattle.verdict_meaning.specs.Shown.{known_in, KnownPremises, shown, shown_with}
use Rattle.verdict_meaning.specs.Verdicts.{is_plain_question, orders_numbers}
use Rattle.decided_events.specs.DecidedLimits.{DecidesLimit, IsLimitDecided}
use Rattle.decided_events.specs.DecidedPremises.{DecidesAs, IsDecidedAt}
use Rattle.decided_events.proofs.Conflicts.{conflict_there}
use Rattle.decided_events.proofs.DeadRules.{alive_there}
use Rattle.decided_events.proofs.Limits.{past_there}
use Rattle.decided_events.proofs.OpenLimits.{limit_acted}
use Rattle.decided_events.proofs.Plain.{plain_actions}
pub use Rattle.decided_events.proofs.KnownCells.{known_cell as decided_premises-in_box}
pub use Rattle.decided_events.proofs.Plain.{plain_names as plain_questions-no_stop}

-- an event of rules of which no name stops is the question's
event_of : (x : Rules) (tables : TableSet) (memory : ℕ → PidMemory) (s : State)
    (question : Question) → names_stop_for x (asked_rules x question) s ≡ None
    → has_event_by x tables memory s question ≡ true
    → has_event x tables memory s question ≡ true
unfolding has_event
event_of x tables memory s question go h =
    and_from (is_no_stop (names_stop_for x (asked_rules x question) s))
    (has_event_by x tables memory s question) (ap is_no_stop go) h

pub decided_premises-conflict : (x : Rules) (tables : TableSet) (memory : ℕ → PidMemory)
    (s : State) (cell : Cell) (known : KnownPremises) (first second link : ℕ)
    → IsDecidedAt x (Conflict first second link) s known
    → names_stop_for x (asked_rules x (Conflict first second link)) s ≡ None
    → shown_with x tables cell known (Conflict first second link) ≡ false
    → has_event x tables memory s (Conflict first second link) ≡ true
unfolding shown_with has_event_by
decided_premises-conflict x tables memory s cell known first second link d go h =
    event_of x tables memory s (Conflict first second link) go
    (conflict_there x s known first second link d h)

pub decided_premises-dead : (x : Rules) (tables : TableSet) (memory : ℕ → PidMemory) (s : State)
    (cell : Cell) (known : KnownPremises) (number : ℕ) → IsDecidedAt x (Dead number) s known
    → names_stop_for x (asked_rules x (Dead number)) s ≡ None
    → shown_with x tables cell known (Dead number) ≡ false
    → has_event x tables memory s (Dead number) ≡ true
unfolding shown_with has_event_by
decided_premises-dead x tables memory s cell known number d go h =
    event_of x tables memory s (Dead number) go (alive_there x s known number d h)

pub decided_premises-limit : (x : Rules) (tables : TableSet) (memory : ℕ → PidMemory) (s : State)
    (cell : Cell) (known : KnownPremises) (link : ℕ) (lo hi : Rational)
    → IsDecidedAt x (Limit link lo hi) s known → IsLimitDecided x cell s link lo hi
    → orders_numbers link (asked_rules x (Limit link lo hi)) ≡ true
    → names_stop_for x (asked_rules x (Limit link lo hi)) s ≡ None
    → shown_with x tables cell known (Limit link lo hi) ≡ false
    → has_event x tables memory s (Limit link lo hi) ≡ true
unfolding shown_with has_event_by
decided_premises-limit x tables memory s cell known link lo hi d l numbers go h =
    event_of x tables memory s (Limit link lo hi) go
    (past_there x tables memory s cell known link lo hi d l numbers h)

pub open_limits-acted : (x : Rules) (tables : TableSet) (cell : Cell) (known : KnownPremises)
    (link : ℕ) (lo hi : Rational) → shown_with x tables cell known (Limit link lo hi) ≡ false
    → Contains (links_acted x.rules) link
unfolding shown_with
open_limits-acted x tables cell known link lo hi h =
    limit_acted x tables cell known link lo hi h

event_by : (x : Rules) (tables : TableSet) (memory : ℕ → PidMemory) (s : State) (cell : Cell)
    (known : KnownPremises) (question : Question) → is_plain_question x question ≡ true
    → IsDecidedAt x question s known → DecidesLimit x cell s question
    → shown_with x tables cell known question ≡ false
    → has_event x tables memory s question ≡ true
event_by x tables memory s cell known (Conflict first second link) plain d l h =
    decided_premises-conflict x tables memory s cell known first second link d
    (plain_questions-no_stop x s (Conflict first second link) plain) h
event_by x tables memory s cell known (Dead number) plain d l h =
    decided_premises-dead x tables memory s cell known number d
    (plain_questions-no_stop x s (Dead number) plain) h
event_by x tables memory s cell known (Limit link lo hi) plain d l h =
    decided_premises-limit x tables memory s cell known link lo hi d l
    (plain_actions x (Limit link lo hi) plain)
    (plain_questions-no_stop x s (Limit link lo hi) plain) h

pub plain_questions-event : (x : Rules) (tables : TableSet) (memory : ℕ → PidMemory) (s : State)
    (cell : Cell) (question : Question) → is_plain_question x question ≡ true
    → DecidesAs x question cell s → DecidesLimit x cell s question
    → shown x tables question cell ≡ false → has_event x tables memory s question ≡ true
unfolding shown
plain_questions-event x tables memory s cell question plain d l h =
    event_by x tables memory s cell (known_in x question cell) question plain
    (decided_premises-in_box x question cell s d) l h

-- Where a conflict or a dead rule is shown by what is known at a state, the state has no event.
use Rattle.std.proofs.Common.{◌≡◌, ℕ, true, ◌&&◌}
use Rattle.std.proofs.lemmas.Bool.{and_parts}
use Rattle.rule_types.specs.declared.action.PidMemory.{PidMemory}
use Rattle.rule_types.specs.declared.rules.Rules.{Rules}
use Rattle.rule_types.specs.declared.state.State.{State}
use Rattle.rule_types.specs.Tables.{TableSet}
use Rattle.rule_meaning.specs.Formula.{names_stop_for}
use Rattle.verdict_meaning.specs.declared.cell.Cell.{Cell}
use Rattle.verdict_meaning.specs.declared.question.Question.{Question}
use Rattle.verdict_meaning.specs.declared.question.Question.TheVariants.{Conflict, Dead}
use Rattle.verdict_meaning.specs.Events.{has_event, has_event_by, is_no_stop}
use Rattle.verdict_meaning.specs.Questions.{asked_rules}
use Rattle.verdict_meaning.specs.Shown.{KnownPremises, IsKnownAt, shown_with}
use Rattle.verdict_meaning.proofs.Excludes.{no_conflict, no_life}

event_itself : (x : Rules) (tables : TableSet) (memory : ℕ → PidMemory) (s : State)
    (question : Question) → has_event x tables memory s question ≡ true
    → has_event_by x tables memory s question ≡ true
unfolding has_event
event_itself x tables memory s question h =
    (and_parts (is_no_stop (names_stop_for x (asked_rules x question) s))
    (has_event_by x tables memory s question) h).1

pub conflict_excluded : (x : Rules) (tables : TableSet) (memory : ℕ → PidMemory) (s : State)
    (cell : Cell) (known : KnownPremises) (first second link : ℕ) → IsKnownAt x s known
    → shown_with x tables cell known (Conflict first second link) ≡ true
    → has_event x tables memory s (Conflict first second link) ≡ true → ⊥
unfolding shown_with has_event_by
conflict_excluded x tables memory s cell known first second link k h event =
    no_conflict x s known k first second link h
    (event_itself x tables memory s (Conflict first second link) event)

pub dead_excluded : (x : Rules) (tables : TableSet) (memory : ℕ → PidMemory) (s : State)
    (cell : Cell) (known : KnownPremises) (number : ℕ) → IsKnownAt x s known
    → shown_with x tables cell known (Dead number) ≡ true
    → has_event x tables memory s (Dead number) ≡ true → ⊥
unfolding shown_with has_event_by
dead_excluded x tables memory s cell known number k h event =
    no_life x s known k number h (event_itself x tables memory s (Dead number) event)

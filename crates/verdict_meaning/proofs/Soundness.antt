-- A box that is shown has no state with the question's event, and a certificate that is accepted
-- leaves no state of the ranges with it.
use Rattle.std.proofs.Common.{◌≡◌, ℕ, Bool, true, false, ◌&&◌, Option, Some, None, List, Ok, refl}
use Rattle.std.proofs.Common.{sym, subst, ap, arith}
use Rattle.std.specs.Prelude.{if◌then◌else◌}
use Rattle.std.proofs.lemmas.Bool.{and_parts, true≢false}
use Rattle.exact_fraction.specs.Number.{Rational}
use Rattle.rule_types.specs.declared.action.PidMemory.{PidMemory}
use Rattle.rule_types.specs.declared.rules.Rules.{Rules}
use Rattle.rule_types.specs.declared.state.State.{State}
use Rattle.rule_types.specs.declared.stop.Stop.{Stop}
use Rattle.rule_types.specs.Tables.{HoldsTables, TableSet}
use Rattle.rule_meaning.specs.Formula.{names_stop_for}
use Rattle.verdict_meaning.specs.declared.cell.Cell.{Cell}
use Rattle.verdict_meaning.specs.declared.cert.Cert.{Cert}
use Rattle.verdict_meaning.specs.declared.cert.CertCause.{CertCause}
use Rattle.verdict_meaning.specs.declared.cert.CertCause.TheVariants as cause
use Rattle.verdict_meaning.specs.declared.cert.Reason.{Reason}
use Rattle.verdict_meaning.specs.declared.cert.Reason.TheVariants.{Whole, Facts}
use Rattle.verdict_meaning.specs.declared.question.Question.{Question}
use Rattle.verdict_meaning.specs.declared.question.Question.TheVariants.{Conflict, Dead, Limit}
use Rattle.verdict_meaning.specs.declared.ranges.Ranges.{Ranges}
use Rattle.verdict_meaning.specs.Boxes.{first_box, IsInRanges, IsStateIn}
use Rattle.verdict_meaning.specs.Certificates.{checked_cert, facts_fit, facts_hold, leaf_cause}
use Rattle.verdict_meaning.specs.Certificates.{RefusesState}
use Rattle.verdict_meaning.specs.Events.{has_event, has_event_by, is_no_stop}
use Rattle.verdict_meaning.specs.Questions.{asked_rules}
use Rattle.verdict_meaning.specs.Shown.{IsKnownAt, known_by, known_in, KnownPremises, shown}
use Rattle.verdict_meaning.specs.Shown.{shown_by, shown_with}
use Rattle.verdict_meaning.proofs.Excludes.{no_conflict, no_life}
use Rattle.verdict_meaning.proofs.KnownTruths.{facts_known, known_at}
use Rattle.verdict_meaning.proofs.LimitEvents.{not_past}
use Rattle.verdict_meaning.proofs.MoreKnown.{shown_stays}
use Rattle.verdict_meaning.proofs.Trees.{tree_refused}

-- ---- boxes that are shown
none_stops : (o : Option Stop) → is_no_stop o ≡ true → o ≡ None
none_stops None h = refl
none_stops (Some stop) h = absurd (true≢false (sym h))

event_by : (x : Rules) (tables : TableSet) (memory : ℕ → PidMemory) (s : State) (cell : Cell)
    (known : KnownPremises) (question : Question) → HoldsTables tables x.rules
    → IsStateIn x cell s → IsKnownAt x s known
    → names_stop_for x (asked_rules x question) s ≡ None
    → shown_with x tables cell known question ≡ true
    → has_event_by x tables memory s question ≡ true → ⊥
unfolding shown_with has_event_by
event_by x tables memory s cell known (Conflict first second link) held h k go is event =
    no_conflict x s known k first second link is event
event_by x tables memory s cell known (Dead number) held h k go is event =
    no_life x s known k number is event
event_by x tables memory s cell known (Limit link lo hi) held h k go is event =
    not_past x tables s memory cell h held known k link lo hi go is event

pub no_event : (x : Rules) (tables : TableSet) (memory : ℕ → PidMemory) (s : State)
    (cell : Cell) (question : Question) → HoldsTables tables x.rules → IsStateIn x cell s
    → shown x tables question cell ≡ true → has_event x tables memory s question ≡ true → ⊥
unfolding shown has_event
no_event x tables memory s cell question held h is event =
    let stop = names_stop_for x (asked_rules x question) s in
    let parts =
    and_parts (is_no_stop stop) (has_event_by x tables memory s question) event in
    let go = none_stops stop parts.0 in
    event_by x tables memory s cell (known_in x question cell) question held h
    (known_at x s cell question h go) go is parts.1

-- a box that facts show alone is shown, where these fit the question and hold in the box
pub facts_show : (x : Rules) (tables : TableSet) (question : Question) (cell : Cell)
    (facts : List (ℕ × Bool)) → facts_fit x question facts ≡ true
    → facts_hold x cell facts ≡ true → shown_by x tables question cell facts ≡ true
    → shown x tables question cell ≡ true
unfolding shown shown_by
facts_show x tables question cell facts fit hold is =
    shown_stays x tables cell (known_by facts) (known_in x question cell) question
    (facts_known x question cell facts fit hold) is

-- ---- certificates
cause_none : (b : Bool) (why : CertCause) → (if b then None else Some why) ≡ None → b ≡ true
cause_none true why e = refl
cause_none false why e = absurd (grind arith)

facts_by : (x : Rules) (tables : TableSet) (question : Question) (cell : Cell)
    (facts : List (ℕ × Bool)) (b : Bool) → facts_fit x question facts ≡ b
    → (if b
    then (
    if facts_hold x cell facts && shown_by x tables question cell facts
    then None
    else Some cause.NotShown)
    else Some cause.Shape) ≡ None
    → shown x tables question cell ≡ true
facts_by x tables question cell facts true fit e =
    let parts =
    and_parts (facts_hold x cell facts) (shown_by x tables question cell facts)
    (cause_none (facts_hold x cell facts && shown_by x tables question cell facts)
    cause.NotShown e) in
    facts_show x tables question cell facts fit parts.0 parts.1
facts_by x tables question cell facts false fit e = absurd (grind arith)

-- a leaf that is accepted has a box that is shown
pub leaf_shown : (x : Rules) (tables : TableSet) (question : Question) (cell : Cell)
    (reason : Reason) → leaf_cause x tables question cell reason ≡ None
    → shown x tables question cell ≡ true
unfolding leaf_cause
leaf_shown x tables question cell Whole e =
    cause_none (shown x tables question cell) cause.NotShown e
leaf_shown x tables question cell (Facts facts) e =
    facts_by x tables question cell facts (facts_fit x question facts) refl e

leaves_refuse : (x : Rules) (tables : TableSet) (memory : ℕ → PidMemory) (s : State)
    (question : Question) → HoldsTables tables x.rules
    → has_event x tables memory s question ≡ true
    → RefusesState x s (leaf_cause x tables question)
leaves_refuse x tables memory s question held event = record {
  each = λ cell reason e h.
      no_event x tables memory s cell question held h
      (leaf_shown x tables question cell reason e) event;
}

pub no_state : (x : Rules) (tables : TableSet) (memory : ℕ → PidMemory) (s : State)
    (question : Question) (ranges : Ranges) (cert : Cert) (n : ℕ) → HoldsTables tables x.rules
    → checked_cert x tables ranges question cert ≡ Ok n
    → IsInRanges x question ranges memory s → has_event x tables memory s question ≡ true → ⊥
unfolding checked_cert
no_state x tables memory s question ranges cert n held e h event =
    tree_refused x s (leaf_cause x tables question)
    (leaves_refuse x tables memory s question held event) cert 1 (first_box x question ranges) 0 n
    e (record { state = h.state; inside = h.inside })

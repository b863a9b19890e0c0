-- What an accepted entry gives.
use Rattle.std.proofs.Common.{◌≡◌, ℕ, Bool, true, false, None, Result, Ok, Err, List, refl, sym}
use Rattle.std.proofs.lemmas.Option.{none-some}
use Rattle.rule_types.specs.Tables.{HoldsTables, TableSet}
use Rattle.rule_types.specs.WellFormed.{WellFormed}
use Rattle.rule_types.specs.declared.action.PidMemory.{PidMemory}
use Rattle.rule_types.specs.declared.rules.Rules.{Rules}
use Rattle.rule_types.specs.declared.state.State.{State}
use Rattle.state_checker.specs.Witnesses.{IsWitness, is_witness}
use Rattle.state_checker.proofs.PublicLaws.{witnesses-test}
use Rattle.verdict_meaning.specs.Boxes.{IsInRanges}
use Rattle.verdict_meaning.specs.Certificates.{NodeFault, checked_cert}
use Rattle.verdict_meaning.specs.Events.{has_event}
use Rattle.verdict_meaning.specs.declared.cert.Cert.{Cert}
use Rattle.verdict_meaning.specs.declared.question.Question.{Question}
use Rattle.verdict_meaning.specs.declared.ranges.Ranges.{Ranges}
use Rattle.verdict_meaning.specs.declared.verdict.Verdict.TheVariants as verdict
use Rattle.verdict_meaning.proofs.PublicLaws.{certificates-no_state}
use Rattle.report_checker.specs.Accepted.{state_fault, tree_fault, verdict_fault}

record Ends (judged : Result ℕ NodeFault) : Type 0 where
  pub nodes : ℕ
  pub is : judged ≡ Ok nodes

-- a tree without a fault is accepted
tree_ends : (places : List ℕ) (judged : Result ℕ NodeFault) → tree_fault places judged ≡ None
    → Ends judged
tree_ends places (Ok nodes) e = record { nodes = nodes; is = refl }
tree_ends places (Err fault) e = absurd (none-some _ (sym e))

-- a state without a fault is a witness
state_found : (at : ℕ) (found : Bool) → state_fault at found ≡ None → found ≡ true
state_found at true e = refl
state_found at false e = absurd (none-some _ (sym e))

pub accepted_entries-holds : (x : Rules) (tables : TableSet) (ranges : Ranges) (question : Question)
    (places : List ℕ) (at : ℕ) (cert : Cert) → HoldsTables tables x.rules
    → verdict_fault x tables ranges question places at (verdict.Holds cert) ≡ None
    → (memory : ℕ → PidMemory) (s : State) → IsInRanges x question ranges memory s
    → has_event x tables memory s question ≡ true → ⊥
unfolding verdict_fault
accepted_entries-holds x tables ranges question places at cert held e memory s =
    let end = tree_ends places (checked_cert x tables ranges question cert) e in
    certificates-no_state x tables memory s question ranges cert end.nodes held end.is

pub accepted_entries-refuted : (x : Rules) (tables : TableSet) (ranges : Ranges)
    (question : Question) (places : List ℕ) (at : ℕ) (s : State) → WellFormed x
    → verdict_fault x tables ranges question places at (verdict.Refuted s) ≡ None
    → IsWitness x tables question ranges s
unfolding verdict_fault
accepted_entries-refuted x tables ranges question places at s formed e =
    (witnesses-test x tables question ranges s formed).0
    (state_found at (is_witness x tables question ranges s) e)

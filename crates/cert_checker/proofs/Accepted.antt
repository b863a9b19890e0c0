-- What a certificate that is accepted, or is not, gives.
use Rattle.std.proofs.Common.{◌≡◌, ℕ, true, Some, Result, Ok, Err, refl, subst}
use Rattle.std.specs.Prelude.{IsTrue}
use Rattle.rule_types.specs.declared.action.PidMemory.{PidMemory}
use Rattle.rule_types.specs.declared.rules.Rules.{Rules}
use Rattle.rule_types.specs.declared.state.State.{State}
use Rattle.rule_types.specs.Tables.{HoldsTables, TableSet}
use Rattle.verdict_meaning.specs.declared.cell.Cell.{Cell}
use Rattle.verdict_meaning.specs.declared.cert.Cert.{Cert}
use Rattle.verdict_meaning.specs.declared.cert.CertEnd.{CertEnd}
use Rattle.verdict_meaning.specs.declared.cert.CertEnd.TheVariants as certificate
use Rattle.verdict_meaning.specs.declared.question.Question.{Question}
use Rattle.verdict_meaning.specs.declared.ranges.Ranges.{Ranges}
use Rattle.verdict_meaning.specs.Boxes.{IsInRanges, first_box}
use Rattle.verdict_meaning.specs.Certificates.{NodeFault, cert_judged, checked_cert, is_end, leaf_cause}
use Rattle.verdict_meaning.specs.Events.{has_event}
use Rattle.verdict_meaning.specs.Verdicts.{written_count}
use Rattle.verdict_meaning.proofs.PublicLaws.{certificates-no_state}
use Rattle.cert_checker.specs.Answers.{IsAnswer, Tells}
use Rattle.cert_checker.specs.internal.Narrowing.{Judges}

from_start : 0 ≡ written_count 0
from_start = refl

-- what the walk through a certificate from the first box on tells
pub checked : (x : Rules) (tables : TableSet) (ranges : Ranges) (question : Question)
    (cert : Cert) (cell : Cell) (result : Result ℕ CertEnd) → cell ≡ first_box x question ranges
    → Judges 0 result (cert_judged (leaf_cause x tables question) cert 1 (Some cell))
    → Tells result (checked_cert x tables ranges question cert)
unfolding checked_cert
checked x tables ranges question cert cell result is h =
    subst
    (λ one. Tells result (cert_judged (leaf_cause x tables question) cert 1 (Some one) 0)) is
    (h.each 0 from_start)

pub accepted : (n : ℕ) (result : Result ℕ CertEnd) (judged : Result ℕ NodeFault)
    → result ≡ Ok n → Tells result judged → IsTrue (is_end judged)
accepted n result judged is h = by_judged judged (subst (λ r. Tells r judged) is h)
  where
    by_judged : (j : Result ℕ NodeFault) → Tells (Ok n) j → IsTrue (is_end j)
    by_judged (Ok m) t = refl
    by_judged (Err fault) t = absurd t

faulty_by : (end : CertEnd) (judged : Result ℕ NodeFault) → Tells (Err end) judged
    → IsAnswer (Err end) judged
faulty_by (certificate.Fault place cause) judged h = h
faulty_by certificate.NoMemory judged h = tt

pub faulty : (end : CertEnd) (result : Result ℕ CertEnd) (judged : Result ℕ NodeFault)
    → result ≡ Err end → Tells result judged → IsAnswer (Err end) judged
faulty end result judged is h = faulty_by end judged (subst (λ r. Tells r judged) is h)

record Ends (judged : Result ℕ NodeFault) : Type 0 where
  pub nodes : ℕ
  pub is : judged ≡ Ok nodes

ends : (n : ℕ) (judged : Result ℕ NodeFault) → Tells (Ok n) judged → Ends judged
ends n (Ok m) h = record { nodes = m; is = refl }
ends n (Err fault) h = absurd h

pub no_state : (x : Rules) (tables : TableSet) (ranges : Ranges) (question : Question)
    (cert : Cert) (n : ℕ) (result : Result ℕ CertEnd) → HoldsTables tables x.rules
    → result ≡ Ok n → Tells result (checked_cert x tables ranges question cert)
    → (memory : ℕ → PidMemory) (s : State) → IsInRanges x question ranges memory s
    → has_event x tables memory s question ≡ true → ⊥
no_state x tables ranges question cert n result held is h memory s =
    let end = ends n (checked_cert x tables ranges question cert)
    (subst (λ r. Tells r (checked_cert x tables ranges question cert)) is h) in
    certificates-no_state x tables memory s question ranges cert end.nodes held end.is

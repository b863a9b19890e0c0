-- The steps through a report, one by one.
use Rattle.std.proofs.Common.{◌≡◌, ℕ, zero, suc, ◌+◌, ◌-◌, ◌<◌, ◌≤◌, Bool, Option, Some, None, Result, Ok, Err, List, [], ◌∷◌, length, sym, ap, subst, ◌∙◌, add-one, arith}
use Rattle.std.proofs.lemmas.Option.{none-some}
use Rattle.std.specs.Prelude.{slice_get, option_map}
use Rattle.inp_text.specs.Sections.{Line}
use Rattle.object_index.specs.Objects.{Objects}
use Rattle.report_checker.specs.Accepted.{entries_judged, entry_judged, fault_at, next_judged}
use Rattle.report_checker.specs.Answers.{IsAnswer}
use Rattle.report_checker.specs.internal.Steps.{Steps}
use Rattle.report_checker.specs.declared.checking.Progress.{Progress}
use Rattle.report_checker.specs.declared.counts.Counts.{Counts}
use Rattle.report_checker.specs.declared.fault.ReportFault.{ReportFault}
use Rattle.report_checker.specs.declared.fault.ReportStop.{ReportStop}
use Rattle.report_checker.specs.declared.fault.ReportStop.TheVariants.{Fault, NoMemory}
use Rattle.report_lines.specs.Reports.{Entry, next_from}
use Rattle.report_lines.specs.Words.{Read}
use Rattle.report_reader.specs.Answers.{Answers, entry_now}
use Rattle.report_reader.specs.declared.entry.EntryRead.{EntryRead}
use Rattle.rule_types.specs.Tables.{TableSet}
use Rattle.rule_types.specs.declared.rules.Rules.{Rules}
use Rattle.verdict_meaning.specs.declared.cert.CertCause.TheVariants as cause
use Rattle.verdict_meaning.specs.declared.ranges.Ranges.{Ranges}

-- the number of lines is the place at which there is none
pub counted : (lines : List Line) (at : ℕ) → at ≤ length lines → None ≡ slice_get lines at
    → at ≡ length lines
counted [] at h e = omega (arith, h)
counted (line ∷ lines) zero h e = absurd (none-some line e)
counted (line ∷ lines) (suc at) h e = ap suc (counted lines at (omega (arith, h)) e)

-- an entry without a fault is counted
pub none_judged : (counts : Counts) (read : Read Entry) (result : Result (Option Progress) ReportStop)
    (fault due : Option ReportFault) → fault ≡ None → fault ≡ due
    → Steps (λ later. entry_judged later counts read None) counts result
    → Steps (λ later. entry_judged later counts read due) counts result
none_judged counts read result fault due none is h =
    subst (λ o. Steps (λ later. entry_judged later counts read o) counts result) (sym none ∙ is) h

-- what is read is what is due
found_due : (due : Result (Option (Read Entry)) ℕ) (found : Option EntryRead)
    → Answers due (Ok found) → due ≡ Ok (option_map entry_now found)
found_due due None h = h
found_due due (Some read) h = h

pub read_judged : (x : Rules) (tables : TableSet) (ranges : Ranges) (at : ℕ) (counts : Counts)
    (due : Result (Option (Read Entry)) ℕ) (found : Option EntryRead)
    (result : Result (Option Progress) ReportStop) → Answers due (Ok found)
    → Steps (λ later. next_judged x tables ranges at later counts (Ok (option_map entry_now found))) counts result
    → Steps (λ later. next_judged x tables ranges at later counts due) counts result
read_judged x tables ranges at counts due found result h step =
    subst (λ one. Steps (λ later. next_judged x tables ranges at later counts one) counts result)
    (sym (found_due due found h)) step

-- ---- the loop
module _ (x : Rules) (tables : TableSet) (objects : Objects) (ranges : Ranges) (lines : List Line)
    (facts : Bool) where
  judged : ℕ → ℕ → Counts → Result Counts ReportFault
  judged = entries_judged x tables objects ranges lines facts

  step_is : (most turn at : ℕ) (counts : Counts) → turn < most
      → judged (most - turn) at counts
      ≡ next_judged x tables ranges at (judged (most - suc turn)) counts (next_from lines x objects facts at)
  unfolding entries_judged judged
  step_is most turn at counts within =
      let left : most - turn ≡ suc (most - suc turn) = omega (arith, within) in
      ap (λ n. entries_judged x tables objects ranges lines facts n at counts) left

  Step : ℕ → Counts → Result (Option Progress) ReportStop → Type 0
  Step at counts result =
      Steps (λ later. next_judged x tables ranges at later counts (next_from lines x objects facts at)) counts result

  -- a step that stops
  pub stop_judged : (most turn at : ℕ) (counts : Counts) (due : Result Counts ReportFault)
      (stop : ReportStop) → turn < most
      → entries_judged x tables objects ranges lines facts (most - turn) at counts ≡ due
      → Steps (λ later. next_judged x tables ranges at later counts (next_from lines x objects facts at)) counts (Err stop)
      → IsAnswer due (Err stop)
  unfolding judged Step
  stop_judged most turn at counts due (Fault fault) within is step =
      sym is ∙ step_is most turn at counts within ∙ step (judged (most - suc turn))
  stop_judged most turn at counts due NoMemory within is step = tt

  -- a step that ends the report
  pub end_judged : (most turn at : ℕ) (counts : Counts) (due : Result Counts ReportFault)
      (found : Option Progress) → turn < most
      → entries_judged x tables objects ranges lines facts (most - turn) at counts ≡ due
      → found ≡ None
      → Steps (λ later. next_judged x tables ranges at later counts (next_from lines x objects facts at)) counts (Ok found)
      → due ≡ Ok counts
  unfolding judged Step
  end_judged most turn at counts due found within is none step =
      sym is ∙ step_is most turn at counts within
      ∙ subst (Step at counts) (ap Ok none) step (judged (most - suc turn))

  -- a step that goes on
  pub goes_on : (most turn at : ℕ) (counts : Counts) (due : Result Counts ReportFault)
      (found : Option Progress) (next : Progress) → turn < most
      → entries_judged x tables objects ranges lines facts (most - turn) at counts ≡ due
      → found ≡ Some next
      → Steps (λ later. next_judged x tables ranges at later counts (next_from lines x objects facts at)) counts (Ok found)
      → entries_judged x tables objects ranges lines facts (most - (turn + 1)) next.at next.counts ≡ due
  unfolding judged Step
  goes_on most turn at counts due found next within is some step =
      ap (λ n. entries_judged x tables objects ranges lines facts (most - n) next.at next.counts) (add-one turn)
      ∙ sym (subst (Step at counts) (ap Ok some) step (judged (most - suc turn)))
      ∙ sym (step_is most turn at counts within) ∙ is

  -- after the last step
  pub last_judged : (left at : ℕ) (counts : Counts) (due : Result Counts ReportFault)
      (stop : ReportStop) → left ≡ 0
      → entries_judged x tables objects ranges lines facts left at counts ≡ due
      → IsAnswer (Err (fault_at at cause.Shape)) (Err stop) → IsAnswer due (Err stop)
  unfolding entries_judged
  last_judged left at counts due stop none is h =
      subst (λ d. IsAnswer d (Err stop))
      (sym (ap (λ n. entries_judged x tables objects ranges lines facts n at counts) none) ∙ is) h

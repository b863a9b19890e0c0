-- A report whose entries are all accepted is accepted, with their counts.
use Rattle.std.proofs.Common.{◌≡◌, ℕ, zero, suc, Bool, true, false, Option, Some, None, Result, Ok}
use Rattle.std.proofs.Common.{Err, List, [], ◌∷◌, length, refl, sym, ap, subst, ◌∙◌}
use Rattle.std.proofs.lemmas.Bool.{and_parts, true≢false}
use Rattle.std.specs.List.{list_all}
use Rattle.inp_text.specs.Sections.{Line}
use Rattle.num_text.specs.Fields.{◌>>=◌}
use Rattle.object_index.specs.Objects.{Objects}
use Rattle.report_lines.specs.Reports.{Entry, before_entries, entries_after, entries_from}
use Rattle.report_lines.specs.Reports.{next_from, report_of}
use Rattle.report_lines.specs.Reports.{report_with, version_by}
use Rattle.report_lines.specs.Words.{Read, line_at}
use Rattle.report_reader.specs.Answers.{version_of}
use Rattle.rule_types.specs.Tables.{TableSet}
use Rattle.rule_types.specs.declared.rules.Rules.{Rules}
use Rattle.state_checker.specs.Witnesses.{is_witness}
use Rattle.verdict_meaning.specs.Certificates.{NodeFault, checked_cert, is_end}
use Rattle.verdict_meaning.specs.declared.question.Question.{Question}
use Rattle.verdict_meaning.specs.declared.ranges.Ranges.{Ranges}
use Rattle.verdict_meaning.specs.declared.verdict.Verdict.{Verdict}
use Rattle.verdict_meaning.specs.declared.verdict.Verdict.TheVariants as verdict
use Rattle.report_checker.specs.Accepted.{counted_from, entries_judged, entry_judged, fault_at}
use Rattle.report_checker.specs.Accepted.{is_accepted_entry, is_accepted_verdict, next_judged}
use Rattle.report_checker.specs.Accepted.{no_counts}
use Rattle.report_checker.specs.Accepted.{report_judged, state_fault, tree_fault, verdict_fault}
use Rattle.report_checker.specs.Accepted.{version_judged}
use Rattle.report_checker.specs.Accepted.{with_verdict}
use Rattle.report_checker.specs.declared.counts.Counts.{Counts}
use Rattle.report_checker.specs.declared.fault.ReportFault.{ReportFault}

-- ---- answers
IsErr : {A E : Type 0} → Result A E → Type 0
IsErr (Ok value) = ⊥
IsErr (Err fault) = Unit {0}

err_ok : {A E : Type 0} (fault : E) (value : A) → Err fault ≡ Ok value → ⊥
unfolding IsErr
err_ok fault value e = subst IsErr e tt

ok_or : {A E : Type 0} → A → Result A E → A
ok_or other (Ok value) = value
ok_or other (Err fault) = other

same_ok : {A E : Type 0} (one other : A) (due : Result A E) → due ≡ Ok one → due ≡ Ok other
    → one ≡ other
unfolding ok_or
same_ok one other due h g = sym (ap (ok_or one) h) ∙ ap (ok_or one) g

-- ---- one verdict
no_tree_fault : (places : List ℕ) (judged : Result ℕ NodeFault) → is_end judged ≡ true
    → tree_fault places judged ≡ None
no_tree_fault places (Ok nodes) e = refl
no_tree_fault places (Err fault) e = absurd (true≢false (sym e))

no_state_fault : (at : ℕ) (found : Bool) → found ≡ true → state_fault at found ≡ None
no_state_fault at true e = refl
no_state_fault at false e = absurd (true≢false (sym e))

no_fault : (x : Rules) (tables : TableSet) (ranges : Ranges) (question : Question)
    (places : List ℕ) (at : ℕ) (answer : Verdict)
    → is_accepted_verdict x tables ranges question answer ≡ true
    → verdict_fault x tables ranges question places at answer ≡ None
unfolding verdict_fault
no_fault x tables ranges question places at (verdict.Holds cert) e =
    no_tree_fault places (checked_cert x tables ranges question cert) e
no_fault x tables ranges question places at (verdict.Refuted s) e =
    no_state_fault at (is_witness x tables question ranges s) e
no_fault x tables ranges question places at (verdict.Undecided why) e = refl

entry_accepted : (x : Rules) (tables : TableSet) (ranges : Ranges) (entry : Entry)
    → is_accepted_entry x tables ranges entry ≡ true
    → is_accepted_verdict x tables ranges entry.question entry.verdict ≡ true
unfolding is_accepted_entry
entry_accepted x tables ranges entry e = e

-- ---- all entries
module _ (x : Rules) (tables : TableSet) (objects : Objects) (ranges : Ranges) (lines : List Line)
    (facts : Bool) where
  Back : ℕ → Type 0
  Back most =
      (at : ℕ) (counts : Counts) (entries : List Entry)
      → entries_from lines x objects facts most at ≡ Ok entries
      → list_all (is_accepted_entry x tables ranges) entries ≡ true
      → entries_judged x tables objects ranges lines facts most at counts
      ≡ Ok (counted_from counts entries)

  with_more : (most at : ℕ) (counts : Counts) (read : Read Entry) (more : List Entry)
      → Back most → entries_from lines x objects facts most read.next ≡ Ok more
      → list_all (is_accepted_entry x tables ranges) (read.value ∷ more) ≡ true
      → next_judged x tables ranges at (entries_judged x tables objects ranges lines facts most) counts
      (Ok (Some read)) ≡ Ok (counted_from counts (read.value ∷ more))
  unfolding Back counted_from
  with_more most at counts read more later is accepted =
      let parts = and_parts (is_accepted_entry x tables ranges read.value)
      (list_all (is_accepted_entry x tables ranges) more) accepted in
      ap (entry_judged (entries_judged x tables objects ranges lines facts most) counts read)
      (no_fault x tables ranges read.value.question read.value.places (suc at) read.value.verdict
      (entry_accepted x tables ranges read.value parts.0))
      ∙ later read.next (with_verdict counts read.value.verdict) more is parts.1

  by_more : (most at : ℕ) (counts : Counts) (entries : List Entry) (read : Read Entry)
      (due : Result (List Entry) ℕ) → Back most
      → entries_from lines x objects facts most read.next ≡ due
      → before_entries read.value due ≡ Ok entries
      → list_all (is_accepted_entry x tables ranges) entries ≡ true
      → next_judged x tables ranges at (entries_judged x tables objects ranges lines facts most) counts
      (Ok (Some read)) ≡ Ok (counted_from counts entries)
  by_more most at counts entries read (Err place) later is e accepted = absurd (err_ok place entries e)
  by_more most at counts entries read (Ok more) later is e accepted =
      let same = same_ok (read.value ∷ more) entries (Ok (read.value ∷ more)) refl e in
      subst
      (λ l. next_judged x tables ranges at (entries_judged x tables objects ranges lines facts most) counts
      (Ok (Some read)) ≡ Ok (counted_from counts l)) same
      (with_more most at counts read more later is
      (subst (λ l. list_all (is_accepted_entry x tables ranges) l ≡ true) (sym same) accepted))

  by_next : (most at : ℕ) (counts : Counts) (entries : List Entry)
      (due : Result (Option (Read Entry)) ℕ) → Back most
      → entries_after due (entries_from lines x objects facts most) ≡ Ok entries
      → list_all (is_accepted_entry x tables ranges) entries ≡ true
      → next_judged x tables ranges at (entries_judged x tables objects ranges lines facts most) counts due
      ≡ Ok (counted_from counts entries)
  unfolding counted_from
  by_next most at counts entries (Err place) later e accepted = absurd (err_ok place entries e)
  by_next most at counts entries (Ok None) later e accepted =
      ap (λ l. Ok (counted_from counts l)) (same_ok [] entries (Ok []) refl e)
  by_next most at counts entries (Ok (Some read)) later e accepted =
      by_more most at counts entries read (entries_from lines x objects facts most read.next) later refl e accepted

  all_back : (most : ℕ) → Back most
  unfolding Back entries_judged entries_from
  all_back zero at counts entries e accepted = absurd (err_ok at entries e)
  all_back (suc most) at counts entries e accepted =
      by_next most at counts entries (next_from lines x objects facts at) (all_back most) e accepted

by_version : (x : Rules) (tables : TableSet) (objects : Objects) (ranges : Ranges)
    (lines : List Line) (version : Option Bool) (entries : List Entry)
    → report_with lines x objects version ≡ Ok entries
    → list_all (is_accepted_entry x tables ranges) entries ≡ true
    → version_judged x tables objects ranges lines version ≡ Ok (counted_from no_counts entries)
unfolding Back
by_version x tables objects ranges lines None entries e accepted = absurd (err_ok 0 entries e)
by_version x tables objects ranges lines (Some facts) entries e accepted =
    all_back x tables objects ranges lines facts (length lines) 1 no_counts entries e accepted

-- a report whose entries are accepted is accepted
pub judged_back : (x : Rules) (tables : TableSet) (objects : Objects) (ranges : Ranges)
    (lines : List Line) (entries : List Entry) → report_of lines x objects ≡ Ok entries
    → list_all (is_accepted_entry x tables ranges) entries ≡ true
    → report_judged x tables objects ranges lines ≡ Ok (counted_from no_counts entries)
unfolding report_judged report_of version_of
judged_back x tables objects ranges lines entries e accepted =
    by_version x tables objects ranges lines (line_at lines 0 >>= version_by) entries e accepted

-- What an accepted report gives: its entries, each accepted, and their counts.
use Rattle.std.proofs.Common.{◌≡◌, ℕ, zero, suc, Bool, true, false, Option, Some, None, Result, Ok, Err, List, [], ◌∷◌, length, refl, sym, ap, subst, ◌∙◌}
use Rattle.std.proofs.lemmas.Option.{none-some}
use Rattle.std.specs.Prelude.{◌&&◌}
use Rattle.std.specs.List.{list_all}
use Rattle.inp_text.specs.Sections.{Line}
use Rattle.num_text.specs.Fields.{◌>>=◌}
use Rattle.object_index.specs.Objects.{Objects}
use Rattle.report_lines.specs.Reports.{Entry, before_entries, entries_after, entries_from, next_from, report_of}
use Rattle.report_lines.specs.Reports.{report_with, version_by}
use Rattle.report_lines.specs.Words.{Read, line_at}
use Rattle.report_reader.specs.Answers.{version_of}
use Rattle.rule_types.specs.Tables.{TableSet}
use Rattle.rule_types.specs.declared.rules.Rules.{Rules}
use Rattle.state_checker.specs.Witnesses.{is_witness}
use Rattle.verdict_meaning.specs.Certificates.{NodeFault, checked_cert, is_end}
use Rattle.verdict_meaning.specs.declared.question.Question.{Question}
use Rattle.verdict_meaning.specs.declared.ranges.Ranges.{Ranges}
use Rattle.verdict_meaning.specs.declared.verdict.Verdict.{Verdict}
use Rattle.verdict_meaning.specs.declared.verdict.Verdict.TheVariants as verdict
use Rattle.report_checker.specs.Accepted.{counted_from, entries_judged, entry_fault, entry_judged}
use Rattle.report_checker.specs.Accepted.{is_accepted_entry, next_judged, no_counts, report_judged}
use Rattle.report_checker.specs.Accepted.{state_fault, tree_fault, verdict_fault, version_judged, with_verdict}
use Rattle.report_checker.specs.declared.counts.Counts.{Counts}
use Rattle.report_checker.specs.declared.fault.ReportFault.{ReportFault}

-- ---- answers
IsErr : {A E : Type 0} → Result A E → Type 0
IsErr (Ok value) = ⊥
IsErr (Err fault) = Unit {0}

err_ok : {A E : Type 0} (fault : E) (value : A) → Err fault ≡ Ok value → ⊥
unfolding IsErr
err_ok fault value e = subst IsErr e tt

counts_or : Counts → Result Counts ReportFault → Counts
counts_or counts (Ok value) = value
counts_or counts (Err fault) = counts

same_counts : (one other : Counts) (judged : Result Counts ReportFault) → judged ≡ Ok one
    → judged ≡ Ok other → one ≡ other
unfolding counts_or
same_counts one other judged h g = sym (ap (counts_or one) h) ∙ ap (counts_or one) g

-- ---- one entry
tree_accepted : (places : List ℕ) (judged : Result ℕ NodeFault) → tree_fault places judged ≡ None
    → is_end judged ≡ true
tree_accepted places (Ok nodes) e = refl
tree_accepted places (Err fault) e = absurd (none-some _ (sym e))

state_accepted : (at : ℕ) (found : Bool) → state_fault at found ≡ None → found ≡ true
state_accepted at true e = refl
state_accepted at false e = absurd (none-some _ (sym e))

verdict_accepted : (x : Rules) (tables : TableSet) (ranges : Ranges) (question : Question)
    (places : List ℕ) (at : ℕ) (v : Verdict)
    → verdict_fault x tables ranges question places at v ≡ None
    → is_accepted_entry x tables ranges (record { question = question; verdict = v; places = places }) ≡ true
unfolding verdict_fault is_accepted_entry
verdict_accepted x tables ranges question places at (verdict.Holds cert) e =
    tree_accepted places (checked_cert x tables ranges question cert) e
verdict_accepted x tables ranges question places at (verdict.Refuted s) e =
    state_accepted at (is_witness x tables question ranges s) e
verdict_accepted x tables ranges question places at (verdict.Undecided why) e = refl

both : (a b : Bool) → a ≡ true → b ≡ true → (a && b) ≡ true
both true b e f = f
both false b e f = e

-- ---- all entries
pub record Accepts (x : Rules) (tables : TableSet) (ranges : Ranges) (due : Result (List Entry) ℕ)
    (counts result : Counts) : Type 0 where
  pub entries : List Entry
  pub is : due ≡ Ok entries
  pub accepted : list_all (is_accepted_entry x tables ranges) entries ≡ true
  pub counted : result ≡ counted_from counts entries

module _ (x : Rules) (tables : TableSet) (objects : Objects) (ranges : Ranges) (lines : List Line)
    (facts : Bool) where
  Later : ℕ → Type 0
  Later most =
      (at : ℕ) (counts result : Counts)
      → entries_judged x tables objects ranges lines facts most at counts ≡ Ok result
      → Accepts x tables ranges (entries_from lines x objects facts most at) counts result

  by_fault : (most at : ℕ) (counts result : Counts) (read : Read Entry) (fault : Option ReportFault)
      → Later most → entry_fault x tables ranges at read.value ≡ fault
      → entry_judged (entries_judged x tables objects ranges lines facts most) counts read fault ≡ Ok result
      → Accepts x tables ranges (entries_after (Ok (Some read)) (entries_from lines x objects facts most)) counts result
  unfolding Later counted_from
  by_fault most at counts result read (Some fault) later is e = absurd (err_ok fault result e)
  by_fault most at counts result read None later is e =
      let rest = later read.next (with_verdict counts read.value.verdict) result e in
      record {
        entries = read.value ∷ rest.entries;
        is = ap (before_entries read.value) rest.is;
        accepted =
            both (is_accepted_entry x tables ranges read.value)
            (list_all (is_accepted_entry x tables ranges) rest.entries)
            (verdict_accepted x tables ranges read.value.question read.value.places (suc at) read.value.verdict is)
            rest.accepted;
        counted = rest.counted;
      }

  by_next : (most at : ℕ) (counts result : Counts) (due : Result (Option (Read Entry)) ℕ)
      → Later most
      → next_judged x tables ranges at (entries_judged x tables objects ranges lines facts most) counts due ≡ Ok result
      → Accepts x tables ranges (entries_after due (entries_from lines x objects facts most)) counts result
  unfolding counted_from Later
  by_next most at counts result (Err place) later e = absurd (err_ok _ result e)
  by_next most at counts result (Ok None) later e =
      record { entries = []; is = refl; accepted = refl; counted = sym (same_counts counts result (Ok counts) refl e) }
  by_next most at counts result (Ok (Some read)) later e =
      by_fault most at counts result read (entry_fault x tables ranges at read.value) later refl e

  all_accepted : (most : ℕ) → Later most
  unfolding Later entries_judged entries_from
  all_accepted zero at counts result e = absurd (err_ok _ result e)
  all_accepted (suc most) at counts result e =
      by_next most at counts result (next_from lines x objects facts at) (all_accepted most) e

by_version : (x : Rules) (tables : TableSet) (objects : Objects) (ranges : Ranges)
    (lines : List Line) (version : Option Bool) (result : Counts)
    → version_judged x tables objects ranges lines version ≡ Ok result
    → Accepts x tables ranges (report_with lines x objects version) no_counts result
unfolding Later
by_version x tables objects ranges lines None result e = absurd (err_ok _ result e)
by_version x tables objects ranges lines (Some facts) result e =
    all_accepted x tables objects ranges lines facts (length lines) 1 no_counts result e

accepts : (x : Rules) (tables : TableSet) (objects : Objects) (ranges : Ranges) (lines : List Line)
    (result : Counts) → report_judged x tables objects ranges lines ≡ Ok result
    → Accepts x tables ranges (report_of lines x objects) no_counts result
unfolding report_judged report_of version_of
accepts x tables objects ranges lines result e =
    by_version x tables objects ranges lines (line_at lines 0 >>= version_by) result e

-- a report that is accepted has entries, each of which is accepted, and the counts are theirs
pub accepted_reports-entries : (x : Rules) (tables : TableSet) (objects : Objects) (ranges : Ranges)
    (lines : List Line) (counts : Counts)
    → report_judged x tables objects ranges lines ≡ Ok counts
    → (entries : List Entry) × (report_of lines x objects ≡ Ok entries)
    × (list_all (is_accepted_entry x tables ranges) entries ≡ true)
    × (counts ≡ counted_from no_counts entries)
accepted_reports-entries x tables objects ranges lines counts e =
    let all = accepts x tables objects ranges lines counts e in
    (all.entries, all.is, all.accepted, all.counted)

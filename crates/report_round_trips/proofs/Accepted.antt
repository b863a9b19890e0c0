-- The report that is written of right verdicts is accepted, with their counts.
use Rattle.std.proofs.Common.{◌≡◌, ℕ, ◌^◌, ◌<◌, Bool, true, false, Ok, List, [], ◌∷◌, length, map}
use Rattle.std.proofs.Common.{refl, sym, ap, subst, ◌∙◌, arith}
use Rattle.std.specs.Prelude.{◌&&◌, All}
use Rattle.std.specs.List.{AllZip, list_all, zip}
use Rattle.std.proofs.lemmas.List.Elements.{All-nil, All-cons, All-head, All-tail}
use Rattle.std.proofs.lemmas.Slice.Zip.{AllZip-long, seconds-zip}
use Rattle.byte_edge.specs.Lines.{capped, lines}
use Rattle.object_index.specs.Objects.{Objects}
use Rattle.rule_types.specs.Tables.{TableSet}
use Rattle.rule_types.specs.WellFormed.{WellFormed}
use Rattle.rule_types.specs.declared.rules.Rules.{Rules}
use Rattle.verdict_meaning.specs.Verdicts.{IsVerdict}
use Rattle.verdict_meaning.specs.declared.question.Question.{Question}
use Rattle.verdict_meaning.specs.declared.ranges.Ranges.{Ranges}
use Rattle.verdict_meaning.specs.declared.verdict.Verdict.{Verdict}
use Rattle.verdict_meaning.specs.declared.verdict.Verdict.TheVariants as verdict
use Rattle.grid_samples.specs.Cells.{HasClosedRanges}
use Rattle.verdict_search.proofs.PublicLaws.{verdicts-event, verdicts-in_ranges}
use Rattle.state_checker.proofs.PublicLaws.{witnesses-test}
use Rattle.report_lines.specs.Reports.{Entry}
use Rattle.report_text.specs.ReadBack.{AreLineNames, asked_of, written_lines}
use Rattle.report_text.specs.Readable.{IsEntryOf}
use Rattle.report_text.specs.WrittenReports.{Asked, report_text}
use Rattle.report_text.proofs.PublicLaws.{reports-back, texts-report}
use Rattle.report_checker.specs.Accepted.{is_accepted_entry, is_accepted_verdict, report_judged}
use Rattle.report_round_trips.specs.VerdictCounts.{counts_of}
use Rattle.report_round_trips.proofs.Counted.{entries_counted}
use Rattle.report_round_trips.proofs.JudgedBack.{judged_back}

-- ---- questions with their verdicts, one by one
pub all_zipped : {A B : Type 0} (P : A × B → Type 0) (ks : List A) (vs : List B)
    → AllZip (λ k v. P (k, v)) ks vs → All P (zip ks vs)
all_zipped P [] [] each = All-nil P
all_zipped P [] (v ∷ vs) each = absurd each
all_zipped P (k ∷ ks) [] each = absurd each
all_zipped P (k ∷ ks) (v ∷ vs) each =
    All-cons P (k, v) (zip ks vs) each.0 (all_zipped P ks vs each.1)

-- ---- each verdict is accepted
verdict_accepted : (x : Rules) (tables : TableSet) (ranges : Ranges) (question : Question)
    (answer : Verdict) → WellFormed x → HasClosedRanges ranges
    → IsVerdict x tables ranges question answer
    → is_accepted_verdict x tables ranges question answer ≡ true
verdict_accepted x tables ranges question (verdict.Holds cert) formed closed right = right.accepted
verdict_accepted x tables ranges question (verdict.Refuted s) formed closed right =
    (witnesses-test x tables question ranges s formed).1 (record {
      in_ranges = verdicts-in_ranges x tables ranges question s formed closed right;
      event = verdicts-event x tables ranges question s right;
    })
verdict_accepted x tables ranges question (verdict.Undecided why) formed closed right = refl

entry_accepted : (x : Rules) (tables : TableSet) (ranges : Ranges) (entry : Entry)
    → is_accepted_verdict x tables ranges entry.question entry.verdict ≡ true
    → is_accepted_entry x tables ranges entry ≡ true
unfolding is_accepted_entry
entry_accepted x tables ranges entry e = e

both : (a b : Bool) → a ≡ true → b ≡ true → (a && b) ≡ true
both true b e f = f
both false b e f = e

abbrev IsRight : Rules → TableSet → Ranges → Asked → Type 0
IsRight x tables ranges asked = IsVerdict x tables ranges asked.0 asked.1

all_accepted : (x : Rules) (tables : TableSet) (ranges : Ranges) (read : List Entry)
    → WellFormed x → HasClosedRanges ranges → All (IsRight x tables ranges) (map asked_of read)
    → list_all (is_accepted_entry x tables ranges) read ≡ true
all_accepted x tables ranges [] formed closed right = refl
all_accepted x tables ranges (entry ∷ more) formed closed right =
    both (is_accepted_entry x tables ranges entry)
    (list_all (is_accepted_entry x tables ranges) more)
    (entry_accepted x tables ranges entry
    (verdict_accepted x tables ranges entry.question entry.verdict formed closed
    (All-head (IsRight x tables ranges) (asked_of entry) (map asked_of more) right)))
    (all_accepted x tables ranges more formed closed
    (All-tail (IsRight x tables ranges) (asked_of entry) (map asked_of more) right))

-- ---- the report
abbrev answer_of : Asked → Verdict
answer_of asked = asked.1

same_answers : (read : List Entry)
    → map (λ entry. entry.verdict) read ≡ map answer_of (map asked_of read)
same_answers [] = refl
same_answers (entry ∷ more) = ap (λ l. entry.verdict ∷ l) (same_answers more)

few_rules : (x : Rules) → WellFormed x → length x.rules < 2 ^ 64
few_rules x formed = omega (arith, formed.rules_counted)

entries_accepted : (x : Rules) (tables : TableSet) (objects : Objects) (ranges : Ranges)
    (entries : List Asked) → WellFormed x → HasClosedRanges ranges → AreLineNames objects
    → All (IsEntryOf x objects) entries → All (IsRight x tables ranges) entries
    → report_judged x tables objects ranges
    (map (capped 8192) (lines (report_text x objects entries)))
    ≡ Ok (counts_of (map answer_of entries))
entries_accepted x tables objects ranges entries formed closed names each right =
    let back = reports-back x objects entries (few_rules x formed) each in
    let verdicts = same_answers back.read ∙ ap (map answer_of) back.same in
    ap (report_judged x tables objects ranges) (texts-report x objects entries names)
    ∙ judged_back x tables objects ranges (written_lines x objects entries) back.read back.is
    (all_accepted x tables ranges back.read formed closed
    (subst (All (IsRight x tables ranges)) (sym back.same) right))
    ∙ ap Ok (entries_counted back.read ∙ ap counts_of verdicts)

-- the lines of the report of questions with right verdicts are accepted, with the verdicts' counts
pub report_accepted : (x : Rules) (tables : TableSet) (objects : Objects) (ranges : Ranges)
    (verdicts : List Verdict) → WellFormed x → HasClosedRanges ranges → AreLineNames objects
    → AllZip (λ question answer. IsEntryOf x objects (question, answer)) ranges.questions verdicts
    → AllZip (IsVerdict x tables ranges) ranges.questions verdicts
    → report_judged x tables objects ranges
    (map (capped 8192) (lines (report_text x objects (zip ranges.questions verdicts))))
    ≡ Ok (counts_of verdicts)
report_accepted x tables objects ranges verdicts formed closed names each right =
    let questions = ranges.questions in
    entries_accepted x tables objects ranges (zip questions verdicts) formed closed names
    (all_zipped (IsEntryOf x objects) questions verdicts each)
    (all_zipped (IsRight x tables ranges) questions verdicts right)
    ∙ ap (λ l. Ok (counts_of l)) (seconds-zip questions verdicts
    (AllZip-long (IsVerdict x tables ranges) questions verdicts right))

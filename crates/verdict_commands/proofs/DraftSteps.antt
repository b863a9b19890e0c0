-- A report while its questions are decided: before the first, after one more, and at its end.
use Rattle.std.proofs.Common.{◌≡◌, ◌∙◌, ℕ, ◌+◌, ◌<◌, ◌≤◌, Bool, true, false, List, [], ◌∷◌, ◌++◌}
use Rattle.std.proofs.Common.{drop, get_or, length, refl, sym, ap, subst}
use Rattle.std.specs.Prelude.{◌||◌}
use Rattle.std.specs.List.{flat_map, list_any, zip}
use Rattle.std.proofs.Math.Bool.{or_assoc}
use Rattle.std.proofs.lemmas.Grind.{flat_map-append}
use Rattle.std.proofs.lemmas.List.{append-nil, append_assoc, drop_all, drop_more}
use Rattle.command_outputs.specs.declared.completion.Completion.{Completion}
use Rattle.report_lines.specs.Reports.{end_text, second_version}
use Rattle.report_text.specs.WrittenReports.{Asked, Texts, asked_lines, ended, report_lines, text_of}
use Rattle.verdict_meaning.specs.declared.question.Question.{Question}
use Rattle.verdict_meaning.specs.declared.verdict.Verdict.{Verdict}
use Rattle.verdict_commands.specs.Proves.{completion_by, is_refuted, is_undecided, prove_text}
use Rattle.verdict_commands.specs.declared.prepared.Prepared.{Prepared}
use Rattle.verdict_commands.specs.internal.Drafts.{AddsEntry, IsDraft, IsReport, LacksEntries}
use Rattle.verdict_commands.specs.internal.Drafts.{decided_text, entries_text, first_text}

-- ---- texts
-- the text of some lines and of more
lines_joined : (front back : Texts) → text_of (front ++ back) ≡ text_of front ++ text_of back
unfolding text_of
lines_joined front back = flat_map-append ended front back

-- one entry before others
entry_first : (p : Prepared) (question : Question) (answer : Verdict) (more : List Asked)
    → entries_text p ((question, answer) ∷ more)
    ≡ decided_text p question answer ++ entries_text p more
entry_first p question answer more =
    let write = asked_lines p.project.rules p.project.objects in
    lines_joined (write (question, answer)) (flat_map write more)

-- no entries
no_entries : (p : Prepared) → entries_text p [] ≡ []
unfolding text_of
no_entries p = refl

-- a report is its first line, its entries and its last line
report_joined : (p : Prepared) (answers : List Verdict)
    → (first_text ++ entries_text p (zip p.ranges.questions answers)) ++ text_of (end_text ∷ [])
    ≡ prove_text p answers
unfolding report_lines
report_joined p answers =
    let entries = flat_map (asked_lines p.project.rules p.project.objects)
    (zip p.ranges.questions answers) in
    joined second_version end_text entries
  where
    joined : (first last : List ℕ) (entries : Texts)
        → (text_of (first ∷ []) ++ text_of entries) ++ text_of (last ∷ [])
        ≡ text_of (first ∷ (entries ++ last ∷ []))
    joined first last entries =
        ap (λ front. front ++ text_of (last ∷ [])) (sym (lines_joined (first ∷ []) entries))
        ∙ sym (lines_joined (first ∷ entries) (last ∷ []))

-- ---- the walk
first_draft : (p : Prepared) (text : List ℕ) (refuted undecided : Bool)
    → text ≡ first_text → refuted ≡ false → undecided ≡ false
    → LacksEntries p p.ranges.questions text refuted undecided
first_draft p text refuted undecided is none_refuted none_undecided later right = record {
  verdicts = later;
  right = right;
  text_is = ap (λ front. front ++ entries_text p (zip p.ranges.questions later)) is;
  refuted_is = ap (λ b. b || list_any is_refuted later) none_refuted;
  undecided_is = ap (λ b. b || list_any is_undecided later) none_undecided;
}

pub none_decided : (p : Prepared) (questions : List Question) (text : List ℕ)
    (refuted undecided : Bool) → questions ≡ p.ranges.questions
    → text ≡ first_text → refuted ≡ false → undecided ≡ false
    → LacksEntries p questions text refuted undecided
none_decided p questions text refuted undecided same is none_refuted none_undecided =
    subst (λ (l : List Question). LacksEntries p l text refuted undecided) (sym same)
    (first_draft p text refuted undecided is none_refuted none_undecided)

first_decided : (p : Prepared) (question : Question) (rest : List Question) (was now : List ℕ)
    (refuted_was refuted_now undecided_was undecided_now : Bool)
    → LacksEntries p (question ∷ rest) was refuted_was undecided_was
    → AddsEntry p question was now refuted_was refuted_now undecided_was undecided_now
    → LacksEntries p rest now refuted_now undecided_now
first_decided p question rest was now rw rn uw un before adds later right =
    let draft = before (adds.verdict ∷ later) (adds.right, right) in
    let more = entries_text p (zip rest later) in
    record {
      verdicts = draft.verdicts;
      right = draft.right;
      text_is = ap (λ front. front ++ more) adds.text_is
          ∙ append_assoc was (decided_text p question adds.verdict) more
          ∙ ap (λ back. was ++ back) (sym (entry_first p question adds.verdict (zip rest later)))
          ∙ draft.text_is;
      refuted_is = ap (λ b. b || list_any is_refuted later) adds.refuted_is
          ∙ or_assoc rw (is_refuted adds.verdict) (list_any is_refuted later)
          ∙ draft.refuted_is;
      undecided_is = ap (λ b. b || list_any is_undecided later) adds.undecided_is
          ∙ or_assoc uw (is_undecided adds.verdict) (list_any is_undecided later)
          ∙ draft.undecided_is;
    }

pub one_decided : (p : Prepared) (questions : List Question) (question : Question) (i : ℕ)
    (was now : List ℕ) (refuted_was refuted_now undecided_was undecided_now : Bool)
    → i < length questions → question ≡ get_or questions i question
    → LacksEntries p (drop i questions) was refuted_was undecided_was
    → AddsEntry p question was now refuted_was refuted_now undecided_was undecided_now
    → LacksEntries p (drop (i + 1) questions) now refuted_now undecided_now
one_decided p questions question i was now rw rn uw un within is before adds =
    let rest = drop (i + 1) questions in
    let here : drop i questions ≡ question ∷ rest =
    drop_more questions i question within ∙ ap (λ q. q ∷ rest) (sym is) in
    first_decided p question rest was now rw rn uw un
    (subst (λ (l : List Question). LacksEntries p l was rw uw) here before) adds

or_nothing : (b : Bool) → (b || false) ≡ b
or_nothing true = refl
or_nothing false = refl

last_draft : (p : Prepared) (text : List ℕ) (refuted undecided : Bool)
    → LacksEntries p [] text refuted undecided → IsDraft p text refuted undecided
last_draft p text refuted undecided before =
    let draft = before [] tt in
    record {
      verdicts = draft.verdicts;
      right = draft.right;
      text_is = sym (append-nil text) ∙ ap (λ back. text ++ back) (sym (no_entries p))
          ∙ draft.text_is;
      refuted_is = sym (or_nothing refuted) ∙ draft.refuted_is;
      undecided_is = sym (or_nothing undecided) ∙ draft.undecided_is;
    }

pub all_decided : (p : Prepared) (questions : List Question) (i : ℕ) (text : List ℕ)
    (refuted undecided : Bool) → length questions ≤ i
    → LacksEntries p (drop i questions) text refuted undecided → IsDraft p text refuted undecided
all_decided p questions i text refuted undecided past before =
    last_draft p text refuted undecided
    (subst (λ (l : List Question). LacksEntries p l text refuted undecided)
    (drop_all i questions past) before)

pub report_ended : (p : Prepared) (was now : List ℕ) (refuted undecided : Bool)
    (completion : Completion) → IsDraft p was refuted undecided
    → now ≡ was ++ text_of (end_text ∷ []) → completion ≡ completion_by refuted undecided
    → IsReport p now completion
report_ended p was now refuted undecided completion draft ends is = record {
  verdicts = draft.verdicts;
  right = draft.right;
  text_is = ends ∙ ap (λ front. front ++ text_of (end_text ∷ [])) draft.text_is
      ∙ report_joined p draft.verdicts;
  completion_is = is
      ∙ ap (λ b. completion_by b undecided) draft.refuted_is
      ∙ ap (λ b. completion_by (list_any is_refuted draft.verdicts) b) draft.undecided_is;
}

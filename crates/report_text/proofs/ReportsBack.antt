-- Entries and whole reports are read back from their lines.
use Rattle.std.proofs.Common.{◌≡◌, ℕ, zero, suc, ◌+◌, ◌^◌, ◌<◌, ◌≤◌, ◌==◌, true, false, cond, List, [], ◌∷◌, ◌++◌, length, map, Some, None, Ok, Err, refl, ap, sym, subst, ◌∙◌, arith, append_assoc, append-nil, length-append}
use Rattle.std.specs.Prelude.{All}
use Rattle.std.specs.List.{flat_map}
use Rattle.std.proofs.lemmas.Bool.Decides.{nat_tests}
use Rattle.std.proofs.lemmas.List.{length-map}
use Rattle.std.proofs.lemmas.List.Elements.{All-head, All-tail}
use Rattle.std.proofs.lemmas.List.FromFn.{length-map-range_with_len}
use Rattle.inp_text.specs.Sections.{Line}
use Rattle.object_index.specs.Objects.{Objects}
use Rattle.rule_types.specs.declared.rules.Rules.{Rules}
use Rattle.verdict_meaning.specs.Questions.{is_asked}
use Rattle.verdict_meaning.specs.declared.question.Question.{Question}
use Rattle.verdict_meaning.specs.declared.question.Question.TheVariants.{Conflict, Dead, Limit}
use Rattle.report_lines.specs.QuestionLines.{question_by}
use Rattle.report_lines.specs.Reports.{Entry, known_of, grid_of, question_line, entry_with, entry_on, entry_from, second_version, end_text, version_by, is_end_line, some_entry, last_line, next_from, before_entries, entries_after, entries_from, report_with, report_of}
use Rattle.report_lines.specs.TreeLines.{is_fact_line}
use Rattle.report_lines.specs.Words.{read_to, words_of, line_at, made_of}
use Rattle.report_text.specs.ReadBack.{IsEntryRead, IsReportRead, placed_entry, asked_of}
use Rattle.report_text.specs.Readable.{StandAt, IsEntryOf}
use Rattle.report_text.specs.WrittenLines.{written_question}
use Rattle.report_text.specs.WrittenReports.{Asked, asked_lines, entry_lines, verdict_lines, report_lines}
use Rattle.report_text.proofs.QuestionsBack.{question_back}
use Rattle.report_text.proofs.Standing.{front, back, standing}
use Rattle.report_text.proofs.VerdictsBack.{verdict_back}

-- ---- entries
asked_few : (x : Rules) (question : Question) → length x.rules < 2 ^ 64 → length (grid_of x question).asked < 2 ^ 64
asked_few x question few =
    subst (λ n. n < 2 ^ 64)
    (sym (length-map-range_with_len (is_asked x question) 0 (length x.rules))) few

entry_by : (lines : List Line) (x : Rules) (objects : Objects) (at : ℕ) (question : Question)
    → line_at lines at ≡ Some (written_question objects question)
    → question_by (known_of x objects) (words_of (written_question objects question)) ≡ Some question
    → entry_from lines x objects true at ≡ entry_on lines x objects true at (Some question)
unfolding entry_from
entry_by lines x objects at question there is =
    ap (λ line. entry_on lines x objects true at (question_line (known_of x objects) line)) there
    ∙ ap (entry_on lines x objects true at) is

pub entry_back : (lines : List Line) (x : Rules) (objects : Objects) (at : ℕ) (asked : Asked) → length x.rules < 2 ^ 64
    → IsEntryOf x objects asked → StandAt lines at (asked_lines x objects asked)
    → is_fact_line (line_at lines (at + length (asked_lines x objects asked))) ≡ false
    → IsEntryRead lines x objects at (at + length (asked_lines x objects asked)) asked
unfolding entry_lines
entry_back lines x objects at asked few h there last =
    let grid = grid_of x asked.0 in
    let texts = verdict_lines x objects grid asked.1 in
    let next : suc at + length texts ≡ at + suc (length texts) = omega arith in
    let read = verdict_back lines x objects grid (suc at) asked.1 (asked_few x asked.0 few) h.answer there.1
    (subst (λ n. is_fact_line (line_at lines n) ≡ false) (sym next) last) in
    record {
      places = read.places;
      is =
          entry_by lines x objects at asked.0 there.0 (question_back (known_of x objects) asked.0 few h.question)
          ∙ ap (made_of (entry_with asked.0)) read.is
          ∙ ap (λ n. Ok (read_to (placed_entry asked.0 asked.1 read.places) n)) next;
    }

-- ---- a question's line is no fact's and no end
question_no_fact : (objects : Objects) (question : Question) → is_fact_line (Some (written_question objects question)) ≡ false
unfolding written_question words_of
question_no_fact objects (Conflict first second link) = refl
question_no_fact objects (Dead rule) = refl
question_no_fact objects (Limit link low high) = refl

question_no_end : (objects : Objects) (question : Question) → is_end_line (Some (written_question objects question)) ≡ false
unfolding written_question
question_no_end objects (Conflict first second link) = refl
question_no_end objects (Dead rule) = refl
question_no_end objects (Limit link low high) = refl

end_no_fact : is_fact_line (Some end_text) ≡ false
unfolding words_of
end_no_fact = refl

-- ---- all entries
abbrev pub all_lines : Rules → Objects → List Asked → List (List ℕ)
all_lines x objects entries = flat_map (asked_lines x objects) entries ++ (end_text ∷ [])

first_line : (lines : List Line) (x : Rules) (objects : Objects) (at : ℕ) (asked : Asked)
    → StandAt lines at (asked_lines x objects asked) → line_at lines at ≡ Some (written_question objects asked.0)
unfolding entry_lines
first_line lines x objects at asked there = there.0

in_two : (x : Rules) (objects : Objects) (asked : Asked) (more : List Asked)
    → all_lines x objects (asked ∷ more) ≡ asked_lines x objects asked ++ all_lines x objects more
in_two x objects asked more = append_assoc (asked_lines x objects asked) (flat_map (asked_lines x objects) more) (end_text ∷ [])

stops : (lines : List Line) (x : Rules) (objects : Objects) (entries : List Asked) (at : ℕ)
    → StandAt lines at (all_lines x objects entries) → is_fact_line (line_at lines at) ≡ false
stops lines x objects [] at there = ap is_fact_line there.0 ∙ end_no_fact
stops lines x objects (asked ∷ more) at there =
    let rows = subst (StandAt lines at) (in_two x objects asked more) there in
    ap is_fact_line (first_line lines x objects at asked (front lines (asked_lines x objects asked) (all_lines x objects more) at rows))
    ∙ question_no_fact objects asked.0

-- entries are read from a place to the end
pub record AreRead (lines : List Line) (x : Rules) (objects : Objects) (most at : ℕ) (entries : List Asked) : Type 0 where
  pub read : List Entry
  pub is : entries_from lines x objects true most at ≡ Ok read
  pub same : map asked_of read ≡ entries

same_length : (a b : ℕ) → a ≡ b → (a == b) ≡ true
same_length a b e = grind (arith, nat_tests)

at_end : (lines : List Line) (x : Rules) (objects : Objects) (most at : ℕ) → line_at lines at ≡ Some end_text
    → length lines ≡ suc at → entries_from lines x objects true (suc most) at ≡ Ok []
unfolding entries_from next_from
at_end lines x objects most at there long =
    ap (λ line. entries_after (cond (is_end_line line) (last_line lines at) (some_entry (entry_from lines x objects true at))) (entries_from lines x objects true most)) there
    ∙ ap (λ b. entries_after (cond b (Ok None) (Err (suc at))) (entries_from lines x objects true most)) (same_length (length lines) (suc at) long)

one_entry : (lines : List Line) (x : Rules) (objects : Objects) (most at next : ℕ) (asked : Asked)
    → line_at lines at ≡ Some (written_question objects asked.0)
    → (h : IsEntryRead lines x objects at next asked)
    → entries_from lines x objects true (suc most) at
    ≡ before_entries (placed_entry asked.0 asked.1 h.places) (entries_from lines x objects true most next)
unfolding entries_from next_from
one_entry lines x objects most at next asked there h =
    ap (λ line. entries_after (cond (is_end_line line) (last_line lines at) (some_entry (entry_from lines x objects true at))) (entries_from lines x objects true most)) there
    ∙ ap (λ b. entries_after (cond b (last_line lines at) (some_entry (entry_from lines x objects true at))) (entries_from lines x objects true most)) (question_no_end objects asked.0)
    ∙ ap (λ read. entries_after (some_entry read) (entries_from lines x objects true most)) h.is

pub entries_back : (lines : List Line) (x : Rules) (objects : Objects) (entries : List Asked) (most at : ℕ)
    → length x.rules < 2 ^ 64 → All (IsEntryOf x objects) entries → length entries < most
    → StandAt lines at (all_lines x objects entries) → length lines ≡ at + length (all_lines x objects entries)
    → AreRead lines x objects most at entries
entries_back lines x objects [] zero at few all room there long = absurd (omega (arith, room))
entries_back lines x objects [] (suc most) at few all room there long = record {
  read = [];
  is = at_end lines x objects most at there.0 (omega (arith, long));
  same = refl;
}
entries_back lines x objects (asked ∷ more) zero at few all room there long = absurd (omega (arith, room))
entries_back lines x objects (asked ∷ more) (suc most) at few all room there long =
    let one = asked_lines x objects asked in
    let other = all_lines x objects more in
    let rows = subst (StandAt lines at) (in_two x objects asked more) there in
    let here = front lines one other at rows in
    let behind_it = back lines one other at rows in
    let whole = in_two x objects asked more in
    let both = length-append one other in
    let same : length (all_lines x objects (asked ∷ more)) ≡ length one + length other = ap (λ l. length l) whole ∙ both in
    let long_too : length lines ≡ (at + length one) + length other = omega (arith, long, same) in
    let first = entry_back lines x objects at asked few (All-head (IsEntryOf x objects) asked more all) here
    (stops lines x objects more (at + length one) behind_it) in
    let rest = entries_back lines x objects more most (at + length one) few (All-tail (IsEntryOf x objects) asked more all)
    (omega (arith, room)) behind_it long_too in
    record {
      read = placed_entry asked.0 asked.1 first.places ∷ rest.read;
      is =
          one_entry lines x objects most at (at + length one) asked (first_line lines x objects at asked here) first
          ∙ ap (before_entries (placed_entry asked.0 asked.1 first.places)) rest.is;
      same = ap (λ l. asked ∷ l) rest.same;
    }

-- ---- whole reports
lines_each : (x : Rules) (objects : Objects) (entries : List Asked) → length entries ≤ length (flat_map (asked_lines x objects) entries)
unfolding entry_lines
lines_each x objects [] = omega arith
lines_each x objects (asked ∷ more) =
    let rest : length more ≤ length (flat_map (asked_lines x objects) more) = lines_each x objects more in
    let texts = verdict_lines x objects (grid_of x asked.0) asked.1 in
    let long : length (texts ++ flat_map (asked_lines x objects) more) ≡ length texts + length (flat_map (asked_lines x objects) more) =
    length-append texts (flat_map (asked_lines x objects) more) in
    omega (arith, rest, long)

version_is : version_by second_version ≡ Some true
unfolding version_by
version_is = refl

all_there : (x : Rules) (objects : Objects) (entries : List Asked)
    → StandAt (Some second_version ∷ map Some (all_lines x objects entries)) 1 (all_lines x objects entries)
all_there x objects entries =
    let texts = all_lines x objects entries in
    subst (λ l. StandAt (Some second_version ∷ l) 1 texts) (append-nil (map Some texts))
    (standing (second_version ∷ texts) [] []).1

pub report_back : (x : Rules) (objects : Objects) (entries : List Asked) → length x.rules < 2 ^ 64
    → All (IsEntryOf x objects) entries → IsReportRead x objects entries
unfolding report_of report_lines
report_back x objects entries few all =
    let texts = all_lines x objects entries in
    let rest = flat_map (asked_lines x objects) entries in
    let lines = Some second_version ∷ map Some texts in
    let long : length (map Some texts) ≡ length texts = length-map texts Some in
    let joined : length texts ≡ length rest + 1 = length-append rest (end_text ∷ []) in
    let each : length entries ≤ length rest = lines_each x objects entries in
    let found = entries_back lines x objects entries (length lines) 1 few all (omega (arith, long, joined, each))
    (all_there x objects entries) (omega (arith, long)) in
    record {
      read = found.read;
      is = ap (report_with lines x objects) version_is ∙ found.is;
      same = found.same;
    }

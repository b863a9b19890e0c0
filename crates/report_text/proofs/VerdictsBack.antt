-- Verdicts are read back from their lines.
use Rattle.std.proofs.Common.{◌≡◌, ℕ, suc, ◌+◌, ◌^◌, ◌<◌, true, false, List, [], ◌∷◌, ◌++◌, codes, length, Some, Ok, refl, ap, sym, subst, ◌∙◌, arith}
use Rattle.std.specs.Prelude.{decimal}
use Rattle.inp_text.specs.Sections.{Line}
use Rattle.num_text.specs.Fields.{◌>>=◌}
use Rattle.num_text.proofs.PublicLaws.{counts-back}
use Rattle.object_index.specs.Objects.{Objects}
use Rattle.rule_types.specs.declared.rules.Rules.{Rules}
use Rattle.verdict_meaning.specs.declared.verdict.Stuck.TheVariants as stuck
use Rattle.verdict_meaning.specs.declared.verdict.Verdict.{Verdict}
use Rattle.verdict_meaning.specs.declared.verdict.Verdict.TheVariants as verdict
use Rattle.report_lines.specs.Reports.{of_tree, of_state, of_cell, of_count, holds_text, refuted_text, cell_text, count_line, count_by, verdict_line, verdict_at, body_from, verdict_from}
use Rattle.report_lines.specs.TreeLines.{is_fact_line, most_levels}
use Rattle.report_lines.specs.Words.{read_to, words_of, line_at, made_of}
use Rattle.report_lines.specs.declared.grid.Grid.{Grid}
use Rattle.report_lines.specs.declared.verdict_line.VerdictLine.{VerdictLine}
use Rattle.report_lines.specs.declared.verdict_line.VerdictLine.TheVariants as line
use Rattle.report_text.specs.ReadBack.{IsVerdictRead, placed_verdict}
use Rattle.report_text.specs.Readable.{StandAt, IsGridVerdict}
use Rattle.report_text.specs.WrittenLines.{written_count}
use Rattle.report_text.specs.WrittenReports.{tree_lines, state_lines, cell_lines, verdict_lines}
use Rattle.report_text.proofs.CellsBack.{cell_back}
use Rattle.report_text.proofs.SpacedWords.{word_alone, of_number}
use Rattle.report_text.proofs.StatesBack.{state_back}
use Rattle.report_text.proofs.TreesBack.{tree_back}

-- ---- the lines of verdicts
holds_is : verdict_line holds_text ≡ Some line.Holds
unfolding verdict_line
holds_is = refl

refuted_is : verdict_line refuted_text ≡ Some line.Refuted
unfolding verdict_line
refuted_is = refl

cell_is : verdict_line cell_text ≡ Some line.Cell
unfolding verdict_line
cell_is = refl

count_front : (rest : List ℕ) → words_of (codes "undecided count " ++ rest) ≡ codes "undecided" ∷ codes "count" ∷ words_of rest
unfolding words_of
count_front rest = refl

by_words : (rest : List ℕ) → verdict_line (codes "undecided count " ++ rest) ≡ count_by (words_of (codes "undecided count " ++ rest))
unfolding verdict_line
by_words rest = refl

count_is : (count : ℕ) → count < 2 ^ 64 → verdict_line (written_count count) ≡ Some (line.Count count)
unfolding written_count
count_is count small =
    by_words (decimal count)
    ∙ ap count_by (count_front (decimal count) ∙ ap (λ l. codes "undecided" ∷ codes "count" ∷ l) (word_alone (decimal count) (of_number count)))
    ∙ ap count_line (counts-back count small)

line_there : (lines : List Line) (at : ℕ) (text : List ℕ) (found : VerdictLine) → line_at lines at ≡ Some text
    → verdict_line text ≡ Some found → verdict_at lines at ≡ Some found
unfolding verdict_at
line_there lines at text found there is = ap (λ o. o >>= verdict_line) there ∙ is

-- ---- verdicts
by_line : (lines : List Line) (x : Rules) (objects : Objects) (grid : Grid) (at : ℕ) (found : VerdictLine)
    → verdict_at lines at ≡ Some found
    → verdict_from lines x objects grid true at ≡ body_from lines x objects grid true at (Some found)
unfolding verdict_from
by_line lines x objects grid at found is = ap (body_from lines x objects grid true at) is

module _ (lines : List Line) (x : Rules) (objects : Objects) (grid : Grid) (at : ℕ) where
  pub verdict_back : (answer : Verdict) → length grid.asked < 2 ^ 64 → IsGridVerdict x objects grid answer
      → StandAt lines at (verdict_lines x objects grid answer)
      → is_fact_line (line_at lines (at + length (verdict_lines x objects grid answer))) ≡ false
      → IsVerdictRead lines x objects grid at (at + length (verdict_lines x objects grid answer)) answer
  verdict_back (verdict.Holds tree) small h there last =
      let texts = tree_lines objects tree in
      let next : suc at + length texts ≡ at + suc (length texts) = omega arith in
      let read = tree_back lines objects grid tree most_levels (suc at) [] h.0 small h.1 there.1
      (subst (λ n. is_fact_line (line_at lines n) ≡ false) (sym next) last) in
      record {
        places = read.places;
        is =
            by_line lines x objects grid at line.Holds (line_there lines at holds_text line.Holds there.0 holds_is)
            ∙ ap (made_of of_tree) read.is
            ∙ ap (λ n. Ok (read_to (placed_verdict (verdict.Holds tree) read.places) n)) next;
      }
  verdict_back (verdict.Refuted s) small h there last =
      let texts = state_lines x objects grid s in
      let next : suc at + length texts ≡ at + suc (length texts) = omega arith in
      record {
        places = [];
        is =
            by_line lines x objects grid at line.Refuted (line_there lines at refuted_text line.Refuted there.0 refuted_is)
            ∙ ap (made_of of_state) (state_back lines x objects grid s (suc at) h there.1)
            ∙ ap (λ n. Ok (read_to (placed_verdict (verdict.Refuted s) []) n)) next;
      }
  verdict_back (verdict.Undecided (stuck.Cell cell)) small h there last =
      let texts = cell_lines objects cell in
      let next : suc at + length texts ≡ at + suc (length texts) = omega arith in
      record {
        places = [];
        is =
            by_line lines x objects grid at line.Cell (line_there lines at cell_text line.Cell there.0 cell_is)
            ∙ ap (made_of of_cell) (cell_back lines objects grid cell (suc at) h there.1)
            ∙ ap (λ n. Ok (read_to (placed_verdict (verdict.Undecided (stuck.Cell cell)) []) n)) next;
      }
  verdict_back (verdict.Undecided (stuck.TooManyCells count)) small h there last =
      let next : suc at ≡ at + 1 = omega arith in
      record {
        places = [];
        is =
            by_line lines x objects grid at (line.Count count)
            (line_there lines at (written_count count) (line.Count count) there.0 (count_is count h))
            ∙ ap (λ n. Ok (read_to (of_count count) n)) next;
      }

-- What is read back: trees, verdicts, entries and whole reports, each with the places that the
-- reader gives to its lines.
use Rattle.std.specs.Prelude.{◌≡◌, ℕ, ◌≤◌, Bool, true, not, ◌&&◌, ◌==◌, IsTrue, List, map, length}
use Rattle.std.specs.Prelude.{Ok, Some}
use Rattle.std.specs.Io.BufRead.{strip_last}
use Rattle.std.specs.List.{list_all}
use Rattle.byte_edge.specs.TextBytes.{line_feed, carriage_return}
use Rattle.inp_text.specs.Sections.{Line}
use Rattle.key_words.specs.KeyTexts.{name_text}
use Rattle.object_index.specs.Objects.{Objects}
use Rattle.rule_types.specs.declared.object.ObjectNo.{ObjectNo}
use Rattle.rule_types.specs.declared.rules.Rules.{Rules}
use Rattle.verdict_meaning.specs.declared.cert.Cert.{Cert}
use Rattle.verdict_meaning.specs.declared.question.Question.{Question}
use Rattle.verdict_meaning.specs.declared.verdict.Verdict.{Verdict}
use Rattle.report_lines.specs.Reports.{Entry, PlacedVerdict, entry_from, report_of, verdict_from}
use Rattle.report_lines.specs.TreeLines.{placed, tree_from}
use Rattle.report_lines.specs.Words.{read_to}
use Rattle.report_lines.specs.declared.grid.Grid.{Grid}
use Rattle.report_text.specs.WrittenReports.{Asked, report_lines}

-- a tree is read from a line on up to another
pub record IsTreeRead (lines : List Line) (objects : Objects) (grid : Grid) (levels at next : ℕ)
    (before : List ℕ) (tree : Cert) : Type 0 where
  pub places : List ℕ
  pub is : tree_from lines objects grid true levels at before
      ≡ Ok (read_to (placed tree places) next)

-- a verdict is read from a line on up to another
abbrev pub placed_verdict : Verdict → List ℕ → PlacedVerdict
placed_verdict answer places = record { verdict = answer; places = places }

pub record IsVerdictRead (lines : List Line) (x : Rules) (objects : Objects) (grid : Grid)
    (at next : ℕ) (answer : Verdict) : Type 0 where
  pub places : List ℕ
  pub is : verdict_from lines x objects grid true at
      ≡ Ok (read_to (placed_verdict answer places) next)

-- an entry is read from a line on up to another
abbrev pub placed_entry : Question → Verdict → List ℕ → Entry
placed_entry question answer places =
    record { question = question; verdict = answer; places = places }

pub record IsEntryRead (lines : List Line) (x : Rules) (objects : Objects) (at next : ℕ)
    (asked : Asked) : Type 0 where
  pub places : List ℕ
  pub is : entry_from lines x objects true at
      ≡ Ok (read_to (placed_entry asked.0 asked.1 places) next)

-- a whole report is read as these entries
abbrev pub asked_of : Entry → Asked
asked_of entry = (entry.question, entry.verdict)

abbrev pub written_lines : Rules → Objects → List Asked → List Line
written_lines x objects entries = map Some (report_lines x objects entries)

pub record IsReportRead (x : Rules) (objects : Objects) (entries : List Asked) : Type 0 where
  pub read : List Entry
  pub is : report_of (written_lines x objects entries) x objects ≡ Ok read
  pub same : map asked_of read ≡ entries

-- ---- texts
-- a text without a line feed
abbrev pub is_one_line : List ℕ → Bool
is_one_line = list_all (λ byte. not (byte == line_feed))

-- a text that can be a line: without a line feed, and without a carriage return at its end
pub record IsLineText (text : List ℕ) : Type 0 where
  pub one : IsTrue (is_one_line text)
  pub end : strip_last carriage_return text ≡ text

-- ---- names
-- a text without line feeds and carriage returns
abbrev pub is_plain : List ℕ → Bool
is_plain = list_all (λ byte. not (byte == line_feed) && not (byte == carriage_return))

-- a name that can stand in a line of an input file
pub record IsLineName (name : List ℕ) : Type 0 where
  pub plain : IsTrue (is_plain name)
  pub short : length name ≤ 4096

abbrev pub AreLineNames : Objects → Type 0
AreLineNames objects = (object : ObjectNo) → IsLineName (name_text objects object)

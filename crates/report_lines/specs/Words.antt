-- The words of a line of a report, and the values, moments and rules that they write.
use Rattle.std.specs.Prelude.{◌≡◌, ℕ, suc, ◌-◌, Bool, ◌||◌, ◌==◌, nat_lt, if◌then◌else◌, List, ◌++◌}
use Rattle.std.specs.Prelude.{codes}
use Rattle.std.specs.Fmt.{decimal}
use Rattle.std.specs.Prelude.{Option, None, Some, Result, Ok, Err, ℤ, slice_get, option_and_then, ⊤}
use Rattle.std.specs.List.{slice_split}
use Rattle.std.specs.Str.{bytes_eq}
use Rattle.exact_fraction.specs.Number.{Rational}
use Rattle.inp_text.specs.Sections.{Line}
use Rattle.num_text.specs.Clocks.{moment_of}
use Rattle.num_text.specs.Counts.{count_of}
use Rattle.num_text.specs.Fields.{◌>>=◌}
use Rattle.num_text.specs.Values.{spelled_value, written_value}
use Rattle.num_text.specs.Written.{written_moment}
use Rattle.report_lines.specs.declared.fault.ReportEnd.{ReportEnd}
use Rattle.report_lines.specs.declared.fault.ReportEnd.TheVariants.{Shape, NoMemory}

abbrev pub Word : Type 0
Word = List ℕ

abbrev pub space : ℕ
space = 32

-- the words of a line, which single spaces part
unfoldable pub words_of : List ℕ → List Word
words_of line = slice_split (λ byte. byte == space) line

-- the bytes of the line at a place from 0, where there is such a line and it is not too long
abbrev pub line_at : List Line → ℕ → Option (List ℕ)
line_at lines at = option_and_then (λ line. line) (slice_get lines at)

-- ---- what words write
abbrev pub is_written : List ℕ → Word → Bool
is_written text word = bytes_eq text word

-- the number whose written value a word is
abbrev pub value_if : Word → Rational → Option Rational
value_if word q = if is_written (written_value q) word then Some q else None

unfoldable pub value_of : Word → Option Rational
value_of word = spelled_value word >>= value_if word

-- the moment that a word writes as `YYYY-MM-DDThh:mm:ss`
abbrev pub moment_if : Word → ℤ → Option ℤ
moment_if word moment = if is_written (written_moment moment) word then Some moment else None

unfoldable pub written_moment_of : Word → Option ℤ
written_moment_of word = moment_of word >>= moment_if word

-- the place from 0 of the rule whose number from 1 a word is, of so many rules
abbrev pub place_if : ℕ → ℕ → Option ℕ
place_if count number =
    if number == 0 || nat_lt count number then None else Some (number - 1)

unfoldable pub rule_place : ℕ → Word → Option ℕ
rule_place count word = count_of word >>= place_if count

-- ---- parts of a report
-- what a part gives: its value, and the place of the line behind it
pub record Read (A : Type 0) : Type 0 where
  pub value : A
  pub next : ℕ

abbrev pub read_to : {A : Type 0} → A → ℕ → Read A
read_to value next = record { value = value; next = next }

-- a part that is read, or the place from 0 of the line at fault
abbrev pub Reading : Type 0 → Type 0
Reading A = Result (Read A) ℕ

-- a part and what is read behind it
abbrev pub behind : {A B : Type 0} → Reading A → (A → ℕ → Reading B) → Reading B
behind (Ok read) later = later read.value read.next
behind (Err at) later = Err at

-- what is made of a part
abbrev pub made_of : {A B : Type 0} → (A → B) → Reading A → Reading B
made_of f (Ok read) = Ok (read_to (f read.value) read.next)
made_of f (Err at) = Err at

-- a part of one line: the fault is at this line where it has not the form
abbrev pub one_line : {A : Type 0} → Option A → ℕ → Reading A
one_line None at = Err at
one_line (Some value) at = Ok (read_to value (suc at))

-- an answer is the one that is due, unless there is no memory; the line of a fault counts from 1
abbrev pub Reads : {A : Type 0} → Result A ℕ → Result A ReportEnd → Type 0
Reads due (Ok value) = due ≡ Ok value
Reads due (Err (Shape line)) = (at : ℕ) × (line ≡ suc at) × (due ≡ Err at)
Reads due (Err NoMemory) = ⊤

-- the report of a line that has not its form
abbrev pub shape_text : ℕ → List ℕ
shape_text line = codes "error: report line " ++ decimal line ++ codes ": Shape (1)"

-- What the lines of a ranges file state together, and the first line at fault.
use Rattle.std.specs.Prelude.{ℕ, ◌+◌, false, if◌then◌else◌, List, [], ◌∷◌, ◌++◌, is_some, map}
use Rattle.std.specs.Prelude.{Option, None, Some, Result, Ok, Err, ℤ, pos}
use Rattle.std.specs.BTreeMap.{insert_entry}
use Rattle.exact_fraction.specs.Number.{Rational}
use Rattle.inp_text.specs.Control.{first_control}
use Rattle.inp_text.specs.Items.{items}
use Rattle.inp_text.specs.Sections.{Line}
use Rattle.interval_sets.specs.declared.interval.Bound.TheVariants as end
use Rattle.interval_sets.specs.declared.interval.Interval.{Interval}
use Rattle.object_index.specs.Objects.{Objects}
use Rattle.rule_types.specs.KeyOrder.{key_cmp}
use Rattle.rule_types.specs.Reading.{links_acted}
use Rattle.rule_types.specs.declared.key.Key.{Key}
use Rattle.rule_types.specs.declared.rule.Rule.{Rule}
use Rattle.rule_types.specs.declared.rules.Rules.{Rules}
use Rattle.verdict_meaning.specs.declared.question.Question.{Question}
use Rattle.verdict_meaning.specs.declared.ranges.Ranges.{Ranges}
use Rattle.range_lines.specs.Causes.{FileFault, line_fault}
use Rattle.range_lines.specs.Entries.{Known, Item, entry_of, in_link_order}
use Rattle.range_lines.specs.Needs.{is_given, needs_fault}
use Rattle.range_lines.specs.Questions.{all_questions}
use Rattle.range_lines.specs.declared.entry.Entry.{Entry}
use Rattle.range_lines.specs.declared.entry.Entry.TheVariants as entry
use Rattle.range_lines.specs.declared.fault.RangeCause.{RangeCause}
use Rattle.range_lines.specs.declared.fault.RangeCause.TheVariants.{BadLine, Duplicate}
use Rattle.range_lines.specs.declared.given.Given.{Given}

-- ---- one line more
-- nothing is given before the first line
abbrev pub no_lines : Given
no_lines = record { ranges = []; moments = None; step = None; questions = [] }

-- what is given once a line states one thing more: a key, MOMENT and STEP are stated once
unfoldable pub with_range : Given → Key → Rational → Rational → Result Given RangeCause
with_range given key low high =
    if is_given given.ranges key then Err Duplicate
    else Ok (record given { ranges = insert_entry key_cmp given.ranges key (low, high) })

unfoldable pub with_moments : Given → ℤ → ℤ → Result Given RangeCause
with_moments given first last =
    if is_some given.moments then Err Duplicate
    else Ok (record given { moments = Some (first, last) })

unfoldable pub with_step : Given → Rational → Result Given RangeCause
with_step given step =
    if is_some given.step then Err Duplicate else Ok (record given { step = Some step })

abbrev pub with_entry : Given → Entry → Result Given RangeCause
with_entry given (entry.Range key low high) = with_range given key low high
with_entry given (entry.Moments first last) = with_moments given first last
with_entry given (entry.Step step) = with_step given step
with_entry given (entry.Asks question) =
    Ok (record given { questions = given.questions ++ question ∷ [] })

abbrev pub with_read : Given → Result Entry RangeCause → Result Given RangeCause
with_read given (Err cause) = Err cause
with_read given (Ok stated) = with_entry given stated

-- a line without items states nothing
abbrev pub items_read : Known → Given → List Item → Result Given RangeCause
items_read known given [] = Ok given
items_read known given (word ∷ later) = with_read given (entry_of known word later)

-- what is given after a line, or the line's first fault; a line that is too long, or has a control
-- byte before its comment, is a bad one
unfoldable pub line_read : Known → Given → Line → Result Given RangeCause
line_read known given None = Err BadLine
line_read known given (Some bytes) =
    if is_some (first_control bytes) then Err BadLine
    else items_read known given (items bytes)

-- ---- all lines
abbrev pub after_line :
    ℕ → Result Given RangeCause → (Given → Result Given FileFault) → Result Given FileFault
after_line number (Err cause) next = Err (line_fault number cause)
after_line number (Ok given) next = next given

-- what is given after lines, of which the first has this number, or the first line at fault
unfoldable pub lines_read : Known → ℕ → Given → List Line → Result Given FileFault
lines_read known number given [] = Ok given
lines_read known number given (line ∷ later) =
    after_line number (line_read known given line)
    (λ next. lines_read known (number + 1) next later)

-- ---- the file
abbrev pub known_of : Rules → Objects → Known
known_of x objects = record {
  objects = objects;
  ids = map (λ rule. rule.id) x.rules;
  links = in_link_order [] (links_acted x.rules);
}

-- 1970-01-01T00:00:00, which no question reads
abbrev pub unread_start : ℤ
unread_start = pos 0

-- the start: that of the rules, and without one the first moment
abbrev pub start_from : Option ℤ → Option (ℤ × ℤ) → ℤ
start_from start None = unread_start
start_from None (Some moments) = moments.0
start_from (Some start) (Some moments) = start

-- the step: that of STEP, and without one that of the rules
abbrev pub step_from : Rational → Option Rational → Rational
step_from declared None = declared
step_from declared (Some step) = step

-- the questions: where no line asks one, all of the rules
abbrev pub questions_from : List Rule → List Question → List Question
questions_from rules [] = all_questions rules
questions_from rules (question ∷ more) = question ∷ more

-- the range of a key from its two ends, both of them in it
abbrev pub closed : Rational → Rational → Interval
closed low high = record { low = end.Bound low false; high = end.Bound high false }

abbrev pub range_of : Key × (Rational × Rational) → Key × Interval
range_of entry = (entry.0, closed entry.1.0 entry.1.1)

abbrev pub ranges_of : Rules → Given → Ranges
ranges_of x given = record {
  keys = map range_of given.ranges;
  moments = given.moments;
  start = start_from x.start given.moments;
  step = step_from x.routing_step given.step;
  questions = questions_from x.rules given.questions;
}

-- the ranges, unless something that the rules need is not given
abbrev pub ranges_unless : Rules → Given → Option FileFault → Result Ranges FileFault
ranges_unless x given (Some fault) = Err fault
ranges_unless x given None = Ok (ranges_of x given)

abbrev pub ranges_from : Rules → Result Given FileFault → Result Ranges FileFault
ranges_from x (Err fault) = Err fault
ranges_from x (Ok given) = ranges_unless x given (needs_fault x given)

-- the ranges of a file for rules over objects, or its first fault: the first line at fault, and
-- there the first of BadLine, UnknownKey, EmptyRange and Duplicate; and after all lines MissingRange
-- and then MissingMoment
unfoldable pub ranges_in : Rules → Objects → List Line → Result Ranges FileFault
ranges_in x objects lines = ranges_from x (lines_read (known_of x objects) 1 no_lines lines)

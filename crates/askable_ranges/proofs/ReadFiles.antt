-- What all lines of a file state can be asked.
use Rattle.std.proofs.Common.{◌≡◌, ℕ, ◌+◌, Option, Some, None, Result, Ok, Err, List, [], ◌∷◌, ℤ}
use Rattle.std.proofs.Common.{refl}
use Rattle.std.proofs.lemmas.List.Elements.{All-map, All-weaker}
use Rattle.std.specs.Prelude.{All, IfSome, is_some}
use Rattle.inp_text.specs.Control.{first_control}
use Rattle.inp_text.specs.Items.{items}
use Rattle.inp_text.specs.Sections.{Line}
use Rattle.object_index.specs.Objects.{Objects}
use Rattle.rule_types.specs.WellFormed.{WellFormed}
use Rattle.rule_types.specs.declared.rules.Rules.{Rules}
use Rattle.verdict_meaning.specs.declared.question.Question.{Question}
use Rattle.verdict_meaning.specs.declared.question.Question.TheVariants.{Conflict, Dead, Limit}
use Rattle.verdict_meaning.specs.declared.ranges.Ranges.{Ranges}
use Rattle.verdict_meaning.specs.FitRanges.{RangesFit, prepared_rules}
use Rattle.range_lines.specs.Causes.{FileFault}
use Rattle.range_lines.specs.Entries.{Item, Known, entry_of}
use Rattle.range_lines.specs.Lines.{after_line, items_read, known_of, line_read, lines_read}
use Rattle.range_lines.specs.Lines.{no_lines}
use Rattle.range_lines.specs.Lines.{range_of, ranges_from, ranges_in, ranges_of, ranges_unless}
use Rattle.range_lines.specs.Lines.{with_read}
use Rattle.range_lines.specs.Needs.{needs_fault}
use Rattle.range_lines.specs.declared.fault.RangeCause.{RangeCause}
use Rattle.range_lines.proofs.PublicLaws.{ranges_files-fit}
use Rattle.grid_samples.specs.Cells.{HasClosedRanges, IsNotBelowZero, TracksLimit}
use Rattle.askable_ranges.proofs.ReadResults.{Gives, gives_if, gives_ok}
use Rattle.askable_ranges.proofs.GivenRanges.{Given, GivenAskable, none_askable}
use Rattle.askable_ranges.proofs.StatedEntries.{Entry, LineAskable, entry_askable}
use Rattle.askable_ranges.proofs.TrackedLinks.{ActsOn, asked_tracked, known_acted}

-- ---- lines
with_read_askable : (x : Rules) (given : Given) (read : Result Entry RangeCause)
    → GivenAskable x given → LineAskable x read → Gives (GivenAskable x) (with_read given read)
with_read_askable x given (Err cause) h e = tt
with_read_askable x given (Ok stated) h e = e given h

items_askable : (x : Rules) (known : Known) (given : Given) (items : List Item) → WellFormed x
    → ActsOn x known → GivenAskable x given → Gives (GivenAskable x) (items_read known given items)
items_askable x known given [] formed acted h = h
items_askable x known given (word ∷ later) formed acted h =
    with_read_askable x given (entry_of known word later) h
    (entry_askable x known word later formed acted)

line_askable : (x : Rules) (known : Known) (given : Given) (line : Line) → WellFormed x
    → ActsOn x known → GivenAskable x given → Gives (GivenAskable x) (line_read known given line)
unfolding line_read
line_askable x known given None formed acted h = tt
line_askable x known given (Some bytes) formed acted h =
    gives_if (GivenAskable x) (is_some (first_control bytes)) _ _ (λ t. tt)
    (λ t. items_askable x known given (items bytes) formed acted h)

after_line_askable : (x : Rules) (number : ℕ) (read : Result Given RangeCause)
    (next : Given → Result Given FileFault) → Gives (GivenAskable x) read
    → ((given : Given) → GivenAskable x given → Gives (GivenAskable x) (next given))
    → Gives (GivenAskable x) (after_line number read next)
after_line_askable x number (Err cause) next h g = tt
after_line_askable x number (Ok given) next h g = g given h

lines_askable : (x : Rules) (known : Known) (number : ℕ) (given : Given) (lines : List Line)
    → WellFormed x → ActsOn x known → GivenAskable x given
    → Gives (GivenAskable x) (lines_read known number given lines)
unfolding lines_read
lines_askable x known number given [] formed acted h = h
lines_askable x known number given (line ∷ later) formed acted h =
    after_line_askable x number (line_read known given line)
    (λ next. lines_read known (number + 1) next later)
    (line_askable x known given line formed acted h)
    (λ next g. lines_askable x known (number + 1) next later formed acted g)

-- ---- the ranges
record RangesAskable (x : Rules) (ranges : Ranges) : Type 0 where
  pub not_below_zero : All (λ entry. IsNotBelowZero entry.0 entry.1) ranges.keys
  pub questions : All (TracksLimit x) ranges.questions

ranges_of_askable : (x : Rules) (given : Given) → GivenAskable x given
    → RangesAskable x (ranges_of x given)
ranges_of_askable x given h = record {
  not_below_zero =
      All-map (λ entry. IsNotBelowZero entry.0 entry.1) range_of given.ranges h.ranges;
  questions = asked_tracked x x.rules given.questions h.questions;
}

ranges_unless_askable : (x : Rules) (given : Given) (fault : Option FileFault)
    → GivenAskable x given → Gives (RangesAskable x) (ranges_unless x given fault)
ranges_unless_askable x given (Some fault) h = tt
ranges_unless_askable x given None h = ranges_of_askable x given h

ranges_from_askable : (x : Rules) (read : Result Given FileFault) → Gives (GivenAskable x) read
    → Gives (RangesAskable x) (ranges_from x read)
ranges_from_askable x (Err fault) h = tt
ranges_from_askable x (Ok given) h = ranges_unless_askable x given (needs_fault x given) h

ranges_in_askable : (x : Rules) (objects : Objects) (file : List Line) → WellFormed x
    → Gives (RangesAskable x) (ranges_in x objects file)
unfolding ranges_in
ranges_in_askable x objects file formed =
    ranges_from_askable x (lines_read (known_of x objects) 1 no_lines file)
    (lines_askable x (known_of x objects) 1 no_lines file formed (known_acted x objects)
    (none_askable x))

file_askable : (x : Rules) (objects : Objects) (file : List Line) (ranges : Ranges)
    → WellFormed x → ranges_in x objects file ≡ Ok ranges → RangesAskable x ranges
file_askable x objects file ranges formed e =
    gives_ok (RangesAskable x) (ranges_in x objects file) ranges e
    (ranges_in_askable x objects file formed)

-- the ranges of a file are closed
pub file_closed : (x : Rules) (objects : Objects) (file : List Line) (ranges : Ranges)
    → WellFormed x → ranges_in x objects file ≡ Ok ranges → HasClosedRanges ranges
file_closed x objects file ranges formed e = record {
  ends = (ranges_files-fit x objects file ranges formed e).keys;
  not_below_zero = (file_askable x objects file ranges formed e).not_below_zero;
}

-- the links of their limits are tracked
pub file_tracked : (x : Rules) (objects : Objects) (file : List Line) (ranges : Ranges)
    → WellFormed x → ranges_in x objects file ≡ Ok ranges → All (TracksLimit x) ranges.questions
file_tracked x objects file ranges formed e =
    (file_askable x objects file ranges formed e).questions

-- ---- the prepared rules
-- they track the same links and have the start of the ranges
limit_when_prepared : (x : Rules) (ranges : Ranges) (question : Question) → TracksLimit x question
    → TracksLimit (prepared_rules x ranges) question
limit_when_prepared x ranges (Conflict first second link) h = tt
limit_when_prepared x ranges (Dead number) h = tt
limit_when_prepared x ranges (Limit link lo hi) h = h

pub prepared_tracked : (x : Rules) (objects : Objects) (file : List Line) (ranges : Ranges)
    → WellFormed x → ranges_in x objects file ≡ Ok ranges
    → All (TracksLimit (prepared_rules x ranges)) ranges.questions
prepared_tracked x objects file ranges formed e =
    All-weaker (TracksLimit x) (TracksLimit (prepared_rules x ranges))
    (limit_when_prepared x ranges) ranges.questions (file_tracked x objects file ranges formed e)

own_start : (start : ℤ) (moments : Option (ℤ × ℤ))
    → IfSome moments (λ span. IfSome (Some start) (λ first. start ≡ first))
own_start start None = tt
own_start start (Some span) = refl

fit_when_prepared : (x : Rules) (ranges : Ranges) → RangesFit x ranges
    → RangesFit (prepared_rules x ranges) ranges
fit_when_prepared x ranges h = record {
  step = h.step;
  keys = h.keys;
  moments = h.moments;
  start = own_start ranges.start ranges.moments;
}

pub prepared_fit : (x : Rules) (objects : Objects) (file : List Line) (ranges : Ranges)
    → WellFormed x → ranges_in x objects file ≡ Ok ranges
    → RangesFit (prepared_rules x ranges) ranges
prepared_fit x objects file ranges formed e =
    fit_when_prepared x ranges (ranges_files-fit x objects file ranges formed e)

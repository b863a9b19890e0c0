-- What the lines of a ranges file state fits rules: a range has its ends in order, and a step is a
-- routing step.
use Rattle.std.proofs.Common.{◌≡◌, ℕ, ◌+◌, Bool, true, false, Option, Some, None, Result, Ok, Err, List, [], ◌∷◌, ℤ, ◌≤ℤ◌, refl, subst, arith}
use Rattle.std.proofs.lemmas.Int.{ints}
use Rattle.std.proofs.lemmas.List.Elements.{All-nil, All-cons, All-head, All-tail}
use Rattle.std.proofs.lemmas.Map.Views.{All-values-insert_entry}
use Rattle.std.specs.Prelude.{All, IfOk, IfSome, if◌then◌else◌, int_lt, is_some, map, ◌==◌}
use Rattle.std.specs.BTreeMap.{insert_entry}
use Rattle.std.specs.Map.{values_of}
use Rattle.exact_fraction.specs.Number.{Rational}
use Rattle.exact_fraction.specs.Order.{◌≤ℚ◌, less}
use Rattle.exact_fraction.proofs.PublicLaws.{tests-not_less}
use Rattle.inp_text.specs.Control.{first_control}
use Rattle.inp_text.specs.Items.{items}
use Rattle.inp_text.specs.Sections.{Line}
use Rattle.key_words.specs.Words.{is_word, object_word}
use Rattle.num_text.specs.Clocks.{moment_of}
use Rattle.num_text.specs.Numbers.{number_in}
use Rattle.num_text.specs.Steps.{IsReadStep, step_of}
use Rattle.num_text.proofs.PublicLaws.{readings-step}
use Rattle.object_index.specs.Objects.{Objects}
use Rattle.rule_types.specs.KeyOrder.{key_cmp}
use Rattle.rule_types.specs.WellFormed.{IsRoutingStep, WellFormed}
use Rattle.rule_types.specs.declared.key.Key.{Key}
use Rattle.rule_types.specs.declared.object.ObjectWord.{ObjectWord}
use Rattle.rule_types.specs.declared.rules.Rules.{Rules}
use Rattle.rule_types.proofs.PublicLaws.{opened-times}
use Rattle.verdict_meaning.specs.declared.question.Question.TheVariants.{Limit}
use Rattle.verdict_meaning.specs.FitRanges.{AreEnds, RangesFit}
use Rattle.verdict_meaning.specs.declared.ranges.Ranges.{Ranges}
use Rattle.range_lines.specs.Causes.{FileFault, Reads}
use Rattle.range_lines.specs.Entries.{Item, Known, conflict_by, conflict_from, conflict_on, conflict_text}
use Rattle.range_lines.specs.Entries.{dead_by, dead_from, dead_text, ends_of, entry_by, entry_from, entry_of}
use Rattle.range_lines.specs.Entries.{key_found, limit_by, limit_from, limit_of, limit_text, link_found}
use Rattle.range_lines.specs.Entries.{moment_text, moments_by, moments_from, range_by, range_from}
use Rattle.range_lines.specs.Entries.{range_of as entry_of_range, rule_found, step_by}
use Rattle.range_lines.specs.Entries.{step_from as entry_of_step, step_text, two_ends}
use Rattle.range_lines.specs.Lines.{after_line, items_read, known_of, line_read, lines_read, no_lines}
use Rattle.range_lines.specs.Lines.{range_of, ranges_from, ranges_in, ranges_of, ranges_unless}
use Rattle.range_lines.specs.Lines.{start_from, step_from, with_entry, with_moments, with_range}
use Rattle.range_lines.specs.Lines.{with_read, with_step}
use Rattle.range_lines.specs.Needs.{is_given, needs_fault}
use Rattle.range_lines.specs.declared.entry.Entry.{Entry}
use Rattle.range_lines.specs.declared.entry.Entry.TheVariants as entry
use Rattle.range_lines.specs.declared.fault.RangeCause.{RangeCause}
use Rattle.range_lines.specs.declared.fault.RangeEnd.{RangeEnd}
use Rattle.range_lines.specs.declared.fault.RangeCause.TheVariants.{BadLine, UnknownKey, EmptyRange, Duplicate}
use Rattle.range_lines.specs.declared.given.Given.{Given}

-- ---- what one line states
EntryFits : Entry → Type 0
EntryFits (entry.Range key low high) = low ≤ℚ high
EntryFits (entry.Moments first last) = first ≤ℤ last
EntryFits (entry.Step step) = IsReadStep step
EntryFits (entry.Asks question) = Unit {0}

-- what is read fits
abbrev Fits : {A E : Type 0} → (A → Type 0) → Result A E → Type 0
Fits P (Ok value) = P value
Fits P (Err cause) = Unit {0}

abbrev LineFits : Result Entry RangeCause → Type 0
LineFits = Fits EntryFits

fits_if : {A E : Type 0} (P : A → Type 0) (t : Bool) (a b : Result A E) → (t ≡ true → Fits P a)
    → (t ≡ false → Fits P b) → Fits P (if t then a else b)
fits_if P true a b h g = h refl
fits_if P false a b h g = g refl

range_of_fits : (key : Key) (ends : Rational × Rational) → LineFits (entry_of_range key ends)
unfolding EntryFits
range_of_fits key ends =
    fits_if EntryFits (less ends.1 ends.0) (Err EmptyRange) (Ok (entry.Range key ends.0 ends.1))
    (λ e. tt) ((tests-not_less ends.1 ends.0).0)

range_from_fits : (ends : Option (Rational × Rational)) (key : Option Key)
    → LineFits (range_from ends key)
range_from_fits None key = tt
range_from_fits (Some ends) None = tt
range_from_fits (Some ends) (Some key) = range_of_fits key ends

range_by_fits : (known : Known) (word : ObjectWord) (items : List Item)
    → LineFits (range_by known word items)
unfolding range_by
range_by_fits known word [] = tt
range_by_fits known word (a ∷ []) = tt
range_by_fits known word (a ∷ b ∷ []) = tt
range_by_fits known word (a ∷ b ∷ c ∷ []) = tt
range_by_fits known word (a ∷ b ∷ c ∷ d ∷ []) =
    range_from_fits (ends_of b c d) (key_found known word a b)
range_by_fits known word (a ∷ b ∷ c ∷ d ∷ e ∷ more) = tt

moments_from_fits : (first last : Option ℤ) → LineFits (moments_from first last)
unfolding EntryFits
moments_from_fits None last = tt
moments_from_fits (Some first) None = tt
moments_from_fits (Some first) (Some last) =
    fits_if EntryFits (int_lt last first) (Err EmptyRange) (Ok (entry.Moments first last))
    (λ e. tt) (λ e. omega (arith, ints, e))

moments_by_fits : (items : List Item) → LineFits (moments_by items)
unfolding moments_by
moments_by_fits [] = tt
moments_by_fits (a ∷ []) = tt
moments_by_fits (a ∷ b ∷ []) = moments_from_fits (moment_of a) (moment_of b)
moments_by_fits (a ∷ b ∷ c ∷ more) = tt

step_from_fits : (text : Item) (step : Option Rational) → step_of text ≡ step
    → LineFits (entry_of_step step)
unfolding EntryFits
step_from_fits text None e = tt
step_from_fits text (Some step) e = readings-step text step e

step_by_fits : (items : List Item) → LineFits (step_by items)
unfolding step_by
step_by_fits [] = tt
step_by_fits (a ∷ []) = step_from_fits a (step_of a) refl
step_by_fits (a ∷ b ∷ more) = tt

conflict_on_fits : (first second : ℕ) (link : Option ℕ) → LineFits (conflict_on first second link)
unfolding EntryFits
conflict_on_fits first second None = tt
conflict_on_fits first second (Some link) = tt

conflict_from_fits : (first second link : Option ℕ) → LineFits (conflict_from first second link)
conflict_from_fits None second link = tt
conflict_from_fits (Some first) None link = tt
conflict_from_fits (Some first) (Some second) link =
    fits_if EntryFits (first == second) (Err BadLine) (conflict_on first second link) (λ e. tt)
    (λ e. conflict_on_fits first second link)

conflict_by_fits : (known : Known) (items : List Item) → LineFits (conflict_by known items)
unfolding conflict_by
conflict_by_fits known [] = tt
conflict_by_fits known (a ∷ []) = tt
conflict_by_fits known (a ∷ b ∷ []) = tt
conflict_by_fits known (a ∷ b ∷ c ∷ []) =
    conflict_from_fits (rule_found known a) (rule_found known b) (link_found known c)
conflict_by_fits known (a ∷ b ∷ c ∷ d ∷ more) = tt

dead_from_fits : (rule : Option ℕ) → LineFits (dead_from rule)
unfolding EntryFits
dead_from_fits None = tt
dead_from_fits (Some rule) = tt

dead_by_fits : (known : Known) (items : List Item) → LineFits (dead_by known items)
unfolding dead_by
dead_by_fits known [] = tt
dead_by_fits known (a ∷ []) = dead_from_fits (rule_found known a)
dead_by_fits known (a ∷ b ∷ more) = tt

limit_of_fits : (link : ℕ) (ends : Rational × Rational) → LineFits (limit_of link ends)
unfolding EntryFits
limit_of_fits link ends =
    fits_if EntryFits (less ends.1 ends.0) (Err EmptyRange)
    (Ok (entry.Asks (Limit link ends.0 ends.1))) (λ e. tt) (λ e. tt)

limit_from_fits : (ends : Option (Rational × Rational)) (link : Option ℕ)
    → LineFits (limit_from ends link)
limit_from_fits None link = tt
limit_from_fits (Some ends) None = tt
limit_from_fits (Some ends) (Some link) = limit_of_fits link ends

limit_by_fits : (known : Known) (items : List Item) → LineFits (limit_by known items)
unfolding limit_by
limit_by_fits known [] = tt
limit_by_fits known (a ∷ []) = tt
limit_by_fits known (a ∷ b ∷ []) = tt
limit_by_fits known (a ∷ b ∷ c ∷ []) =
    limit_from_fits (two_ends (number_in b) (number_in c)) (link_found known a)
limit_by_fits known (a ∷ b ∷ c ∷ d ∷ more) = tt

entry_by_fits : (known : Known) (word : Item) (later : List Item)
    → LineFits (entry_by known word later)
unfolding entry_by
entry_by_fits known word later =
    by_words (is_word word moment_text) (is_word word step_text) (is_word word conflict_text)
    (is_word word dead_text) (is_word word limit_text)
  where
    by_words : (a b c d e : Bool)
        → LineFits
        (if a then moments_by later
        else (if b then step_by later
        else (if c then conflict_by known later
        else (if d then dead_by known later
        else (if e then limit_by known later
        else Err BadLine)))))
    by_words true b c d e = moments_by_fits later
    by_words false true c d e = step_by_fits later
    by_words false false true d e = conflict_by_fits known later
    by_words false false false true e = dead_by_fits known later
    by_words false false false false true = limit_by_fits known later
    by_words false false false false false = tt

entry_from_fits : (known : Known) (object : Option ObjectWord) (word : Item) (later : List Item)
    → LineFits (entry_from known object word later)
entry_from_fits known (Some object) word later = range_by_fits known object later
entry_from_fits known None word later = entry_by_fits known word later

entry_of_fits : (known : Known) (word : Item) (later : List Item)
    → LineFits (entry_of known word later)
unfolding entry_of
entry_of_fits known word later = entry_from_fits known (object_word word) word later

-- ---- what all lines state
abbrev AreInOrder : Rational × Rational → Type 0
AreInOrder ends = ends.0 ≤ℚ ends.1

record GivenFits (given : Given) : Type 0 where
  pub ranges : All AreInOrder (values_of given.ranges)
  pub moments : IfSome given.moments (λ span. span.0 ≤ℤ span.1)
  pub step : IfSome given.step IsReadStep

no_lines_fit : GivenFits no_lines
no_lines_fit = record { ranges = All-nil AreInOrder; moments = tt; step = tt }

with_range_fits : (given : Given) (key : Key) (low high : Rational) → GivenFits given
    → low ≤ℚ high → Fits GivenFits (with_range given key low high)
unfolding with_range
with_range_fits given key low high h e =
    fits_if GivenFits (is_given given.ranges key) (Err Duplicate)
    (Ok (record given { ranges = insert_entry key_cmp given.ranges key (low, high) }))
    (λ t. tt)
    (λ t. record {
      ranges = All-values-insert_entry key_cmp key (low, high) AreInOrder given.ranges h.ranges e;
      moments = h.moments;
      step = h.step;
    })

with_moments_fits : (given : Given) (first last : ℤ) → GivenFits given → first ≤ℤ last
    → Fits GivenFits (with_moments given first last)
unfolding with_moments
with_moments_fits given first last h e =
    fits_if GivenFits (is_some given.moments) (Err Duplicate)
    (Ok (record given { moments = Some (first, last) })) (λ t. tt)
    (λ t. record { ranges = h.ranges; moments = e; step = h.step })

with_step_fits : (given : Given) (step : Rational) → GivenFits given → IsReadStep step
    → Fits GivenFits (with_step given step)
unfolding with_step
with_step_fits given step h e =
    fits_if GivenFits (is_some given.step) (Err Duplicate)
    (Ok (record given { step = Some step })) (λ t. tt)
    (λ t. record { ranges = h.ranges; moments = h.moments; step = e })

with_entry_fits : (given : Given) (stated : Entry) → GivenFits given → EntryFits stated
    → Fits GivenFits (with_entry given stated)
unfolding EntryFits
with_entry_fits given (entry.Range key low high) h e = with_range_fits given key low high h e
with_entry_fits given (entry.Moments first last) h e = with_moments_fits given first last h e
with_entry_fits given (entry.Step step) h e = with_step_fits given step h e
with_entry_fits given (entry.Asks question) h e =
    record { ranges = h.ranges; moments = h.moments; step = h.step }

with_read_fits : (given : Given) (read : Result Entry RangeCause) → GivenFits given → LineFits read
    → Fits GivenFits (with_read given read)
with_read_fits given (Err cause) h e = tt
with_read_fits given (Ok stated) h e = with_entry_fits given stated h e

items_read_fits : (known : Known) (given : Given) (items : List Item) → GivenFits given
    → Fits GivenFits (items_read known given items)
items_read_fits known given [] h = h
items_read_fits known given (word ∷ later) h =
    with_read_fits given (entry_of known word later) h (entry_of_fits known word later)

line_read_fits : (known : Known) (given : Given) (line : Line) → GivenFits given
    → Fits GivenFits (line_read known given line)
unfolding line_read
line_read_fits known given None h = tt
line_read_fits known given (Some bytes) h =
    fits_if GivenFits (is_some (first_control bytes)) (Err BadLine)
    (items_read known given (items bytes)) (λ t. tt)
    (λ t. items_read_fits known given (items bytes) h)

after_line_fits : (number : ℕ) (read : Result Given RangeCause)
    (next : Given → Result Given FileFault) → Fits GivenFits read
    → ((given : Given) → GivenFits given → Fits GivenFits (next given))
    → Fits GivenFits (after_line number read next)
after_line_fits number (Err cause) next h g = tt
after_line_fits number (Ok given) next h g = g given h

lines_read_fits : (known : Known) (number : ℕ) (given : Given) (lines : List Line)
    → GivenFits given → Fits GivenFits (lines_read known number given lines)
unfolding lines_read
lines_read_fits known number given [] h = h
lines_read_fits known number given (line ∷ later) h =
    after_line_fits number (line_read known given line)
    (λ next. lines_read known (number + 1) next later) (line_read_fits known given line h)
    (λ next g. lines_read_fits known (number + 1) next later g)

-- ---- the ranges
keys_fit : (ranges : List (Key × (Rational × Rational))) → All AreInOrder (values_of ranges)
    → All (λ read. AreEnds read.1.low read.1.high) (map range_of ranges)
keys_fit [] h = All-nil (λ read. AreEnds read.1.low read.1.high)
keys_fit (first ∷ more) h =
    All-cons (λ read. AreEnds read.1.low read.1.high) (range_of first) (map range_of more)
    (All-head AreInOrder first.1 (values_of more) h)
    (keys_fit more (All-tail AreInOrder first.1 (values_of more) h))

start_fits : (start : Option ℤ) (moments : Option (ℤ × ℤ))
    → IfSome moments (λ span. IfSome start (λ first. start_from start moments ≡ first))
start_fits start None = tt
start_fits None (Some span) = tt
start_fits (Some first) (Some span) = refl

step_fits : (declared : Rational) (step : Option Rational) → IsRoutingStep declared
    → IfSome step IsReadStep → IsRoutingStep (step_from declared step)
step_fits declared None h e = h
step_fits declared (Some step) h e =
    record { positive = e.above; most = e.most; exact = record { divides = e.multiple } }

ranges_of_fits : (x : Rules) (given : Given) → WellFormed x → GivenFits given
    → RangesFit x (ranges_of x given)
ranges_of_fits x given formed h = record {
  step = step_fits x.routing_step given.step (opened-times x formed.bounds).routing_step h.step;
  keys = keys_fit given.ranges h.ranges;
  moments = h.moments;
  start = start_fits x.start given.moments;
}

ranges_unless_fits : (x : Rules) (given : Given) (fault : Option FileFault) → WellFormed x
    → GivenFits given → Fits (RangesFit x) (ranges_unless x given fault)
ranges_unless_fits x given (Some fault) formed h = tt
ranges_unless_fits x given None formed h = ranges_of_fits x given formed h

ranges_from_fits : (x : Rules) (read : Result Given FileFault) → WellFormed x
    → Fits GivenFits read → Fits (RangesFit x) (ranges_from x read)
ranges_from_fits x (Err fault) formed h = tt
ranges_from_fits x (Ok given) formed h =
    ranges_unless_fits x given (needs_fault x given) formed h

ranges_in_fits : (x : Rules) (objects : Objects) (lines : List Line) → WellFormed x
    → Fits (RangesFit x) (ranges_in x objects lines)
unfolding ranges_in
ranges_in_fits x objects lines formed =
    ranges_from_fits x (lines_read (known_of x objects) 1 no_lines lines) formed
    (lines_read_fits (known_of x objects) 1 no_lines lines no_lines_fit)

fits_ok : {A E : Type 0} (P : A → Type 0) (read : Result A E) (value : A) → read ≡ Ok value
    → Fits P read → P value
fits_ok P read value e h = subst (Fits P) e h

-- the ranges that a file gives for well formed rules fit them
pub ranges_fit : (x : Rules) (objects : Objects) (lines : List Line) (ranges : Ranges)
    → WellFormed x → ranges_in x objects lines ≡ Ok ranges → RangesFit x ranges
ranges_fit x objects lines ranges formed e =
    fits_ok (RangesFit x) (ranges_in x objects lines) ranges e (ranges_in_fits x objects lines formed)

-- what a reader of the file answers fits them
pub read_fits : (x : Rules) (objects : Objects) (lines : List Line) (read : Result Ranges RangeEnd)
    → Reads (ranges_in x objects lines) read → WellFormed x
    → IfOk read (λ ranges. RangesFit x ranges)
read_fits x objects lines (Ok ranges) is formed = ranges_fit x objects lines ranges formed is
read_fits x objects lines (Err end) is formed = tt

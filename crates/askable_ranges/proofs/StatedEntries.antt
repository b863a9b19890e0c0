-- What one line states can be asked: the range of a setting or a timer is not below 0, and the link
-- of a limit is tracked.
use Rattle.std.proofs.Common.{ℕ, Bool, true, false, Option, Some, None, Result, Err, List, []}
use Rattle.std.proofs.Common.{◌∷◌, ℤ}
use Rattle.std.specs.Prelude.{Contains, IfSome, if◌then◌else◌, int_lt, ◌==◌}
use Rattle.exact_fraction.specs.Number.{Rational}
use Rattle.exact_fraction.specs.Order.{less}
use Rattle.key_words.specs.Words.{attribute_named, is_word, object_word}
use Rattle.num_text.specs.Clocks.{moment_of}
use Rattle.num_text.specs.Numbers.{number_in}
use Rattle.num_text.specs.Steps.{step_of}
use Rattle.object_index.specs.Objects.{resolution}
use Rattle.rule_types.specs.Reading.{links_acted}
use Rattle.rule_types.specs.WellFormed.{WellFormed}
use Rattle.rule_types.specs.declared.key.Key.{Key}
use Rattle.rule_types.specs.declared.object.ObjectWord.{ObjectWord}
use Rattle.rule_types.specs.declared.rules.Rules.{Rules}
use Rattle.verdict_meaning.specs.declared.question.Question.TheVariants.{Conflict, Dead, Limit}
use Rattle.range_lines.specs.Entries.{Item, Known, conflict_by, conflict_from, conflict_on}
use Rattle.range_lines.specs.Entries.{conflict_text}
use Rattle.range_lines.specs.Entries.{dead_by, dead_from, dead_text, ends_of, entry_by}
use Rattle.range_lines.specs.Entries.{entry_from, entry_of}
use Rattle.range_lines.specs.Entries.{key_found, limit_by, limit_from, limit_of, limit_text}
use Rattle.range_lines.specs.Entries.{link_found}
use Rattle.range_lines.specs.Entries.{moment_text, moments_by, moments_from, range_by, range_from}
use Rattle.range_lines.specs.Entries.{range_of as entry_of_range, rule_found, step_by}
use Rattle.range_lines.specs.Entries.{step_from as entry_of_step, step_text, two_ends}
use Rattle.range_lines.specs.Lines.{with_entry}
use Rattle.range_lines.specs.declared.fault.RangeCause.{RangeCause}
use Rattle.range_lines.specs.declared.fault.RangeCause.TheVariants.{BadLine}
use Rattle.grid_samples.proofs.PublicLaws.{limits-tracked}
use Rattle.askable_ranges.proofs.FromZero.{MayRange, named_ends}
use Rattle.askable_ranges.proofs.GivenRanges.{Given, GivenAskable, with_moments_askable}
use Rattle.askable_ranges.proofs.GivenRanges.{with_question_askable, with_range_askable}
use Rattle.askable_ranges.proofs.GivenRanges.{with_step_askable}
use Rattle.askable_ranges.proofs.ReadResults.{Gives, ReadType, gives_if}
use Rattle.askable_ranges.proofs.TrackedLinks.{ActsOn, link_acted}

-- what a line states
abbrev pub Entry : Type 0
Entry = ReadType (entry_of_step None)

-- with it, what can be asked stays so
abbrev pub IsAskable : Rules → Entry → Type 0
IsAskable x stated =
    (given : Given) → GivenAskable x given → Gives (GivenAskable x) (with_entry given stated)

-- what a line states, if it has no fault, can be asked
abbrev pub LineAskable : Rules → Result Entry RangeCause → Type 0
LineAskable x = Gives (IsAskable x)

-- ---- ranges
range_askable : (x : Rules) (key : Key) (ends : Rational × Rational) → MayRange key ends
    → LineAskable x (entry_of_range key ends)
range_askable x key ends h =
    gives_if (IsAskable x) (less ends.1 ends.0) _ _ (λ t. tt)
    (λ t given g. with_range_askable x given key ends.0 ends.1 g h)

range_from_askable : (x : Rules) (ends : Option (Rational × Rational)) (key : Option Key)
    → IfSome key (λ key. IfSome ends (MayRange key)) → LineAskable x (range_from ends key)
range_from_askable x None key h = tt
range_from_askable x (Some ends) None h = tt
range_from_askable x (Some ends) (Some key) h = range_askable x key ends h

found_ends : (known : Known) (word : ObjectWord) (name attribute low high : Item)
    → IfSome (key_found known word name attribute)
    (λ key. IfSome (ends_of attribute low high) (MayRange key))
unfolding key_found ends_of
found_ends known word name attribute low high =
    named_ends word (resolution known.objects word name) (attribute_named attribute)
    (two_ends (number_in low) (number_in high))

range_by_askable : (x : Rules) (known : Known) (word : ObjectWord) (items : List Item)
    → LineAskable x (range_by known word items)
unfolding range_by
range_by_askable x known word [] = tt
range_by_askable x known word (a ∷ []) = tt
range_by_askable x known word (a ∷ b ∷ []) = tt
range_by_askable x known word (a ∷ b ∷ c ∷ []) = tt
range_by_askable x known word (a ∷ b ∷ c ∷ d ∷ []) =
    range_from_askable x (ends_of b c d) (key_found known word a b) (found_ends known word a b c d)
range_by_askable x known word (a ∷ b ∷ c ∷ d ∷ e ∷ more) = tt

-- ---- moments and steps
moments_from_askable : (x : Rules) (first last : Option ℤ) → LineAskable x (moments_from first last)
moments_from_askable x None last = tt
moments_from_askable x (Some first) None = tt
moments_from_askable x (Some first) (Some last) =
    gives_if (IsAskable x) (int_lt last first) _ _ (λ t. tt)
    (λ t given g. with_moments_askable x given first last g)

moments_by_askable : (x : Rules) (items : List Item) → LineAskable x (moments_by items)
unfolding moments_by
moments_by_askable x [] = tt
moments_by_askable x (a ∷ []) = tt
moments_by_askable x (a ∷ b ∷ []) = moments_from_askable x (moment_of a) (moment_of b)
moments_by_askable x (a ∷ b ∷ c ∷ more) = tt

step_from_askable : (x : Rules) (step : Option Rational) → LineAskable x (entry_of_step step)
step_from_askable x None = tt
step_from_askable x (Some step) = λ given g. with_step_askable x given step g

step_by_askable : (x : Rules) (items : List Item) → LineAskable x (step_by items)
unfolding step_by
step_by_askable x [] = tt
step_by_askable x (a ∷ []) = step_from_askable x (step_of a)
step_by_askable x (a ∷ b ∷ more) = tt

-- ---- questions
conflict_on_askable : (x : Rules) (first second : ℕ) (link : Option ℕ)
    → LineAskable x (conflict_on first second link)
conflict_on_askable x first second None = tt
conflict_on_askable x first second (Some link) = λ given g.
    with_question_askable x given (Conflict first second link) g tt

conflict_from_askable : (x : Rules) (first second link : Option ℕ)
    → LineAskable x (conflict_from first second link)
conflict_from_askable x None second link = tt
conflict_from_askable x (Some first) None link = tt
conflict_from_askable x (Some first) (Some second) link =
    gives_if (IsAskable x) (first == second) _ _ (λ t. tt)
    (λ t. conflict_on_askable x first second link)

conflict_by_askable : (x : Rules) (known : Known) (items : List Item)
    → LineAskable x (conflict_by known items)
unfolding conflict_by
conflict_by_askable x known [] = tt
conflict_by_askable x known (a ∷ []) = tt
conflict_by_askable x known (a ∷ b ∷ []) = tt
conflict_by_askable x known (a ∷ b ∷ c ∷ []) =
    conflict_from_askable x (rule_found known a) (rule_found known b) (link_found known c)
conflict_by_askable x known (a ∷ b ∷ c ∷ d ∷ more) = tt

dead_from_askable : (x : Rules) (rule : Option ℕ) → LineAskable x (dead_from rule)
dead_from_askable x None = tt
dead_from_askable x (Some rule) = λ given g. with_question_askable x given (Dead rule) g tt

dead_by_askable : (x : Rules) (known : Known) (items : List Item)
    → LineAskable x (dead_by known items)
unfolding dead_by
dead_by_askable x known [] = tt
dead_by_askable x known (a ∷ []) = dead_from_askable x (rule_found known a)
dead_by_askable x known (a ∷ b ∷ more) = tt

limit_askable : (x : Rules) (link : ℕ) (ends : Rational × Rational) → WellFormed x
    → Contains (links_acted x.rules) link → LineAskable x (limit_of link ends)
limit_askable x link ends formed acted =
    gives_if (IsAskable x) (less ends.1 ends.0) _ _ (λ t. tt)
    (λ t given g.
    with_question_askable x given (Limit link ends.0 ends.1) g
    (limits-tracked x link ends.0 ends.1 formed acted))

limit_from_askable : (x : Rules) (ends : Option (Rational × Rational)) (link : Option ℕ)
    → WellFormed x → IfSome link (Contains (links_acted x.rules))
    → LineAskable x (limit_from ends link)
limit_from_askable x None link formed h = tt
limit_from_askable x (Some ends) None formed h = tt
limit_from_askable x (Some ends) (Some link) formed h = limit_askable x link ends formed h

limit_by_askable : (x : Rules) (known : Known) (items : List Item) → WellFormed x → ActsOn x known
    → LineAskable x (limit_by known items)
unfolding limit_by
limit_by_askable x known [] formed h = tt
limit_by_askable x known (a ∷ []) formed h = tt
limit_by_askable x known (a ∷ b ∷ []) formed h = tt
limit_by_askable x known (a ∷ b ∷ c ∷ []) formed h =
    limit_from_askable x (two_ends (number_in b) (number_in c)) (link_found known a) formed
    (link_acted x known a h)
limit_by_askable x known (a ∷ b ∷ c ∷ d ∷ more) formed h = tt

-- ---- lines
entry_by_askable : (x : Rules) (known : Known) (word : Item) (later : List Item) → WellFormed x
    → ActsOn x known → LineAskable x (entry_by known word later)
unfolding entry_by
entry_by_askable x known word later formed h =
    by_words (is_word word moment_text) (is_word word step_text) (is_word word conflict_text)
    (is_word word dead_text) (is_word word limit_text)
  where
    by_words : (a b c d e : Bool)
        → LineAskable x
        (if a then moments_by later
        else (if b then step_by later
        else (if c then conflict_by known later
        else (if d then dead_by known later
        else (if e then limit_by known later
        else Err BadLine)))))
    by_words true b c d e = moments_by_askable x later
    by_words false true c d e = step_by_askable x later
    by_words false false true d e = conflict_by_askable x known later
    by_words false false false true e = dead_by_askable x known later
    by_words false false false false true = limit_by_askable x known later formed h
    by_words false false false false false = tt

entry_from_askable : (x : Rules) (known : Known) (object : Option ObjectWord) (word : Item)
    (later : List Item) → WellFormed x → ActsOn x known
    → LineAskable x (entry_from known object word later)
entry_from_askable x known (Some object) word later formed h = range_by_askable x known object later
entry_from_askable x known None word later formed h = entry_by_askable x known word later formed h

pub entry_askable : (x : Rules) (known : Known) (word : Item) (later : List Item) → WellFormed x
    → ActsOn x known → LineAskable x (entry_of known word later)
unfolding entry_of
entry_askable x known word later formed h =
    entry_from_askable x known (object_word word) word later formed h

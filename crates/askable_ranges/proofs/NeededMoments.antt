-- Ranges that were read have moments wherever a question over them asks for moments.
use Rattle.std.proofs.Common.{◌≡◌, ℕ, zero, suc, Bool, true, false, not, ◌&&◌, ◌||◌, Option}
use Rattle.std.proofs.Common.{Some, None, Result, Ok, Err, List, [], ◌∷◌, cond, refl, sym, ap}
use Rattle.std.proofs.Common.{◌∙◌}
use Rattle.std.proofs.lemmas.Bool.{or_from, or_parts, true≢false}
use Rattle.std.proofs.lemmas.List.Folds.{list_any-append}
use Rattle.std.proofs.lemmas.Option.{none-some, same_Some}
use Rattle.std.specs.List.{cons_option, filter, flat_map, list_any}
use Rattle.std.specs.Prelude.{if◌then◌else◌, is_some, slice_get}
use Rattle.std.specs.Ordering.{is_lt}
use Rattle.inp_text.specs.Sections.{Line}
use Rattle.object_index.specs.Objects.{Objects}
use Rattle.rule_types.specs.KeyOrder.{key_cmp}
use Rattle.rule_types.specs.Reading.{condition_reads, keys_read, rule_actions}
use Rattle.rule_types.specs.declared.action.What.{What}
use Rattle.rule_types.specs.declared.action.What.TheVariants.{Constant, Curve, Series, Pid}
use Rattle.rule_types.specs.declared.key.Key.{Key}
use Rattle.rule_types.specs.declared.key.Key.TheVariants.{Clock, Object}
use Rattle.rule_types.specs.declared.rule.Rule.{Rule}
use Rattle.rule_types.specs.declared.rules.Rules.{Rules}
use Rattle.rule_meaning.specs.SomeRules.{rules_at}
use Rattle.verdict_meaning.specs.declared.question.Question.{Question}
use Rattle.verdict_meaning.specs.declared.question.Question.TheVariants.{Conflict, Dead, Limit}
use Rattle.verdict_meaning.specs.declared.ranges.Ranges.{Ranges}
use Rattle.verdict_meaning.specs.FitRanges.{prepared_rules}
use Rattle.verdict_meaning.specs.Questions.{all_numbers, asked_numbers, asked_rules, has_moments}
use Rattle.verdict_meaning.specs.Questions.{is_asked, is_clock, is_series}
use Rattle.range_lines.specs.Causes.{FileFault, missing_moment}
use Rattle.range_lines.specs.Lines.{known_of, lines_read, no_lines, ranges_from, ranges_in}
use Rattle.range_lines.specs.Lines.{ranges_unless}
use Rattle.range_lines.specs.Needs as needs
use Rattle.range_lines.specs.Needs.{earlier_key, fault_from, first_from, first_missing, has_series}
use Rattle.range_lines.specs.Needs.{is_missing, key_fault, needs_fault}
use Rattle.cell_truths.specs.DecidedTruths.{GivesMoments}
use Rattle.askable_ranges.proofs.GivenRanges.{Given}
use Rattle.askable_ranges.proofs.ReadResults.{Gives, gives_ok}

-- ---- no key is missing
some_earlier : (found key : Key) (more : List Key)
    → ((one : Key) → is_some (first_from (Some one) more) ≡ true)
    → is_some (first_from (earlier_key (Some found) key) more) ≡ true
some_earlier found key more h = by (is_lt (key_cmp key found))
  where
    by : (b : Bool) → is_some (first_from (if b then Some key else Some found) more) ≡ true
    by true = h key
    by false = h found

some_first : (found : Key) (keys : List Key) → is_some (first_from (Some found) keys) ≡ true
some_first found [] = refl
some_first found (key ∷ more) = some_earlier found key more (λ one. some_first one more)

none_first : (keys : List Key) → first_from None keys ≡ None → keys ≡ []
none_first [] h = refl
none_first (key ∷ more) h = absurd (true≢false (sym (some_first key more) ∙ ap is_some h))

-- the first of some keys is not kept, and so is no later one
record IsLeftOut (t : Bool) (rest : List Key) : Type 0 where
  pub test : t ≡ false
  pub later : rest ≡ []

has_first : List Key → Bool
has_first [] = false
has_first (key ∷ more) = true

left_out : (t : Bool) (key : Key) (rest : List Key) → cond t (key ∷ rest) rest ≡ []
    → IsLeftOut t rest
unfolding has_first
left_out true key rest h = absurd (true≢false (ap has_first h))
left_out false key rest h = record { test = refl; later = h }

-- where moments are not given, keys of which none is missing have none of the clock
no_clock : (given : Given) (keys : List Key) → is_some given.moments ≡ false
    → filter (is_missing given) keys ≡ [] → list_any is_clock keys ≡ false
no_clock given [] none h = refl
no_clock given (Object object attribute ∷ more) none h =
    no_clock given more none
    (left_out (is_missing given (Object object attribute)) (Object object attribute)
    (filter (is_missing given) more) h).later
no_clock given (Clock attribute ∷ more) none h =
    let out =
    left_out (not (is_some given.moments)) (Clock attribute) (filter (is_missing given) more) h in
    absurd (true≢false (sym (ap not none) ∙ out.test))

-- ---- the rules of a question
-- what no rule has, no rule of a question has
none_item : (p : Rule → Bool) (rules : List Rule) (number : ℕ) (rule : Rule)
    → slice_get rules number ≡ Some rule → list_any p rules ≡ false → p rule ≡ false
none_item p [] number rule is h = absurd (none-some rule is)
none_item p (first ∷ rules) zero rule is h =
    ap p (sym (same_Some first rule is)) ∙ (or_parts (p first) (list_any p rules) h).0
none_item p (first ∷ rules) (suc number) rule is h =
    none_item p rules number rule is (or_parts (p first) (list_any p rules) h).1

none_found : (p : Rule → Bool) (rules : List Rule) (number : ℕ) (o : Option Rule)
    (later : List Rule) → slice_get rules number ≡ o → list_any p rules ≡ false
    → list_any p later ≡ false → list_any p (cons_option o later) ≡ false
none_found p rules number None later is h k = k
none_found p rules number (Some rule) later is h k =
    or_from (p rule) (list_any p later) (none_item p rules number rule is h) k

none_at : (p : Rule → Bool) (rules : List Rule) (numbers : List ℕ) → list_any p rules ≡ false
    → list_any p (rules_at rules numbers) ≡ false
none_at p rules [] h = refl
none_at p rules (number ∷ more) h =
    none_found p rules number (slice_get rules number) (rules_at rules more) refl h
    (none_at p rules more h)

any_flat : {A B : Type 0} (p : B → Bool) (f : A → List B) (xs : List A)
    → list_any p (flat_map f xs) ≡ list_any (λ x. list_any p (f x)) xs
any_flat p f [] = refl
any_flat p f (x ∷ xs) =
    list_any-append p (f x) (flat_map f xs) ∙ ap (λ b. list_any p (f x) || b) (any_flat p f xs)

-- whether a rule reads the clock, and whether it has a series
abbrev reads_clock : Rules → Rule → Bool
reads_clock x rule = list_any is_clock (flat_map (condition_reads x.names) rule.conditions)

abbrev sets_series : Rule → Bool
sets_series rule = list_any (λ action. is_series action.what) (rule_actions rule)

same_series : (what : What) → is_series what ≡ needs.is_series what
same_series (Constant q) = refl
same_series (Curve curve) = refl
same_series (Series series) = refl
same_series (Pid set number) = refl

series_same : (rules : List Rule) → list_any sets_series rules ≡ has_series rules
unfolding has_series
series_same rules =
    λ i. list_any (λ rule. list_any (λ action. same_series action.what i) (rule_actions rule)) rules

none_asked : (x : Rules) (question : Question) → list_any (reads_clock x) x.rules ≡ false
    → list_any sets_series x.rules ≡ false → has_moments x question ≡ false
unfolding has_moments
none_asked x question clock series =
    or_from (list_any is_clock (keys_read x.names (asked_rules x question)))
    (list_any sets_series (asked_rules x question))
    (any_flat is_clock (λ rule. flat_map (condition_reads x.names) rule.conditions)
    (asked_rules x question)
    ∙ none_at (reads_clock x) x.rules (asked_numbers x question) clock)
    (none_at sets_series x.rules (asked_numbers x question) series)

-- ---- what is not at fault has what it needs
-- nothing that rules need is missing
record IsComplete (missing : Option Key) (unread : Bool) : Type 0 where
  pub keys : missing ≡ None
  pub series : unread ≡ false

complete : (missing : Option Key) (unread : Bool) → fault_from missing unread ≡ None
    → IsComplete missing unread
complete (Some key) unread h = absurd (none-some (key_fault key) (sym h))
complete None true h = absurd (none-some missing_moment (sym h))
complete None false h = record { keys = refl; series = refl }

series_unread : (moments : Bool) (series : Bool) → moments ≡ false
    → (not moments && series) ≡ false → series ≡ false
series_unread true series e h = absurd (true≢false e)
series_unread false series e h = h

none_needed : (x : Rules) (given : Given) (question : Question) → needs_fault x given ≡ None
    → is_some given.moments ≡ false → has_moments x question ≡ false
unfolding needs_fault first_missing
none_needed x given question h none =
    let whole = complete (first_missing x given)
    (not (is_some given.moments) && has_series x.rules) h in
    none_asked x question
    (sym (any_flat is_clock (λ rule. flat_map (condition_reads x.names) rule.conditions) x.rules)
    ∙ no_clock given (keys_read x.names x.rules) none
    (none_first (filter (is_missing given) (keys_read x.names x.rules)) whole.keys))
    (series_same x.rules
    ∙ series_unread (is_some given.moments) (has_series x.rules) none whole.series)

needed_by : (x : Rules) (given : Given) (question : Question) (b : Bool)
    → is_some given.moments ≡ b → needs_fault x given ≡ None → has_moments x question ≡ true
    → is_some given.moments ≡ true
needed_by x given question true e h has = e
needed_by x given question false e h has =
    absurd (true≢false (sym has ∙ none_needed x given question h e))

-- ---- the ranges
-- they have the moments of every question
abbrev GivesAllMoments : Rules → Ranges → Type 0
GivesAllMoments x ranges = (question : Question) → GivesMoments x question ranges

unless_moments : (x : Rules) (given : Given) (fault : Option FileFault)
    → needs_fault x given ≡ fault → Gives (GivesAllMoments x) (ranges_unless x given fault)
unless_moments x given (Some fault) e = tt
unless_moments x given None e =
    λ question. needed_by x given question (is_some given.moments) refl e

from_moments : (x : Rules) (read : Result Given FileFault)
    → Gives (GivesAllMoments x) (ranges_from x read)
from_moments x (Err fault) = tt
from_moments x (Ok given) = unless_moments x given (needs_fault x given) refl

in_moments : (x : Rules) (objects : Objects) (file : List Line)
    → Gives (GivesAllMoments x) (ranges_in x objects file)
unfolding ranges_in
in_moments x objects file = from_moments x (lines_read (known_of x objects) 1 no_lines file)

pub file_moments : (x : Rules) (objects : Objects) (file : List Line) (ranges : Ranges)
    (question : Question) → ranges_in x objects file ≡ Ok ranges → GivesMoments x question ranges
file_moments x objects file ranges question e =
    gives_ok (GivesAllMoments x) (ranges_in x objects file) ranges e (in_moments x objects file)
    question

-- ---- the prepared rules
-- a question asks of them for the same moments
same_asked : (x : Rules) (ranges : Ranges) (question : Question)
    → is_asked (prepared_rules x ranges) question ≡ is_asked x question
unfolding is_asked
same_asked x ranges (Conflict first second link) = refl
same_asked x ranges (Dead number) = refl
same_asked x ranges (Limit link lo hi) = refl

same_moments : (x : Rules) (ranges : Ranges) (question : Question)
    → has_moments (prepared_rules x ranges) question ≡ has_moments x question
unfolding has_moments asked_numbers
same_moments x ranges question =
    ap
    (λ asked.
    list_any is_clock (keys_read x.names (rules_at x.rules (filter asked (all_numbers x))))
    || list_any sets_series (rules_at x.rules (filter asked (all_numbers x))))
    (same_asked x ranges question)

pub prepared_moments : (x : Rules) (objects : Objects) (file : List Line) (ranges : Ranges)
    (question : Question) → ranges_in x objects file ≡ Ok ranges
    → GivesMoments (prepared_rules x ranges) question ranges
prepared_moments x objects file ranges question e has =
    file_moments x objects file ranges question e (sym (same_moments x ranges question) ∙ has)

-- A box is shown by a list of truths exactly where it is by what they are told from.
use Rattle.std.proofs.Common.{◌≡◌, ℕ, ◌<◌, Bool, true, false, not, ◌&&◌, ◌||◌, ◌==◌, Option, Some, None, List, inl, inr, length, map, refl, sym, ap, ◌∙◌, arith}
use Rattle.std.specs.Prelude.{if◌then◌else◌, slice_get}
use Rattle.std.specs.List.{list_any}
use Rattle.std.proofs.lemmas.Bool.{and_parts, cases_lt, or_cases, true≢false}
use Rattle.std.proofs.lemmas.Bool.Decides.{nat_tests}
use Rattle.std.proofs.lemmas.List.FromFn.{length-map-range_with_len}
use Rattle.std.proofs.lemmas.Option.{slice_get_within}
use Rattle.exact_fraction.specs.Number.{Rational}
use Rattle.rule_types.specs.declared.action.Action.{Action}
use Rattle.rule_types.specs.declared.action.Branch.{Branch}
use Rattle.rule_types.specs.declared.action.Branch.TheVariants.{Then, Otherwise}
use Rattle.rule_types.specs.declared.condition.Condition.{Condition}
use Rattle.rule_types.specs.declared.names.NameDef.{NameDef}
use Rattle.rule_types.specs.declared.rule.Rule.{Rule}
use Rattle.rule_types.specs.declared.rules.Rules.{Rules}
use Rattle.rule_types.specs.Tables.{TableSet}
use Rattle.rule_meaning.specs.Worth.{rate_of}
use Rattle.verdict_meaning.specs.declared.cell.Cell.{Cell}
use Rattle.verdict_meaning.specs.declared.question.Question.{Question}
use Rattle.verdict_meaning.specs.declared.question.Question.TheVariants.{Conflict, Dead, Limit}
use Rattle.verdict_meaning.specs.declared.truth.Truth.{Truth}
use Rattle.verdict_meaning.specs.declared.truth.Truth.TheVariants.{Open}
use Rattle.verdict_meaning.specs.Certificates.{facts_fit}
use Rattle.verdict_meaning.specs.Events.{both_disagree, candidate, disagree, rule_candidate, are_level}
use Rattle.verdict_meaning.specs.Premises.{conditions_of, rule_truth}
use Rattle.verdict_meaning.specs.Questions.{acts_there, all_numbers, is_asked, share_link}
use Rattle.verdict_meaning.specs.Shown.{IsMoreKnown, KnownPremises, conflict_shown}
use Rattle.verdict_meaning.specs.Shown.{dead_branch, dead_shown, is_no, is_unlisted, is_yes}
use Rattle.verdict_meaning.specs.Shown.{known_by, known_in, pair_shown, shown, shown_by, shown_with}
use Rattle.verdict_meaning.proofs.PublicLaws.{shown_boxes-more_known}
use Rattle.box_eval.specs.internal.Known.{AreTruthsBy, asked_truth, known_of, told}
use Rattle.box_eval.proofs.Marks.{fails_by, holds_by, none_past, told_mapped, told_past}

-- ---- two ways to know that tell the same
same_by : (a b : Bool) → (a ≡ true → b ≡ true) → (b ≡ true → a ≡ true) → a ≡ b
same_by true b f g = sym (f refl)
same_by false true f g = g refl
same_by false false f g = refl

pub alike : (x : Rules) (tables : TableSet) (cell : Cell) (known more : KnownPremises)
    (question : Question) → IsMoreKnown known more → IsMoreKnown more known
    → shown_with x tables cell known question ≡ shown_with x tables cell more question
alike x tables cell known more question there back =
    same_by (shown_with x tables cell known question) (shown_with x tables cell more question)
    (shown_boxes-more_known x tables cell known more question there)
    (shown_boxes-more_known x tables cell more known question back)

-- ---- what a box tells
in_box : Rules → Question → Cell → List Truth
in_box x question cell = map (asked_truth x question cell) (all_numbers x)

counted_in : (x : Rules) (question : Question) (cell : Cell)
    → length (in_box x question cell) ≡ length x.rules
unfolding in_box
counted_in x question cell =
    length-map-range_with_len (asked_truth x question cell) 0 (length x.rules)

told_in : (x : Rules) (question : Question) (cell : Cell) (n : ℕ) → n < length x.rules
    → told (in_box x question cell) n ≡ asked_truth x question cell n
unfolding in_box
told_in x question cell n within =
    told_mapped (asked_truth x question cell) (length x.rules) n within

yes_if : (b : Bool) (t : Truth) → is_yes (if b then t else Open) ≡ (b && is_yes t)
yes_if true t = refl
yes_if false t = refl

no_if : (b : Bool) (t : Truth) → is_no (if b then t else Open) ≡ (b && is_no t)
no_if true t = refl
no_if false t = refl

holds_in : (x : Rules) (question : Question) (cell : Cell) (n : ℕ) → n < length x.rules
    → is_yes (told (in_box x question cell) n)
    ≡ (is_asked x question n && is_yes (rule_truth x cell n))
unfolding asked_truth
holds_in x question cell n within =
    ap is_yes (told_in x question cell n within)
    ∙ yes_if (is_asked x question n) (rule_truth x cell n)

fails_in : (x : Rules) (question : Question) (cell : Cell) (n : ℕ) → n < length x.rules
    → is_no (told (in_box x question cell) n)
    ≡ (is_asked x question n && is_no (rule_truth x cell n))
unfolding asked_truth
fails_in x question cell n within =
    ap is_no (told_in x question cell n within)
    ∙ no_if (is_asked x question n) (rule_truth x cell n)

-- nothing is told past the last rule
within_by : (truths : List Truth) (count n : ℕ) (test : Truth → Bool) → length truths ≡ count
    → test Open ≡ false → test (told truths n) ≡ true → n < count
within_by truths count n test counted none h =
    elim (cases_lt n count) [
      | inl within ↦ within
      | inr past ↦
          let gone : told truths n ≡ Open = told_past truths n (omega (arith, past, counted)) in
          absurd (true≢false (sym h ∙ ap test gone ∙ none))
    ]

less_in : (x : Rules) (question : Question) (cell : Cell)
    → IsMoreKnown (known_of (in_box x question cell)) (known_in x question cell)
unfolding known_in
less_in x question cell = record {
  holds = λ n h.
      sym
      (holds_in x question cell n
      (within_by (in_box x question cell) (length x.rules) n is_yes
      (counted_in x question cell) refl h))
      ∙ h;
  fails = λ n h.
      sym
      (fails_in x question cell n
      (within_by (in_box x question cell) (length x.rules) n is_no
      (counted_in x question cell) refl h))
      ∙ h;
}

-- the rules of the question are there
record AreThere (x : Rules) (question : Question) : Type 0 where
  pub each : (n : ℕ) → is_asked x question n ≡ true → n < length x.rules

more_in : (x : Rules) (question : Question) (cell : Cell) → AreThere x question
    → IsMoreKnown (known_in x question cell) (known_of (in_box x question cell))
unfolding known_in
more_in x question cell there = record {
  holds = λ n h.
      holds_in x question cell n
      (there.each n (and_parts (is_asked x question n) (is_yes (rule_truth x cell n)) h).0)
      ∙ h;
  fails = λ n h.
      fails_in x question cell n
      (there.each n (and_parts (is_asked x question n) (is_no (rule_truth x cell n)) h).0)
      ∙ h;
}

there_alike : (x : Rules) (tables : TableSet) (question : Question) (cell : Cell)
    → AreThere x question
    → shown_with x tables cell (known_of (in_box x question cell)) question
    ≡ shown x tables question cell
unfolding shown
there_alike x tables question cell there =
    alike x tables cell (known_of (in_box x question cell)) (known_in x question cell) question
    (less_in x question cell) (more_in x question cell there)

-- ---- a question on a rule that is not there
no_candidate : (x : Rules) (n : ℕ) (branch : Branch) (link : ℕ) → slice_get x.rules n ≡ None
    → candidate x.rules n branch link ≡ None
unfolding candidate
no_candidate x n branch link none = ap (λ o. rule_candidate o branch link) none

second_none : (names : List NameDef) (rate : Rational) (cs ds : List Condition)
    (a : Option Action) → both_disagree names rate cs ds a None ≡ false
second_none names rate cs ds None = refl
second_none names rate cs ds (Some a) = refl

first_gone : (x : Rules) (known : KnownPremises) (first : ℕ) (branch : Branch) (second : ℕ)
    (other : Branch) (link : ℕ) → slice_get x.rules first ≡ None
    → pair_shown x known first branch second other link ≡ true
unfolding disagree
first_gone x known first branch second other link none =
    ap
    (λ a.
    not
    (both_disagree x.names (rate_of x link) (conditions_of (slice_get x.rules first))
    (conditions_of (slice_get x.rules second)) a (candidate x.rules second other link))
    || (is_unlisted known first branch || is_unlisted known second other))
    (no_candidate x first branch link none)

second_gone : (x : Rules) (known : KnownPremises) (first : ℕ) (branch : Branch) (second : ℕ)
    (other : Branch) (link : ℕ) → slice_get x.rules second ≡ None
    → pair_shown x known first branch second other link ≡ true
unfolding disagree
second_gone x known first branch second other link none =
    ap
    (λ b.
    not
    (both_disagree x.names (rate_of x link) (conditions_of (slice_get x.rules first))
    (conditions_of (slice_get x.rules second)) (candidate x.rules first branch link) b)
    || (is_unlisted known first branch || is_unlisted known second other))
    (no_candidate x second other link none)
    ∙ ap (λ d. not d || (is_unlisted known first branch || is_unlisted known second other))
    (second_none x.names (rate_of x link) (conditions_of (slice_get x.rules first))
    (conditions_of (slice_get x.rules second)) (candidate x.rules first branch link))

all_by : (level a b c d : Bool) → a ≡ true → b ≡ true → c ≡ true → d ≡ true
    → (not level || ((a && b) && (c && d))) ≡ true
all_by true a b c d e f g h = grind arith
all_by false a b c d e f g h = refl

conflict_gone : (x : Rules) (known : KnownPremises) (first second link : ℕ)
    → ((branch other : Branch) → pair_shown x known first branch second other link ≡ true)
    → conflict_shown x known first second link ≡ true
unfolding conflict_shown
conflict_gone x known first second link each =
    all_by (are_level x.rules first second)
    (pair_shown x known first Then second Then link)
    (pair_shown x known first Then second Otherwise link)
    (pair_shown x known first Otherwise second Then link)
    (pair_shown x known first Otherwise second Otherwise link) (each Then Then)
    (each Then Otherwise) (each Otherwise Then) (each Otherwise Otherwise)

dead_gone : (x : Rules) (known : KnownPremises) (n : ℕ) → slice_get x.rules n ≡ None
    → dead_shown x known n ≡ true
unfolding dead_shown dead_branch
dead_gone x known n none = rw none refl

-- ---- each question
conflict_there : (x : Rules) (first second link : ℕ) → first < length x.rules
    → second < length x.rules → AreThere x (Conflict first second link)
unfolding is_asked
conflict_there x first second link one two = record {
  each = λ n h.
      elim (or_cases (n == first) (n == second) h) [
        | inl e ↦ let same : n ≡ first = grind (arith, nat_tests) in omega (arith, same, one)
        | inr e ↦ let same : n ≡ second = grind (arith, nat_tests) in omega (arith, same, two)
      ];
}

some_within : (x : Rules) (n : ℕ) (test : Option Rule → Bool) (o : Option Rule)
    → slice_get x.rules n ≡ o → test None ≡ false → test o ≡ true → n < length x.rules
some_within x n test None e none h = absurd (true≢false (sym h ∙ none))
some_within x n test (Some rule) e none h = slice_get_within x.rules n rule e

dead_there : (x : Rules) (number : ℕ) → number < length x.rules → AreThere x (Dead number)
unfolding is_asked
dead_there x number within = record {
  each = λ n h.
      elim
      (or_cases (n == number) (share_link (slice_get x.rules number) (slice_get x.rules n)) h) [
        | inl e ↦
            let same : n ≡ number = grind (arith, nat_tests) in omega (arith, same, within)
        | inr e ↦
            some_within x n (share_link (slice_get x.rules number)) (slice_get x.rules n) refl
            refl e
      ];
}

limit_there : (x : Rules) (link : ℕ) (lo hi : Rational) → AreThere x (Limit link lo hi)
unfolding is_asked
limit_there x link lo hi = record {
  each = λ n h. some_within x n (acts_there link) (slice_get x.rules n) refl refl h;
}

both_true : (a b : Bool) → a ≡ true → b ≡ true → a ≡ b
both_true a b e f = e ∙ sym f

conflict_by : (x : Rules) (tables : TableSet) (cell : Cell) (first second link : ℕ)
    (o p : Option Rule) → slice_get x.rules first ≡ o → slice_get x.rules second ≡ p
    → shown_with x tables cell (known_of (in_box x (Conflict first second link) cell))
    (Conflict first second link) ≡ shown x tables (Conflict first second link) cell
unfolding shown shown_with
conflict_by x tables cell first second link None p e f =
    both_true
    (conflict_shown x (known_of (in_box x (Conflict first second link) cell)) first second link)
    (conflict_shown x (known_in x (Conflict first second link) cell) first second link)
    (conflict_gone x (known_of (in_box x (Conflict first second link) cell)) first second link
    (λ branch other.
    first_gone x (known_of (in_box x (Conflict first second link) cell)) first branch second
    other link e))
    (conflict_gone x (known_in x (Conflict first second link) cell) first second link
    (λ branch other.
    first_gone x (known_in x (Conflict first second link) cell) first branch second other link
    e))
conflict_by x tables cell first second link (Some one) None e f =
    both_true
    (conflict_shown x (known_of (in_box x (Conflict first second link) cell)) first second link)
    (conflict_shown x (known_in x (Conflict first second link) cell) first second link)
    (conflict_gone x (known_of (in_box x (Conflict first second link) cell)) first second link
    (λ branch other.
    second_gone x (known_of (in_box x (Conflict first second link) cell)) first branch second
    other link f))
    (conflict_gone x (known_in x (Conflict first second link) cell) first second link
    (λ branch other.
    second_gone x (known_in x (Conflict first second link) cell) first branch second other link
    f))
conflict_by x tables cell first second link (Some one) (Some two) e f =
    there_alike x tables (Conflict first second link) cell
    (conflict_there x first second link (slice_get_within x.rules first one e)
    (slice_get_within x.rules second two f))

dead_by : (x : Rules) (tables : TableSet) (cell : Cell) (number : ℕ) (o : Option Rule)
    → slice_get x.rules number ≡ o
    → shown_with x tables cell (known_of (in_box x (Dead number) cell)) (Dead number)
    ≡ shown x tables (Dead number) cell
unfolding shown shown_with
dead_by x tables cell number None e =
    both_true (dead_shown x (known_of (in_box x (Dead number) cell)) number)
    (dead_shown x (known_in x (Dead number) cell) number)
    (dead_gone x (known_of (in_box x (Dead number) cell)) number e)
    (dead_gone x (known_in x (Dead number) cell) number e)
dead_by x tables cell number (Some rule) e =
    there_alike x tables (Dead number) cell
    (dead_there x number (slice_get_within x.rules number rule e))

question_alike : (x : Rules) (tables : TableSet) (question : Question) (cell : Cell)
    → shown_with x tables cell (known_of (in_box x question cell)) question
    ≡ shown x tables question cell
question_alike x tables (Conflict first second link) cell =
    conflict_by x tables cell first second link (slice_get x.rules first)
    (slice_get x.rules second) refl refl
question_alike x tables (Dead number) cell =
    dead_by x tables cell number (slice_get x.rules number) refl
question_alike x tables (Limit link lo hi) cell =
    there_alike x tables (Limit link lo hi) cell (limit_there x link lo hi)

-- what the code works out in a box is what the box tells
pub shown_in : (x : Rules) (tables : TableSet) (question : Question) (cell : Cell)
    (truths : List Truth) → truths ≡ map (asked_truth x question cell) (all_numbers x)
    → shown_with x tables cell (known_of truths) question ≡ shown x tables question cell
unfolding in_box
shown_in x tables question cell truths is =
    ap (λ list. shown_with x tables cell (known_of list) question) is
    ∙ question_alike x tables question cell

-- ---- what facts tell
less_by : (x : Rules) (question : Question) (facts : List (ℕ × Bool)) (truths : List Truth)
    → facts_fit x question facts ≡ true → AreTruthsBy facts (length x.rules) truths
    → IsMoreKnown (known_of truths) (known_by facts)
unfolding known_by
less_by x question facts truths fit are = record {
  holds = λ n h.
      holds_by x question facts fit n
      ∙ ap is_yes
      (sym (are.each n (within_by truths (length x.rules) n is_yes are.counted refl h)))
      ∙ h;
  fails = λ n h.
      fails_by x question facts fit n
      ∙ ap is_no
      (sym (are.each n (within_by truths (length x.rules) n is_no are.counted refl h)))
      ∙ h;
}

fact_within : (x : Rules) (question : Question) (test : Bool → Bool) (facts : List (ℕ × Bool))
    → facts_fit x question facts ≡ true → (n : ℕ)
    → list_any (λ fact. fact.0 == n && test fact.1) facts ≡ true → n < length x.rules
fact_within x question test facts fit n h =
    elim (cases_lt n (length x.rules)) [
      | inl within ↦ within
      | inr past ↦ absurd (true≢false (sym h ∙ none_past x question test facts fit n past))
    ]

more_by : (x : Rules) (question : Question) (facts : List (ℕ × Bool)) (truths : List Truth)
    → facts_fit x question facts ≡ true → AreTruthsBy facts (length x.rules) truths
    → IsMoreKnown (known_by facts) (known_of truths)
unfolding known_by
more_by x question facts truths fit are = record {
  holds = λ n h.
      ap is_yes (are.each n (fact_within x question (λ b. b) facts fit n h))
      ∙ sym (holds_by x question facts fit n) ∙ h;
  fails = λ n h.
      ap is_no (are.each n (fact_within x question not facts fit n h))
      ∙ sym (fails_by x question facts fit n) ∙ h;
}

pub shown_facts : (x : Rules) (tables : TableSet) (question : Question) (cell : Cell)
    (facts : List (ℕ × Bool)) (truths : List Truth) → facts_fit x question facts ≡ true
    → AreTruthsBy facts (length x.rules) truths
    → shown_with x tables cell (known_of truths) question
    ≡ shown_by x tables question cell facts
unfolding shown_by
shown_facts x tables question cell facts truths fit are =
    alike x tables cell (known_of truths) (known_by facts) question
    (less_by x question facts truths fit are) (more_by x question facts truths fit are)

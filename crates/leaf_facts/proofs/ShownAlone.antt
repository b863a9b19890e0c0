-- A box that is shown is shown by all facts that it tells alone.
use Rattle.std.proofs.Common.{◌≡◌, ℕ, ◌<◌, Bool, true, false, not, ◌&&◌, ◌||◌, ◌==◌, Option, Some}
use Rattle.std.proofs.Common.{None, List, inl, inr, length, refl, sym, ap, ◌∙◌, arith}
use Rattle.std.specs.Prelude.{slice_get}
use Rattle.std.proofs.lemmas.Bool.{and_from, and_parts, or_cases, true≢false}
use Rattle.std.proofs.lemmas.Bool.Decides.{nat_tests}
use Rattle.std.proofs.lemmas.Option.{slice_get_within}
use Rattle.exact_fraction.specs.Number.{Rational}
use Rattle.rule_types.specs.declared.action.Action.{Action}
use Rattle.rule_types.specs.declared.action.Branch.{Branch}
use Rattle.rule_types.specs.declared.action.Branch.TheVariants.{Then, Otherwise}
use Rattle.rule_types.specs.declared.condition.Condition.{Condition}
use Rattle.rule_types.specs.declared.names.NameDef.{NameDef}
use Rattle.rule_types.specs.declared.rule.Rule.{Rule}
use Rattle.rule_types.specs.declared.rules.Rules.{Rules}
use Rattle.rule_types.specs.Tables.{TableSet}
use Rattle.rule_meaning.specs.Worth.{rate_of}
use Rattle.verdict_meaning.specs.declared.cell.Cell.{Cell}
use Rattle.verdict_meaning.specs.declared.question.Question.{Question}
use Rattle.verdict_meaning.specs.declared.question.Question.TheVariants.{Conflict, Dead, Limit}
use Rattle.verdict_meaning.specs.Events.{are_level, both_disagree, candidate, disagree}
use Rattle.verdict_meaning.specs.Events.{rule_candidate}
use Rattle.verdict_meaning.specs.Premises.{conditions_of, rule_truth}
use Rattle.verdict_meaning.specs.Questions.{acts_there, is_asked, share_link}
use Rattle.verdict_meaning.specs.Shown.{IsMoreKnown, KnownPremises, conflict_shown, dead_branch}
use Rattle.verdict_meaning.specs.Shown.{dead_shown, is_no, is_unlisted, is_yes, known_by, known_in}
use Rattle.verdict_meaning.specs.Shown.{pair_shown, shown, shown_by, shown_with}
use Rattle.verdict_meaning.proofs.PublicLaws.{shown_boxes-more_known}
use Rattle.leaf_facts.specs.internal.BoxFacts.{facts_in}
use Rattle.leaf_facts.proofs.AllFacts.{told_in}

-- ---- where each rule of the question is there
record AreThere (x : Rules) (question : Question) : Type 0 where
  pub each : (n : ℕ) → is_asked x question n ≡ true → n < length x.rules

test_same : (n : ℕ) → (n == n) ≡ true
test_same n = grind (arith, nat_tests)

known_alone : (x : Rules) (question : Question) (cell : Cell) → AreThere x question
    → IsMoreKnown (known_in x question cell) (known_by (facts_in x question cell))
unfolding known_in known_by
known_alone x question cell there = record {
  holds = λ n h.
      let parts = and_parts (is_asked x question n) (is_yes (rule_truth x cell n)) h in
      told_in x question cell n true (λ fact. fact.0 == n && fact.1)
      (and_from (n == n) true (test_same n) refl) (there.each n parts.0) parts.0 parts.1;
  fails = λ n h.
      let parts = and_parts (is_asked x question n) (is_no (rule_truth x cell n)) h in
      told_in x question cell n false (λ fact. fact.0 == n && not fact.1)
      (and_from (n == n) true (test_same n) refl) (there.each n parts.0) parts.0 parts.1;
}

there_alone : (x : Rules) (tables : TableSet) (question : Question) (cell : Cell)
    → AreThere x question → shown x tables question cell ≡ true
    → shown_by x tables question cell (facts_in x question cell) ≡ true
unfolding shown shown_by
there_alone x tables question cell there h =
    shown_boxes-more_known x tables cell (known_in x question cell)
    (known_by (facts_in x question cell)) question (known_alone x question cell there) h

-- ---- a question on a rule that is not there is shown by anything
no_candidate : (x : Rules) (n : ℕ) (branch : Branch) (link : ℕ) → slice_get x.rules n ≡ None
    → candidate x.rules n branch link ≡ None
unfolding candidate
no_candidate x n branch link none = ap (λ o. rule_candidate o branch link) none

second_none : (names : List NameDef) (rate : Rational) (cs ds : List Condition)
    (a : Option Action) → both_disagree names rate cs ds a None ≡ false
second_none names rate cs ds None = refl
second_none names rate cs ds (Some a) = refl

pair_by : (x : Rules) (known : KnownPremises) (first : ℕ) (branch : Branch) (second : ℕ)
    (other : Branch) (link : ℕ) → disagree x first branch second other link ≡ false
    → pair_shown x known first branch second other link ≡ true
pair_by x known first branch second other link e =
    ap (λ d. not d || (is_unlisted known first branch || is_unlisted known second other)) e

first_gone : (x : Rules) (first : ℕ) (branch : Branch) (second : ℕ) (other : Branch) (link : ℕ)
    → slice_get x.rules first ≡ None → disagree x first branch second other link ≡ false
unfolding disagree
first_gone x first branch second other link none =
    ap
    (λ a.
    both_disagree x.names (rate_of x link) (conditions_of (slice_get x.rules first))
    (conditions_of (slice_get x.rules second)) a (candidate x.rules second other link))
    (no_candidate x first branch link none)

second_gone : (x : Rules) (first : ℕ) (branch : Branch) (second : ℕ) (other : Branch) (link : ℕ)
    → slice_get x.rules second ≡ None → disagree x first branch second other link ≡ false
unfolding disagree
second_gone x first branch second other link none =
    ap
    (λ b.
    both_disagree x.names (rate_of x link) (conditions_of (slice_get x.rules first))
    (conditions_of (slice_get x.rules second)) (candidate x.rules first branch link) b)
    (no_candidate x second other link none)
    ∙ second_none x.names (rate_of x link) (conditions_of (slice_get x.rules first))
    (conditions_of (slice_get x.rules second)) (candidate x.rules first branch link)

all_by : (level a b c d : Bool) → a ≡ true → b ≡ true → c ≡ true → d ≡ true
    → (not level || ((a && b) && (c && d))) ≡ true
all_by true a b c d e f g h = grind arith
all_by false a b c d e f g h = refl

conflict_gone : (x : Rules) (known : KnownPremises) (first second link : ℕ)
    → ((branch other : Branch) → disagree x first branch second other link ≡ false)
    → conflict_shown x known first second link ≡ true
unfolding conflict_shown
conflict_gone x known first second link each =
    let pair : (branch other : Branch) → pair_shown x known first branch second other link ≡ true
    = λ branch other. pair_by x known first branch second other link (each branch other) in
    all_by (are_level x.rules first second)
    (pair_shown x known first Then second Then link)
    (pair_shown x known first Then second Otherwise link)
    (pair_shown x known first Otherwise second Then link)
    (pair_shown x known first Otherwise second Otherwise link) (pair Then Then)
    (pair Then Otherwise) (pair Otherwise Then) (pair Otherwise Otherwise)

dead_gone : (x : Rules) (known : KnownPremises) (n : ℕ) → slice_get x.rules n ≡ None
    → dead_shown x known n ≡ true
unfolding dead_shown dead_branch
dead_gone x known n none = rw none refl

-- ---- each question
conflict_there : (x : Rules) (first second link : ℕ) → first < length x.rules
    → second < length x.rules → AreThere x (Conflict first second link)
unfolding is_asked
conflict_there x first second link one two = record {
  each = λ n h.
      elim (or_cases (n == first) (n == second) h) [
        | inl e ↦ let same : n ≡ first = grind (arith, nat_tests) in omega (arith, same, one)
        | inr e ↦ let same : n ≡ second = grind (arith, nat_tests) in omega (arith, same, two)
      ];
}

some_within : (x : Rules) (n : ℕ) (test : Option Rule → Bool) (o : Option Rule)
    → slice_get x.rules n ≡ o → test None ≡ false → test o ≡ true → n < length x.rules
some_within x n test None e none h = absurd (true≢false (sym h ∙ none))
some_within x n test (Some rule) e none h = slice_get_within x.rules n rule e

dead_there : (x : Rules) (number : ℕ) → number < length x.rules → AreThere x (Dead number)
unfolding is_asked
dead_there x number within = record {
  each = λ n h.
      elim
      (or_cases (n == number) (share_link (slice_get x.rules number) (slice_get x.rules n)) h) [
        | inl e ↦
            let same : n ≡ number = grind (arith, nat_tests) in omega (arith, same, within)
        | inr e ↦
            some_within x n (share_link (slice_get x.rules number)) (slice_get x.rules n) refl
            refl e
      ];
}

limit_there : (x : Rules) (link : ℕ) (lo hi : Rational) → AreThere x (Limit link lo hi)
unfolding is_asked
limit_there x link lo hi = record {
  each = λ n h. some_within x n (acts_there link) (slice_get x.rules n) refl refl h;
}

-- by any facts
conflict_anyhow : (x : Rules) (tables : TableSet) (cell : Cell) (first second link : ℕ)
    (facts : List (ℕ × Bool))
    → ((branch other : Branch) → disagree x first branch second other link ≡ false)
    → shown_by x tables (Conflict first second link) cell facts ≡ true
unfolding shown_by shown_with
conflict_anyhow x tables cell first second link facts each =
    conflict_gone x (known_by facts) first second link each

dead_anyhow : (x : Rules) (tables : TableSet) (cell : Cell) (number : ℕ)
    (facts : List (ℕ × Bool)) → slice_get x.rules number ≡ None
    → shown_by x tables (Dead number) cell facts ≡ true
unfolding shown_by shown_with
dead_anyhow x tables cell number facts none = dead_gone x (known_by facts) number none

conflict_alone : (x : Rules) (tables : TableSet) (cell : Cell) (first second link : ℕ)
    (o p : Option Rule) → slice_get x.rules first ≡ o → slice_get x.rules second ≡ p
    → shown x tables (Conflict first second link) cell ≡ true
    → shown_by x tables (Conflict first second link) cell
    (facts_in x (Conflict first second link) cell) ≡ true
conflict_alone x tables cell first second link None p e f h =
    conflict_anyhow x tables cell first second link
    (facts_in x (Conflict first second link) cell)
    (λ branch other. first_gone x first branch second other link e)
conflict_alone x tables cell first second link (Some one) None e f h =
    conflict_anyhow x tables cell first second link
    (facts_in x (Conflict first second link) cell)
    (λ branch other. second_gone x first branch second other link f)
conflict_alone x tables cell first second link (Some one) (Some two) e f h =
    there_alone x tables (Conflict first second link) cell
    (conflict_there x first second link (slice_get_within x.rules first one e)
    (slice_get_within x.rules second two f)) h

dead_alone : (x : Rules) (tables : TableSet) (cell : Cell) (number : ℕ) (o : Option Rule)
    → slice_get x.rules number ≡ o → shown x tables (Dead number) cell ≡ true
    → shown_by x tables (Dead number) cell (facts_in x (Dead number) cell) ≡ true
dead_alone x tables cell number None e h =
    dead_anyhow x tables cell number (facts_in x (Dead number) cell) e
dead_alone x tables cell number (Some rule) e h =
    there_alone x tables (Dead number) cell
    (dead_there x number (slice_get_within x.rules number rule e)) h

pub shown_alone : (x : Rules) (tables : TableSet) (question : Question) (cell : Cell)
    → shown x tables question cell ≡ true
    → shown_by x tables question cell (facts_in x question cell) ≡ true
shown_alone x tables (Conflict first second link) cell h =
    conflict_alone x tables cell first second link (slice_get x.rules first)
    (slice_get x.rules second) refl refl h
shown_alone x tables (Dead number) cell h =
    dead_alone x tables cell number (slice_get x.rules number) refl h
shown_alone x tables (Limit link lo hi) cell h =
    there_alone x tables (Limit link lo hi) cell (limit_there x link lo hi) h

-- What a list of truths tells of the premises of the rules, by their numbers.
use Rattle.std.specs.Prelude.{◌≡◌, ℕ, ◌<◌, Bool, true, false, ◌==◌, if◌then◌else◌, List}
use Rattle.std.specs.Prelude.{[], ◌∷◌, length, slice_get}
use Rattle.std.specs.Option.{unwrap_or}
use Rattle.rule_types.specs.declared.rules.Rules.{Rules}
use Rattle.verdict_meaning.specs.declared.cell.Cell.{Cell}
use Rattle.verdict_meaning.specs.declared.question.Question.{Question}
use Rattle.verdict_meaning.specs.declared.truth.Truth.{Truth}
use Rattle.verdict_meaning.specs.declared.truth.Truth.TheVariants.{Yes, No, Open}
use Rattle.verdict_meaning.specs.Premises.{rule_truth}
use Rattle.verdict_meaning.specs.Questions.{is_asked}
use Rattle.verdict_meaning.specs.Shown.{KnownPremises, is_no, is_yes}

-- nothing is told past the end of the list
unfoldable pub told : List Truth → ℕ → Truth
told truths number = unwrap_or (slice_get truths number) Open

abbrev pub known_of : List Truth → KnownPremises
known_of truths =
    record {
      holds = λ number. is_yes (told truths number);
      fails = λ number. is_no (told truths number);
    }

-- what a box tells of the premise of a rule, which is nothing where the rule is not the question's
unfoldable pub asked_truth : Rules → Question → Cell → ℕ → Truth
asked_truth x question cell number =
    if is_asked x question number then rule_truth x cell number else Open

-- what the first fact on a rule tells
abbrev pub truth_of_fact : Bool → Truth
truth_of_fact true = Yes
truth_of_fact false = No

unfoldable pub told_by : List (ℕ × Bool) → ℕ → Truth
told_by [] number = Open
told_by (fact ∷ more) number =
    if fact.0 == number then truth_of_fact fact.1 else told_by more number

-- so many truths are what facts tell of the rules of their numbers
pub record AreTruthsBy (facts : List (ℕ × Bool)) (count : ℕ) (truths : List Truth) : Type 0 where
  pub counted : length truths ≡ count
  pub each : (number : ℕ) → number < count → told truths number ≡ told_by facts number

-- a list tells what one fact tells, and of all other rules what it told before
pub record AreToldWith (fact : ℕ × Bool) (before after : List Truth) : Type 0 where
  pub counted : length after ≡ length before
  pub each :
      (number : ℕ) → number < length before
      → told after number
      ≡ (if fact.0 == number then truth_of_fact fact.1 else told before number)

-- What is known of a premise that is decided, and ranges that have the moments that a question
-- needs.
use Rattle.std.specs.Prelude.{◌≡◌, Bool, true, false, IsSome}
use Rattle.rule_types.specs.declared.rules.Rules.{Rules}
use Rattle.verdict_meaning.specs.declared.question.Question.{Question}
use Rattle.verdict_meaning.specs.declared.ranges.Ranges.{Ranges}
use Rattle.verdict_meaning.specs.declared.truth.Truth.{Truth}
use Rattle.verdict_meaning.specs.declared.truth.Truth.TheVariants.{Yes, No}
use Rattle.verdict_meaning.specs.Questions.{has_moments}

-- what is known of a premise that is decided, from whether it holds
abbrev pub truth_of : Bool → Truth
truth_of true = Yes
truth_of false = No

-- the ranges have moments where the question's grid does
abbrev pub GivesMoments : Rules → Question → Ranges → Type 0
GivesMoments x question ranges = has_moments x question ≡ true → IsSome ranges.moments

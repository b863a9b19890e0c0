-- What lines state together can be asked: settings and timers are not below 0, and the links of
-- limits are tracked.
use Rattle.std.proofs.Common.{[], ◌∷◌, ◌++◌, ℤ}
use Rattle.std.proofs.lemmas.List.Elements.{All-nil, All-push}
use Rattle.std.specs.Prelude.{All, is_some}
use Rattle.exact_fraction.specs.Number.{Rational}
use Rattle.rule_types.specs.KeyOrder.{key_cmp}
use Rattle.rule_types.specs.declared.key.Key.{Key}
use Rattle.rule_types.specs.declared.rules.Rules.{Rules}
use Rattle.verdict_meaning.specs.declared.question.Question.{Question}
use Rattle.range_lines.specs.Lines.{no_lines, with_moments, with_range, with_step}
use Rattle.range_lines.specs.Needs.{is_given}
use Rattle.grid_samples.specs.Cells.{TracksLimit}
use Rattle.askable_ranges.proofs.FromZero.{MayRange}
use Rattle.askable_ranges.proofs.ReadResults.{Gives, TypeOf, gives_if, inserted}

-- what lines state together
abbrev pub Given : Type 0
Given = TypeOf no_lines

abbrev pub EntryRange : Key × (Rational × Rational) → Type 0
EntryRange stated = MayRange stated.0 stated.1

pub record GivenAskable (x : Rules) (given : Given) : Type 0 where
  pub ranges : All EntryRange given.ranges
  pub questions : All (TracksLimit x) given.questions

pub none_askable : (x : Rules) → GivenAskable x no_lines
none_askable x = record { ranges = All-nil EntryRange; questions = All-nil (TracksLimit x) }

pub with_range_askable : (x : Rules) (given : Given) (key : Key) (low high : Rational)
    → GivenAskable x given → MayRange key (low, high)
    → Gives (GivenAskable x) (with_range given key low high)
unfolding with_range
with_range_askable x given key low high h e =
    gives_if (GivenAskable x) (is_given given.ranges key) _ _ (λ t. tt)
    (λ new. record {
      ranges = inserted key_cmp key (low, high) EntryRange given.ranges new h.ranges e;
      questions = h.questions;
    })

pub with_moments_askable : (x : Rules) (given : Given) (first last : ℤ) → GivenAskable x given
    → Gives (GivenAskable x) (with_moments given first last)
unfolding with_moments
with_moments_askable x given first last h =
    gives_if (GivenAskable x) (is_some given.moments) _ _ (λ t. tt)
    (λ t. record { ranges = h.ranges; questions = h.questions })

pub with_step_askable : (x : Rules) (given : Given) (step : Rational) → GivenAskable x given
    → Gives (GivenAskable x) (with_step given step)
unfolding with_step
with_step_askable x given step h =
    gives_if (GivenAskable x) (is_some given.step) _ _ (λ t. tt)
    (λ t. record { ranges = h.ranges; questions = h.questions })

pub with_question_askable : (x : Rules) (given : Given) (question : Question)
    → GivenAskable x given → TracksLimit x question
    → GivenAskable x (record given { questions = given.questions ++ question ∷ [] })
with_question_askable x given question h e = record {
  ranges = h.ranges;
  questions = All-push (TracksLimit x) given.questions question h.questions e;
}

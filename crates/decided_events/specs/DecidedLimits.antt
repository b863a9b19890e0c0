-- Where the setting of a limit's link is decided in a box.
use Rattle.std.specs.Prelude.{◌≡◌, ◌⊎◌, ℕ, false, Some, IsTrue}
use Rattle.exact_fraction.specs.Number.{Rational}
use Rattle.interval_sets.specs.declared.interval.Interval.{Interval}
use Rattle.interval_sets.specs.Intervals.{lies_in}
use Rattle.rule_types.specs.declared.rules.Rules.{Rules}
use Rattle.rule_types.specs.declared.state.LinkState.{LinkState}
use Rattle.rule_types.specs.declared.state.State.{State}
use Rattle.rule_meaning.specs.State.{link_state}
use Rattle.verdict_meaning.specs.declared.cell.Cell.{Cell}
use Rattle.verdict_meaning.specs.declared.question.Question.{Question}
use Rattle.verdict_meaning.specs.declared.question.Question.TheVariants.{Conflict, Dead, Limit}
use Rattle.verdict_meaning.specs.Hulls.{closed}
use Rattle.verdict_meaning.specs.Questions.{setting_key}
use Rattle.verdict_meaning.specs.Reaches.{piece_in}

-- each member of an interval lies from lo to hi, or none does
abbrev pub AllWithin : Rational → Rational → Interval → Type 0
AllWithin lo hi piece =
    (q : Rational) → IsTrue (lies_in piece q) → IsTrue (lies_in (closed lo hi) q)

abbrev pub NoneWithin : Rational → Rational → Interval → Type 0
NoneWithin lo hi piece =
    (q : Rational) → IsTrue (lies_in piece q) → lies_in (closed lo hi) q ≡ false

-- A box decides at a state whether a link's setting lies from lo to hi: the state has the link,
-- with its target at its setting, and the setting is in the box's interval for it, of which all
-- members lie from lo to hi or none does.
pub record IsLimitDecided (x : Rules) (cell : Cell) (s : State) (link : ℕ) (lo hi : Rational) :
    Type 0 where
  pub at : LinkState
  pub piece : Interval
  pub link_is : link_state x s link ≡ Some at
  pub piece_is : piece_in (setting_key link) cell.keys ≡ Some piece
  pub target_is : at.target ≡ at.setting
  pub inside : IsTrue (lies_in piece at.setting)
  pub decided : AllWithin lo hi piece ⊎ NoneWithin lo hi piece

-- the same for a question: only a limit asks for it
abbrev pub DecidesLimit : Rules → Cell → State → Question → Type 0
DecidesLimit x cell s (Conflict first second link) = Unit {0}
DecidesLimit x cell s (Dead number) = Unit {0}
DecidesLimit x cell s (Limit link lo hi) = IsLimitDecided x cell s link lo hi

-- States that show that a question's event can happen.
use Rattle.std.specs.Prelude.{◌≡◌, Bool, true, ◌&&◌}
use Rattle.std.specs.List.{list_all}
use Rattle.rule_types.specs.declared.rules.Rules.{Rules}
use Rattle.rule_types.specs.declared.state.State.{State}
use Rattle.rule_types.specs.Tables.{TableSet}
use Rattle.verdict_meaning.specs.declared.cell.Cell.{Cell}
use Rattle.verdict_meaning.specs.declared.question.Question.{Question}
use Rattle.verdict_meaning.specs.declared.ranges.Ranges.{Ranges}
use Rattle.verdict_meaning.specs.Boxes.{IsInRanges, first_box}
use Rattle.verdict_meaning.specs.Events.{has_event}
use Rattle.verdict_meaning.specs.Grids.{sample_memory}
use Rattle.verdict_meaning.specs.Premises.{start_of}
use Rattle.state_checker.specs.Fits.{fits_rules}
use Rattle.state_checker.specs.Inside.{entry_fits, is_in_moments}

-- a state is one of the ranges and has the question's event, where each PID action has the memory 0
pub record IsWitness (x : Rules) (tables : TableSet) (question : Question) (ranges : Ranges)
    (s : State) : Type 0 where
  pub in_ranges : IsInRanges x question ranges sample_memory s
  pub event : has_event x tables sample_memory s question ≡ true

-- whether a state that fits the rules is one of the ranges whose first box this is
abbrev pub is_inside : Rules → Cell → State → Bool
is_inside x cell s =
    is_in_moments (start_of x) cell.moments s && list_all (entry_fits x s) cell.keys

-- whether a state is a witness of a question's event, as a test: the law `witnesses` says that it
-- tests this
unfoldable pub is_witness : Rules → TableSet → Question → Ranges → State → Bool
is_witness x tables question ranges s =
    (fits_rules x s && is_inside x (first_box x question ranges) s)
    && has_event x tables sample_memory s question

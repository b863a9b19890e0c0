use Rattle.std.proofs.Common.{sym}
use Rattle.rule_meaning.specs.Memories.{memory_of}
use Rattle.action_values.proofs.PidSteps.{none_over, none_memory, counted_is}
use Rattle.action_values.proofs.pids.advance.Goals as goal

pub returns-in-None : goal.returns-in-None
returns-in-None c = record {
  over = λ later. none_over c.args.rules.now c.args.state.now (memory_of c.args.before.now) c.args.at.now later (sym c.in-None.ensures.value);
  memories = λ number. none_memory c.args.rules.now c.args.at.now number _ _ (sym c.in-None.ensures.value);
}

pub advance_action-requires-clause-counted : goal.advance_action-requires-clause-counted
advance_action-requires-clause-counted c =
    counted_is c.args.rules.now.rules _ c.args.at.now c.in-Some.action.now c.requires.counted c.in-Some.ensures.value

use Rattle.trace_tally.proofs.HeaderInputs.{header_inputs}
use Rattle.trace_tally.proofs.tally.replay_trace.Goals as goal

pub replay_under-requires-clause-columns : goal.replay_under-requires-clause-columns
replay_under-requires-clause-columns g c =
    header_inputs c.args.rules.now.input_keys c.args.objects.now c.in-Some-line.line.now c.in-Ok-Some.header
    (rw c.in-Ok-Some.field-0-is at c.in-Ok-Some.ensures.answer)

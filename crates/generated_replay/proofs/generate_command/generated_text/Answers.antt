use Rattle.std.proofs.Common.{◌∙◌}
use Rattle.model_generator.specs.InputFile.{generated_input}
use Rattle.model_generator.specs.Trace.{generated_trace}
use Rattle.generated_replay.proofs.Replays.{over_files}
use Rattle.generated_replay.proofs.generate_command.generated_text.Goals as goal

pub returns : goal.returns
returns c = record {
  gives = over_files c.args.n c.deref.result.now c.deref-2.result.now (generated_input c.args.n)
      (generated_trace c.args.n) c.text_of-text.result
      (c.deref.ensures.value ∙ c.in-Ok.ensures.input)
      (c.deref-2.ensures.value ∙ c.in-Ok.ensures.trace) c.text_of-text.ensures.gives;
}

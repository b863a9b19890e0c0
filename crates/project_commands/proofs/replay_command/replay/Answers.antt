use Rattle.std.proofs.Common.{inr, refl}
use Rattle.std.proofs.Math.Path.{fun_ext}
use Rattle.std.proofs.lemmas.Result.{err_from_is_err_and}
use Rattle.command_outputs.specs.Outcomes.{input_file}
use Rattle.command_outputs.proofs.PublicLaws.{stages-none, stages-next, stages-stopped, stages-through}
use Rattle.streamed_lines.proofs.PublicLaws.{streams-performs}
use Rattle.streamed_lines.specs.Streams.{stream}
use Rattle.input_check.specs.InputRefusals.{project_judged, project_read}
use Rattle.project_commands.specs.Replays.{replay_printed, replay_roles}
use Rattle.project_commands.proofs.Stops.{stream_opens}
use Rattle.project_commands.proofs.replay_command.replay.Goals as goal

pub returns-in_err-project : goal.returns-in_err-project
returns-in_err-project g c =
    let p = err_from_is_err_and c.from_residual.result c.from_residual.ensures.1 in
    let held = g.F.Files.held c.args.files.now c.args.trace.now in
    rw (p.1, p.2) (record {
      performs = stages-stopped replay_roles input_file project_judged project_read
          (λ project. stream (replay_printed project) held) _ _ _ c.in_err-project.field-0.0
          refl (λ project. stream_opens (replay_printed project) held) (inr refl) stages-none
          c.in_err-project.ensures.passes;
    })

pub returns : goal.returns
returns g c =
    let passes = c.in_ok-project.ensures.passes in
    let project = c.in_ok-project.project in
    let held = g.F.Files.held c.args.files.now c.args.trace.now in
    let passed = stages-next input_file project_judged project_read _ project stages-none passes in
    let same = fun_ext (λ lines. c.in-Ok.ensures.prints lines) in
    let streams = rw (passes.call.names c.args.trace.now, same) at c.stream_trace-answer.ensures.streams in
    record {
      performs = stages-through replay_roles input_file project_judged project_read
          (λ p. stream (replay_printed p) held) _ project passes.judges
          (streams-performs replay_roles (replay_printed project) held _ _ _ _ _ refl refl passed streams);
    }

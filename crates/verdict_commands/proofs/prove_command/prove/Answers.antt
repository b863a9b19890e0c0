use Rattle.std.proofs.Common.{◌∙◌, ℕ, List, [], inl, inr, Some, refl, subst, arith}
use Rattle.std.proofs.lemmas.Result.{err_from_is_err_and}
use Rattle.byte_edge.proofs.PublicLaws.{written_bytes-nothing}
use Rattle.command_outputs.specs.Outcomes.{input_file, ranges_file}
use Rattle.command_outputs.specs.Steps.{WritesText}
use Rattle.command_outputs.specs.declared.completion.Completion.{Completion}
use Rattle.command_outputs.proofs.PublicLaws.{stages-none, stages-next, stages-stopped}
use Rattle.command_outputs.proofs.PublicLaws.{stages-through}
use Rattle.command_outputs.proofs.PublicLaws.{command_ends-written, command_ends-out_of_memory}
use Rattle.input_check.specs.InputRefusals.{project_judged, project_read}
use Rattle.rule_parser.specs.declared.project.Project.{Project}
use Rattle.verdict_commands.specs.Preparing.{prepared_read, ranges_judged}
use Rattle.verdict_commands.specs.Proves.{AreVerdicts, asked_project, proved, prove_after_input}
use Rattle.verdict_commands.specs.Proves.{prove_roles, prove_text, verdicts_completion}
use Rattle.verdict_commands.specs.declared.prepared.Prepared.{Prepared}
use Rattle.verdict_commands.proofs.ProveSteps.{of_asked, prove_opens, stopped_decides}
use Rattle.verdict_commands.proofs.ProveSteps.{written_decides}
use Rattle.verdict_commands.proofs.prove_command.prove.Goals as goal

pub returns-in_err-project : goal.returns-in_err-project
returns-in_err-project g c =
    let p = err_from_is_err_and c.from_residual.result c.from_residual.ensures.1 in
    let ranges = g.F.Files.held c.args.files.now c.args.ranges.now in
    let failed = c.in_err-project.field-0.0 in
    let first = c.in_err-project.ensures.passes in
    rw (p.1, p.2) (record {
      proves = record {
        verdicts = [];
        right = stopped_decides Project input_file (g.F.Files.left c.read_input.new.files)
            (asked_project (g.F.Files.held c.args.files.now) c.args.input.now c.args.ranges.now)
            (g.O.Sink.written c.args.out.now) failed first.ends;
        performs = stages-stopped prove_roles input_file project_judged project_read
            (prove_after_input [] ranges) _ _ _ failed
            refl (prove_opens [] ranges) (inr refl) stages-none first;
      };
    })

pub returns-in_err-prepared : goal.returns-in_err-prepared
returns-in_err-prepared g c =
    let p = err_from_is_err_and c.from_residual-in_err-prepared.result
    c.from_residual-in_err-prepared.ensures.1 in
    let ranges = g.F.Files.held c.args.files.now c.args.ranges.now in
    let project = c.in_ok-project.project in
    let failed = c.in_err-prepared.field-0.0 in
    let first = c.in_ok-project.ensures.passes in
    let one = stages-next input_file project_judged project_read _ project stages-none first in
    let second = rw (first.call.names c.args.ranges.now) at c.in_err-prepared.ensures.passes in
    rw (p.1, p.2) (record {
      proves = record {
        verdicts = [];
        right = stopped_decides Prepared ranges_file
            (g.F.Files.left c.read_ranges_file.new.files)
            (asked_project (g.F.Files.held c.args.files.now) c.args.input.now c.args.ranges.now)
            (g.O.Sink.written c.args.out.now) failed second.ends;
        performs = stages-through prove_roles input_file project_judged project_read
            (prove_after_input [] ranges) _ project first.judges
            (stages-stopped prove_roles ranges_file (ranges_judged project) prepared_read
            (λ prepared. Some (proved [] prepared)) _ _ _ failed
            refl (λ prepared. omega arith) (inl (λ prepared. refl)) one second);
      };
    })

pub returns-in_default : goal.returns-in_default
returns-in_default g c =
    let ranges = g.F.Files.held c.args.files.now c.args.ranges.now in
    let project = c.in_ok-project.project in
    let prepared = c.in_ok-prepared.prepared in
    let first = c.in_ok-project.ensures.passes in
    let one = stages-next input_file project_judged project_read _ project stages-none first in
    let second = rw (first.call.names c.args.ranges.now) at c.in_ok-prepared.ensures.passes in
    let two = stages-next ranges_file (ranges_judged project) prepared_read _ prepared one second in
    record {
      proves = record {
        verdicts = [];
        right = written_bytes-nothing (g.O.Sink.written c.args.out.now);
        performs = stages-through prove_roles input_file project_judged project_read
            (prove_after_input [] ranges) _ project first.judges
            (stages-through prove_roles ranges_file (ranges_judged project) prepared_read
            (λ prepared. Some (proved [] prepared)) _ prepared second.judges
            (command_ends-out_of_memory 2 prove_roles (Some (proved [] prepared))
            _ _ (omega arith) two));
      };
    }

pub returns : goal.returns
returns g c =
    let held = g.F.Files.held c.args.files.now in
    let ranges = held c.args.ranges.now in
    let project = c.in_ok-project.project in
    let prepared = c.in_ok-prepared.prepared in
    let report = c.in-Ok.ensures in
    let first = c.in_ok-project.ensures.passes in
    let one = stages-next input_file project_judged project_read _ project stages-none first in
    let second = rw (first.call.names c.args.ranges.now) at c.in_ok-prepared.ensures.passes in
    let two = stages-next ranges_file (ranges_judged project) prepared_read _ prepared one second in
    let Q : List ℕ → Completion → Type 0 = λ text ends. WritesText text ends
    (g.O.Sink.written c.args.out.now) (g.O.Sink.written c.write_text.new.out)
    (g.O.Sink.faults c.args.out.now) (g.O.Sink.faults c.write_text.new.out)
    c.write_text.result in
    let wrote : Q c.deref.result.now c.in-Ok.report.completion = c.write_text.ensures.writes in
    let told : Q (prove_text prepared report.verdicts) c.in-Ok.report.completion =
    subst (λ text. Q text c.in-Ok.report.completion) (c.deref.ensures.value ∙ report.text_is)
    wrote in
    let writes = subst (Q (prove_text prepared report.verdicts)) report.completion_is told in
    let P : Prepared → Type 0 = λ p. AreVerdicts p report.verdicts in
    record {
      proves = record {
        verdicts = report.verdicts;
        right = written_decides (asked_project held c.args.input.now c.args.ranges.now)
            report.verdicts (prove_text prepared report.verdicts)
            (verdicts_completion report.verdicts) (g.O.Sink.written c.args.out.now)
            (g.O.Sink.written c.write_text.new.out) (g.O.Sink.faults c.args.out.now)
            (g.O.Sink.faults c.write_text.new.out) c.write_text.result writes
            (of_asked P held c.args.input.now c.args.ranges.now project prepared
            first.judges second.judges report.right);
        performs = stages-through prove_roles input_file project_judged project_read
            (prove_after_input report.verdicts ranges) _ project first.judges
            (stages-through prove_roles ranges_file (ranges_judged project) prepared_read
            (λ p. Some (proved report.verdicts p)) _ prepared second.judges
            (command_ends-written prove_roles (verdicts_completion report.verdicts)
            (prove_text prepared report.verdicts) _ _ _ _ _ two writes));
      };
    }

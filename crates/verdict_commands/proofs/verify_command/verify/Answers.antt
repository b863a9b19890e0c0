use Rattle.std.proofs.Common.{ℕ, List, inl, inr, Some, refl, ◌∙◌, subst, arith}
use Rattle.std.proofs.lemmas.Result.{err_from_is_err_and}
use Rattle.command_outputs.specs.Outcomes.{input_file, ranges_file, report_file}
use Rattle.command_outputs.specs.Steps.{WritesText}
use Rattle.command_outputs.specs.declared.completion.Completion.{Completion}
use Rattle.command_outputs.proofs.PublicLaws.{stages-none, stages-next, stages-stopped}
use Rattle.command_outputs.proofs.PublicLaws.{stages-through}
use Rattle.command_outputs.proofs.PublicLaws.{command_ends-written, command_ends-out_of_memory}
use Rattle.input_check.specs.InputRefusals.{project_judged, project_read}
use Rattle.verdict_commands.specs.Preparing.{prepared_read, ranges_judged}
use Rattle.verdict_commands.specs.Verifies.{after_input, after_ranges, completion_of, counts_judged}
use Rattle.verdict_commands.specs.Verifies.{counts_read, verified, verify_roles}
use Rattle.verdict_commands.specs.Verifies.{verify_text}
use Rattle.verdict_commands.proofs.Outcomes.{ranges_open, report_opens, report_waits}
use Rattle.verdict_commands.proofs.verify_command.verify.Goals as goal

pub returns-in_err-project : goal.returns-in_err-project
returns-in_err-project g c =
    let p = err_from_is_err_and c.from_residual.result c.from_residual.ensures.1 in
    let ranges = g.F.Files.held c.args.files.now c.args.ranges.now in
    let report = g.F.Files.held c.args.files.now c.args.report.now in
    rw (p.1, p.2) (record {
      performs = stages-stopped verify_roles input_file project_judged project_read
          (after_input ranges report) _ _ _ c.in_err-project.field-0.0
          refl (ranges_open ranges report) (inr refl) stages-none c.in_err-project.ensures.passes;
    })

pub returns-in_err-prepared : goal.returns-in_err-prepared
returns-in_err-prepared g c =
    let p = err_from_is_err_and c.from_residual-in_err-prepared.result
    c.from_residual-in_err-prepared.ensures.1 in
    let ranges = g.F.Files.held c.args.files.now c.args.ranges.now in
    let report = g.F.Files.held c.args.files.now c.args.report.now in
    let project = c.in_ok-project.project in
    let first = c.in_ok-project.ensures.passes in
    let passed = stages-next input_file project_judged project_read _ project stages-none first in
    let second = rw (first.call.names c.args.ranges.now) at c.in_err-prepared.ensures.passes in
    rw (p.1, p.2) (record {
      performs = stages-through verify_roles input_file project_judged project_read
          (after_input ranges report) _ project first.judges
          (stages-stopped verify_roles ranges_file (ranges_judged project) prepared_read
          (after_ranges report) _ _ _ c.in_err-prepared.field-0.0
          refl (λ prepared. report_opens 2 report prepared (omega arith))
          (inl (report_waits report)) passed second);
    })

pub returns-in_err-counts : goal.returns-in_err-counts
returns-in_err-counts g c =
    let p = err_from_is_err_and c.from_residual-in_err-counts.result
    c.from_residual-in_err-counts.ensures.1 in
    let ranges = g.F.Files.held c.args.files.now c.args.ranges.now in
    let report = g.F.Files.held c.args.files.now c.args.report.now in
    let project = c.in_ok-project.project in
    let prepared = c.in_ok-prepared.prepared in
    let first = c.in_ok-project.ensures.passes in
    let one = stages-next input_file project_judged project_read _ project stages-none first in
    let second = rw (first.call.names c.args.ranges.now) at c.in_ok-prepared.ensures.passes in
    let two = stages-next ranges_file (ranges_judged project) prepared_read _ prepared one second in
    let third = rw (two.names c.args.report.now) at c.in_err-counts.ensures.passes in
    rw (p.1, p.2) (record {
      performs = stages-through verify_roles input_file project_judged project_read
          (after_input ranges report) _ project first.judges
          (stages-through verify_roles ranges_file (ranges_judged project) prepared_read
          (after_ranges report) _ prepared second.judges
          (stages-stopped verify_roles report_file (counts_judged prepared) counts_read
          (λ counts. Some (verified counts)) _ _ _ c.in_err-counts.field-0.0
          refl (λ counts. omega arith) (inl (λ counts. refl)) two third));
    })

pub returns-in_default : goal.returns-in_default
returns-in_default g c =
    let ranges = g.F.Files.held c.args.files.now c.args.ranges.now in
    let report = g.F.Files.held c.args.files.now c.args.report.now in
    let project = c.in_ok-project.project in
    let prepared = c.in_ok-prepared.prepared in
    let counts = c.in_ok-counts.counts in
    let first = c.in_ok-project.ensures.passes in
    let one = stages-next input_file project_judged project_read _ project stages-none first in
    let second = rw (first.call.names c.args.ranges.now) at c.in_ok-prepared.ensures.passes in
    let two = stages-next ranges_file (ranges_judged project) prepared_read _ prepared one second in
    let third = rw (two.names c.args.report.now) at c.in_ok-counts.ensures.passes in
    let three = stages-next report_file (counts_judged prepared) counts_read _ counts two third in
    record {
      performs = stages-through verify_roles input_file project_judged project_read
          (after_input ranges report) _ project first.judges
          (stages-through verify_roles ranges_file (ranges_judged project) prepared_read
          (after_ranges report) _ prepared second.judges
          (stages-through verify_roles report_file (counts_judged prepared) counts_read
          (λ counts. Some (verified counts)) _ counts third.judges
          (command_ends-out_of_memory 3 verify_roles (Some (verified counts))
          _ _ (omega arith) three)));
    }

pub returns : goal.returns
returns g c =
    let ranges = g.F.Files.held c.args.files.now c.args.ranges.now in
    let report = g.F.Files.held c.args.files.now c.args.report.now in
    let project = c.in_ok-project.project in
    let prepared = c.in_ok-prepared.prepared in
    let counts = c.in_ok-counts.counts in
    let first = c.in_ok-project.ensures.passes in
    let one = stages-next input_file project_judged project_read _ project stages-none first in
    let second = rw (first.call.names c.args.ranges.now) at c.in_ok-prepared.ensures.passes in
    let two = stages-next ranges_file (ranges_judged project) prepared_read _ prepared one second in
    let third = rw (two.names c.args.report.now) at c.in_ok-counts.ensures.passes in
    let three = stages-next report_file (counts_judged prepared) counts_read _ counts two third in
    let Q : List ℕ → Completion → Type 0 = λ text ends. WritesText text ends
    (g.O.Sink.written c.args.out.now) (g.O.Sink.written c.write_text.new.out)
    (g.O.Sink.faults c.args.out.now) (g.O.Sink.faults c.write_text.new.out)
    c.write_text.result in
    let wrote : Q c.deref.result.now c.completion_of.result = c.write_text.ensures.writes in
    let told : Q (verify_text counts) c.completion_of.result =
    subst (λ text. Q text c.completion_of.result) (c.deref.ensures.value ∙ c.in-Ok.ensures.value)
    wrote in
    let writes = subst (Q (verify_text counts)) c.completion_of.ensures.value told in
    record {
      performs = stages-through verify_roles input_file project_judged project_read
          (after_input ranges report) _ project first.judges
          (stages-through verify_roles ranges_file (ranges_judged project) prepared_read
          (after_ranges report) _ prepared second.judges
          (stages-through verify_roles report_file (counts_judged prepared) counts_read
          (λ counts. Some (verified counts)) _ counts third.judges
          (command_ends-written verify_roles (completion_of counts) (verify_text counts)
          _ _ _ _ _ three writes)));
    }

use Rattle.std.proofs.Common.{◌≤◌, Some, inr, refl, rules, arith}
use Rattle.std.proofs.lemmas.Result.{err_from_is_err_and}
use Rattle.command_outputs.specs.Outcomes.{input_file, written}
use Rattle.command_outputs.specs.declared.status.Status.TheVariants.{Done}
use Rattle.command_outputs.proofs.PublicLaws.{stages-none, stages-next, stages-stopped, stages-through}
use Rattle.command_outputs.specs.Steps.{WritesText}
use Rattle.command_outputs.proofs.PublicLaws.{command_ends-written}
use Rattle.command_outputs.specs.declared.completion.Completion.TheVariants as Completion
use Rattle.project_commands.specs.Tables.{tables_roles, tables_printed}
use Rattle.input_check.specs.InputRefusals.{project_judged, project_read}
use Rattle.rule_parser.specs.declared.project.Project.{Project}
use Rattle.project_commands.proofs.tables_command.tables.Goals as goal

pub returns-in_err-project : goal.returns-in_err-project
returns-in_err-project g c =
    let p = err_from_is_err_and c.from_residual.result c.from_residual.ensures.1 in
    let opens : (project : Project) → 1 ≤ 1 = λ project. omega arith in
    rw (p.1, p.2) (record {
      performs = stages-stopped tables_roles input_file project_judged project_read
          (λ project. Some (written 1 Done (tables_printed project))) _ _ _ c.in_err-project.field-0.0
          refl opens (inr refl) stages-none c.in_err-project.ensures.passes;
    })

pub returns : goal.returns
returns g c =
    let passes = c.in_ok-project.ensures.passes in
    let project = c.in_ok-project.project in
    let passed = stages-next input_file project_judged project_read _ project stages-none passes in
    let writes : WritesText (tables_printed project) Completion.Done (g.O.Sink.written c.args.out.now)
    (g.O.Sink.written c.write_text.new.out) (g.O.Sink.faults c.args.out.now)
    (g.O.Sink.faults c.write_text.new.out) c.write_text.result = search rules in
    record {
      performs = stages-through tables_roles input_file project_judged project_read
          (λ p. Some (written 1 Done (tables_printed p))) _ project passes.judges
          (command_ends-written tables_roles Completion.Done (tables_printed project) _ _ _ _ _ passed writes);
    }

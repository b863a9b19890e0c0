use Rattle.std.proofs.Common.{rules, sym, subst, Bool}
use Rattle.byte_edge.specs.Devices.{IsCallOn}
use Rattle.input_check.proofs.InputJudged.{read_judges, judged_ends, judged_failure}
use Rattle.input_check.proofs.input.read_input.Goals as goal

pub returns-clause-passes : goal.returns-clause-passes
returns-clause-passes g c =
    let lines = c.in_ok-sections.ensures.reads in
    let judges = c.judge.ensures.judges lines.earlier lines.represents in
    let P : Bool → Type 0 = λ fails. IsCallOn 0 fails
    (g.F.Files.is_open c.args.files.now) (g.F.Files.is_open c.read_sections.new.files)
    (g.F.Files.held c.args.files.now) (g.F.Files.held c.read_sections.new.files)
    (g.F.Files.left c.args.files.now) (g.F.Files.left c.read_sections.new.files)
    (g.F.Files.faults c.args.files.now) (g.F.Files.faults c.read_sections.new.files) in
    record {
      judges = read_judges _ c.in_ok-sections.sections c.judge.result lines judges;
      ends = judged_ends (g.F.Files.left c.read_sections.new.files) _ c.judge.result
          c.in_ok-sections.ensures.ends judges;
      opened = search rules;
      call = subst P (sym (judged_failure _ c.judge.result judges)) c.in_ok-sections.ensures.call;
    }

use Rattle.std.proofs.Common.{◌∙◌}
use Rattle.std.specs.Prelude.{codes}
use Rattle.std.specs.Fmt.{decimal}
use Rattle.report_lines.proofs.LineSteps.{shape_joined}
use Rattle.report_lines.proofs.fault.write_fault.Goals as goal

pub returns : goal.returns
returns c = record {
  text = c.in_ok-extend_from_slice-2.ensures.items
      ∙ shape_joined c.args.out.now.items (codes "error: report line ") (decimal c.args.line)
      (codes ": Shape (1)") c.extend_from_slice.new.self.items c.write_number.new.out.items
      c.in_ok-extend_from_slice.ensures.items c.in_ok-write_number.ensures;
}

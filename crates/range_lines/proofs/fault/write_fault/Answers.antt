use Rattle.std.proofs.Common.{◌≡◌, OnOk, subst}
use Rattle.std.specs.Prelude.{codes}
use Rattle.range_lines.specs.Causes.{place_text, cause_text, named_text}
use Rattle.range_lines.proofs.Texts.{report_joined}
use Rattle.range_lines.proofs.fault.write_fault.Goals as goal

pub returns : goal.returns
returns c = record {
  text = subst (λ t. OnOk c.write_named.result (c.write_named.new.out.items ≡ t))
      (report_joined c.args.out.now.items (codes "error: ranges") (place_text c.args.line)
      (cause_text c.args.cause) (named_text c.args.objects.now c.args.key)
      c.extend_from_slice.new.self.items c.write_place.new.out.items c.write_cause.new.out.items
      c.in_ok-extend_from_slice.ensures.items c.in_ok-write_place.ensures
      c.in_ok-write_cause.ensures)
      c.write_named.ensures;
}

use Rattle.std.proofs.Common.{rules, ◌≡◌, ◌+◌, map, arith}
use Rattle.byte_edge.specs.Lines.{lines, capped}
use Rattle.generated_replay.proofs.Sections.{read_more}
use Rattle.generated_replay.proofs.input.sections_of.Goals as goal

pub lines-preserved : goal.lines-preserved
lines-preserved c =
    let counted : c.push.new.self.count ≡ c.lines.sections.count + 1 = search rules in
    let few = c.lines.invariant.few in
    let shorter = c.in-Some.ensures.shorter in
    record {
      few = omega (arith, counted, few, shorter);
      so_far = read_more c.lines.sections c.push.new.self _
          (map (capped 4096) (lines c.lines.rest.now)) (map (capped 4096) (lines c.in-Some.first.rest.now))
          (map (capped 4096) (lines c.args.input.now)) c.in_ok-push.ensures.taken c.in-Some.ensures.lines
          c.lines.invariant.so_far;
    }

use Rattle.std.proofs.Common.{rules, ◌≡◌, ◌∷◌, ◌<◌, ◌≤◌, ℕ, [], Some, length, map, ap, ◌∙◌, arith}
use Rattle.byte_edge.specs.Lines.{lines, capped}
use Rattle.trace_replay.specs.Progress.{kept_of}
use Rattle.trace_tally.specs.Giving.{tally_with}
use Rattle.trace_tally.proofs.Answers.{refuses_gives}
use Rattle.trace_tally.proofs.Changes.{settings_long, switches_fit}
use Rattle.trace_tally.proofs.TakenRows.{taken_lines}
use Rattle.trace_tally.proofs.rows.replay_rows.Goals as goal

pub overflow_add-switches : goal.overflow_add-switches
overflow_add-switches g c =
    let long = ap length c.lines.invariant.before
    ∙ settings_long c.lines.replay.rules.now (kept_of c.lines.replay.progress).standings in
    let few = c.lines.invariant.taken.rules.formed.controlled_counted in
    let width : length c.lines.before < 4294967296 = omega (arith, long, few) in
    let count = c.lines.invariant.few in
    let shorter = c.in-Some.ensures.shorter in
    let all = c.requires.few in
    let number : c.lines.number ≤ 4294967296 = omega (arith, count, shorter, all) in
    let room = switches_fit c.lines.switches c.in-Ok.more c.lines.number (length c.lines.before)
    c.lines.invariant.most c.in-Ok.ensures.most number width in
    let small = room.small in
    omega (arith, small)

pub returns-in-Err : goal.returns-in-Err
returns-in-Err g c =
    let same : map (capped 65536) (lines c.lines.rest.now)
    ≡ Some c.in-Some-line.line.now ∷ map (capped 65536) (lines c.in-Some.first.rest.now) = search rules in
    record {
      gives = refuses_gives {U = ℕ} _ (tally_with []) c.in-Err.complaint
          (c.in-Err.ensures.takes c.lines.switches (map (capped 65536) (lines c.in-Some.first.rest.now)) _
          (taken_lines _ _ _ _ _ _ _ _ (Some c.in-Some-line.line.now ∷ map (capped 65536) (lines c.in-Some.first.rest.now)) _
          same c.lines.invariant.taken));
    }

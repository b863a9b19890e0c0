use Rattle.std.proofs.Common.{◌+◌, ◌≤◌, map, length}
use Rattle.byte_edge.specs.Lines.{lines, capped}
use Rattle.generated_replay.proofs.Sections.{ReadSoFar}
use Rattle.generated_replay.proofs.input.sections_of.Given as goal

-- the sections represent the lines so far
abbrev pub invariant-lines : goal.invariant-lines
invariant-lines l = record {
  few : l.sections.count + length l.rest ≤ length l.input;
  so_far : ReadSoFar l.sections (map (capped 4096) (lines l.rest)) (map (capped 4096) (lines l.input));
}

abbrev pub decreases-lines : goal.decreases-lines
decreases-lines l = length l.rest

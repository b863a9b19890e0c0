-- A project that is prepared for the ranges of a file.
use Rattle.std.specs.Prelude.{ℕ, List, Option, Result, Ok, Err}
use Rattle.grid_samples.specs.Cells.{HasClosedRanges}
use Rattle.range_lines.specs.Causes.{FileFault}
use Rattle.range_lines.specs.Lines.{ranges_in}
use Rattle.rule_parser.specs.declared.project.Project.{Project}
use Rattle.rule_types.specs.Tables.{HoldsTables}
use Rattle.rule_types.specs.WellFormed.{WellFormed}
use Rattle.verdict_meaning.specs.Boxes.{IsPrepared}
use Rattle.verdict_meaning.specs.FitRanges.{RangesFit, prepared_rules}
use Rattle.verdict_meaning.specs.declared.ranges.Ranges.{Ranges}
use Rattle.verdict_commands.specs.Faults.{range_said}
use Rattle.verdict_commands.specs.declared.prepared.Prepared.{Prepared}

-- a project whose rules have the start and the step of ranges, and these ranges
abbrev pub prepared : Project → Ranges → Prepared
prepared p ranges = record {
  project = record p { rules = prepared_rules p.rules ranges };
  ranges = ranges;
}

-- the prepared project, or the line that says the first fault of the ranges
abbrev pub prepared_or_line : Project → Result Ranges FileFault → Result Prepared (List ℕ)
prepared_or_line p (Ok ranges) = Ok (prepared p ranges)
prepared_or_line p (Err fault) = Err (range_said p.objects fault)

-- the project prepared for the ranges of a file, or the line that refuses the file
unfoldable pub ranges_judged : Project → List (Option (List ℕ)) → Result Prepared (List ℕ)
ranges_judged p file = prepared_or_line p (ranges_in p.rules p.objects file)

-- a prepared project as it was read
abbrev pub prepared_read : Prepared → Prepared
prepared_read p = p

-- a prepared project can be asked: its rules are well formed, their tables are held, their start
-- and their step are those of the ranges, the ranges fit them, and those of settings and timers
-- have nothing below 0
pub record IsReady (p : Prepared) : Type 0 where
  pub formed : WellFormed p.project.rules
  pub tables : HoldsTables p.project.tables p.project.rules.rules
  pub prepared : IsPrepared p.project.rules p.ranges
  pub fit : RangesFit p.project.rules p.ranges
  pub closed : HasClosedRanges p.ranges

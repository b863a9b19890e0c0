-- What the parts of the readers stand for in the words of the definitions, and bounds of options.
use Rattle.std.specs.Prelude.{◌<◌, ℤ, neg_ℤ, pos, ◌≤ℤ◌, List, map, IfSome}
use Rattle.inp_text.specs.Merging.{SectionLine, in_section}
use Rattle.network_lines.specs.declared.merged.ObjectLine.{ObjectLine}
use Rattle.network_lines.specs.declared.options.OptionSet.{OptionSet}

-- a day number of the years 1 to 9999
pub record IsDay (day : ℤ) : Type 0 where
  pub low : neg_ℤ (pos 719_162) ≤ℤ day
  pub high : day ≤ℤ pos 2_932_896

-- the start that options give is a moment
pub record IsStart (options : OptionSet) : Type 0 where
  pub day : IfSome options.start_day IsDay
  pub second : options.start_second < 86_400

-- a line with its section, and such lines
abbrev pub line_now : ObjectLine → SectionLine
line_now found = in_section found.section found.line.now

abbrev pub lines_now : List ObjectLine → List SectionLine
lines_now found = map line_now found

-- What sections keep, and the lines that they represent.
use Rattle.std.specs.Prelude.{◌≡◌, List, length}
use Rattle.inp_text.specs.Sections.{Line, section_after, section_lines, first_long}
use Rattle.inp_text.specs.declared.section_kind.SectionKind.{SectionKind}
use Rattle.inp_text.specs.declared.section_kind.SectionKind.TheVariants as kinds
use Rattle.inp_text.specs.declared.source_line.SourceLine.{SourceLine}
use Rattle.inp_text.specs.declared.kept_lines.KeptLines.{KeptLines}
use Rattle.inp_text.specs.declared.sections.Sections.{Sections}

-- the lines that are kept of a section
abbrev pub kept : KeptLines → SectionKind → List SourceLine
kept lines kinds.Options = lines.options.items
kept lines kinds.Gages = lines.gages.items
kept lines kinds.Junctions = lines.junctions.items
kept lines kinds.Outfalls = lines.outfalls.items
kept lines kinds.Dividers = lines.dividers.items
kept lines kinds.Storage = lines.storage.items
kept lines kinds.Conduits = lines.conduits.items
kept lines kinds.Pumps = lines.pumps.items
kept lines kinds.Orifices = lines.orifices.items
kept lines kinds.Weirs = lines.weirs.items
kept lines kinds.Outlets = lines.outlets.items
kept lines kinds.Controls = lines.controls.items
kept lines kinds.Curves = lines.curves.items
kept lines kinds.Series = lines.series.items

-- sections represent these lines, newest first: each list of lines that gives the parts that they
-- keep
pub record Represents (sections : Sections) (earlier : List Line) : Type 0 where
  pub counted : sections.count ≡ length earlier
  pub in_force : sections.section ≡ section_after earlier
  pub lines : (kind : SectionKind) → kept sections.kept kind ≡ section_lines kind earlier
  pub long : sections.first_long ≡ first_long earlier

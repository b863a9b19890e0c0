-- What one more kept line changes, section by section.
use Rattle.std.specs.Prelude.{◌≡◌, Bool, true, false, List, [], ◌∷◌, ◌++◌}
use Rattle.inp_text.specs.Headings.{is_kind}
use Rattle.inp_text.specs.declared.section_kind.SectionKind.{SectionKind}
use Rattle.inp_text.specs.declared.section_kind.SectionKind.TheVariants as kinds
use Rattle.inp_text.specs.declared.source_line.SourceLine.{SourceLine}
use Rattle.inp_text.specs.declared.kept_lines.KeptLines.{KeptLines}

-- the lines, and this one after them where it is theirs
abbrev pub extended : Bool → List SourceLine → SourceLine → List SourceLine
extended true lines line = lines ++ line ∷ []
extended false lines line = lines

-- the lines of one section after one more line of a section of this kind
abbrev pub grown : SectionKind → SectionKind → List SourceLine → SourceLine → List SourceLine
grown own kind lines line = extended (is_kind own kind) lines line

-- the section of this kind has one more line, and no other changes
pub record AddsLine
    (before after : KeptLines) (kind : SectionKind) (line : SourceLine) : Type 0 where
  pub in_options : after.options.items ≡ grown kinds.Options kind before.options.items line
  pub in_gages : after.gages.items ≡ grown kinds.Gages kind before.gages.items line
  pub in_junctions : after.junctions.items ≡ grown kinds.Junctions kind before.junctions.items line
  pub in_outfalls : after.outfalls.items ≡ grown kinds.Outfalls kind before.outfalls.items line
  pub in_dividers : after.dividers.items ≡ grown kinds.Dividers kind before.dividers.items line
  pub in_storage : after.storage.items ≡ grown kinds.Storage kind before.storage.items line
  pub in_conduits : after.conduits.items ≡ grown kinds.Conduits kind before.conduits.items line
  pub in_pumps : after.pumps.items ≡ grown kinds.Pumps kind before.pumps.items line
  pub in_orifices : after.orifices.items ≡ grown kinds.Orifices kind before.orifices.items line
  pub in_weirs : after.weirs.items ≡ grown kinds.Weirs kind before.weirs.items line
  pub in_outlets : after.outlets.items ≡ grown kinds.Outlets kind before.outlets.items line
  pub in_controls : after.controls.items ≡ grown kinds.Controls kind before.controls.items line
  pub in_curves : after.curves.items ≡ grown kinds.Curves kind before.curves.items line
  pub in_series : after.series.items ≡ grown kinds.Series kind before.series.items line

-- no section has other lines than before
pub record Unchanged (before after : KeptLines) : Type 0 where
  pub in_options : after.options.items ≡ before.options.items
  pub in_gages : after.gages.items ≡ before.gages.items
  pub in_junctions : after.junctions.items ≡ before.junctions.items
  pub in_outfalls : after.outfalls.items ≡ before.outfalls.items
  pub in_dividers : after.dividers.items ≡ before.dividers.items
  pub in_storage : after.storage.items ≡ before.storage.items
  pub in_conduits : after.conduits.items ≡ before.conduits.items
  pub in_pumps : after.pumps.items ≡ before.pumps.items
  pub in_orifices : after.orifices.items ≡ before.orifices.items
  pub in_weirs : after.weirs.items ≡ before.weirs.items
  pub in_outlets : after.outlets.items ≡ before.outlets.items
  pub in_controls : after.controls.items ≡ before.controls.items
  pub in_curves : after.curves.items ≡ before.curves.items
  pub in_series : after.series.items ≡ before.series.items

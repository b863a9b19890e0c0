-- The sections of a small file, worked out by hand.
use Rattle.std.specs.Prelude.{◌≡◌, ℕ, List, [], ◌∷◌, None, Some, codes, reverse, filter, map, ◌||◌}
use Rattle.inp_text.specs.Headings.{is_kind}
use Rattle.inp_text.specs.Sections.{Line, section_of, section_lines, first_long}
use Rattle.inp_text.specs.Belonging.{numbered, heading_above, belongs}
use Rattle.inp_text.specs.Merging.{SectionLine, in_section, lines_in, merged}
use Rattle.inp_text.specs.declared.section_kind.SectionKind.TheVariants as kinds
use Rattle.inp_text.specs.declared.source_line.SourceLine.{SourceLine}

-- a file: a line before any heading, a heading in small letters, a line that is too long in the
-- middle of a section, a section that is not read, a line without items, and a heading that comes
-- again
abbrev pub file : List Line
file =
    Some (codes "N0")
    ∷ Some (codes " [junctions] ;nodes")
    ∷ Some (codes "N1 5")
    ∷ None
    ∷ Some (codes "N2;5")
    ∷ Some (codes "[TITLE]")
    ∷ Some (codes "N3")
    ∷ Some (codes "[PumpStations]")
    ∷ Some (codes "; none yet")
    ∷ None
    ∷ Some (codes "P1 N1 N2")
    ∷ Some (codes "[JUNC")
    ∷ Some (codes "N3")
    ∷ []

abbrev pub line_at : ℕ → List ℕ → SourceLine
line_at number bytes = record { number = number; bytes = bytes }

abbrev pub junctions : List SourceLine
junctions =
    line_at 3 (codes "N1 5") ∷ line_at 5 (codes "N2;5") ∷ line_at 13 (codes "N3") ∷ []

abbrev pub pumps : List SourceLine
pumps = line_at 11 (codes "P1 N1 N2") ∷ []

-- the junctions and the pumps in the order of the file
abbrev pub both : List SectionLine
both =
    in_section kinds.Junctions (line_at 3 (codes "N1 5"))
    ∷ in_section kinds.Junctions (line_at 5 (codes "N2;5"))
    ∷ in_section kinds.Pumps (line_at 11 (codes "P1 N1 N2"))
    ∷ in_section kinds.Junctions (line_at 13 (codes "N3")) ∷ []

pub record AreSections : Type 0 where
  pub before_any : section_of file 1 ≡ None
  pub heading_itself : section_of file 2 ≡ None
  pub in_junctions : section_of file 3 ≡ Some kinds.Junctions
  pub past_long : section_of file 5 ≡ Some kinds.Junctions
  pub in_title : section_of file 7 ≡ None
  pub in_pumps : section_of file 11 ≡ Some kinds.Pumps
  pub again : section_of file 13 ≡ Some kinds.Junctions
  pub junction_lines : section_lines kinds.Junctions (reverse file) ≡ junctions
  pub pump_lines : section_lines kinds.Pumps (reverse file) ≡ pumps
  pub outfall_lines : section_lines kinds.Outfalls (reverse file) ≡ []
  pub none_above : heading_above file 1 ≡ None
  pub unread_above : heading_above file 7 ≡ Some (line_at 6 (codes "[TITLE]"))
  pub nearest_above : heading_above file 13 ≡ Some (line_at 12 (codes "[JUNC"))
  pub of_junctions : filter (belongs kinds.Junctions file) (numbered file) ≡ junctions
  pub of_pumps : filter (belongs kinds.Pumps file) (numbered file) ≡ pumps
  pub in_order :
      lines_in (λ kind. is_kind kinds.Pumps kind || is_kind kinds.Junctions kind) file ≡ both
  pub by_number :
      merged (map (in_section kinds.Pumps) pumps) (map (in_section kinds.Junctions) junctions)
      ≡ both
  pub first_long_line : first_long (reverse file) ≡ Some 4

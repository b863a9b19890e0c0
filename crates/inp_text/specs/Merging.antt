-- The lines of several sections in the order of the file, and the lists of them merged by number.
use Rattle.std.specs.Prelude.{ℕ, nat_lt, Bool, true, false, List, [], ◌∷◌, ◌++◌, Option, None, Some}
use Rattle.std.specs.Prelude.{if◌then◌else◌, filter, option_and_then}
use Rattle.inp_text.specs.Sections.{Line, is_content}
use Rattle.inp_text.specs.Belonging.{numbered, heading_above, opened}
use Rattle.inp_text.specs.declared.section_kind.SectionKind.{SectionKind}
use Rattle.inp_text.specs.declared.source_line.SourceLine.{SourceLine}

-- a line and the section that it is in
pub record SectionLine : Type 0 where
  pub kind : SectionKind
  pub line : SourceLine

-- a line in a section
abbrev pub in_section : SectionKind → SourceLine → SectionLine
in_section kind line = record { kind = kind; line = line }

-- the read section that a line of a file is in: the one that the nearest heading above it opens
-- (SWMM 5.2 manual, appendix D)
abbrev pub section_at : List Line → SourceLine → Option SectionKind
section_at file line = option_and_then opened (heading_above file line.number)

-- a line with its section, where it is content and in a section that is read
abbrev pub content_in : Bool → Option SectionKind → SourceLine → List SectionLine
content_in true (Some kind) line = in_section kind line ∷ []
content_in true None line = []
content_in false section line = []

-- those of these lines of a file that are content and in a section that is read, with the section
abbrev pub read_among : List Line → List SourceLine → List SectionLine
read_among file [] = []
read_among file (line ∷ later) =
    content_in (is_content line.bytes) (section_at file line) line ++ read_among file later

-- the lines of a file that have items, are no headings, and are in a section that passes a test, in
-- the order of the file
abbrev pub lines_in : (SectionKind → Bool) → List Line → List SectionLine
lines_in test file = filter (λ found. test found.kind) (read_among file (numbered file))

-- a line and later ones merged with others, where `rest` merges the later ones
abbrev pub merged_onto :
    SectionLine → (List SectionLine → List SectionLine) → List SectionLine → List SectionLine
merged_onto first rest [] = first ∷ rest []
merged_onto first rest (other ∷ others) =
    if nat_lt other.line.number first.line.number
    then other ∷ merged_onto first rest others
    else first ∷ rest (other ∷ others)

-- two lists of lines whose numbers rise as one list whose numbers rise
abbrev pub merged : List SectionLine → List SectionLine → List SectionLine
merged [] others = others
merged (first ∷ later) others = merged_onto first (merged later) others

-- The lines that belong to a section: those that have items and are no headings, under a heading
-- that opens it.
use Rattle.std.specs.Prelude.{◌≡◌, ◌≢◌, ℕ, ◌+◌, ◌-◌, ◌<◌, nat_lt, Bool, true, false, ◌&&◌}
use Rattle.std.specs.Prelude.{List, [], ◌∷◌, Option, None, Some, option_and_then}
use Rattle.std.specs.Prelude.{reverse, filter, find, slice_get}
use Rattle.inp_text.specs.Items.{items}
use Rattle.inp_text.specs.Headings.{is_heading, first_item, section_named, is_in}
use Rattle.inp_text.specs.Sections.{Line, is_content}
use Rattle.inp_text.specs.declared.section_kind.SectionKind.{SectionKind}
use Rattle.inp_text.specs.declared.source_line.SourceLine.{SourceLine}

-- these lines, each with its number, where the first has this one; lines that were too long are
-- left out
abbrev pub numbered_from : ℕ → List Line → List SourceLine
numbered_from number [] = []
numbered_from number (None ∷ later) = numbered_from (number + 1) later
numbered_from number (Some line ∷ later) =
    record { number = number; bytes = line } ∷ numbered_from (number + 1) later

-- the lines of a file, each with its number from 1; lines that were too long are left out
abbrev pub numbered : List Line → List SourceLine
numbered file = numbered_from 1 file

-- the lines of a file above the one with this number
abbrev pub lines_above : List Line → ℕ → List SourceLine
lines_above file number = filter (λ line. nat_lt line.number number) (numbered file)

-- the nearest heading above the line with this number: the first that is met from there upwards
abbrev pub heading_above : List Line → ℕ → Option SourceLine
heading_above file number =
    find (λ line. is_heading line.bytes) (reverse (lines_above file number))

-- the read section that a heading opens (SWMM 5.2 manual, appendix D)
abbrev pub opened : SourceLine → Option SectionKind
opened heading = section_named (first_item heading.bytes)

-- a line of a file belongs to a section: it has items, is no heading, and the nearest heading above
-- it opens that section (SWMM 5.2 manual, appendix D)
abbrev pub belongs : SectionKind → List Line → SourceLine → Bool
belongs kind file line =
    is_content line.bytes && is_in kind (option_and_then opened (heading_above file line.number))

-- a file has this line at its number, from 1, and it was not too long
pub record HasLine (file : List Line) (line : SourceLine) : Type 0 where
  pub from_1 : 0 < line.number
  pub there : slice_get file (line.number - 1) ≡ Some (Some line.bytes)

-- a heading of a file is the nearest one above a line: no heading is between them
pub record IsNearestHeading (file : List Line) (number : ℕ) (heading : SourceLine) : Type 0 where
  pub in_file : HasLine file heading
  pub opens_section : is_heading heading.bytes ≡ true
  pub above : heading.number < number
  pub nearest : (line : SourceLine) → HasLine file line → heading.number < line.number
      → line.number < number → is_heading line.bytes ≡ false

-- the same as `belongs` by the places of the lines (SWMM 5.2 manual, appendix D)
pub record IsLineOf (kind : SectionKind) (file : List Line) (line : SourceLine) : Type 0 where
  pub in_file : HasLine file line
  pub has_items : items line.bytes ≢ []
  pub no_heading : is_heading line.bytes ≡ false
  pub heading : SourceLine
  pub under : IsNearestHeading file line.number heading
  pub opens : opened heading ≡ Some kind

-- The sections of an input file: the one that each line is in, and the lines of each. Earlier lines
-- are listed newest first.
use Rattle.std.specs.Prelude.{ℕ, ◌-◌, ◌+◌, Bool, true, false, not, ◌&&◌, if◌then◌else◌}
use Rattle.std.specs.Prelude.{List, [], ◌∷◌, ◌++◌, Option, None, Some, length, reverse, take}
use Rattle.inp_text.specs.Items.{items}
use Rattle.inp_text.specs.Headings.{is_heading, first_item, section_named, is_in}
use Rattle.inp_text.specs.declared.section_kind.SectionKind.{SectionKind}
use Rattle.inp_text.specs.declared.source_line.SourceLine.{SourceLine}

-- a line: its bytes, or nothing where there are too many of them
abbrev pub Line : Type 0
Line = Option (List ℕ)

-- the read section in force after a line, from the one before it
abbrev pub section_from : Line → Option SectionKind → Option SectionKind
section_from None before = before
section_from (Some line) before =
    if is_heading line then section_named (first_item line) else before

-- the read section in force after these lines: that of the last heading, and none before any (SWMM
-- 5.2 manual, appendix D)
abbrev pub section_after : List Line → Option SectionKind
section_after [] = None
section_after (line ∷ earlier) = section_from line (section_after earlier)

-- the read section that a line of a file is in, by its number from 1
abbrev pub section_of : List Line → ℕ → Option SectionKind
section_of file number = section_after (reverse (take (number - 1) file))

-- some items
abbrev pub has_some : List (List ℕ) → Bool
has_some [] = false
has_some (item ∷ later) = true

-- a line has items and is no heading
abbrev pub is_content : List ℕ → Bool
is_content line = has_some (items line) && not (is_heading line)

-- what a line with this number adds to a section, where that one is in force
abbrev pub added : Bool → List ℕ → ℕ → List SourceLine
added true line number = record { number = number; bytes = line } ∷ []
added false line number = []

-- what a line with this number adds to the lines of `kind`, where `before` is in force
abbrev pub adds : SectionKind → Option SectionKind → Line → ℕ → List SourceLine
adds kind before None number = []
adds kind before (Some line) number =
    added (is_content line && is_in kind before) line number

-- the lines of a section that have items and are no headings, with their numbers from 1, in the
-- order of the file
abbrev pub section_lines : SectionKind → List Line → List SourceLine
section_lines kind [] = []
section_lines kind (line ∷ earlier) =
    section_lines kind earlier ++ adds kind (section_after earlier) line (length earlier + 1)

-- the first line that was too long, from what was so before a line with this number
abbrev pub long_from : Line → ℕ → Option ℕ → Option ℕ
long_from None number None = Some number
long_from None number (Some first) = Some first
long_from (Some line) number first = first

-- the number of the first line that was too long
abbrev pub first_long : List Line → Option ℕ
first_long [] = None
first_long (line ∷ earlier) =
    long_from line (length earlier + 1) (first_long earlier)

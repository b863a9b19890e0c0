-- The headings of an input file.
use Rattle.std.specs.Prelude.{ℕ, Bool, true, false, ◌==◌, List, [], ◌∷◌, Option, None, Some}
use Rattle.std.specs.Prelude.{if◌then◌else◌, take, codes}
use Rattle.std.specs.Str.{str_eq_ignore_ascii_case}
use Rattle.inp_text.specs.Bytes.{left_bracket}
use Rattle.inp_text.specs.Items.{items}
use Rattle.inp_text.specs.declared.section_kind.SectionKind.{SectionKind}
use Rattle.inp_text.specs.declared.section_kind.SectionKind.TheVariants.{Options, Gages}
use Rattle.inp_text.specs.declared.section_kind.SectionKind.TheVariants.{Junctions, Outfalls}
use Rattle.inp_text.specs.declared.section_kind.SectionKind.TheVariants.{Dividers, Storage}
use Rattle.inp_text.specs.declared.section_kind.SectionKind.TheVariants.{Conduits, Pumps, Orifices}
use Rattle.inp_text.specs.declared.section_kind.SectionKind.TheVariants.{Weirs, Outlets}
use Rattle.inp_text.specs.declared.section_kind.SectionKind.TheVariants.{Controls, Curves, Series}

-- the first of some items, and no bytes where there is none
abbrev pub first_of : List (List ℕ) → List ℕ
first_of [] = []
first_of (item ∷ later) = item

-- the first item of a line, and no bytes where it has none
abbrev pub first_item : List ℕ → List ℕ
first_item line = first_of (items line)

-- an item begins with a bracket
abbrev pub opens_bracket : List ℕ → Bool
opens_bracket [] = false
opens_bracket (byte ∷ rest) = byte == left_bracket

-- a line is a heading: its first item begins with a bracket (SWMM 5.2 manual, appendix D: a section
-- begins with a keyword in brackets)
abbrev pub is_heading : List ℕ → Bool
is_heading line = opens_bracket (first_item line)

-- an item begins with these five bytes, ignoring case
unfoldable pub heads : List ℕ → List ℕ → Bool
heads item heading = str_eq_ignore_ascii_case (take 5 item) heading

-- the read section that an item opens, by its bracket and its first four letters, ignoring case
-- (the sections: SWMM 5.2 manual, appendix D)
unfoldable pub section_named : List ℕ → Option SectionKind
section_named item =
    if heads item (codes "[OPTI") then Some Options
    else (if heads item (codes "[RAIN") then Some Gages
    else (if heads item (codes "[JUNC") then Some Junctions
    else (if heads item (codes "[OUTF") then Some Outfalls
    else (if heads item (codes "[DIVI") then Some Dividers
    else (if heads item (codes "[STOR") then Some Storage
    else (if heads item (codes "[COND") then Some Conduits
    else (if heads item (codes "[PUMP") then Some Pumps
    else (if heads item (codes "[ORIF") then Some Orifices
    else (if heads item (codes "[WEIR") then Some Weirs
    else (if heads item (codes "[OUTL") then Some Outlets
    else (if heads item (codes "[CONT") then Some Controls
    else (if heads item (codes "[CURV") then Some Curves
    else (if heads item (codes "[TIME") then Some Series
    else None)))))))))))))

-- the two words name one section
abbrev pub is_kind : SectionKind → SectionKind → Bool
is_kind Options Options = true
is_kind Gages Gages = true
is_kind Junctions Junctions = true
is_kind Outfalls Outfalls = true
is_kind Dividers Dividers = true
is_kind Storage Storage = true
is_kind Conduits Conduits = true
is_kind Pumps Pumps = true
is_kind Orifices Orifices = true
is_kind Weirs Weirs = true
is_kind Outlets Outlets = true
is_kind Controls Controls = true
is_kind Curves Curves = true
is_kind Series Series = true
is_kind _ _ = false

-- a section in force is this one
abbrev pub is_in : SectionKind → Option SectionKind → Bool
is_in kind None = false
is_in kind (Some section) = is_kind kind section

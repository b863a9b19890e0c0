-- The objects of an input file, with what is read of their lines beside the name (the sections and
-- the places of items are those of the SWMM 5.2 manual, appendix D).
use Rattle.std.specs.Prelude.{ℕ, Bool, if◌then◌else◌, List, [], ◌∷◌, ◌++◌, map, codes}
use Rattle.std.specs.Prelude.{Option, None, Some, Ok, Err}
use Rattle.std.specs.Option.{option_or}
use Rattle.exact_fraction.specs.Number.{Rational, zero, one}
use Rattle.inp_text.specs.Headings.{first_item}
use Rattle.inp_text.specs.Items.{items}
use Rattle.inp_text.specs.Merging.{SectionLine, in_section, merged}
use Rattle.inp_text.specs.declared.section_kind.SectionKind.{SectionKind}
use Rattle.inp_text.specs.declared.section_kind.SectionKind.TheVariants as sections
use Rattle.inp_text.specs.declared.source_line.SourceLine.{SourceLine}
use Rattle.object_index.specs.Objects.{no_objects, in_space, kind_space, is_named}
use Rattle.object_index.specs.Objects.{with_object, object_count, is_link}
use Rattle.rule_types.specs.declared.object.ObjectKind.{ObjectKind}
use Rattle.rule_types.specs.declared.object.ObjectKind.TheVariants as kinds
use Rattle.rule_types.specs.declared.refusal.Cause.TheVariants.{DuplicateName}
use Rattle.rule_types.specs.declared.refusal.Refusal.{Refusal}
use Rattle.control_lines.specs.Faults.{Checked, then_with, both, fault_of}
use Rattle.control_lines.specs.Faults.{refused_where, refusal_at}
use Rattle.network_lines.specs.Limits.{most_objects, room_for}
use Rattle.network_lines.specs.Values.{value_read}
use Rattle.network_lines.specs.declared.value.ValueKind.TheVariants.{Status, TravelTime}
use Rattle.network_lines.specs.declared.network.LinkData.{LinkData}
use Rattle.network_lines.specs.declared.network.Network.{Network}

-- the kind of the objects of a section: none where it is no section of objects
abbrev pub section_object : SectionKind → Option ObjectKind
section_object sections.Gages = Some kinds.Gage
section_object sections.Junctions = Some kinds.Node
section_object sections.Outfalls = Some kinds.Node
section_object sections.Dividers = Some kinds.Node
section_object sections.Storage = Some kinds.Node
section_object sections.Conduits = Some kinds.Conduit
section_object sections.Pumps = Some kinds.Pump
section_object sections.Orifices = Some kinds.Orifice
section_object sections.Weirs = Some kinds.Weir
section_object sections.Outlets = Some kinds.Outlet
section_object other = None

abbrev pub object_sections : List SectionKind
object_sections =
    sections.Gages ∷ sections.Junctions ∷ sections.Outfalls ∷ sections.Dividers ∷ sections.Storage
    ∷ sections.Conduits ∷ sections.Pumps ∷ sections.Orifices ∷ sections.Weirs ∷ sections.Outlets
    ∷ []

-- the lines of some sections in the order of the file
abbrev pub merged_sections :
    (SectionKind → List SourceLine) → List SectionKind → List SectionLine
merged_sections lines [] = []
merged_sections lines (kind ∷ kinds) =
    merged (map (in_section kind) (lines kind)) (merged_sections lines kinds)

-- the lines of all objects in the order of the file
abbrev pub object_lines : (SectionKind → List SourceLine) → List SectionLine
object_lines lines = merged_sections lines object_sections

-- what is read of a link's line
abbrev pub link_of : Rational → Rational → LinkData
link_of setting rate = record { setting = setting; rate = rate }

-- the fifth item of a pump's line and the eighth item of an orifice's line, if there are so many
abbrev pub pump_item : List (List ℕ) → Option (List ℕ)
pump_item (name ∷ from ∷ to ∷ curve ∷ status ∷ later) = Some status
pump_item found = None

abbrev pub orifice_item : List (List ℕ) → Option (List ℕ)
orifice_item (name ∷ from ∷ to ∷ form ∷ offset ∷ coefficient ∷ flap ∷ time ∷ later) = Some time
orifice_item found = None

-- a pump's status, the fifth item of its line, as its setting: 1 where there is none
abbrev pub pump_setting : Option (List ℕ) → Checked Rational
pump_setting None = Ok one
pump_setting (Some item) = value_read Status item

-- an orifice's time, the eighth item of its line: 0 where there is none
abbrev pub orifice_rate : Option (List ℕ) → Checked Rational
orifice_rate None = Ok zero
orifice_rate (Some item) = value_read TravelTime item

-- what is read of the line of an object of a kind beside its name; other links than pumps are open
-- at first, and other links than orifices move at once
abbrev pub link_read : ObjectKind → List (List ℕ) → Checked LinkData
link_read kinds.Pump found =
    then_with (λ setting. link_of setting zero) (pump_setting (pump_item found))
link_read kinds.Orifice found =
    then_with (λ rate. link_of one rate) (orifice_rate (orifice_item found))
link_read kind found = Ok (link_of one zero)

-- a network without objects
abbrev pub no_network : Network
no_network = record { objects = no_objects; links = [] }

-- whether the space of a kind has an object with these very bytes as its name
abbrev pub is_taken : Network → ObjectKind → List ℕ → Bool
is_taken network kind name = is_named name (in_space network.objects (kind_space kind))

-- what is read of the line of an object of a kind: its name is new, and there is room for it
abbrev pub object_read : Network → ObjectKind → List (List ℕ) → List ℕ → Checked LinkData
object_read network kind found name =
    then_with (λ (checks : Unit {0} × (LinkData × Unit {0})). checks.1.0)
    (both (refused_where (is_taken network kind name) (fault_of DuplicateName name))
    (both (link_read kind found)
    (room_for (codes "objects") most_objects (object_count network.objects))))

-- the same of a line of a section
abbrev pub line_read_as : Option ObjectKind → Network → SourceLine → Checked LinkData
line_read_as None network line = Ok (link_of one zero)
line_read_as (Some kind) network line =
    object_read network kind (items line.bytes) (first_item line.bytes)

unfoldable pub line_read : Network → SectionLine → Checked LinkData
line_read network found = line_read_as (section_object found.kind) network found.line

-- what is read of a link, where it is one; a link at fault is open at first and moves at once
abbrev pub data_of : Checked LinkData → LinkData
data_of (Ok link) = link
data_of (Err fault) = link_of one zero

abbrev pub links_with : Bool → List LinkData → LinkData → List LinkData
links_with one_more links link = if one_more then links ++ link ∷ [] else links

-- the network with one more object, unless its name is taken; objects past the limit are found by
-- their names too
abbrev pub with_new : Network → ObjectKind → List ℕ → LinkData → Network
with_new network kind name link =
    if is_taken network kind name then network
    else record {
      objects = with_object network.objects kind name;
      links = links_with (is_link kind) network.links link;
    }

abbrev pub network_with : Option ObjectKind → Network → SectionLine → Network
network_with None network found = network
network_with (Some kind) network found =
    with_new network kind (first_item found.line.bytes) (data_of (line_read network found))

-- the network after lines of objects
abbrev pub network_from : Network → List SectionLine → Network
network_from network [] = network
network_from network (found ∷ later) =
    network_from (network_with (section_object found.kind) network found) later

-- the first refusal among lines of objects
abbrev pub objects_refusal : Network → List SectionLine → Option Refusal
objects_refusal network [] = None
objects_refusal network (found ∷ later) =
    option_or (refusal_at found.line.number (line_read network found))
    (objects_refusal (network_with (section_object found.kind) network found) later)

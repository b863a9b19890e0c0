-- The bounds of the links of a network.
use Rattle.std.proofs.Common.{◌≡◌, sym, ap, ℕ, Bool, true, false, cond, List, [], ◌∷◌, Option, None, Some, Ok, Err, pos, refl}
use Rattle.std.specs.Prelude.{IfOk, All, codes}
use Rattle.std.proofs.lemmas.List.Elements.{All-append, All-cons, All-nil}
use Rattle.exact_fraction.specs.Number.{Rational, zero, one, whole, den}
use Rattle.exact_fraction.specs.Order.{◌≤ℚ◌, less}
use Rattle.exact_fraction.proofs.PublicLaws.{tests-not_less}
use Rattle.inp_text.specs.Headings.{first_item}
use Rattle.inp_text.specs.Items.{items}
use Rattle.inp_text.specs.Merging.{SectionLine}
use Rattle.inp_text.specs.declared.source_line.SourceLine.{SourceLine}
use Rattle.object_index.specs.Objects.{is_link, object_count}
use Rattle.rule_types.specs.WellFormed.{IsRate}
use Rattle.rule_types.specs.declared.object.ObjectKind.{ObjectKind}
use Rattle.rule_types.specs.declared.object.ObjectKind.TheVariants as kinds
use Rattle.rule_types.specs.declared.refusal.Cause.TheVariants.{DuplicateName}
use Rattle.control_lines.specs.Faults.{Checked, both, then_with, refused_where, fault_of}
use Rattle.network_lines.specs.Bounds.{IsLinkData}
use Rattle.network_lines.specs.Limits.{room_for, most_objects}
use Rattle.network_lines.specs.Objects.{link_of, link_read, pump_setting, pump_item, orifice_rate, orifice_item}
use Rattle.network_lines.specs.Objects.{line_read_as, line_read, object_read, data_of, links_with}
use Rattle.network_lines.specs.Objects.{is_taken, network_with, network_from, no_network, section_object}
use Rattle.network_lines.specs.declared.network.LinkData.{LinkData}
use Rattle.network_lines.specs.declared.network.Network.{Network}
use Rattle.network_lines.proofs.ValueBounds.{status, travel_time, at_most_one}
use Rattle.network_lines.proofs.ValueBounds.{zero_at_most_zero, zero_at_most_one}

-- what is read of a line of a section of objects, by their kind
pub read_kind : (network : Network) (found : SectionLine) (kind : ObjectKind) → section_object found.kind ≡ Some kind → object_read network kind (items found.line.bytes) (first_item found.line.bytes) ≡ line_read network found
unfolding line_read
read_kind network found kind is = sym (ap (λ k. line_read_as k network found.line) is)

rate_zero : IsRate zero
unfolding less whole den
rate_zero = record {
  least = zero_at_most_zero;
  most = (tests-not_less (whole (pos 1_000_000)) zero).0 refl;
  exact = record { divides = refl };
}

-- a link that moves at once
at_once : (setting : Rational) → zero ≤ℚ setting → IsLinkData (link_of setting zero)
unfolding less whole den
at_once setting h = record { setting = h; rate = rate_zero; rated = λ e. cc }

-- a link that is open at first
open_first : (rate : Rational) → IsRate rate → IsLinkData (link_of one rate)
open_first rate h = record { setting = zero_at_most_one; rate = h; rated = λ e. at_most_one }

pub plain : IsLinkData (link_of one zero)
plain = at_once one zero_at_most_one

of_pump : (item : Option (List ℕ)) → IfOk (pump_setting item) (λ q. zero ≤ℚ q)
of_pump None = zero_at_most_one
of_pump (Some item) = status item

of_orifice : (item : Option (List ℕ)) → IfOk (orifice_rate item) IsRate
of_orifice None = rate_zero
of_orifice (Some item) = travel_time item

with_setting : (read : Checked Rational) → IfOk read (λ q. zero ≤ℚ q)
    → IfOk (then_with (λ setting. link_of setting zero) read) IsLinkData
with_setting (Ok q) h = at_once q h
with_setting (Err fault) h = tt

with_rate : (read : Checked Rational) → IfOk read IsRate
    → IfOk (then_with (λ rate. link_of one rate) read) IsLinkData
with_rate (Ok q) h = open_first q h
with_rate (Err fault) h = tt

link_fits : (kind : ObjectKind) (found : List (List ℕ)) → IfOk (link_read kind found) IsLinkData
link_fits kinds.Gage found = plain
link_fits kinds.Node found = plain
link_fits kinds.Conduit found = plain
link_fits kinds.Pump found = with_setting (pump_setting (pump_item found)) (of_pump (pump_item found))
link_fits kinds.Orifice found = with_rate (orifice_rate (orifice_item found)) (of_orifice (orifice_item found))
link_fits kinds.Weir found = plain
link_fits kinds.Outlet found = plain

-- the checks of a line keep what is read
among : (taken : Checked (Unit {0})) (link : Checked LinkData) (room : Checked (Unit {0}))
    → IfOk link IsLinkData
    → IfOk (then_with (λ (checks : Unit {0} × (LinkData × Unit {0})). checks.1.0) (both taken (both link room))) IsLinkData
unfolding both
among (Ok a) (Ok link) (Ok b) h = h
among (Ok a) (Ok link) (Err b) h = tt
among (Ok a) (Err link) (Ok b) h = tt
among (Ok a) (Err link) (Err b) h = tt
among (Err a) (Ok link) (Ok b) h = tt
among (Err a) (Ok link) (Err b) h = tt
among (Err a) (Err link) (Ok b) h = tt
among (Err a) (Err link) (Err b) h = tt

as_fits : (kind : Option ObjectKind) (network : Network) (line : SourceLine)
    → IfOk (line_read_as kind network line) IsLinkData
as_fits None network line = plain
as_fits (Some kind) network line =
    among (refused_where (is_taken network kind (first_item line.bytes)) (fault_of DuplicateName (first_item line.bytes)))
    (link_read kind (items line.bytes))
    (room_for (codes "objects") most_objects (object_count network.objects))
    (link_fits kind (items line.bytes))

line_fits : (network : Network) (found : SectionLine) → IfOk (line_read network found) IsLinkData
unfolding line_read
line_fits network found = as_fits (section_object found.kind) network found.line

data_fits : (read : Checked LinkData) → IfOk read IsLinkData → IsLinkData (data_of read)
data_fits (Ok link) h = h
data_fits (Err fault) h = plain

links_fit : (one_more : Bool) (links : List LinkData) (link : LinkData) → All IsLinkData links
    → IsLinkData link → All IsLinkData (links_with one_more links link)
links_fit true links link h k =
    All-append IsLinkData links (link ∷ []) h (All-cons IsLinkData link [] k (All-nil IsLinkData))
links_fit false links link h k = h

new_fits : (taken : Bool) (network other : Network) → All IsLinkData network.links
    → All IsLinkData other.links → All IsLinkData (cond taken network other).links
new_fits true network other h k = h
new_fits false network other h k = k

with_fits : (kind : Option ObjectKind) (network : Network) (found : SectionLine)
    → All IsLinkData network.links → All IsLinkData (network_with kind network found).links
with_fits None network found h = h
with_fits (Some kind) network found h =
    new_fits (is_taken network kind (first_item found.line.bytes)) network _ h
    (links_fit (is_link kind) network.links (data_of (line_read network found)) h
    (data_fits (line_read network found) (line_fits network found)))

from_fits : (network : Network) (lines : List SectionLine) → All IsLinkData network.links
    → All IsLinkData (network_from network lines).links
from_fits network [] h = h
from_fits network (found ∷ later) h =
    from_fits (network_with (section_object found.kind) network found) later
    (with_fits (section_object found.kind) network found h)

pub links : (lines : List SectionLine) → All IsLinkData (network_from no_network lines).links
links lines = from_fits no_network lines (All-nil IsLinkData)

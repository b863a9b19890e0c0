-- Options and lines of objects, worked out by hand.
use Rattle.std.specs.Prelude.{◌≡◌, ℕ, List, [], ◌∷◌, codes, Some}
use Rattle.std.specs.Prelude.{Ok, Err, pos}
use Rattle.exact_fraction.specs.Number.{Rational, whole, zero, one, ratio}
use Rattle.inp_text.specs.Items.{words}
use Rattle.inp_text.specs.declared.section_kind.SectionKind.TheVariants as sections
use Rattle.inp_text.specs.declared.section_kind.SectionKind.{SectionKind}
use Rattle.inp_text.specs.declared.source_line.SourceLine.{SourceLine}
use Rattle.inp_text.specs.Merging.{SectionLine, in_section}
use Rattle.rule_types.specs.declared.object.ObjectKind.TheVariants as kinds
use Rattle.rule_types.specs.declared.refusal.Cause.{Cause}
use Rattle.rule_types.specs.declared.refusal.Cause.TheVariants as causes
use Rattle.control_lines.specs.Faults.{Checked, fault_of}
use Rattle.network_lines.specs.Limits.{room_for, most_objects}
use Rattle.network_lines.specs.Objects.{link_of, link_read, network_from, no_network}
use Rattle.network_lines.specs.Objects.{line_read, merged_sections}
use Rattle.network_lines.specs.Options.{no_options, option_read, options_from}
use Rattle.network_lines.specs.Options.{options_refusal}
use Rattle.network_lines.specs.declared.network.LinkData.{LinkData}
use Rattle.network_lines.specs.declared.network.Network.{Network}
use Rattle.network_lines.specs.declared.options.OptionSet.{OptionSet}

-- a part of a line that is at fault
abbrev pub refused : {A : Type 0} → Cause → List ℕ → Checked A
refused cause token = Err (fault_of cause token)

abbrev pub line : ℕ → List ℕ → SourceLine
line number bytes = record { number = number; bytes = bytes }

-- ---- options
abbrev pub set_by : List ℕ → Checked OptionSet
set_by text = option_read no_options (words text)

pub record AreOptions : Type 0 where
  pub start_time :
      set_by (codes "start_time 7:30") ≡ Ok (record no_options { start_second = 27_000 })
  pub late_start : set_by (codes "START_TIME 24:00") ≡ refused causes.BadOption (codes "START_TIME")
  pub routing_clock :
      set_by (codes "ROUTING_STEP 0:01:30")
      ≡ Ok (record no_options { routing_step = whole (pos 90) })
  pub routing_seconds :
      set_by (codes "Routing_Step 0.5 s")
      ≡ Ok (record no_options { routing_step = ratio (pos 1) 2 })
  pub no_routing : set_by (codes "ROUTING_STEP 0") ≡ refused causes.BadOption (codes "ROUTING_STEP")
  pub rule_step :
      set_by (codes "RULE_STEP 0:10:00") ≡ Ok (record no_options { rule_step = whole (pos 600) })
  pub whole_day :
      set_by (codes "RULE_STEP 24:00") ≡ Ok (record no_options { rule_step = whole (pos 86_400) })
  pub past_a_day : set_by (codes "RULE_STEP 24:00:01") ≡ refused causes.RuleStep (codes "24:00:01")
  pub many_hours :
      set_by (codes "RULE_STEP 9999999:00") ≡ refused causes.RuleStep (codes "9999999:00")
  pub plain_number : set_by (codes "RULE_STEP 60") ≡ refused causes.BadOption (codes "RULE_STEP")
  pub no_value : set_by (codes "rule_step") ≡ refused causes.BadOption (codes "rule_step")
  pub no_date :
      set_by (codes "START_DATE 2/30/2001") ≡ refused causes.BadOption (codes "START_DATE")
  pub other : set_by (codes "FLOW_UNITS CFS") ≡ Ok no_options
  pub last_counts :
      options_from no_options
      (line 2 (codes "START_TIME 1:00") ∷ line 3 (codes "START_TIME 2:00") ∷ [])
      ≡ record no_options { start_second = 7_200 }
  pub each_is_checked :
      options_refusal no_options (line 2 (codes "RULE_STEP 1") ∷ line 3 (codes "RULE_STEP 0:00") ∷ [])
      ≡ Some (record { line = 2; cause = causes.BadOption; token = codes "RULE_STEP" })

-- ---- lines of objects
abbrev pub pump_line : List ℕ → Checked LinkData
pump_line text = link_read kinds.Pump (words text)

abbrev pub orifice_line : List ℕ → Checked LinkData
orifice_line text = link_read kinds.Orifice (words text)

abbrev pub half : Rational
half = ratio (pos 1) 2

abbrev pub found_in : SectionKind → ℕ → List ℕ → SectionLine
found_in kind number bytes = in_section kind (line number bytes)

-- a node and a pump of one name, and two pumps whose names differ in case
abbrev pub few_lines : List SectionLine
few_lines =
    found_in sections.Junctions 2 (codes "A 0 1")
    ∷ found_in sections.Pumps 4 (codes "A A B * OFF")
    ∷ found_in sections.Pumps 5 (codes "a A B") ∷ []

abbrev pub few : Network
few = record {
  objects = record {
    nodes = record { name = codes "A"; kind = kinds.Node } ∷ [];
    links =
        record { name = codes "A"; kind = kinds.Pump }
        ∷ record { name = codes "a"; kind = kinds.Pump } ∷ [];
    gages = [];
  };
  links = link_of zero zero ∷ link_of one zero ∷ [];
}

-- two sections, whose lines are mixed
abbrev pub mixed : SectionKind → List SourceLine
mixed sections.Pumps = line 3 (codes "P1") ∷ line 7 (codes "P2") ∷ []
mixed sections.Weirs = line 5 (codes "W1") ∷ []
mixed other = []

pub record AreObjectLines : Type 0 where
  pub off : pump_line (codes "P1 N1 N2 * off") ≡ Ok (link_of zero zero)
  pub on : pump_line (codes "P1 N1 N2 * OPEN 1 2") ≡ Ok (link_of one zero)
  pub no_status : pump_line (codes "P1 N1 N2 *") ≡ Ok (link_of one zero)
  pub no_word : pump_line (codes "P1 N1 N2 * 1") ≡ refused causes.WrongValue (codes "1")
  pub large : pump_line (codes "P1 N1 N2 * 1e99") ≡ refused causes.NumberTooLarge (codes "1e99")
  pub travels : orifice_line (codes "O1 N1 N2 SIDE 0 0.65 NO 0.5") ≡ Ok (link_of one half)
  pub at_once : orifice_line (codes "O1 N1 N2 SIDE 0 0.65 NO") ≡ Ok (link_of one zero)
  pub negative :
      orifice_line (codes "O1 N1 N2 SIDE 0 0.65 NO -1") ≡ refused causes.WrongValue (codes "-1")
  pub of_others : link_read kinds.Weir (words (codes "W1 A B C OFF E F -1")) ≡ Ok (link_of one zero)
  pub network : network_from no_network few_lines ≡ few
  pub again :
      line_read few (found_in sections.Weirs 8 (codes "a"))
      ≡ refused causes.DuplicateName (codes "a")
  pub other_space : line_read few (found_in sections.Outfalls 8 (codes "a")) ≡ Ok (link_of one zero)
  pub duplicate_first :
      line_read few (found_in sections.Pumps 8 (codes "A 1 2 3 4"))
      ≡ refused causes.DuplicateName (codes "A")
  pub in_order :
      merged_sections mixed (sections.Weirs ∷ sections.Pumps ∷ sections.Outlets ∷ [])
      ≡ found_in sections.Pumps 3 (codes "P1") ∷ found_in sections.Weirs 5 (codes "W1")
      ∷ found_in sections.Pumps 7 (codes "P2") ∷ []
  pub last_object : room_for (codes "objects") most_objects 65_535 ≡ Ok tt
  pub no_room :
      room_for (codes "objects") most_objects 65_536 ≡ refused causes.TooMany (codes "objects")

-- The project of an input file, or its first refusal.
use Rattle.std.specs.Prelude.{◌≡◌, ℕ, Bool, true, false, List, [], ◌∷◌, ◌++◌}
use Rattle.std.specs.Prelude.{map, filter, reverse, slice_get, is_some}
use Rattle.std.specs.Ordering.{nat_cmp}
use Rattle.std.specs.Prelude.{Option, None, Some, Result, Ok, Err, ⊤}
use Rattle.std.specs.Option.{option_or, option_map}
use Rattle.std.specs.BTreeSet.{insert_key}
use Rattle.exact_fraction.specs.Number.{Rational, zero, one}
use Rattle.inp_text.specs.Control.{first_control}
use Rattle.inp_text.specs.Sections.{Line, section_lines, first_long}
use Rattle.inp_text.specs.declared.section_kind.SectionKind.{SectionKind}
use Rattle.inp_text.specs.declared.section_kind.SectionKind.TheVariants.{Options, Controls, Curves}
use Rattle.inp_text.specs.declared.section_kind.SectionKind.TheVariants.{Series}
use Rattle.inp_text.specs.declared.source_line.SourceLine.{SourceLine}
use Rattle.object_index.specs.Objects.{Object, Objects}
use Rattle.rule_types.specs.KeyOrder.{key_cmp}
use Rattle.rule_types.specs.Keys.{is_input}
use Rattle.rule_types.specs.Reading.{keys_read, links_read, links_acted}
use Rattle.rule_types.specs.Refusals.{earlier}
use Rattle.rule_types.specs.declared.key.Key.{Key}
use Rattle.rule_types.specs.Tables.{TableSet}
use Rattle.rule_types.specs.declared.names.NameDef.{NameDef}
use Rattle.rule_types.specs.declared.rule.Rule.{Rule}
use Rattle.rule_types.specs.declared.object.ObjectKind.{ObjectKind}
use Rattle.rule_types.specs.declared.object.ObjectKind.TheVariants.{Pump}
use Rattle.rule_types.specs.declared.refusal.Cause.TheVariants.{LineTooLong, BadText}
use Rattle.rule_types.specs.declared.refusal.ReadFault.{ReadFault}
use Rattle.rule_types.specs.declared.refusal.ReadFault.TheVariants.{Refused, NoMemory}
use Rattle.rule_types.specs.declared.refusal.Refusal.{Refusal}
use Rattle.rule_types.specs.declared.rules.Rules.{Rules}
use Rattle.control_lines.specs.Faults.{fault_of, refused_where, refusal_on, refusal_at}
use Rattle.network_lines.specs.Objects.{no_network, network_from, object_lines}
use Rattle.network_lines.specs.Objects.{objects_refusal, object_sections}
use Rattle.network_lines.specs.Options.{no_options, options_from, options_refusal, start_of}
use Rattle.network_lines.specs.declared.network.LinkData.{LinkData}
use Rattle.network_lines.specs.declared.network.Network.{Network}
use Rattle.network_lines.specs.declared.options.OptionSet.{OptionSet}
use Rattle.curves_series.specs.Names.{named_tables}
use Rattle.curves_series.specs.Reading.{tables_in}
use Rattle.rule_parser.specs.Controls.{Context, no_draft, draft_rules, controls_from}
use Rattle.rule_parser.specs.declared.draft.Draft.{Draft}
use Rattle.rule_parser.specs.declared.project.Project.{Project}

-- ---- lists without repeats
-- keys in key order, each once
abbrev pub keys_with : List Key → List Key → List Key
keys_with found [] = found
keys_with found (key ∷ more) = keys_with (insert_key key_cmp found key) more

abbrev pub in_key_order : List Key → List Key
in_key_order keys = keys_with [] keys

-- links in link order, each once
abbrev pub links_with : List ℕ → List ℕ → List ℕ
links_with found [] = found
links_with found (link ∷ more) = links_with (insert_key nat_cmp found link) more

abbrev pub in_link_order : List ℕ → List ℕ
in_link_order links = links_with [] links

-- ---- rules
-- whether the link of a number is a pump
abbrev pub is_pump_kind : ObjectKind → Bool
is_pump_kind Pump = true
is_pump_kind kind = false

abbrev pub is_pump : Option Object → Bool
is_pump None = false
is_pump (Some object) = is_pump_kind object.kind

-- the initial setting and the rate of the link of a number
abbrev pub setting_in : Option LinkData → Rational
setting_in None = one
setting_in (Some link) = link.setting

abbrev pub rate_in : Option LinkData → Rational
rate_in None = zero
rate_in (Some link) = link.rate

-- the links that rules act on, and those and the links whose setting, status or timers are read
abbrev pub controlled_links : List Rule → List ℕ
controlled_links rules = in_link_order (links_acted rules)

abbrev pub tracked_links : List NameDef → List Rule → List ℕ
tracked_links names rules = in_link_order (links_acted rules ++ links_read names rules)

-- the keys that are read from the trace
abbrev pub input_keys : List NameDef → List Rule → List Key
input_keys names rules = in_key_order (filter is_input (keys_read names rules))

-- of some links whether each is a pump, its initial setting, and its rate
abbrev pub pumps_among : Objects → List ℕ → List Bool
pumps_among objects links = map (λ link. is_pump (slice_get objects.links link)) links

abbrev pub settings_among : List LinkData → List ℕ → List Rational
settings_among found links = map (λ link. setting_in (slice_get found link)) links

abbrev pub rates_among : List LinkData → List ℕ → List Rational
rates_among found links = map (λ link. rate_in (slice_get found link)) links

-- the rules of a file with these options, objects, names and rules
abbrev pub rules_with : OptionSet → Network → List NameDef → List Rule → Rules
rules_with options network names rules = record {
  rules = rules;
  names = names;
  input_keys = input_keys names rules;
  tracked = tracked_links names rules;
  controlled = controlled_links rules;
  pumps = pumps_among network.objects (controlled_links rules);
  initial = settings_among network.links (tracked_links names rules);
  rates = rates_among network.links (tracked_links names rules);
  start = start_of options;
  routing_step = options.routing_step;
  rule_step = options.rule_step;
}

-- the rules of a file with these options, objects and control lines
unfoldable pub rules_of : OptionSet → Network → Draft → Rules
rules_of options network draft = rules_with options network draft.names (draft_rules draft)

-- ---- refusals
-- the refusal of the first line that is too long
abbrev pub long_refusal : Option ℕ → Option Refusal
long_refusal long = option_map (λ number. refusal_on number (fault_of LineTooLong [])) long

-- the refusal of the first of these lines with a control byte before its comment
abbrev pub text_refusal : List SourceLine → Option Refusal
text_refusal [] = None
text_refusal (line ∷ later) =
    option_or
    (refusal_at line.number
    (refused_where (is_some (first_control line.bytes)) (fault_of BadText [])))
    (text_refusal later)

-- the same of the lines of some sections
abbrev pub texts_refusal : (SectionKind → List SourceLine) → List SectionKind → Option Refusal
texts_refusal lines [] = None
texts_refusal lines (kind ∷ kinds) = earlier (text_refusal (lines kind)) (texts_refusal lines kinds)

-- the sections that are read
abbrev pub read_sections : List SectionKind
read_sections = Options ∷ Controls ∷ Curves ∷ Series ∷ object_sections

-- ---- projects
abbrev pub network_of : (SectionKind → List SourceLine) → Network
network_of lines = network_from no_network (object_lines lines)

-- the used tables of the file, or the first refusal on their lines
abbrev pub tables_of : (SectionKind → List SourceLine) → Result TableSet Refusal
tables_of lines = tables_in (lines Controls) (lines Curves) (lines Series)

abbrev pub context_of : (SectionKind → List SourceLine) → Context
context_of lines = record {
  objects = (network_of lines).objects;
  tables = named_tables (lines Curves) (lines Series);
}

abbrev pub draft_of : (SectionKind → List SourceLine) → Result Draft Refusal
draft_of lines = controls_from (context_of lines) no_draft (lines Controls)

abbrev pub refusal_of : {A : Type 0} → Result A Refusal → Option Refusal
refusal_of (Ok value) = None
refusal_of (Err refusal) = Some refusal

-- the lowest refusal of a file: on the least line, and there by the least cause
unfoldable pub first_refusal : (SectionKind → List SourceLine) → Option ℕ → Option Refusal
first_refusal lines long =
    earlier (long_refusal long)
    (earlier (texts_refusal lines read_sections)
    (earlier (options_refusal no_options (lines Options))
    (earlier (objects_refusal no_network (object_lines lines))
    (earlier (refusal_of (tables_of lines)) (refusal_of (draft_of lines))))))

abbrev pub project_with : OptionSet → Network → TableSet → Draft → Project
project_with options network tables draft = record {
  rules = rules_of options network draft;
  tables = tables;
  objects = network.objects;
}

-- the project, where nothing is refused
abbrev pub project_unless :
    Option Refusal → OptionSet → Network → Result TableSet Refusal → Result Draft Refusal
    → Result Project Refusal
project_unless (Some refusal) options network tables draft = Err refusal
project_unless None options network (Err refusal) draft = Err refusal
project_unless None options network (Ok tables) (Err refusal) = Err refusal
project_unless None options network (Ok tables) (Ok draft) =
    Ok (project_with options network tables draft)

-- the project of the lines of each section, and of the first line that was too long
unfoldable pub project_in : (SectionKind → List SourceLine) → Option ℕ → Result Project Refusal
project_in lines long =
    project_unless (first_refusal lines long) (options_from no_options (lines Options))
    (network_of lines) (tables_of lines) (draft_of lines)

-- the project of a file
abbrev pub project_of : List Line → Result Project Refusal
project_of file = project_in (λ kind. section_lines kind (reverse file)) (first_long (reverse file))

-- an answer is the one that is due, unless there is no memory
abbrev pub Reads : {A : Type 0} → Result A Refusal → Result A ReadFault → Type 0
Reads due (Ok value) = due ≡ Ok value
Reads due (Err (Refused refusal)) = due ≡ Err refusal
Reads due (Err NoMemory) = ⊤

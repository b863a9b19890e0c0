-- What is listed of rules.
use Rattle.std.specs.Prelude.{List}
use Rattle.rule_types.specs.WellFormed.{IsCountable}
use Rattle.rule_types.specs.declared.names.NameDef.{NameDef}
use Rattle.rule_types.specs.declared.rule.Rule.{Rule}
use Rattle.network_lines.specs.declared.network.Network.{Network}
use Rattle.rule_parser.specs.Projects.{controlled_links, tracked_links, input_keys}
use Rattle.rule_parser.specs.Projects.{pumps_among, settings_among, rates_among}
use Rattle.rule_parser.specs.declared.rules.LinkLists.{LinkLists}
use Rattle.rule_parser.specs.declared.rules.RuleLists.{RuleLists}

-- what rules act on and read
abbrev pub lists_of : List NameDef → List Rule → RuleLists
lists_of names rules = record {
  controlled = controlled_links rules;
  tracked = tracked_links names rules;
  input_keys = input_keys names rules;
}

-- the lists are short enough for their places to be counted in 32 bits
pub record AreListed (lists : RuleLists) : Type 0 where
  pub controlled : IsCountable lists.controlled
  pub tracked : IsCountable lists.tracked
  pub inputs : IsCountable lists.input_keys

-- what the network says of the links of rules
abbrev pub links_of : Network → RuleLists → LinkLists
links_of network lists = record {
  pumps = pumps_among network.objects lists.controlled;
  initial = settings_among network.links lists.tracked;
  rates = rates_among network.links lists.tracked;
}

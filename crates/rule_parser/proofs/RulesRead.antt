-- Rules that are read are well formed, and name objects that there are.
use Rattle.std.proofs.Common.{◌≡◌, List, subst, sym}
use Rattle.std.specs.Prelude.{All}
use Rattle.inp_text.specs.Merging.{SectionLine}
use Rattle.inp_text.specs.declared.source_line.SourceLine.{SourceLine}
use Rattle.object_index.specs.Holding.{HoldsObjects}
use Rattle.rule_types.specs.WellFormed.{WellFormed, IsRoutingStep}
use Rattle.rule_types.specs.declared.rules.Rules.{Rules}
use Rattle.network_lines.specs.Bounds.{IsLinkData}
use Rattle.network_lines.specs.Objects.{no_network, network_from}
use Rattle.network_lines.specs.Options.{no_options, options_from}
use Rattle.network_lines.specs.declared.network.Network.{Network}
use Rattle.network_lines.specs.declared.options.OptionSet.{OptionSet}
use Rattle.network_lines.proofs.PublicLaws.{bounds-routing_step, bounds-links}
use Rattle.rule_parser.specs.Controls.{draft_rules}
use Rattle.rule_parser.specs.Projects.{rules_with}
use Rattle.rule_parser.specs.declared.draft.Draft.{Draft}
use Rattle.rule_parser.specs.internal.Fitting.{IsDone, AreCounted}
use Rattle.rule_parser.proofs.WholeRules.{rules_whole, objects_held}

pub whole_read : (options : OptionSet) (network : Network) (draft : Draft) (found : Rules)
    → IsDone network.objects draft → IsRoutingStep options.routing_step → All IsLinkData network.links
    → found ≡ rules_with options network draft.names (draft_rules draft) → AreCounted found → WellFormed found
whole_read options network draft found done step links e counted =
    subst WellFormed (sym e) (rules_whole options network draft done step links (subst AreCounted e counted))

pub held_read : (options : OptionSet) (network : Network) (draft : Draft) (found : Rules)
    → IsDone network.objects draft → found ≡ rules_with options network draft.names (draft_rules draft)
    → HoldsObjects network.objects found
held_read options network draft found done e =
    subst (HoldsObjects network.objects) (sym e) (objects_held options network draft done)

pub step_read : (lines : List SourceLine) (options : OptionSet) → options ≡ options_from no_options lines
    → IsRoutingStep options.routing_step
step_read lines options e = subst (λ o. IsRoutingStep o.routing_step) (sym e) (bounds-routing_step lines)

pub links_read : (lines : List SectionLine) (network : Network) → network ≡ network_from no_network lines
    → All IsLinkData network.links
links_read lines network e = subst (λ n. All IsLinkData n.links) (sym e) (bounds-links lines)

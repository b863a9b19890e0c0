use Rattle.std.proofs.Common.{◌≡◌, ◌∙◌}
use mathlib.Core.Path.{ap₂}
use Rattle.rule_parser.specs.Controls.{draft_rules}
use Rattle.rule_parser.specs.Projects.{rules_with}
use Rattle.rule_parser.proofs.RulesRead.{whole_read, held_read}
use Rattle.rule_parser.proofs.rules.rules_of.Goals as goal

pub returns-in-Ok-clause-well_formed : goal.returns-in-Ok-clause-well_formed
returns-in-Ok-clause-well_formed c =
    let options = c.args.options.now in
    let network = c.args.network.now in
    let draft = c.args.draft in
    let e : c.in-Ok.found ≡ rules_with options network draft.names (draft_rules draft) =
    c.in-Ok.ensures.value ∙ ap₂ (rules_with options network) c.into_items.ensures c.in_ok-rules.ensures in
    whole_read options network draft c.in-Ok.found c.requires.done c.requires.step c.requires.links e c.in-Ok.ensures.counted

pub returns-in-Ok-clause-objects : goal.returns-in-Ok-clause-objects
returns-in-Ok-clause-objects c =
    let options = c.args.options.now in
    let network = c.args.network.now in
    let draft = c.args.draft in
    let e : c.in-Ok.found ≡ rules_with options network draft.names (draft_rules draft) =
    c.in-Ok.ensures.value ∙ ap₂ (rules_with options network) c.into_items.ensures c.in_ok-rules.ensures in
    held_read options network draft c.in-Ok.found c.requires.done e

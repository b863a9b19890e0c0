use Rattle.std.proofs.Common.{◌∙◌, ap₂}
use Rattle.range_lines.specs.Entries.{in_link_order}
use Rattle.range_lines.specs.internal.Views.{action_links}
use Rattle.range_lines.proofs.Links.{links_alone}
use Rattle.range_lines.proofs.link_set.LinkSet.of_rule.Goals as goal

pub returns : goal.returns
returns c =
    c.in_ok-add_links-2.ensures
    ∙ ap₂ (λ found actions. in_link_order found (action_links actions))
    (c.in_ok-add_links.ensures
    ∙ ap₂ (λ found actions. in_link_order found (action_links actions)) c.new-links.ensures.empty
    c.as_slice.ensures.value)
    c.as_slice-2.ensures.value
    ∙ links_alone c.args.rule.now

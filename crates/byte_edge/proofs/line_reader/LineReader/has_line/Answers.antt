-- An LF is held exactly where the block knows its place.
use Rattle.std.proofs.Common.{◌||◌, ◌∙◌, sym, ap}
use Rattle.std.specs.Prelude.{is_some}
use Rattle.byte_edge.specs.Lines.{has_line_feed}
use Rattle.byte_edge.specs.ReaderState.{has_line}
use Rattle.byte_edge.proofs.LineFeeds.{feed_is_some}
use Rattle.byte_edge.proofs.line_reader.LineReader.has_line.Goals as goal

pub returns-else-self : goal.returns-else-self
returns-else-self c =
    let held = has_line_feed c.self.inside.block.held in
    c.is_some.ensures ∙ ap is_some c.line_feed.ensures ∙ feed_is_some c.self.inside.block.held
    ∙ sym (ap (λ b. b || held) c.if-self.false) ∙ ap has_line c.self.view_is

-- What the crates above may cite in their lemmas, and all that they may. Each term proves the
-- clause of src/laws.rt that its name gives, law and clause, and the answers of those laws are
-- these terms: so no more is cited than a public clause says.
use Rattle.std.specs.Prelude.{◌≡◌, ◌↔◌, ℕ, List, reverse, Contains}
use Rattle.inp_text.specs.Items.{before_comment, item_places, IsLongestRun}
use Rattle.inp_text.specs.Sections.{Line, section_lines}
use Rattle.inp_text.specs.Belonging.{IsLineOf}
use Rattle.inp_text.specs.declared.line.Span.{Span}
use Rattle.inp_text.specs.declared.section_kind.SectionKind.{SectionKind}
use Rattle.inp_text.specs.declared.source_line.SourceLine.{SourceLine}
use Rattle.inp_text.proofs.PlaceLemmas.{is-item_place, item_place-is}
use Rattle.inp_text.proofs.Members.{kept-is, is-kept}
pub use Rattle.inp_text.proofs.PlaceLemmas.{item_places-rise as places_of_items-order}
pub use Rattle.inp_text.proofs.PlaceLemmas.{texts_at-item_places as places_of_items-texts}
pub use Rattle.inp_text.proofs.PlaceLemmas.{IsPlace-item_places as places_of_items-within}
pub use Rattle.inp_text.proofs.Belongs.{kept-belongs as kept_lines-kept}
pub use Rattle.inp_text.proofs.Members.{kept-rising as kept_lines-order}
pub use Rattle.inp_text.proofs.Merging.{lines_in-one as merged_lines-one}
pub use Rattle.inp_text.proofs.Merging.{merged-either as merged_lines-either}
pub use Rattle.inp_text.proofs.Merging.{lines_in-rise as merged_lines-order}

pub places_of_items-runs : (line : List ℕ) (place : Span)
    → Contains (item_places line) place ↔ IsLongestRun (before_comment line) place
places_of_items-runs line place = (is-item_place line place, item_place-is line place)

pub kept_lines-members : (file : List Line) (kind : SectionKind) (line : SourceLine)
    → Contains (section_lines kind (reverse file)) line ↔ IsLineOf kind file line
kept_lines-members file kind line = (kept-is file kind line, is-kept file kind line)

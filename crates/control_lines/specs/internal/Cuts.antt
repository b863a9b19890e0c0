-- What the code's parts of lines, which borrow from the line, say as written.
use Rattle.exact_fraction.specs.declared.relation.Relation.{Relation}
use Rattle.control_lines.specs.Statements.{KeyText, SideText, Cut, cut_of}
use Rattle.control_lines.specs.Views.{key_now, side_now, texts}
use Rattle.control_lines.specs.declared.parts.KeyCut.{KeyCut}
use Rattle.control_lines.specs.declared.parts.SideCut.{SideCut}
use Rattle.control_lines.specs.declared.parts.RelationCut.{RelationCut}

abbrev pub key_cut : KeyCut → Cut KeyText
key_cut cut = cut_of (key_now cut.key) (texts cut.rest.now)

abbrev pub side_cut : SideCut → Cut SideText
side_cut cut = cut_of (side_now cut.side) (texts cut.rest.now)

abbrev pub relation_cut : RelationCut → Cut Relation
relation_cut cut = cut_of cut.relation (texts cut.rest.now)

-- Headings and the sections that they open, worked out by hand.
use Rattle.std.specs.Prelude.{◌≡◌, ℕ, true, false, List, ◌∷◌, Option, None, Some, codes}
use Rattle.inp_text.specs.Headings.{is_heading, section_named, first_item}
use Rattle.inp_text.specs.declared.section_kind.SectionKind.{SectionKind}
use Rattle.inp_text.specs.declared.section_kind.SectionKind.TheVariants as kinds

-- the read section that a line opens as a heading
abbrev pub opened_by : List ℕ → Option SectionKind
opened_by line = section_named (first_item line)

-- each section is opened by its word, whatever the case of the letters and whatever follows them
pub record AreRead : Type 0 where
  pub options : opened_by (codes "[Options] of the run") ≡ Some kinds.Options
  pub gages : opened_by (codes "  [RainGages]") ≡ Some kinds.Gages
  pub junctions : opened_by (codes "[junctions];nodes") ≡ Some kinds.Junctions
  pub outfalls : opened_by (codes "[OUTFALLS]") ≡ Some kinds.Outfalls
  pub dividers : opened_by (codes "[divider") ≡ Some kinds.Dividers
  pub storage : opened_by (codes "[STOR") ≡ Some kinds.Storage
  pub conduits : opened_by (codes "[conduits] x [PUMPS]") ≡ Some kinds.Conduits
  pub pumps : opened_by (codes "[PumpStations]") ≡ Some kinds.Pumps
  pub orifices : opened_by (codes "[ORIFices") ≡ Some kinds.Orifices
  pub weirs : opened_by (codes "[weir;s]") ≡ Some kinds.Weirs
  pub outlets : opened_by (codes "[OutLets]") ≡ Some kinds.Outlets
  pub controls : opened_by (codes "[CONT;ROLS]") ≡ Some kinds.Controls
  pub curves : opened_by (codes "[curv]") ≡ Some kinds.Curves
  pub series : opened_by (codes "[TIMEseries]") ≡ Some kinds.Series

-- no read section is opened by these
pub record AreUnread : Type 0 where
  pub too_few_letters : opened_by (codes "[CON") ≡ None
  pub three_letters : opened_by (codes "[CON]") ≡ None
  pub blank_inside : opened_by (codes "[ CONTROLS]") ≡ None
  pub comment_inside : opened_by (codes "[CON;TROLS]") ≡ None
  pub another_letter : opened_by (codes "[CONS") ≡ None
  pub neither_out : opened_by (codes "[OUTS]") ≡ None
  pub two_brackets : opened_by (codes "[[CONTROLS]") ≡ None
  pub second_item : opened_by (codes "x [CONTROLS]") ≡ None
  pub title : opened_by (codes "[TITLE]") ≡ None
  pub bracket_alone : opened_by (codes "[") ≡ None
  pub bracket_is_heading : is_heading (codes "[") ≡ true
  pub title_is_heading : is_heading (codes " [TITLE]") ≡ true
  pub blank_is_heading : is_heading (codes "[ CONTROLS]") ≡ true
  pub no_bracket : is_heading (codes "CONTROLS]") ≡ false
  pub bracket_in_comment : is_heading (codes ";[CONTROLS]") ≡ false
  pub bracket_later : is_heading (codes "x [CONTROLS]") ≡ false
  pub control_byte_first : is_heading (1 ∷ codes "[MAP]") ≡ false

-- The project of a file is made of what its sections give.
use Rattle.std.proofs.Common.{◌≡◌, ℕ, List, Option, Result, refl, sym, ap, ◌∙◌}
use mathlib.Core.Path.{fun_ext}
use Rattle.std.specs.Prelude.{reverse, IfOk}
use Rattle.std.proofs.lemmas.List.{reverse-reverse}
use Rattle.inp_text.specs.Sections.{Line, section_lines, first_long}
use Rattle.inp_text.specs.declared.section_kind.SectionKind.{SectionKind}
use Rattle.inp_text.specs.declared.section_kind.SectionKind.TheVariants.{Options}
use Rattle.inp_text.specs.declared.sections.Sections.{Sections}
use Rattle.inp_text.specs.declared.source_line.SourceLine.{SourceLine}
use Rattle.inp_text.specs.internal.Represents.{Represents, kept}
use Rattle.std.proofs.Common.{None, Some, Ok, Err}
use Rattle.rule_types.proofs.PublicLaws.{refusals-in_any_order}
use Rattle.network_lines.specs.declared.network.Network.{Network}
use Rattle.network_lines.specs.declared.options.OptionSet.{OptionSet}
use Rattle.rule_types.specs.Refusals.{earlier}
use Rattle.rule_types.specs.Tables.{TableSet}
use Rattle.rule_types.specs.declared.refusal.Refusal.{Refusal}
use Rattle.network_lines.specs.Objects.{no_network, object_lines, objects_refusal}
use Rattle.network_lines.specs.Options.{no_options, options_from, options_refusal}
use Rattle.network_lines.specs.declared.network.NetworkRead.{NetworkRead}
use Rattle.rule_parser.specs.Projects.{long_refusal, texts_refusal, read_sections, network_of, tables_of, draft_of}
use Rattle.rule_parser.specs.Projects.{refusal_of, first_refusal, project_unless, project_in, project_of}
use Rattle.rule_parser.specs.declared.draft.Draft.{Draft}
use Rattle.rule_parser.specs.declared.project.ControlsRead.{ControlsRead}
use Rattle.rule_parser.specs.internal.ProjectParts.{both_read, project_by}
use Rattle.rule_parser.specs.internal.Views.{text_and_long}

-- the lines of each section of a file
abbrev pub of_file : List Line → SectionKind → List SourceLine
of_file earlier kind = section_lines kind earlier

-- what sections keep are the lines of the file
pub kept_are : (sections : Sections) (earlier : List Line) → Represents sections earlier
    → kept sections.kept ≡ of_file earlier
kept_are sections earlier r = fun_ext r.lines

-- the project where the refusals of the other lines, of the tables and of the control lines count
by_controls : (other : Option Refusal) (options : OptionSet) (network : Network)
    (tables : Result TableSet Refusal) (draft : Result Draft Refusal)
    → project_by other options network (both_read tables draft)
    ≡ project_unless (earlier other (earlier (refusal_of tables) (refusal_of draft))) options network tables draft
unfolding earlier
by_controls None options network (Ok tables) (Ok draft) = refl
by_controls None options network (Ok tables) (Err refusal) = refl
by_controls None options network (Err refusal) (Ok draft) = refl
by_controls None options network (Err first) (Err second) = refl
by_controls (Some other) options network (Ok tables) (Ok draft) = refl
by_controls (Some other) options network (Ok tables) (Err refusal) = refl
by_controls (Some other) options network (Err refusal) (Ok draft) = refl
by_controls (Some other) options network (Err first) (Err second) = refl

-- what holds of the control lines holds of them beside the tables
pub controls_hold : (P : Draft → Type 0) (tables : Result TableSet Refusal) (draft : Result Draft Refusal)
    → IfOk draft P → IfOk (both_read tables draft) (λ read. P read.draft)
controls_hold P (Ok tables) (Ok draft) h = h
controls_hold P (Ok tables) (Err refusal) h = tt
controls_hold P (Err refusal) (Ok draft) h = tt
controls_hold P (Err first) (Err second) h = tt

pub record ArePartsOf (lines : SectionKind → List SourceLine) (long : Option ℕ)
    (options : OptionSet) (network : NetworkRead) (controls : Result ControlsRead Refusal) : Type 0 where
  pub set : options ≡ options_from no_options (lines Options)
  pub network_is : network.network ≡ network_of lines
  pub refused : network.refusal
      ≡ earlier (earlier (text_and_long lines long) (options_refusal no_options (lines Options)))
      (objects_refusal no_network (object_lines lines))
  pub controls_are : controls ≡ both_read (tables_of lines) (draft_of lines)

pub parts_are : (lines : SectionKind → List SourceLine) (long : Option ℕ) (options : OptionSet)
    (network : NetworkRead) (controls : Result ControlsRead Refusal)
    → ArePartsOf lines long options network controls
    → project_by network.refusal options network.network controls ≡ project_in lines long
unfolding first_refusal project_in
parts_are lines long options network controls h =
    let long_lines = long_refusal long in
    let texts = texts_refusal lines read_sections in
    let of_options = options_refusal no_options (lines Options) in
    let of_objects = objects_refusal no_network (object_lines lines) in
    let others = earlier (earlier (earlier long_lines texts) of_options) of_objects in
    let last = earlier (refusal_of (tables_of lines)) (refusal_of (draft_of lines)) in
    let all : earlier others last
    ≡ earlier long_lines (earlier texts (earlier of_options (earlier of_objects last))) =
    sym (refusals-in_any_order (earlier (earlier long_lines texts) of_options) of_objects last)
    ∙ sym (refusals-in_any_order (earlier long_lines texts) of_options (earlier of_objects last))
    ∙ sym (refusals-in_any_order long_lines texts (earlier of_options (earlier of_objects last))) in
    rw (h.set, h.network_is, h.refused, h.controls_are)
    (by_controls others (options_from no_options (lines Options)) (network_of lines) (tables_of lines) (draft_of lines)
    ∙ ap (λ r. project_unless r (options_from no_options (lines Options)) (network_of lines) (tables_of lines) (draft_of lines)) all)

-- the project of a file whose lines come newest first
pub newest_first : (earlier : List Line)
    → project_in (of_file earlier) (first_long earlier) ≡ project_of (reverse earlier)
newest_first earlier =
    sym (ap (λ file. project_in (of_file file) (first_long file)) (reverse-reverse earlier))

use Rattle.std.proofs.Common.{◌≡◌, ap, ◌∙◌}
use mathlib.Core.Path.{ap₂}
use Rattle.std.specs.Prelude.{reverse}
use Rattle.std.proofs.lemmas.Result.{IfOk-weaker}
use Rattle.inp_text.specs.Sections.{section_lines, first_long}
use Rattle.inp_text.specs.declared.section_kind.SectionKind.TheVariants.{Controls, Curves, Series}
use Rattle.inp_text.specs.internal.Represents.{kept}
use Rattle.curves_series.specs.Names.{named_tables}
use Rattle.network_lines.specs.Objects.{no_network, object_lines, objects_refusal}
use Rattle.network_lines.specs.Options.{no_options, options_from, options_refusal}
use Rattle.rule_types.specs.Refusals.{earlier}
use Rattle.rule_parser.specs.Controls.{no_draft, controls_from}
use Rattle.rule_parser.specs.Projects.{project_of, network_of, tables_of}
use Rattle.rule_parser.specs.internal.ProjectParts.{both_read, project_by}
use Rattle.rule_parser.specs.internal.Views.{text_and_long}
use Rattle.rule_parser.proofs.Composes.{of_file, kept_are, ArePartsOf, parts_are, newest_first}
use Rattle.rule_parser.proofs.RulesRead.{step_read, links_read}
use Rattle.rule_parser.proofs.project.read_parts.Goals as goal

pub returns-clause-file : goal.returns-clause-file
returns-clause-file c = λ earlier_lines r.
    let options = c.in_ok-set.set.options in
    let network = c.in_ok-network.network in
    let controls = c.in_ok-controls.controls in
    let same : kept c.args.sections.now.kept ≡ of_file earlier_lines =
    kept_are c.args.sections.now earlier_lines r in
    let network_is : network.network ≡ network_of (of_file earlier_lines) =
    c.in_ok-network.ensures.network ∙ ap network_of same in
    let parts : ArePartsOf (of_file earlier_lines) (first_long earlier_lines) options network controls =
    record {
      set = c.in_ok-set.ensures.options ∙ ap (options_from no_options) (c.lines.ensures.lines earlier_lines r);
      network_is = network_is;
      refused = c.in_ok-network.ensures.refusal
          ∙ ap₂ earlier
          (ap₂ earlier (ap₂ text_and_long same r.long)
          (c.in_ok-set.ensures.refusal ∙ ap (options_refusal no_options) (c.lines.ensures.lines earlier_lines r)))
          (ap (λ l. objects_refusal no_network (object_lines l)) same);
      controls_are = c.in_ok-controls.ensures.value earlier_lines r
          ∙ ap (λ n. both_read (tables_of (of_file earlier_lines)) (controls_from (record {
            objects = n.objects;
            tables = named_tables (section_lines Curves earlier_lines) (section_lines Series earlier_lines);
          }) no_draft (section_lines Controls earlier_lines))) network_is;
    } in
    IfOk-weaker c.project_by.result (λ read. read ≡ project_by network.refusal options network.network controls)
    (λ read. read ≡ project_of (reverse earlier_lines))
    (λ read is. is
    ∙ parts_are (of_file earlier_lines) (first_long earlier_lines) options network controls parts
    ∙ newest_first earlier_lines)
    c.project_by.ensures.value

pub project_by-requires-clause-step : goal.project_by-requires-clause-step
project_by-requires-clause-step c =
    step_read c.lines.result.now c.in_ok-set.set.options c.in_ok-set.ensures.options

pub project_by-requires-clause-links : goal.project_by-requires-clause-links
project_by-requires-clause-links c =
    links_read (object_lines (kept c.args.sections.now.kept)) c.in_ok-network.network.network c.in_ok-network.ensures.network

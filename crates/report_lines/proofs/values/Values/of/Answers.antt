use Rattle.std.proofs.Common.{◌∙◌, ap, sym}
use Rattle.std.specs.Option.{option_copied}
use Rattle.verdict_meaning.specs.Grids.{number_of_key}
use Rattle.report_lines.proofs.KeyValues.{looked_up}
use Rattle.report_lines.proofs.values.Values.of.Goals as goal

pub returns-in-Some : goal.returns-in-Some
returns-in-Some c =
    sym (ap option_copied c.in-Some.is) ∙ c.get.ensures.value
    ∙ looked_up c.args.key.now c.self.inside.values.entries
    ∙ ap (number_of_key c.args.key.now) c.self.view_is

pub returns-in-None : goal.returns-in-None
returns-in-None c =
    sym (ap option_copied c.in-None.is) ∙ c.get.ensures.value
    ∙ looked_up c.args.key.now c.self.inside.values.entries
    ∙ ap (number_of_key c.args.key.now) c.self.view_is

use Rattle.std.proofs.Common.{◌≡◌, drop}
use Rattle.std.specs.Option.{option_or}
use Rattle.network_lines.specs.Options.{no_options, options_from, options_refusal}
use Rattle.network_lines.specs.internal.Views.{IsStart}
use Rattle.network_lines.proofs.options.read_options.Given as goal

abbrev pub invariant-loop-line : goal.invariant-loop-line
invariant-loop-line l =
    (options_from l.read.options (drop l.line-index l.lines) ≡ options_from no_options l.lines)
    × (option_or l.read.refusal (options_refusal l.read.options (drop l.line-index l.lines))
    ≡ options_refusal no_options l.lines)
    × IsStart l.read.options

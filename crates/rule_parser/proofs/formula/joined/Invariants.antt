use Rattle.std.proofs.Common.{◌≡◌, ◌++◌, drop}
use Rattle.std.specs.List.{flat_map}
use Rattle.control_lines.specs.Views.{texts}
use Rattle.rule_parser.specs.Formulas.{spaced, joined}
use Rattle.rule_parser.proofs.formula.joined.Given as goal

-- the text so far and the later items are the whole text
abbrev pub invariant-loop-item : goal.invariant-loop-item
invariant-loop-item l =
    l.text.items ++ flat_map spaced (texts (drop l.item-index l.later)) ≡ joined (texts l.items)

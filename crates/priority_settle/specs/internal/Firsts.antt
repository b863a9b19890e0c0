-- Which of two pairs goes first.
use Rattle.std.specs.Prelude.{if◌then◌else◌, Option, Some, None, List}
use Rattle.rule_types.specs.declared.action.ActionAt.{ActionAt}
use Rattle.rule_types.specs.declared.rule.Rule.{Rule}
use Rattle.rule_meaning.specs.Settled.{beats}

-- the pair that goes first: a new one where none is held or it goes before the one that is held
abbrev pub first_of : List Rule → Option ActionAt → ActionAt → ActionAt
first_of rules None at = at
first_of rules (Some held) at = if beats rules at held then at else held

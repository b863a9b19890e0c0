-- The pairs that are settled, link by link.
use Rattle.std.specs.Prelude.{ℕ, Option, List, map}
use Rattle.rule_types.specs.declared.action.ActionAt.{ActionAt}
use Rattle.rule_types.specs.declared.rule.Rule.{Rule}
use Rattle.rule_meaning.specs.Settled.{settled_on}

-- for each link the pair that is settled for it, if there is one
abbrev pub settled_each : List Rule → List ℕ → List ActionAt → List (Option ActionAt)
settled_each rules links pairs = map (settled_on rules pairs) links

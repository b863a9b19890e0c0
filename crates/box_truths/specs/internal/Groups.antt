-- A premise in one walk through its conditions.
use Rattle.std.specs.Prelude.{if◌then◌else◌, List, [], ◌∷◌}
use Rattle.rule_types.specs.declared.condition.Condition.{Condition}
use Rattle.verdict_meaning.specs.declared.truth.Truth.{Truth}
use Rattle.verdict_meaning.specs.Premises.{both_truth, either_truth}

-- what is known of the groups from an open one on, of which `group` is known so far: a condition
-- that begins a group closes the one before it
unfoldable pub rest_truth : (Condition → Truth) → Truth → List Condition → Truth
rest_truth truth group [] = group
rest_truth truth group (c ∷ more) =
    if c.joined_by_and
    then both_truth group (rest_truth truth (truth c) more)
    else rest_truth truth (either_truth group (truth c)) more

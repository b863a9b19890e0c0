-- Marks of names.
use Rattle.std.specs.Prelude.{◌≡◌, ℕ, ◌<◌, ◌==◌, Bool, ◌||◌, List, ◌∷◌, length, slice_get}
use Rattle.std.specs.List.{flat_map, list_any}
use Rattle.rule_types.specs.declared.condition.Condition.{Condition}
use Rattle.rule_types.specs.declared.names.NameDef.{NameDef}
use Rattle.rule_types.specs.declared.rule.Rule.{Rule}
use Rattle.rule_types.specs.Reading.{at_name, kind_names, side_names}
use Rattle.premise_eval.specs.Kept.{marked}

-- some names have been marked, beside those that were
unfoldable pub MarksNames : List ℕ → List Bool → List Bool → Type 0
MarksNames names old new =
    (at : ℕ) → at < length old
    → marked new at ≡ (marked old at || list_any (λ other. at == other) names)

-- the names that a name on a side uses: itself, and those in its expression
abbrev pub name_uses : List NameDef → ℕ → List ℕ
name_uses names name = name ∷ at_name kind_names (slice_get names name)

-- the names that a condition uses, and those that a rule uses
unfoldable pub uses_of : List NameDef → Condition → List ℕ
uses_of names c = flat_map (name_uses names) (side_names c.left)

unfoldable pub rule_uses : List NameDef → Rule → List ℕ
rule_uses names rule = flat_map (uses_of names) rule.conditions

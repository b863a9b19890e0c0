-- Keys that are added to a list, and keys in key order.
use Rattle.std.specs.Prelude.{◌≡◌, Bool, false, Option, Some, None, List, [], ◌++◌}
use Rattle.std.specs.List.{flat_map, list_any}
use Rattle.rule_types.specs.declared.key.Key.{Key}
use Rattle.rule_types.specs.declared.names.NameDef.{NameDef}
use Rattle.rule_types.specs.declared.rule.Rule.{Rule}
use Rattle.rule_types.specs.Reading.{condition_reads, rule_actions}
use Rattle.verdict_meaning.specs.declared.question.Question.{Question}
use Rattle.verdict_meaning.specs.Questions.{grid_keys_of, is_series, limit_keys}
use Rattle.question_boxes.specs.declared.reads.KeyList.{KeyList}

-- some keys are added behind those of a list
pub record Adds (before after : KeyList) (found : List Key) : Type 0 where
  pub keys : after.keys.items ≡ before.keys.items ++ found

-- what a rule reads, if there is one
abbrev pub rule_reads : List NameDef → Option Rule → List Key
rule_reads names None = []
rule_reads names (Some rule) = flat_map (condition_reads names) rule.conditions

-- the grid's keys for some keys that are read, and for a question itself
abbrev pub grid_keys_read : Question → List Key → List Key
grid_keys_read question keys = flat_map grid_keys_of keys ++ limit_keys question

-- whether a rule, if there is one, has a series
abbrev pub rule_has_series : Option Rule → Bool
rule_has_series None = false
rule_has_series (Some rule) = list_any (λ action. is_series action.what) (rule_actions rule)

-- What is noted of the keys that rules read.
use Rattle.std.specs.Prelude.{◌≡◌, ℕ, List, filter, All}
use Rattle.std.specs.List.{flat_map}
use Rattle.std.specs.BTreeSet.{insert_key}
use Rattle.std.specs.Ordering.{nat_cmp}
use Rattle.std.specs.declared.cmp.Ordering.{Ordering}
use Rattle.rule_types.specs.KeyOrder.{key_cmp}
use Rattle.rule_types.specs.Keys.{is_input, link_read}
use Rattle.rule_types.specs.Reading.{name_keys}
use Rattle.rule_types.specs.declared.key.Key.{Key}
use Rattle.rule_types.specs.declared.names.NameDef.{NameDef}
use Rattle.rule_parser.specs.Projects.{keys_with, links_with}
use Rattle.rule_parser.specs.declared.noted.Noted.{Noted}

-- what was noted of keys: those that the trace gives in key order, and the links that they read
pub record Notes (before after : Noted) (found : List Key) : Type 0 where
  pub keys : after.keys.keys ≡ keys_with before.keys.keys (filter is_input found)
  pub links : after.links.keys ≡ links_with before.links.keys (flat_map link_read found)

-- an item is in a list in order: to add it changes nothing
abbrev pub AddsNothing : {A : Type 0} → (A → A → Ordering) → List A → A → Type 0
AddsNothing order items item = insert_key order items item ≡ items

-- keys are noted: to note them again changes nothing
pub record AreNoted (noted : Noted) (found : List Key) : Type 0 where
  pub keys : All (AddsNothing key_cmp noted.keys.keys) (filter is_input found)
  pub links : All (AddsNothing nat_cmp noted.links.keys) (flat_map link_read found)

-- what each of some names reads is noted
abbrev pub NamesNoted : List NameDef → Noted → List ℕ → Type 0
NamesNoted names noted seen = All (λ name. AreNoted noted (name_keys names name)) seen

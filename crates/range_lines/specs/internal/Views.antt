-- What the parts of the reader stand for in the words of the definitions.
use Rattle.std.specs.Prelude.{ℕ, List, [], ◌∷◌, map, filter, ◌++◌, Option, None, Some}
use Rattle.std.specs.Borrow.{Bor}
use Rattle.std.specs.List.{flat_map}
use Rattle.rule_types.specs.Reading.{kind_key, kind_names, variable_keys}
use Rattle.rule_types.specs.declared.action.Action.{Action}
use Rattle.rule_types.specs.declared.key.Key.{Key}
use Rattle.rule_types.specs.declared.names.NameDef.{NameDef}
use Rattle.rule_types.specs.declared.names.NameKind.{NameKind}
use Rattle.range_lines.specs.Causes.{FileFault}
use Rattle.range_lines.specs.declared.fault.RangeEnd.{RangeEnd}
use Rattle.range_lines.specs.declared.fault.RangeEnd.TheVariants.{Fault}
use Rattle.range_lines.specs.Entries.{Item, Known}
use Rattle.range_lines.specs.Needs.{first_from, earlier_key, is_missing}
use Rattle.range_lines.specs.declared.given.Given.{Given}
use Rattle.range_lines.specs.declared.known.Known.{Known as CodeKnown}

-- a fault as the end of a reading
abbrev pub end_of : FileFault → RangeEnd
end_of fault = Fault fault.line fault.cause fault.key

-- the items of a line
abbrev pub texts : List (Bor (List ℕ)) → List Item
texts items = map (λ item. item.now) items

-- what lines speak of
abbrev pub known_now : CodeKnown → Known
known_now known = record {
  objects = known.objects.now;
  ids = known.ids.now;
  links = known.links.now;
}

-- the links of actions
abbrev pub action_links : List Action → List ℕ
action_links = flat_map (λ action. action.link ∷ [])

-- the first key, of those found before and of these, that is not given what it needs
abbrev pub first_of : Given → Option Key → List Key → Option Key
first_of given found keys = first_from found (filter (is_missing given) keys)

-- the first of two finds
abbrev pub earlier_of : Option Key → Option Key → Option Key
earlier_of found None = found
earlier_of found (Some key) = earlier_key found key

-- the keys that a name of this kind reads
abbrev pub kind_keys : List NameDef → NameKind → List Key
kind_keys names kind = kind_key kind ++ flat_map (variable_keys names) (kind_names kind)

-- what is held of a name, and nothing where there is no such name
abbrev pub held_or : Option (Option Key) → Option Key
held_or None = None
held_or (Some found) = found

-- for each name the first key that it reads and that is not given what it needs
abbrev pub name_finds : Given → List NameDef → List NameDef → List (Option Key)
name_finds given names some =
    map (λ named. first_of given None (kind_keys names named.stands_for)) some

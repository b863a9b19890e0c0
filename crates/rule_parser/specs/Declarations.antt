-- The names that variables and expressions declare (SWMM 5.2 manual, [CONTROLS]).
use Rattle.std.specs.Prelude.{ℕ, Bool, false, not, ◌&&◌, ◌||◌, ◌==◌, List, [], ◌∷◌, ◌++◌}
use Rattle.std.specs.Prelude.{Option, None, Some, is_some, length, codes, slice_get}
use Rattle.std.specs.Char.{is_ascii_alphabetic, is_ascii_alphanumeric}
use Rattle.std.specs.List.{list_all}
use Rattle.key_words.specs.Words.{is_word, object_word, simulation_text}
use Rattle.rule_types.specs.declared.key.Key.{Key}
use Rattle.rule_types.specs.declared.names.NameDef.{NameDef}
use Rattle.rule_types.specs.declared.names.NameKind.{NameKind}
use Rattle.rule_types.specs.declared.names.NameKind.TheVariants.{Variable, Formula}
use Rattle.rule_types.specs.declared.refusal.Cause.TheVariants.{DuplicateName, ReservedName}
use Rattle.control_lines.specs.Faults.{Checked, both, fault_of, refused_where}
use Rattle.expr_parser.specs.Names.{place_of, declared_names}
use Rattle.network_lines.specs.Limits.{room_for}
use Rattle.rule_parser.specs.Limits.{most_names}

-- the place, from 0, of the declared name that an item is, ignoring the case of ASCII letters
unfoldable pub name_place : List NameDef → List ℕ → Option ℕ
name_place names item = place_of (declared_names names) item

-- what the name at a place stands for
abbrev pub kind_at : List NameDef → Option ℕ → Option NameKind
kind_at names None = None
kind_at names (Some place) = kind_of (slice_get names place) where
  kind_of : Option NameDef → Option NameKind
  kind_of None = None
  kind_of (Some named) = Some named.stands_for

-- the key of the declared variable that an item is
abbrev pub key_of : Option NameKind → Option Key
key_of None = None
key_of (Some (Variable key)) = Some key
key_of (Some (Formula formula)) = None

abbrev pub variable_key : List NameDef → List ℕ → Option Key
variable_key names item = key_of (kind_at names (name_place names item))

-- `_`
abbrev pub underscore : ℕ
underscore = 95

-- whether a text has the form of a name: a letter or `_`, and behind it letters, digits and `_`
abbrev pub begins_name : ℕ → Bool
begins_name byte = is_ascii_alphabetic byte || byte == underscore

abbrev pub continues_name : ℕ → Bool
continues_name byte = is_ascii_alphanumeric byte || byte == underscore

unfoldable pub is_name : List ℕ → Bool
is_name [] = false
is_name (byte ∷ later) = begins_name byte && list_all continues_name later

-- whether a text is a word that begins a key
abbrev pub is_reserved : List ℕ → Bool
is_reserved item = is_some (object_word item) || is_word item simulation_text

-- a name can be declared: no earlier line declares it, it has the form of a name that is not
-- reserved, and there is room for it
unfoldable pub name_read : List NameDef → List ℕ → Checked (Unit {0} × (Unit {0} × Unit {0}))
name_read names name =
    both (refused_where (is_some (name_place names name)) (fault_of DuplicateName name))
    (both
    (refused_where (not (is_name name) || is_reserved name) (fault_of ReservedName name))
    (room_for (codes "names") most_names (length names)))

-- the names with one more
abbrev pub and_name : List NameDef → List ℕ → NameKind → List NameDef
and_name names name kind = names ++ record { name = name; stands_for = kind } ∷ []

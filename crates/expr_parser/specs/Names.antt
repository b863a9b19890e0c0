-- Declared names, which are found whatever the case of their letters.
use Rattle.std.specs.Prelude.{ℕ, Bool, if◌then◌else◌, List, ◌++◌, ◌∷◌, [], Option, None, Some}
use Rattle.std.specs.Prelude.{position, slice_get, option_and_then, is_some, map}
use Rattle.std.specs.Str.{str_eq_ignore_ascii_case}
use Rattle.rule_types.specs.declared.names.NameDef.{NameDef}
use Rattle.rule_types.specs.Reading.{is_variable_kind}
use Rattle.expr_parser.specs.declared.name_index.DeclaredName.{DeclaredName}

-- a name is another when the case of ASCII letters is ignored
abbrev pub is_called : List ℕ → DeclaredName → Bool
is_called name declared = str_eq_ignore_ascii_case name declared.name

-- the number of a name among the names, counted from 0
unfoldable pub place_of : List DeclaredName → List ℕ → Option ℕ
place_of names name = position (is_called name) names

-- the number where it is that of a variable
abbrev pub if_variable : ℕ → Option DeclaredName → Option ℕ
if_variable place None = None
if_variable place (Some declared) = if declared.is_variable then Some place else None

-- the number of the variable that a name is, if it is one
unfoldable pub variable_of : List DeclaredName → List ℕ → Option ℕ
variable_of names name =
    option_and_then (λ place. if_variable place (slice_get names place)) (place_of names name)

-- whether the name of a number is that of a variable
abbrev pub is_variable_at : List DeclaredName → ℕ → Bool
is_variable_at names place = is_some (if_variable place (slice_get names place))

-- the names and one more behind them
abbrev pub with_name : List DeclaredName → List ℕ → Bool → List DeclaredName
with_name names name is_variable =
    names ++ record { name = name; is_variable = is_variable } ∷ []

-- the names that definitions declare, in their order
abbrev pub declared_name : NameDef → DeclaredName
declared_name named =
    record { name = named.name; is_variable = is_variable_kind named.stands_for }

abbrev pub declared_names : List NameDef → List DeclaredName
declared_names names = map declared_name names

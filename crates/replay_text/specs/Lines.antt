-- The lines that a replay prints: the header, and one line for each row.
use Rattle.std.specs.Prelude.{ℕ, Bool, ◌||◌, ◌==◌, if◌then◌else◌, List, [], ◌∷◌, ◌++◌, codes, ℤ}
use Rattle.std.specs.List.{list_any, flat_map}
use Rattle.exact_fraction.specs.Number.{Rational}
use Rattle.key_words.specs.KeyTexts.{name_text}
use Rattle.num_text.specs.Values.{written_value}
use Rattle.num_text.specs.Written.{written_moment}
use Rattle.object_index.specs.Objects.{Objects}
use Rattle.rule_types.specs.declared.object.Space.TheVariants.{Links}
use Rattle.rule_types.specs.declared.rules.Rules.{Rules}
use Rattle.trace_csv.specs.Records.{comma, double_quote, line_feed}

-- a byte for which a name is quoted
abbrev pub wants_quotes : ℕ → Bool
wants_quotes byte = byte == comma || byte == double_quote

-- a byte between quotes: a double quote stands twice
abbrev pub between_quotes : ℕ → List ℕ
between_quotes byte = if byte == double_quote then byte ∷ byte ∷ [] else byte ∷ []

-- a name as a field: in double quotes where it holds a comma or a double quote (RFC 4180)
unfoldable pub written_name : List ℕ → List ℕ
written_name name =
    if list_any wants_quotes name
    then double_quote ∷ flat_map between_quotes name ++ double_quote ∷ []
    else name

-- the name of a link
abbrev pub link_name : Objects → ℕ → List ℕ
link_name objects link = name_text objects (record { space = Links; index = link })

-- fields behind the first of a line, each after a comma
abbrev pub comma_before : List ℕ → List ℕ
comma_before field = comma ∷ field

-- the header: `moment` and the names of the controlled links in link order
unfoldable pub header_line : Rules → Objects → List ℕ
header_line x objects =
    codes "moment"
    ++ flat_map (λ link. comma_before (written_name (link_name objects link))) x.controlled
    ++ line_feed ∷ []

-- the line of a row: its written moment and the written settings
unfoldable pub row_line : ℤ → List Rational → List ℕ
row_line moment settings =
    written_moment moment ++ flat_map (λ setting. comma_before (written_value setting)) settings
    ++ line_feed ∷ []

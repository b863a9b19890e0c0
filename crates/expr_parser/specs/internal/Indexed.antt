-- What the ordered map of an index of names keeps.
use Rattle.std.specs.Prelude.{◌≡◌, ℕ, ◌≤◌, ◌^◌, Bool, List, Option, length, position}
use Rattle.std.specs.Global.{Vec}
use Rattle.std.specs.Ordering.{nat_cmp}
use Rattle.std.specs.Cmp.Lexicographic.{slice_cmp}
use Rattle.std.specs.BTreeMap.{BTreeMap, get_by}
use Rattle.std.specs.Str.{bytes_eq, str_to_ascii_lowercase}
use Rattle.expr_parser.specs.declared.name_index.DeclaredName.{DeclaredName}

-- a map of texts to the numbers of the names that they stand for
abbrev pub NumberMap : Type 0
NumberMap = BTreeMap (Vec ℕ) ℕ

-- the number of a text in a map
abbrev pub number_in : NumberMap → List ℕ → Option ℕ
number_in numbers text = get_by (λ key. slice_cmp nat_cmp text key.items) numbers

-- whether a text is a name in lower case
abbrev pub is_lower_case_of : List ℕ → DeclaredName → Bool
is_lower_case_of text declared = bytes_eq text (str_to_ascii_lowercase declared.name)

-- the numbers of names fit, and the map gives for each text the first name that has it in lower
-- case
pub record IsIndexed (names : List DeclaredName) (numbers : NumberMap) : Type 0 where
  pub few : length names ≤ 2 ^ 32
  pub found : (text : List ℕ)
      → number_in numbers text ≡ position (is_lower_case_of text) names

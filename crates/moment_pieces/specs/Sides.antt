-- The left sides of conditions, where a variable is the same as its key.
use Rattle.std.specs.Prelude.{ℕ, Option, None, Some, List, slice_get}
use Rattle.rule_types.specs.declared.condition.Side.{Side}
use Rattle.rule_types.specs.declared.condition.Side.TheVariants as side
use Rattle.rule_types.specs.declared.names.NameDef.{NameDef}
use Rattle.rule_types.specs.declared.names.NameKind.{NameKind}
use Rattle.rule_types.specs.declared.names.NameKind.TheVariants.{Variable, Formula}

abbrev pub kind_side : ℕ → NameKind → Side
kind_side name (Variable key) = side.Key key
kind_side name (Formula formula) = side.Expr name

abbrev pub named_side : ℕ → Option NameDef → Side
named_side name None = side.Expr name
named_side name (Some named) = kind_side name named.stands_for

unfoldable pub side_of : List NameDef → Side → Side
side_of names (side.Key key) = side.Key key
side_of names (side.Expr name) = named_side name (slice_get names name)

-- The parts of a clause: columns with sets of numbers, and conditions by their places.
use Rattle.std.specs.Prelude.{ℕ, Bool, true, false, ◌==◌, nat_lt, if◌then◌else◌}
use Rattle.std.specs.Prelude.{Option, Some, None, List, [], ◌∷◌}
use Rattle.std.specs.Ordering.{is_lt}
use Rattle.std.specs.Str.{bytes_eq}
use Rattle.exact_fraction.specs.declared.relation.Relation.{Relation}
use Rattle.interval_sets.specs.declared.interval.Interval.{Interval}
use Rattle.interval_sets.specs.Sets.{set_of, union_of, intersection_of}
use Rattle.rule_types.specs.declared.condition.Condition.{Condition}
use Rattle.rule_types.specs.declared.condition.Right.{Right}
use Rattle.rule_types.specs.declared.condition.Right.TheVariants as right
use Rattle.rule_types.specs.declared.condition.Side.{Side}
use Rattle.rule_types.specs.declared.condition.Side.TheVariants as side
use Rattle.rule_types.specs.KeyOrder.{key_place, key_cmp}
use Rattle.rule_meaning.specs.Premise.{Placed}
use Rattle.table_compiler.specs.declared.part.Part.{Part}
use Rattle.table_compiler.specs.declared.part.Part.TheVariants.{Column, Number}

-- ---- columns

-- whether two columns are one: the same key, or the same expression
abbrev pub same_column : Side → Side → Bool
same_column (side.Key key) (side.Key other) = bytes_eq (key_place key) (key_place other)
same_column (side.Expr name) (side.Expr other) = name == other
same_column column other = false

-- whether a column stands before another: keys in key order, then expressions in file order
abbrev pub column_before : Side → Side → Bool
column_before (side.Key key) (side.Key other) = is_lt (key_cmp key other)
column_before (side.Key key) (side.Expr name) = true
column_before (side.Expr name) (side.Key key) = false
column_before (side.Expr name) (side.Expr other) = nat_lt name other

-- ---- parts

-- whether a part stands before another: columns, then conditions by their places
abbrev pub part_before : Part → Part → Bool
part_before (Column column set) (Column other others) = column_before column other
part_before (Column column set) (Number place) = true
part_before (Number place) (Column column set) = false
part_before (Number place) (Number other) = nat_lt place other

-- what a condition at a place in its rule is by itself: a set of numbers in the column on its left,
-- and a part by its place where it is read within half a step or has a key on its right
abbrev pub part_by : ℕ → Side → Relation → Bool → Right → Part
part_by place left relation true other = Number place
part_by place left relation false (right.Key key) = Number place
part_by place left relation false (right.Value q) = Column left (set_of relation q)

unfoldable pub part_of : ℕ → Condition → Part
part_of place c = part_by place c.left c.rel c.half_step c.right

-- one part in place of two on the same column, where an operation gives its set; None where the
-- two are not on one column
abbrev pub joined_part : (List Interval → List Interval → List Interval) → Part → Part
    → Option Part
joined_part operation (Column column set) (Column other others) =
    if same_column column other then Some (Column column (operation set others)) else None
joined_part operation part other = None

-- where one of two parts on a column holds, and where both do
abbrev pub united_part : Part → Part → Option Part
united_part = joined_part union_of

abbrev pub met_part : Part → Part → Option Part
met_part = joined_part intersection_of

-- ---- the parts of a clause

-- parts with one more: it is united with the part on its column, where there is one, and else
-- stands in order
abbrev pub with_part_by : Option Part → Bool → Part → List Part → Part → List Part → List Part
with_part_by (Some one) before first more part later = one ∷ more
with_part_by None true first more part later = first ∷ later
with_part_by None false first more part later = part ∷ first ∷ more

unfoldable pub with_part : List Part → Part → List Part
with_part [] part = part ∷ []
with_part (first ∷ more) part =
    with_part_by (united_part first part) (part_before first part) first more part
    (with_part more part)

-- parts with those of a group's conditions
unfoldable pub with_conditions : List Part → List Placed → List Part
with_conditions parts [] = parts
with_conditions parts (c ∷ more) =
    with_conditions (with_part parts (part_of c.place c.condition)) more

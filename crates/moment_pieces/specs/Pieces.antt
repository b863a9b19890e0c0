-- The pieces of a run of moments: within a piece no condition of the clock changes.
use Rattle.std.specs.Prelude.{◌≡◌, ℕ, zero, suc, ◌<◌, ◌≤◌, Bool, false, ◌||◌, if◌then◌else◌}
use Rattle.std.specs.Prelude.{ℤ, pos, ◌+ℤ◌, ◌-ℤ◌, int_lt, unsigned_abs, List, [], ◌∷◌, ◌++◌, length}
use Rattle.std.specs.Int.{int_rem_euclid}
use Rattle.std.specs.Ordering.{int_eq}
use Rattle.std.specs.List.{list_any}
use Rattle.exact_fraction.specs.Number.{Rational}
use Rattle.rule_types.specs.declared.condition.Condition.{Condition}
use Rattle.rule_types.specs.declared.condition.Side.{Side}
use Rattle.rule_types.specs.declared.condition.Side.TheVariants as side
use Rattle.rule_types.specs.declared.condition.Right.{Right}
use Rattle.rule_types.specs.declared.condition.Right.TheVariants as right
use Rattle.rule_types.specs.declared.key.ClockAttr.{ClockAttr}
use Rattle.rule_types.specs.declared.key.Key.TheVariants.{Clock}
use Rattle.rule_types.specs.declared.names.NameDef.{NameDef}
use Rattle.rule_types.specs.declared.rule.Rule.{Rule}
use Rattle.rule_types.specs.declared.rules.Rules.{Rules}
use Rattle.rule_meaning.specs.Condition.{second_truth}
use Rattle.rule_meaning.specs.SomeRules.{rules_at}
use Rattle.clock_values.specs.Windows.{differs}
use Rattle.moment_pieces.specs.Sides.{side_of}
use Rattle.moment_pieces.specs.declared.piece_lists.Cuts.{Cuts}

-- whether a second is the first of a day
unfoldable pub is_midnight : ℤ → Bool
is_midnight second = int_eq (int_rem_euclid second (pos 86400)) (pos 0)

-- whether a condition of the clock against a number changes at a second: whether its truth there
-- differs from that at the second before
unfoldable pub truth_changes : Condition → Rational → ClockAttr → Rational → ℤ → ℤ → Bool
truth_changes c step attribute q start second =
    differs (second_truth c step attribute q start second)
    (second_truth c step attribute q start (second -ℤ pos 1))

-- the same of a condition of any sides: only one of the clock against a number changes
abbrev pub sides_change : Condition → Rational → ℤ → ℤ → Side → Right → Bool
sides_change c step start second (side.Key (Clock attribute)) (right.Value q) =
    truth_changes c step attribute q start second
sides_change c step start second left right = false

-- the same of a condition over these names, whose left side may be a key or a variable
unfoldable pub condition_changes : List NameDef → Rational → ℤ → ℤ → Condition → Bool
condition_changes names step start second c =
    sides_change c step start second (side_of names c.left) c.right

-- whether a condition of a rule changes at a second
abbrev pub rule_changes : List NameDef → Rational → ℤ → ℤ → Rule → Bool
rule_changes names step start second rule =
    list_any (condition_changes names step start second) rule.conditions

-- whether a piece begins at a second, for the rules of some numbers, at a step in seconds and from
-- a start: at each midnight, and where a condition of the clock against a number changes
unfoldable pub begins_piece : Rules → List ℕ → Rational → ℤ → ℤ → Bool
begins_piece x used step start second =
    is_midnight second
    || list_any (rule_changes x.names step start second) (rules_at x.rules used)

-- those of so many seconds after a second at which a test passes
unfoldable pub later_firsts : (ℤ → Bool) → ℤ → ℕ → List ℤ
later_firsts begins from zero = []
later_firsts begins from (suc more) =
    later_firsts begins from more
    ++ (if begins (from +ℤ pos (suc more)) then (from +ℤ pos (suc more)) ∷ [] else [])

-- the first seconds of the pieces of the seconds from one to another: the first of these seconds,
-- and each later one at which a piece begins; none where there is no such second
unfoldable pub piece_firsts : Rules → List ℕ → Rational → ℤ → ℤ → ℤ → List ℤ
piece_firsts x used step start from to =
    if int_lt to from then []
    else from ∷ later_firsts (begins_piece x used step start) from (unsigned_abs (to -ℤ from))

-- cuts are those of these first seconds, of which at most so many are listed: the count is exact,
-- and the list is complete where it is not too long, and else empty
pub record IsCuts (firsts : List ℤ) (most : ℕ) (cuts : Cuts) : Type 0 where
  pub number : cuts.count ≡ length firsts
  pub all : cuts.count ≤ most → cuts.firsts ≡ firsts
  pub none : most < cuts.count → cuts.firsts ≡ []

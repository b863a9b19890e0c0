-- What the rules need of a ranges file: the range of each input key and timer that they read, and
-- moments where they read the clock or a series.
use Rattle.std.specs.Prelude.{Bool, true, false, not, ◌&&◌, if◌then◌else◌, List, [], ◌∷◌}
use Rattle.std.specs.Prelude.{Option, None, Some, is_some, filter}
use Rattle.std.specs.BTreeMap.{is_at}
use Rattle.std.specs.List.{list_any}
use Rattle.std.specs.Map.{lookup}
use Rattle.std.specs.Ordering.{is_lt}
use Rattle.exact_fraction.specs.Number.{Rational}
use Rattle.rule_types.specs.KeyOrder.{key_cmp}
use Rattle.rule_types.specs.Reading.{keys_read, rule_actions}
use Rattle.rule_types.specs.declared.action.What.{What}
use Rattle.rule_types.specs.declared.action.What.TheVariants.{Constant, Curve, Series, Pid}
use Rattle.rule_types.specs.declared.key.Attr.TheVariants.{Setting, Status}
use Rattle.rule_types.specs.declared.key.Key.{Key}
use Rattle.rule_types.specs.declared.key.Key.TheVariants.{Object, Clock}
use Rattle.rule_types.specs.declared.rule.Rule.{Rule}
use Rattle.rule_types.specs.declared.rules.Rules.{Rules}
use Rattle.range_lines.specs.Causes.{FileFault, missing_range, missing_moment}
use Rattle.range_lines.specs.declared.given.Given.{Given}

-- whether a key has a range
abbrev pub is_given : List (Key × (Rational × Rational)) → Key → Bool
is_given ranges key = is_some (lookup (is_at (key_cmp key)) ranges)

-- whether a key that rules read is not given what it needs: a range for each key of an object but
-- SETTING and STATUS, and moments for the clock
abbrev pub is_missing : Given → Key → Bool
is_missing given (Object object Setting) = false
is_missing given (Object object Status) = false
is_missing given (Object object attribute) = not (is_given given.ranges (Object object attribute))
is_missing given (Clock attribute) = not (is_some given.moments)

-- the first key in key order, of those found before and of these
abbrev pub earlier_key : Option Key → Key → Option Key
earlier_key None key = Some key
earlier_key (Some found) key = if is_lt (key_cmp key found) then Some key else Some found

abbrev pub first_from : Option Key → List Key → Option Key
first_from found [] = found
first_from found (key ∷ more) = first_from (earlier_key found key) more

-- the first key in key order that rules read and that is not given what it needs; the clock's keys
-- come last in this order
unfoldable pub first_missing : Rules → Given → Option Key
first_missing x given = first_from None (filter (is_missing given) (keys_read x.names x.rules))

-- whether an action of the rules is a series
abbrev pub is_series : What → Bool
is_series (Constant q) = false
is_series (Curve curve) = false
is_series (Series series) = true
is_series (Pid set number) = false

unfoldable pub has_series : List Rule → Bool
has_series rules =
    list_any (λ rule. list_any (λ action. is_series action.what) (rule_actions rule)) rules

-- the fault of a file: a key has no range, or the clock or a series has no moments
abbrev pub key_fault : Key → FileFault
key_fault (Object object attribute) = missing_range (Object object attribute)
key_fault (Clock attribute) = missing_moment

abbrev pub fault_from : Option Key → Bool → Option FileFault
fault_from (Some key) unread = Some (key_fault key)
fault_from None true = Some missing_moment
fault_from None false = None

unfoldable pub needs_fault : Rules → Given → Option FileFault
needs_fault x given =
    fault_from (first_missing x given) (not (is_some given.moments) && has_series x.rules)

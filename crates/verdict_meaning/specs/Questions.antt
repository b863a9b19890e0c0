-- Which rules, keys and moments a question is about.
use Rattle.std.specs.Prelude.{ℕ, Bool, true, false, ◌&&◌, ◌||◌, ◌==◌, if◌then◌else◌, Option, Some}
use Rattle.std.specs.Prelude.{None, List, [], ◌∷◌, ◌++◌, length, slice_get, filter}
use Rattle.std.specs.declared.cmp.Ordering.{Ordering}
use Rattle.std.specs.declared.cmp.Ordering.TheVariants.{Less, Equal, Greater}
use Rattle.std.specs.List.{list_any, flat_map, range_with_len}
use Rattle.rule_types.specs.declared.action.What.{What}
use Rattle.rule_types.specs.declared.action.What.TheVariants.{Constant, Curve, Series, Pid}
use Rattle.rule_types.specs.declared.key.Attr.TheVariants.{Setting, Status, TimeOpen, TimeClosed}
use Rattle.rule_types.specs.declared.key.Key.{Key}
use Rattle.rule_types.specs.declared.key.Key.TheVariants.{Object, Clock}
use Rattle.rule_types.specs.declared.object.Space.TheVariants.{Links}
use Rattle.rule_types.specs.declared.rule.Rule.{Rule}
use Rattle.rule_types.specs.declared.rules.Rules.{Rules}
use Rattle.rule_types.specs.KeyOrder.{key_cmp}
use Rattle.rule_types.specs.Reading.{keys_read, rule_actions}
use Rattle.rule_meaning.specs.SomeRules.{rule_acts_on, rules_at}
use Rattle.verdict_meaning.specs.declared.question.Question.{Question}
use Rattle.verdict_meaning.specs.declared.question.Question.TheVariants.{Conflict, Dead, Limit}

-- ---- rules

-- whether two rules act on one link
abbrev pub shares_link : Option Rule → Rule → Bool
shares_link None other = false
shares_link (Some rule) other =
    list_any (λ action. rule_acts_on action.link other) (rule_actions rule)

abbrev pub acts_there : ℕ → Option Rule → Bool
acts_there link None = false
acts_there link (Some rule) = rule_acts_on link rule

abbrev pub share_link : Option Rule → Option Rule → Bool
share_link rule None = false
share_link rule (Some other) = shares_link rule other

-- whether a rule is the question's: the two rules of a conflict; for a dead rule itself and every
-- rule that acts on a link on which it acts; for a limit every rule that acts on the link
unfoldable pub is_asked : Rules → Question → ℕ → Bool
is_asked x (Conflict r s link) number = number == r || number == s
is_asked x (Dead r) number =
    number == r || share_link (slice_get x.rules r) (slice_get x.rules number)
is_asked x (Limit link lo hi) number = acts_there link (slice_get x.rules number)

-- the numbers of all rules, and of the question's rules
abbrev pub all_numbers : Rules → List ℕ
all_numbers x = range_with_len 0 (length x.rules)

unfoldable pub asked_numbers : Rules → Question → List ℕ
asked_numbers x question = filter (is_asked x question) (all_numbers x)

abbrev pub asked_rules : Rules → Question → List Rule
asked_rules x question = rules_at x.rules (asked_numbers x question)

-- ---- keys

-- the grid's keys for a key of a condition: SETTING in place of STATUS, SETTING beside a timer, and
-- none for the clock
abbrev pub grid_keys_of : Key → List Key
grid_keys_of (Object object Status) = Object object Setting ∷ []
grid_keys_of (Object object TimeOpen) = Object object Setting ∷ Object object TimeOpen ∷ []
grid_keys_of (Object object TimeClosed) = Object object Setting ∷ Object object TimeClosed ∷ []
grid_keys_of (Object object attribute) = Object object attribute ∷ []
grid_keys_of (Clock attribute) = []

-- the SETTING of a link
abbrev pub setting_key : ℕ → Key
setting_key link = Object (record { space = Links; index = link }) Setting

-- the SETTING of a limit's link
abbrev pub limit_keys : Question → List Key
limit_keys (Conflict r s link) = []
limit_keys (Dead r) = []
limit_keys (Limit link lo hi) = setting_key link ∷ []

-- a key among keys in key order, once
abbrev pub placed_by : Ordering → Key → Key → List Key → List Key → List Key
placed_by Less key next more later = key ∷ next ∷ more
placed_by Equal key next more later = next ∷ more
placed_by Greater key next more later = next ∷ later

unfoldable pub with_key : Key → List Key → List Key
with_key key [] = key ∷ []
with_key key (next ∷ more) = placed_by (key_cmp key next) key next more (with_key key more)

unfoldable pub in_key_order : List Key → List Key
in_key_order [] = []
in_key_order (key ∷ more) = with_key key (in_key_order more)

-- the keys of the question's grid: those that the conditions of its rules read, by themselves or
-- through a name
unfoldable pub grid_keys : Rules → Question → List Key
grid_keys x question =
    in_key_order
    (flat_map grid_keys_of (keys_read x.names (asked_rules x question)) ++ limit_keys question)

-- ---- moments

abbrev pub is_clock : Key → Bool
is_clock (Object object attribute) = false
is_clock (Clock attribute) = true

abbrev pub is_series : What → Bool
is_series (Constant q) = false
is_series (Curve curve) = false
is_series (Series series) = true
is_series (Pid set number) = false

-- whether the question's grid has moments: its rules read the clock or have a series
unfoldable pub has_moments : Rules → Question → Bool
has_moments x question =
    list_any is_clock (keys_read x.names (asked_rules x question))
    || list_any (λ rule. list_any (λ action. is_series action.what) (rule_actions rule))
    (asked_rules x question)

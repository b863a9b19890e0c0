-- Which rules are well formed.
use Rattle.std.specs.Prelude.{◌≡◌, ℕ, ◌+◌, ◌%◌, ◌^◌, ◌<◌, ◌≤◌, Bool, true, false, ◌&&◌, ◌||◌, ◌==◌}
use Rattle.std.specs.Prelude.{nat_lt, IsTrue, pos, Some, List, [], ◌∷◌, length, slice_get}
use Rattle.std.specs.Prelude.{slice_index, All, Contains}
use Rattle.std.specs.Prelude.{EachIndex}
use Rattle.std.specs.List.{AllZip}
use Rattle.std.specs.List.Sorted.{IsStrictlyIncreasing}
use Rattle.exact_fraction.specs.Number.{Rational, den, zero, one, whole}
use Rattle.exact_fraction.specs.Order.{◌≤ℚ◌, ◌<ℚ◌, less}
use Rattle.exact_fraction.specs.declared.relation.Relation.{Relation}
use Rattle.exact_fraction.specs.declared.relation.Relation.TheVariants.{Eq, Ne}
use Rattle.rule_types.specs.declared.condition.Condition.{Condition}
use Rattle.rule_types.specs.declared.condition.Side.{Side}
use Rattle.rule_types.specs.declared.condition.Side.TheVariants as side
use Rattle.rule_types.specs.declared.condition.Right.{Right}
use Rattle.rule_types.specs.declared.condition.Right.TheVariants as right
use Rattle.rule_types.specs.declared.action.What.{What}
use Rattle.rule_types.specs.declared.action.What.TheVariants.{Constant, Curve, Series, Pid}
use Rattle.rule_types.specs.declared.rule.Rule.{Rule}
use Rattle.rule_types.specs.declared.expr.Expr.{Expr}
use Rattle.rule_types.specs.declared.names.NameDef.{NameDef}
use Rattle.rule_types.specs.declared.names.NameKind.{NameKind}
use Rattle.rule_types.specs.declared.names.NameKind.TheVariants.{Variable, Formula}
use Rattle.rule_types.specs.declared.rules.Rules.{Rules}
use Rattle.rule_types.specs.Formulas.{levels, names_pass, has_small_exponents}
use Rattle.rule_types.specs.KeyOrder.{IsInKeyOrder}
use Rattle.rule_types.specs.Keys.{is_key, is_input, is_time}
use Rattle.rule_types.specs.Reading.{is_variable, keys_read, links_read, links_acted, pid_numbers}

-- a multiple of 10^-9: in lowest terms the denominator divides 10^9
pub record IsMultipleOfBillionth (q : Rational) : Type 0 where
  pub divides : 1000000000 % den q ≡ 0

-- a time value in hours: at least 0, at most 1,000,000, a multiple of 10^-9 of an hour or whole
-- seconds
pub record IsTimeValue (q : Rational) : Type 0 where
  pub least : zero ≤ℚ q
  pub most : q ≤ℚ whole (pos 1000000)
  pub exact : IsTrue (1000000000 % den q == 0 || 3600 % den q == 0)

-- a routing step in seconds: a multiple of 10^-9, above 0 and at most a day
pub record IsRoutingStep (q : Rational) : Type 0 where
  pub positive : zero <ℚ q
  pub most : q ≤ℚ whole (pos 86400)
  pub exact : IsMultipleOfBillionth q

-- the hours that a link takes to open or close fully: a multiple of 10^-9 from 0 to 1,000,000
pub record IsRate (q : Rational) : Type 0 where
  pub least : zero ≤ℚ q
  pub most : q ≤ℚ whole (pos 1000000)
  pub exact : IsMultipleOfBillionth q

-- whether a link has a rate: it takes time to move
abbrev pub has_rate : Rational → Bool
has_rate rate = less zero rate

-- whether the relation is `=` or `<>`
abbrev pub is_equality : Relation → Bool
is_equality Eq = true
is_equality Ne = true
is_equality other = false

-- whether the left side is TIME, CLOCKTIME or a timer
abbrev pub is_time_side : Side → Bool
is_time_side (side.Key key) = is_time key
is_time_side (side.Expr name) = false

-- whether conditions of this left side and this relation are read within half a step where the
-- right side is a time value
abbrev pub takes_half_step : Side → Relation → Bool
takes_half_step left relation = is_time_side left && is_equality relation

-- the right side is a time value
abbrev pub IsTimeRight : Right → Type 0
IsTimeRight (right.Key key) = ⊥
IsTimeRight (right.Value q) = IsTimeValue q

-- a half-step condition asks whether a time is, or is not, a time value
pub record IsHalfStep (c : Condition) : Type 0 where
  pub equality : IsTrue (is_equality c.rel)
  pub time : IsTrue (is_time_side c.left)
  pub value : IsTimeRight c.right

-- the left side is a key that its object can have, or the place of a name: an expression or a
-- variable
abbrev pub SideFits : List NameDef → Side → Type 0
SideFits names (side.Key key) = IsTrue (is_key key)
SideFits names (side.Expr name) = name < length names

-- the right side is a key that its object can have, or a number
abbrev pub RightFits : Right → Type 0
RightFits (right.Key key) = IsTrue (is_key key)
RightFits (right.Value q) = Unit {0}

-- a condition by itself, over these names
pub record ConditionFits (names : List NameDef) (c : Condition) : Type 0 where
  pub left : SideFits names c.left
  pub right : RightFits c.right
  pub half_step : IsTrue c.half_step → IsHalfStep c

-- a constant is at least 0
abbrev pub WhatFits : What → Type 0
WhatFits (Constant q) = zero ≤ℚ q
WhatFits (Curve number) = Unit {0}
WhatFits (Series number) = Unit {0}
WhatFits (Pid set number) = Unit {0}

-- the first condition is joined by AND
abbrev pub IsOpened : List Condition → Type 0
IsOpened [] = ⊥
IsOpened (c ∷ more) = IsTrue c.joined_by_and

-- a list is short enough for its places to be counted in 32 bits
abbrev pub IsCountable : {A : Type 0} → List A → Type 0
IsCountable xs = length xs < 2 ^ 32

-- a rule by itself, over these names: it has conditions, the first joined by AND, and actions
pub record RuleFits (names : List NameDef) (rule : Rule) : Type 0 where
  pub opened : IsOpened rule.conditions
  pub acting : 0 < length rule.then_actions + length rule.else_actions
  pub conditions : All (ConditionFits names) rule.conditions
  pub then_values : All (λ action. WhatFits action.what) rule.then_actions
  pub else_values : All (λ action. WhatFits action.what) rule.else_actions
  pub conditions_counted : IsCountable rule.conditions
  pub then_counted : IsCountable rule.then_actions
  pub else_counted : IsCountable rule.else_actions

-- The lists of rules are complete: the input keys have each key of the trace that a condition or a
-- used name reads, the tracked links each link whose setting, status or timer is read, the
-- controlled links each link that an action acts on, and the tracked links all controlled ones.
pub record CompleteLists (x : Rules) : Type 0 where
  pub inputs :
      All (λ key. IsTrue (is_input key) → Contains x.input_keys key) (keys_read x.names x.rules)
  pub read_links : All (Contains x.tracked) (links_read x.names x.rules)
  pub acted_links : All (Contains x.controlled) (links_acted x.rules)
  pub controlled : All (Contains x.tracked) x.controlled

-- this word, as those below that are `unfoldable`, is closed to tactics, which then pass it on as
-- it stands
unfoldable pub HasCompleteLists : Rules → Type 0
HasCompleteLists x = CompleteLists x

-- whether a name is a variable that is declared before place `at`
abbrev pub is_variable_before : List NameDef → ℕ → ℕ → Bool
is_variable_before names at name = nat_lt name at && is_variable (slice_get names name)

-- a formula at place `at` among the names: at most 64 levels, exponents of at most 8, earlier
-- variables
pub record FormulaFits (names : List NameDef) (at : ℕ) (formula : Expr) : Type 0 where
  pub shallow : levels formula ≤ 64
  pub exponents : IsTrue (has_small_exponents formula)
  pub variables : IsTrue (names_pass (is_variable_before names at) formula)

-- what the name at place `at` stands for
abbrev pub KindFits : List NameDef → ℕ → NameKind → Type 0
KindFits names at (Variable key) = IsTrue (is_key key)
KindFits names at (Formula formula) = FormulaFits names at formula

-- each name among the names
abbrev pub NamesFit : List NameDef → Type 0
NamesFit names =
    (at : ℕ) (named : NameDef) → slice_get names at ≡ Some named
    → KindFits names at named.stands_for

-- The input keys stand in key order, the tracked and the controlled links in link order, all
-- without repeats.
pub record Orders (x : Rules) : Type 0 where
  pub input_keys : IsInKeyOrder x.input_keys
  pub tracked : IsStrictlyIncreasing x.tracked
  pub controlled : IsStrictlyIncreasing x.controlled

unfoldable pub InOrder : Rules → Type 0
InOrder x = Orders x

-- the PID actions are numbered from 0 in the order of rules and of actions
unfoldable pub PidsNumbered : List Rule → Type 0
PidsNumbered rules = EachIndex (pid_numbers rules) (λ k. slice_index (pid_numbers rules) k ≡ k)

-- the initial settings are at least 0, and at most 1 where a link takes time to move; the times are
-- in their bounds
pub record Times (x : Rules) : Type 0 where
  pub initial : All (λ setting. zero ≤ℚ setting) x.initial
  pub rates : All IsRate x.rates
  pub rated : AllZip (λ rate setting. IsTrue (has_rate rate) → setting ≤ℚ one) x.rates x.initial
  pub routing_step : IsRoutingStep x.routing_step

unfoldable pub InBounds : Rules → Type 0
InBounds x = Times x

-- Rules that every call which takes rules asks for.
pub record WellFormed (x : Rules) : Type 0 where
  pub rules : All (RuleFits x.names) x.rules
  pub names : NamesFit x.names
  -- an input key is a key that its object can have
  pub inputs : All (λ key. IsTrue (is_key key)) x.input_keys
  pub lists : HasCompleteLists x
  pub orders : InOrder x
  pub pids : PidsNumbered x.rules
  -- one entry a link
  pub pumps : length x.pumps ≡ length x.controlled
  pub initial : length x.initial ≡ length x.tracked
  pub rates : length x.rates ≡ length x.tracked
  pub bounds : InBounds x
  -- sizes
  pub rules_counted : IsCountable x.rules
  pub names_counted : IsCountable x.names
  pub inputs_counted : IsCountable x.input_keys
  pub tracked_counted : IsCountable x.tracked
  pub controlled_counted : IsCountable x.controlled

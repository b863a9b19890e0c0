-- What well formed rules cannot have.
use Rattle.std.proofs.Common.{◌≡◌, ℕ, suc, zero, ◌≤◌, ◌^◌, [], ◌∷◌, All, true, false, pos, refl}
use Rattle.std.proofs.Common.{sym, subst, ◌∙◌, arith}
use Rattle.std.specs.Prelude.{IsTrue, Contains, Bool, replicate}
use Rattle.std.specs.List.{range_with_len}
use Rattle.std.specs.declared.cmp.Ordering.TheVariants.{Less, Equal, Greater}
use Rattle.std.proofs.lemmas.Int.{ints}
use Rattle.std.proofs.lemmas.List.{length-replicate}
use Rattle.std.proofs.lemmas.List.FromFn.{length-range_with_len, length-map-range_with_len}
use Rattle.exact_fraction.specs.Number.{den, whole, one}
use Rattle.exact_fraction.specs.Number.{zero as nothing}
use Rattle.exact_fraction.specs.Order.{◌≤ℚ◌, ◌<ℚ◌}
use Rattle.exact_fraction.specs.declared.relation.Relation.{Relation}
use Rattle.exact_fraction.specs.declared.relation.Relation.TheVariants.{Eq, Gt, Ne}
use Rattle.rule_types.specs.declared.condition.Condition.{Condition}
use Rattle.rule_types.specs.declared.condition.Side.TheVariants as side
use Rattle.rule_types.specs.declared.condition.Right.{Right}
use Rattle.rule_types.specs.declared.condition.Right.TheVariants as right
use Rattle.rule_types.specs.declared.key.Attr.TheVariants.{Depth, Head, Flow, Setting, Status}
use Rattle.rule_types.specs.declared.key.Attr.TheVariants.{TimeOpen, TimeClosed}
use Rattle.rule_types.specs.declared.key.ClockAttr.TheVariants.{Time, Date, ClockTime}
use Rattle.rule_types.specs.declared.key.Key.{Key}
use Rattle.rule_types.specs.declared.key.Key.TheVariants.{Object, Clock}
use Rattle.rule_types.specs.declared.object.Space.TheVariants.{Nodes}
use Rattle.rule_types.specs.declared.rules.Rules.{Rules}
use Rattle.rule_types.specs.declared.expr.Expr.{Expr}
use Rattle.rule_types.specs.declared.expr.Expr.TheFolds.{fold-roll-Expr}
use Rattle.rule_types.specs.Examples.{well_depth, well, above, if_deep, set_pump}
use Rattle.rule_types.specs.Formulas.{has_small_exponents, names_pass}
use Rattle.rule_types.specs.Keys.{is_input}
use Rattle.rule_types.specs.Reading.{keys_read, pid_numbers}
use Rattle.rule_types.specs.RuleCases.{small_rule, small_rules, with_rules, with_rule}
use Rattle.rule_types.specs.RuleCases.{with_condition, with_actions, with_names}
use Rattle.rule_types.specs.RuleCases.{with_inputs, with_links, with_times, with_pids, minus_one}
use Rattle.rule_types.specs.RuleCases.{two, seventh, if_left, if_right}
use Rattle.rule_types.specs.RuleCases.{if_half_step, node_key, link_key, variable_of, expression_of}
use Rattle.rule_types.specs.RuleCases.{name_formula, power_formula}
use Rattle.rule_types.specs.RuleCases.{signs, depths}
use Rattle.rule_types.specs.WellFormed.{WellFormed, ConditionFits, FormulaFits, IsHalfStep}
use Rattle.rule_types.specs.WellFormed.{is_variable_before}
use Rattle.rule_types.proofs.Opened.{orders_of, times_of, lists_of, numbers_of}
use Rattle.rule_types.proofs.RuleCases.{signs_levels, one_has}

-- numbers that are not in bounds
not_negative : ¬ (nothing ≤ℚ minus_one)
unfolding whole den
not_negative h = absurd (omega (arith, ints, h.le))

not_below : ¬ (two ≤ℚ one)
unfolding whole den
not_below h = absurd (omega (arith, ints, h.le))

not_small : ¬ (whole (pos 1000001) ≤ℚ whole (pos 1000000))
unfolding whole den
not_small h = absurd (omega (arith, ints, h.le))

not_in_day : ¬ (whole (pos 86401) ≤ℚ whole (pos 86400))
unfolding whole den
not_in_day h = absurd (omega (arith, ints, h.le))

not_above : ¬ (nothing <ℚ nothing)
unfolding whole den
not_above h = absurd (omega (arith, ints, h.lt))

-- the parts of one rule
condition_of : (c : Condition) → WellFormed (with_condition c) → ConditionFits small_rules.names c
condition_of c h = (h.rules 0 small_rule (omega arith)).conditions 0 c (omega arith)

half_step_of : (key : Key) (relation : Relation) (value : Right) → WellFormed (with_condition (if_half_step key relation value))
    → IsHalfStep (if_half_step key relation value)
half_step_of key relation value h = (condition_of (if_half_step key relation value) h).half_step refl

-- conditions and actions
pub no_condition : ¬ WellFormed (with_rule (record small_rule { conditions = [] }))
no_condition h = (h.rules 0 small_rule (omega arith)).opened

pub begins_with_or : ¬ WellFormed (with_condition (record if_deep { joined_by_and = false }))
begins_with_or h = let is : false ≡ true = (h.rules 0 small_rule (omega arith)).opened in cc

pub no_action : ¬ WellFormed (with_actions [] [])
no_action h = absurd (omega (arith, (h.rules 0 small_rule (omega arith)).acting))

pub left_attribute : ¬ WellFormed (with_condition (if_left (side.Key (node_key Setting))))
left_attribute h = let is : false ≡ true = (condition_of (if_left (side.Key (node_key Setting))) h).left in cc

pub left_name : ¬ WellFormed (with_condition (if_left (side.Expr 2)))
left_name h = absurd (omega (arith, (condition_of (if_left (side.Expr 2)) h).left))

pub right_attribute : ¬ WellFormed (with_condition (if_right (right.Key (node_key Setting))))
right_attribute h = let is : false ≡ true = (condition_of (if_right (right.Key (node_key Setting))) h).right in cc

pub negative_then : ¬ WellFormed (with_actions (set_pump minus_one ∷ []) [])
negative_then h = not_negative ((h.rules 0 small_rule (omega arith)).then_values 0 (set_pump one) (omega arith))

pub negative_else : ¬ WellFormed (with_actions [] (set_pump minus_one ∷ []))
negative_else h = not_negative ((h.rules 0 small_rule (omega arith)).else_values 0 (set_pump one) (omega arith))

-- half steps
pub half_step_above : ¬ WellFormed (with_condition (if_half_step (Clock Time) Gt (right.Value one)))
half_step_above h = let is : false ≡ true = (half_step_of (Clock Time) Gt (right.Value one) h).equality in cc

pub half_step_date : ¬ WellFormed (with_condition (if_half_step (Clock Date) Eq (right.Value one)))
half_step_date h = let is : false ≡ true = (half_step_of (Clock Date) Eq (right.Value one) h).time in cc

pub half_step_key : ¬ WellFormed (with_condition (if_half_step (Clock Time) Eq (right.Key (Clock ClockTime))))
half_step_key h = (half_step_of (Clock Time) Eq (right.Key (Clock ClockTime)) h).value

pub half_step_part : ¬ WellFormed (with_condition (if_half_step (Clock Time) Eq (right.Value seventh)))
unfolding den
half_step_part h =
    let is : false ≡ true = (half_step_of (Clock Time) Eq (right.Value seventh) h).value.exact in cc

pub half_step_negative : ¬ WellFormed (with_condition (if_half_step (Clock Time) Ne (right.Value minus_one)))
half_step_negative h = not_negative (half_step_of (Clock Time) Ne (right.Value minus_one) h).value.least

pub half_step_large : ¬ WellFormed (with_condition (if_half_step (Clock Time) Ne (right.Value (whole (pos 1000001)))))
half_step_large h = not_small (half_step_of (Clock Time) Ne (right.Value (whole (pos 1000001))) h).value.most

-- sizes
pub many_rules : (count : ℕ) → 2 ^ 32 ≤ count → ¬ WellFormed (with_rules (replicate count small_rule))
many_rules count large h = absurd (omega (arith, h.rules_counted, length-replicate count small_rule))

pub many_conditions : (count : ℕ) → 2 ^ 32 ≤ count
    → ¬ WellFormed (with_rule (record small_rule { conditions = replicate count if_deep }))
many_conditions count large h =
    let rule = h.rules 0 small_rule (omega arith) in
    absurd (omega (arith, rule.conditions_counted, length-replicate count if_deep))

pub many_then : (count : ℕ) → 2 ^ 32 ≤ count → ¬ WellFormed (with_actions (replicate count (set_pump one)) [])
many_then count large h =
    let rule = h.rules 0 small_rule (omega arith) in
    absurd (omega (arith, rule.then_counted, length-replicate count (set_pump one)))

pub many_else : (count : ℕ) → 2 ^ 32 ≤ count → ¬ WellFormed (with_actions [] (replicate count (set_pump one)))
many_else count large h =
    let rule = h.rules 0 small_rule (omega arith) in
    absurd (omega (arith, rule.else_counted, length-replicate count (set_pump one)))

pub many_names : (count : ℕ) → 2 ^ 32 ≤ count → ¬ WellFormed (with_names (replicate count well))
many_names count large h = absurd (omega (arith, h.names_counted, length-replicate count well))

pub many_inputs : (count : ℕ) → 2 ^ 32 ≤ count → ¬ WellFormed (with_inputs (depths count))
many_inputs count large h =
    absurd (omega (arith, h.inputs_counted, length-map-range_with_len node_depth 0 count))
  where
    node_depth : ℕ → Key
    node_depth node = Object (record { space = Nodes; index = node }) Depth

pub many_tracked : (count : ℕ) → 2 ^ 32 ≤ count → ¬ WellFormed (with_links (range_with_len 0 count) (0 ∷ []))
many_tracked count large h = absurd (omega (arith, h.tracked_counted, length-range_with_len 0 count))

pub many_controlled : (count : ℕ) → 2 ^ 32 ≤ count
    → ¬ WellFormed (with_links (range_with_len 0 count) (range_with_len 0 count))
many_controlled count large h = absurd (omega (arith, h.controlled_counted, length-range_with_len 0 count))

-- names
formula_of : (formula : Expr) → WellFormed (with_names (well ∷ expression_of formula ∷ []))
    → FormulaFits (well ∷ expression_of formula ∷ []) 1 formula
formula_of formula h = h.names 1 (expression_of formula) refl

pub attribute : ¬ WellFormed (with_names (variable_of (node_key Setting) ∷ []))
attribute h = let is : false ≡ true = h.names 0 (variable_of (node_key Setting)) refl in cc

pub deep_formula : ¬ WellFormed (with_names (well ∷ expression_of (signs 64) ∷ []))
deep_formula h = absurd (omega (arith, (formula_of (signs 64) h).shallow, signs_levels 64))

large : has_small_exponents (power_formula 9) ≡ false
large = simp fold-roll-Expr refl

pub large_exponent : ¬ WellFormed (with_names (well ∷ expression_of (power_formula 9) ∷ []))
large_exponent h = let is : true ≡ false = sym (formula_of (power_formula 9) h).exponents ∙ large in cc

-- a formula of one name passes a test where the name does
one_name : (passes : ℕ → Bool) (name : ℕ) → IsTrue (names_pass passes (name_formula name)) → IsTrue (passes name)
one_name passes name h = let is : names_pass passes (name_formula name) ≡ passes name = simp fold-roll-Expr refl in cc

pub later_variable : ¬ WellFormed (with_names (expression_of (name_formula 1) ∷ well ∷ []))
later_variable h =
    let names = expression_of (name_formula 1) ∷ well ∷ [] in
    let formula : FormulaFits names 0 (name_formula 1) = h.names 0 (expression_of (name_formula 1)) refl in
    let is : false ≡ true = one_name (is_variable_before names 0) 1 formula.variables in cc

pub own_name : ¬ WellFormed (with_names (well ∷ expression_of (name_formula 1) ∷ []))
own_name h =
    let names = well ∷ expression_of (name_formula 1) ∷ [] in
    let is : false ≡ true = one_name (is_variable_before names 1) 1 (formula_of (name_formula 1) h).variables in cc

pub no_variable : ¬ WellFormed (with_names (well ∷ above ∷ expression_of (name_formula 1) ∷ []))
no_variable h =
    let names = well ∷ above ∷ expression_of (name_formula 1) ∷ [] in
    let formula : FormulaFits names 2 (name_formula 1) = h.names 2 (expression_of (name_formula 1)) refl in
    let is : false ≡ true = one_name (is_variable_before names 2) 1 formula.variables in cc

pub no_name : ¬ WellFormed (with_names (well ∷ expression_of (name_formula 2) ∷ []))
no_name h =
    let names = well ∷ expression_of (name_formula 2) ∷ [] in
    let is : false ≡ true = one_name (is_variable_before names 1) 2 (formula_of (name_formula 2) h).variables in cc

-- lists
in_none : {A : Type 0} (x : A) → ¬ Contains [] x
in_none x h = absurd (omega (arith, h.1))

in_one : {A : Type 0} (x y : A) → Contains (x ∷ []) y → x ≡ y
in_one x y (zero, lt, e) = e
in_one x y (suc k, lt, e) = absurd (omega (arith, lt))

pub unlisted_left : ¬ WellFormed (with_inputs [])
unlisted_left h =
    in_none well_depth ((lists_of (with_inputs []) h.lists).inputs 0 well_depth (omega arith) refl)

not_head : ¬ Contains (well_depth ∷ []) (node_key Head)
not_head h = let is = in_one well_depth (node_key Head) h in cc

pub unlisted_right : ¬ WellFormed (with_condition (if_right (right.Key (node_key Head))))
unlisted_right h =
    let lists = lists_of (with_condition (if_right (right.Key (node_key Head)))) h.lists in
    not_head (lists.inputs 1 well_depth (omega arith) refl)

abbrev over_variable : Rules
over_variable = record (with_condition (if_left (side.Expr 0))) { names = variable_of (node_key Head) ∷ [] }

pub unlisted_variable : ¬ WellFormed over_variable
unlisted_variable h = not_head ((lists_of over_variable h.lists).inputs 0 well_depth (omega arith) refl)

abbrev over_expression : Rules
over_expression = record (with_condition (if_left (side.Expr 1))) {
  names = variable_of (node_key Head) ∷ expression_of (name_formula 0) ∷ [];
}

expression_reads : keys_read over_expression.names over_expression.rules ≡ node_key Head ∷ []
expression_reads = simp fold-roll-Expr refl

pub unlisted_expression : ¬ WellFormed over_expression
unlisted_expression h =
    let lists = lists_of over_expression h.lists in
    let inputs = subst (All (λ key. IsTrue (is_input key) → Contains (well_depth ∷ []) key)) expression_reads lists.inputs in
    not_head (inputs 0 well_depth (omega arith) refl)

not_tracked : ¬ Contains {X = ℕ} (0 ∷ []) 3
not_tracked h = let is = in_one 0 3 h in absurd (omega (arith, is))

pub untracked_setting : ¬ WellFormed (with_condition (if_left (side.Key (link_key Setting))))
untracked_setting h =
    let lists = lists_of (with_condition (if_left (side.Key (link_key Setting)))) h.lists in
    not_tracked (lists.read_links 0 0 (omega arith))

pub untracked_status : ¬ WellFormed (with_condition (if_left (side.Key (link_key Status))))
untracked_status h =
    let lists = lists_of (with_condition (if_left (side.Key (link_key Status)))) h.lists in
    not_tracked (lists.read_links 0 0 (omega arith))

pub untracked_open : ¬ WellFormed (with_condition (if_left (side.Key (link_key TimeOpen))))
untracked_open h =
    let lists = lists_of (with_condition (if_left (side.Key (link_key TimeOpen)))) h.lists in
    not_tracked (lists.read_links 0 0 (omega arith))

pub untracked_closed : ¬ WellFormed (with_condition (if_left (side.Key (link_key TimeClosed))))
untracked_closed h =
    let lists = lists_of (with_condition (if_left (side.Key (link_key TimeClosed)))) h.lists in
    not_tracked (lists.read_links 0 0 (omega arith))

pub not_controlled : ¬ WellFormed (with_links (0 ∷ 2 ∷ []) (2 ∷ []))
not_controlled h =
    let lists = lists_of (with_links (0 ∷ 2 ∷ []) (2 ∷ [])) h.lists in
    let is = in_one 2 0 (lists.acted_links 0 0 (omega arith)) in absurd (omega (arith, is))

pub controlled_untracked : ¬ WellFormed (with_links (0 ∷ []) (0 ∷ 2 ∷ []))
controlled_untracked h =
    let lists = lists_of (with_links (0 ∷ []) (0 ∷ 2 ∷ [])) h.lists in
    let is = in_one 0 2 (lists.controlled 1 0 (omega arith)) in absurd (omega (arith, is))

pub input_attribute : ¬ WellFormed (with_inputs (node_key Flow ∷ well_depth ∷ []))
input_attribute h = let is : false ≡ true = h.inputs 0 well_depth (omega arith) in cc

pub inputs_fall : ¬ WellFormed (with_inputs (node_key Head ∷ well_depth ∷ []))
inputs_fall h =
    let orders = orders_of (with_inputs (node_key Head ∷ well_depth ∷ [])) h.orders in
    let is : Greater ≡ Less = orders.input_keys 0 well_depth (omega arith) in cc

pub input_twice : ¬ WellFormed (with_inputs (well_depth ∷ well_depth ∷ []))
input_twice h =
    let orders = orders_of (with_inputs (well_depth ∷ well_depth ∷ [])) h.orders in
    let is : Equal ≡ Less = orders.input_keys 0 well_depth (omega arith) in cc

pub tracked_fall : ¬ WellFormed (with_links (2 ∷ 0 ∷ []) (0 ∷ []))
tracked_fall h = let orders = orders_of (with_links (2 ∷ 0 ∷ []) (0 ∷ [])) h.orders in absurd (omega (arith, orders.tracked 0 (omega arith)))

pub tracked_twice : ¬ WellFormed (with_links (0 ∷ 0 ∷ []) (0 ∷ []))
tracked_twice h = let orders = orders_of (with_links (0 ∷ 0 ∷ []) (0 ∷ [])) h.orders in absurd (omega (arith, orders.tracked 0 (omega arith)))

pub controlled_fall : ¬ WellFormed (with_links (0 ∷ 2 ∷ []) (2 ∷ 0 ∷ []))
controlled_fall h = let orders = orders_of (with_links (0 ∷ 2 ∷ []) (2 ∷ 0 ∷ [])) h.orders in absurd (omega (arith, orders.controlled 0 (omega arith)))

pub controlled_twice : ¬ WellFormed (with_links (0 ∷ 2 ∷ []) (0 ∷ 0 ∷ []))
controlled_twice h = let orders = orders_of (with_links (0 ∷ 2 ∷ []) (0 ∷ 0 ∷ [])) h.orders in absurd (omega (arith, orders.controlled 0 (omega arith)))

pub no_pumps : ¬ WellFormed (record small_rules { pumps = [] })
no_pumps h = absurd (omega (arith, h.pumps))

pub no_initial : ¬ WellFormed (record small_rules { initial = [] })
no_initial h = absurd (omega (arith, h.initial))

pub no_rates : ¬ WellFormed (record small_rules { rates = [] })
no_rates h = absurd (omega (arith, h.rates))

-- PID actions
pid_places : (first second : ℕ) → WellFormed (with_pids first second) → (first ≡ 0) × (second ≡ 1)
unfolding pid_numbers
pid_places first second h =
    let at = numbers_of (with_pids first second).rules h.pids in (at 0 (omega arith), at 1 (omega arith))

pub pids_from_one : ¬ WellFormed (with_pids 1 2)
pids_from_one h = let is = pid_places 1 2 h in absurd (omega (arith, is.0))

pub pids_turned : ¬ WellFormed (with_pids 1 0)
pids_turned h = let is = pid_places 1 0 h in absurd (omega (arith, is.0))

pub pids_alike : ¬ WellFormed (with_pids 0 0)
pids_alike h = let is = pid_places 0 0 h in absurd (omega (arith, is.1))

-- settings and times
pub negative_setting : ¬ WellFormed (with_times nothing minus_one one)
negative_setting h = not_negative ((times_of (with_times nothing minus_one one) h.bounds).initial 0 one (omega arith))

pub moving_past_one : ¬ WellFormed (with_times one two one)
moving_past_one h = not_below ((times_of (with_times one two one) h.bounds).rated.0 one_has)

pub negative_rate : ¬ WellFormed (with_times minus_one one one)
negative_rate h = not_negative ((times_of (with_times minus_one one one) h.bounds).rates 0 one (omega arith)).least

pub large_rate : ¬ WellFormed (with_times (whole (pos 1000001)) one one)
large_rate h = not_small ((times_of (with_times (whole (pos 1000001)) one one) h.bounds).rates 0 one (omega arith)).most

pub part_rate : ¬ WellFormed (with_times seventh one one)
unfolding den
part_rate h =
    absurd (omega (arith, ((times_of (with_times seventh one one) h.bounds).rates 0 one (omega arith)).exact.divides))

pub no_step : ¬ WellFormed (with_times nothing one nothing)
no_step h = not_above (times_of (with_times nothing one nothing) h.bounds).routing_step.positive

pub large_step : ¬ WellFormed (with_times nothing one (whole (pos 86401)))
large_step h = not_in_day (times_of (with_times nothing one (whole (pos 86401))) h.bounds).routing_step.most

pub part_step : ¬ WellFormed (with_times nothing one seventh)
unfolding den
part_step h =
    absurd (omega (arith, (times_of (with_times nothing one seventh) h.bounds).routing_step.exact.divides))

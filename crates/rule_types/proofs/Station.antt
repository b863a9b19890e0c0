-- The rules of the station are well formed, and the states, memories and tables fit them or do not.
use Rattle.std.proofs.Common.{◌≡◌, ℕ, suc, zero, List, [], ◌∷◌, Some, None, All, false, pos, inl}
use Rattle.std.proofs.Common.{refl, ap, subst, sym, rules, arith}
use Rattle.std.proofs.Common.{inr}
use Rattle.std.specs.Prelude.{IsTrue, Contains}
use Rattle.std.specs.List.{AllAdjacentBelow, flat_map}
use Rattle.std.specs.List.Sorted.{IsStrictlyIncreasing}
use Rattle.std.proofs.lemmas.List.Elements.{All-from_recursion}
use Rattle.exact_fraction.specs.Number.{Rational, den, ratio, whole, one, gcd, cancelled}
use Rattle.exact_fraction.specs.Number.{last_remainder}
use Rattle.exact_fraction.specs.Number.{zero as nothing}
use Rattle.exact_fraction.specs.Order.{◌≤ℚ◌, ◌<ℚ◌, less}
use Rattle.rule_types.specs.declared.action.Action.{Action}
use Rattle.rule_types.specs.declared.condition.Condition.{Condition}
use Rattle.rule_types.specs.declared.key.Key.{Key}
use Rattle.rule_types.specs.declared.key.ClockAttr.TheVariants.{ClockTime}
use Rattle.rule_types.specs.declared.key.Key.TheVariants.{Clock}
use Rattle.rule_types.specs.declared.names.NameDef.{NameDef}
use Rattle.rule_types.specs.declared.rule.Rule.{Rule}
use Rattle.rule_types.specs.declared.expr.Expr.TheFolds.{fold-roll-Expr}
use Rattle.rule_types.specs.Examples.{well_depth, pump_status, main_flow, gate_open, recent_rain}
use Rattle.rule_types.specs.Examples.{well, above, rain, above_formula, station_names}
use Rattle.rule_types.specs.Examples.{if_deep, if_above, if_six, if_flowing, if_rainy, if_on}
use Rattle.rule_types.specs.Examples.{if_open, named_rule, held_rule, rainy_rule}
use Rattle.rule_types.specs.Examples.{station_rules, state_with, fresh_memory, rising_points}
use Rattle.rule_types.specs.Examples.{falling_points, open_point, tables_with, by_curve}
use Rattle.rule_types.specs.Fitting.{FitsRules, MemoriesFit, LinkFits, IsStep, IsRowStep}
use Rattle.rule_types.specs.Examples.{closed_pump, closing_orifice, fitting_state, orifice_at}
use Rattle.rule_types.specs.RuleCases.{minus_one, seventh}
use Rattle.std.proofs.lemmas.Int.{ints}
use Rattle.rule_types.specs.Formulas.{levels}
use Rattle.rule_types.specs.KeyOrder.{IsInKeyOrder}
use Rattle.rule_types.specs.Keys.{is_key, is_input, link_read}
use Rattle.rule_types.specs.Reading.{keys_read, links_read, rule_actions, pid_numbers, pid_count}
use Rattle.rule_types.specs.declared.table.Point.{Point}
use Rattle.rule_types.specs.Tables.{IsPointList, HoldsTables, HoldsTableOf}
use Rattle.rule_types.specs.WellFormed.{WellFormed, IsTimeValue, IsRoutingStep, IsRate}
use Rattle.rule_types.specs.WellFormed.{ConditionFits, RuleFits, WhatFits, FormulaFits, KindFits}
use Rattle.rule_types.specs.WellFormed.{NamesFit, InOrder, HasCompleteLists, PidsNumbered, InBounds}
use Rattle.rule_types.specs.WellFormed.{has_rate}

-- numbers
pub nothing_least : nothing ≤ℚ nothing
unfolding whole den
nothing_least = record { le = search rules }

pub one_positive : nothing ≤ℚ one
unfolding whole den
one_positive = record { le = search rules }

pub one_at_most_one : one ≤ℚ one
unfolding whole den
one_at_most_one = record { le = search rules }

half_positive : nothing ≤ℚ ratio (pos 1) 2
unfolding whole den ratio gcd cancelled last_remainder
half_positive = record { le = search rules }

six : IsTimeValue (whole (pos 6))
unfolding whole den
six = record { least = record { le = search rules }; most = record { le = omega arith }; exact = refl }

third : IsTimeValue (ratio (pos 1) 3)
unfolding whole den ratio gcd cancelled last_remainder
third = record { least = record { le = search rules }; most = record { le = omega arith }; exact = refl }

pub no_rate : IsRate nothing
unfolding whole den
no_rate = record {
  least = record { le = search rules };
  most = record { le = omega arith };
  exact = record { divides = refl };
}

quarter : IsRate (ratio (pos 1) 4)
unfolding whole den ratio gcd cancelled last_remainder
quarter = record {
  least = record { le = search rules };
  most = record { le = omega arith };
  exact = record { divides = refl };
}

routing : IsRoutingStep (whole (pos 300))
unfolding whole den
routing = record {
  positive = record { lt = search rules };
  most = record { le = omega arith };
  exact = record { divides = refl };
}

-- each rule by itself
abbrev Fits : Condition → Type 0
Fits c = ConditionFits station_names c

abbrev Acts : Action → Type 0
Acts action = WhatFits action.what

pub deep_fits : (names : List NameDef) → ConditionFits names if_deep
deep_fits names = record { left = refl; right = tt; half_step = λ e. cc }

above_fits : Fits if_above
above_fits = record { left = omega arith; right = tt; half_step = λ e. cc }

six_fits : Fits if_six
six_fits = record { left = refl; right = tt; half_step = λ e. record { equality = refl; time = refl; value = six } }

flowing_fits : Fits if_flowing
flowing_fits = record { left = refl; right = tt; half_step = λ e. cc }

rainy_fits : Fits if_rainy
rainy_fits = record { left = omega arith; right = refl; half_step = λ e. cc }

on_fits : Fits if_on
on_fits = record { left = refl; right = tt; half_step = λ e. cc }

open_fits : Fits if_open
open_fits = record { left = refl; right = tt; half_step = λ e. record { equality = refl; time = refl; value = third } }

named_fits : RuleFits station_names named_rule
named_fits = record {
  opened = refl;
  acting = omega arith;
  conditions = All-from_recursion Fits named_rule.conditions (deep_fits station_names, (above_fits, (six_fits, tt)));
  then_values = All-from_recursion Acts named_rule.then_actions (one_positive, tt);
  else_values = All-from_recursion Acts named_rule.else_actions (nothing_least, (tt, tt));
  conditions_counted = omega arith;
  then_counted = omega arith;
  else_counted = omega arith;
}

held_fits : RuleFits station_names held_rule
held_fits = record {
  opened = refl;
  acting = omega arith;
  conditions = All-from_recursion Fits held_rule.conditions (flowing_fits, tt);
  then_values = All-from_recursion Acts held_rule.then_actions (tt, tt);
  else_values = All-from_recursion Acts held_rule.else_actions tt;
  conditions_counted = omega arith;
  then_counted = omega arith;
  else_counted = omega arith;
}

rainy_rule_fits : RuleFits station_names rainy_rule
rainy_rule_fits = record {
  opened = refl;
  acting = omega arith;
  conditions = All-from_recursion Fits rainy_rule.conditions (rainy_fits, (on_fits, (open_fits, tt)));
  then_values = All-from_recursion Acts rainy_rule.then_actions (tt, tt);
  else_values = All-from_recursion Acts rainy_rule.else_actions (tt, tt);
  conditions_counted = omega arith;
  then_counted = omega arith;
  else_counted = omega arith;
}

-- the names
above_levels : levels above_formula ≡ 3
above_levels = simp fold-roll-Expr refl

above_formula_fits : FormulaFits station_names 1 above_formula
above_formula_fits = record {
  shallow = rw above_levels (omega arith);
  exponents = simp fold-roll-Expr refl;
  variables = simp fold-roll-Expr refl;
}

names_fit : NamesFit station_names
names_fit zero named e =
    let is : well ≡ named = cc in subst (λ (n : NameDef). KindFits station_names 0 n.stands_for) is refl
names_fit (suc zero) named e =
    let is : above ≡ named = cc in subst (λ (n : NameDef). KindFits station_names 1 n.stands_for) is above_formula_fits
names_fit (suc (suc zero)) named e =
    let is : rain ≡ named = cc in subst (λ (n : NameDef). KindFits station_names 2 n.stands_for) is refl
names_fit (suc (suc (suc at))) named e = cc

-- what is read and acted on is listed
abbrev read_keys : List Key
read_keys =
    well_depth ∷ well_depth ∷ Clock ClockTime ∷ main_flow ∷ well_depth ∷ recent_rain ∷ pump_status ∷ gate_open ∷ []

reads : keys_read station_names station_rules.rules ≡ read_keys
reads = simp fold-roll-Expr refl

reads_links : links_read station_names station_rules.rules ≡ 0 ∷ 2 ∷ []
reads_links = ap (flat_map link_read) reads

abbrev IsThere : Key → Type 0
IsThere key = IsTrue (is_input key) → Contains station_rules.input_keys key

all_there : All IsThere read_keys
all_there = All-from_recursion IsThere read_keys (
  λ e. (0, omega arith, refl),
  (
    λ e. (0, omega arith, refl),
    (
      λ e. cc,
      (
        λ e. (1, omega arith, refl),
        (λ e. (0, omega arith, refl), (λ e. (2, omega arith, refl), (λ e. cc, (λ e. cc, tt)))),
      ),
    ),
  ),
)

abbrev IsTracked : ℕ → Type 0
IsTracked link = Contains (0 ∷ 2 ∷ []) link

complete : HasCompleteLists station_rules
unfolding HasCompleteLists
complete = record {
  inputs = subst (All IsThere) (sym reads) all_there;
  read_links = subst (All IsTracked) (sym reads_links)
      (All-from_recursion IsTracked (0 ∷ 2 ∷ []) ((0, omega arith, refl), ((1, omega arith, refl), tt)));
  acted_links = All-from_recursion IsTracked (0 ∷ 0 ∷ 2 ∷ 2 ∷ 2 ∷ 2 ∷ []) (
    (0, omega arith, refl),
    (
      (0, omega arith, refl),
      (
        (1, omega arith, refl),
        (
          (1, omega arith, refl),
          ((1, omega arith, refl), ((1, omega arith, refl), tt)),
        ),
      ),
    ),
  );
  controlled = All-from_recursion IsTracked (0 ∷ 2 ∷ []) ((0, omega arith, refl), ((1, omega arith, refl), tt));
}

-- orders and PID actions
keys_rise : IsInKeyOrder (well_depth ∷ main_flow ∷ recent_rain ∷ [])
keys_rise zero d h = refl
keys_rise (suc zero) d h = refl
keys_rise (suc (suc k)) d h = absurd (omega arith)

links_rise : IsStrictlyIncreasing (0 ∷ 2 ∷ [])
links_rise zero h = omega arith
links_rise (suc k) h = absurd (omega arith)

in_order : InOrder station_rules
unfolding InOrder
in_order = record { input_keys = keys_rise; tracked = links_rise; controlled = links_rise }

pids_numbered : PidsNumbered station_rules.rules
unfolding PidsNumbered pid_numbers
pids_numbered zero h = refl
pids_numbered (suc zero) h = refl
pids_numbered (suc (suc k)) h = absurd (omega arith)

two_pids : pid_count station_rules.rules ≡ 2
unfolding pid_count pid_numbers
two_pids = refl

-- settings and times
abbrev IsSetting : Rational → Type 0
IsSetting setting = nothing ≤ℚ setting

in_bounds : InBounds station_rules
unfolding InBounds
in_bounds = record {
  initial = All-from_recursion IsSetting (one ∷ one ∷ []) (one_positive, (one_positive, tt));
  rates = All-from_recursion IsRate station_rules.rates (no_rate, (quarter, tt));
  rated = (λ e. one_at_most_one, (λ e. one_at_most_one, tt));
  routing_step = routing;
}

pub well_formed : WellFormed station_rules
well_formed = record {
  rules = All-from_recursion (RuleFits station_names) station_rules.rules
      (named_fits, (held_fits, (rainy_rule_fits, tt)));
  names = names_fit;
  inputs = All-from_recursion (λ key. IsTrue (is_key key)) station_rules.input_keys (refl, (refl, (refl, tt)));
  lists = complete;
  orders = in_order;
  pids = pids_numbered;
  pumps = refl;
  initial = refl;
  rates = refl;
  bounds = in_bounds;
  rules_counted = omega arith;
  names_counted = omega arith;
  inputs_counted = omega arith;
  tracked_counted = omega arith;
  controlled_counted = omega arith;
}

-- states and memories
pump_fits : LinkFits closed_pump
pump_fits = record { setting = nothing_least; target = nothing_least; timer = one_positive }

orifice_fits : LinkFits closing_orifice
orifice_fits = record { setting = half_positive; target = nothing_least; timer = nothing_least }

moving : has_rate (ratio (pos 1) 4) ≡ false → ⊥
unfolding less whole den ratio gcd cancelled last_remainder
moving e = cc

step_fits : IsStep (whole (pos 300))
unfolding IsStep
step_fits = inl routing

fitting : (step : Rational) → IsStep step → FitsRules station_rules (record fitting_state { step = step })
fitting step h = record {
  inputs = refl;
  links = refl;
  link_values = All-from_recursion LinkFits fitting_state.links (pump_fits, (orifice_fits, tt));
  at_target = (λ e. refl, (λ e. absurd (moving e), tt));
  step = h;
}

pub fits : FitsRules station_rules fitting_state
fits = fitting (whole (pos 300)) step_fits

longest_step : IsStep (whole (pos 315537897599))
unfolding IsStep whole den
longest_step = inr (record {
  seconds = refl;
  least = record { le = search rules };
  most = record { le = search rules };
})

pub long_step : FitsRules station_rules (record fitting_state { step = whole (pos 315537897599) })
long_step = fitting (whole (pos 315537897599)) longest_step

pub memories_fit : MemoriesFit station_rules.rules (fresh_memory ∷ fresh_memory ∷ [])
memories_fit = record { count = sym two_pids }

pub too_few_inputs : ¬ FitsRules station_rules (state_with (Some one ∷ None ∷ []))
too_few_inputs h = absurd (omega (arith, h.inputs))

pub too_few_links : ¬ FitsRules station_rules (record fitting_state { links = closed_pump ∷ [] })
too_few_links h = absurd (omega (arith, h.links))

not_negative : ¬ (nothing ≤ℚ minus_one)
unfolding whole den
not_negative h = absurd (omega (arith, ints, h.le))

orifice_of : (setting target timer : Rational) → FitsRules station_rules (orifice_at setting target timer)
    → LinkFits (record { setting = setting; target = target; timer = timer })
orifice_of setting target timer h = h.link_values 1 closed_pump (omega arith)

pub negative_setting : ¬ FitsRules station_rules (orifice_at minus_one nothing nothing)
negative_setting h = not_negative (orifice_of minus_one nothing nothing h).setting

pub negative_target : ¬ FitsRules station_rules (orifice_at nothing minus_one nothing)
negative_target h = not_negative (orifice_of nothing minus_one nothing h).target

pub negative_timer : ¬ FitsRules station_rules (orifice_at nothing nothing minus_one)
negative_timer h = not_negative (orifice_of nothing nothing minus_one h).timer

standing : has_rate nothing ≡ false
unfolding less whole den
standing = refl

apart : ¬ (one ≡ nothing)
unfolding whole
apart e = let is = ap (λ (q : Rational). q.num) e in cc

pub pump_off_target : ¬ FitsRules station_rules (record fitting_state {
  links = record closed_pump { target = one } ∷ closing_orifice ∷ [];
})
pump_off_target h = apart (h.at_target.0 standing)

-- a number that is no step
not_step : (q : Rational) → ¬ IsRoutingStep q → ¬ IsRowStep q → ¬ IsStep q
unfolding IsStep
not_step q r s (inl h) = r h
not_step q r s (inr h) = s h

part_of_billion : ¬ IsRoutingStep seventh
unfolding den
part_of_billion h = absurd (omega (arith, h.exact.divides))

part_of_second : ¬ IsRowStep seventh
unfolding den
part_of_second h = absurd (omega (arith, h.seconds))

pub part_step : ¬ FitsRules station_rules (record fitting_state { step = seventh })
part_step h = not_step seventh part_of_billion part_of_second h.step

no_routing_step : ¬ IsRoutingStep nothing
unfolding whole den
no_routing_step h = absurd (omega (arith, ints, h.positive.lt))

no_row_step : ¬ IsRowStep nothing
unfolding whole den
no_row_step h = absurd (omega (arith, ints, h.least.le))

pub no_step : ¬ FitsRules station_rules (record fitting_state { step = nothing })
no_step h = not_step nothing no_routing_step no_row_step h.step

longer_routing_step : ¬ IsRoutingStep (whole (pos 315537897600))
unfolding whole den
longer_routing_step h = absurd (omega (arith, ints, h.most.le))

longer_row_step : ¬ IsRowStep (whole (pos 315537897600))
unfolding whole den
longer_row_step h = absurd (omega (arith, ints, h.most.le))

pub longer_step : ¬ FitsRules station_rules (record fitting_state { step = whole (pos 315537897600) })
longer_step h = not_step (whole (pos 315537897600)) longer_routing_step longer_row_step h.step

pub too_few_memories : ¬ MemoriesFit station_rules.rules (fresh_memory ∷ [])
too_few_memories h = absurd (omega (arith, h.count, two_pids))

-- the tables
rises : nothing <ℚ whole (pos 2)
unfolding whole den
rises = record { lt = search rules }

points_rise : AllAdjacentBelow (λ (p q : Point). p.x <ℚ q.x) rising_points 2
points_rise zero d h = rises
points_rise (suc k) d h = absurd (omega arith)

rising : IsPointList rising_points
rising = record { pointed = omega arith; rising = points_rise }

abbrev Holds : Action → Type 0
Holds action = HoldsTableOf (tables_with rising_points) action.what

abbrev HoldsAll : Rule → Type 0
HoldsAll rule = All Holds (rule_actions rule)

pub tables_held : HoldsTables (tables_with rising_points) station_rules.rules
tables_held = All-from_recursion HoldsAll station_rules.rules (
  All-from_recursion Holds (rule_actions named_rule) (tt, (tt, (rising, tt))),
  (
    All-from_recursion Holds (rule_actions held_rule) (tt, tt),
    (All-from_recursion Holds (rule_actions rainy_rule) (rising, (tt, tt)), tt),
  ),
)

falls : ¬ (whole (pos 2) <ℚ nothing)
unfolding whole den
falls h = absurd (omega (arith, h.lt))

pub falling_curve : ¬ HoldsTables (tables_with falling_points) station_rules.rules
falling_curve h =
    let named = h 0 named_rule (omega arith) in
    let points = named 2 by_curve (omega arith) in
    falls (points.rising 0 open_point (omega arith))

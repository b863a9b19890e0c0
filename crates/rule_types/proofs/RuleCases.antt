-- The small rules are well formed, and what differs from them in one place is or is not.
use Rattle.std.proofs.Common.{◌≡◌, ℕ, suc, zero, List, [], ◌∷◌, pos, refl, sym, subst, rules, arith}
use Rattle.std.specs.Prelude.{Bool, IsTrue, Contains}
use Rattle.std.proofs.lemmas.List.Elements.{All-from_recursion}
use Rattle.exact_fraction.specs.Number.{Rational, den, whole, one}
use Rattle.exact_fraction.specs.Number.{zero as nothing}
use Rattle.exact_fraction.specs.Order.{◌≤ℚ◌, less}
use Rattle.rule_types.specs.declared.key.Attr.TheVariants.{Setting}
use Rattle.rule_types.specs.declared.key.ClockAttr.TheVariants.{Date}
use Rattle.rule_types.specs.declared.key.Key.{Key}
use Rattle.rule_types.specs.declared.key.Key.TheVariants.{Clock}
use Rattle.rule_types.specs.declared.names.NameDef.{NameDef}
use Rattle.rule_types.specs.declared.names.NameKind.{NameKind}
use Rattle.rule_types.specs.declared.names.NameKind.TheVariants.{Formula}
use Rattle.rule_types.specs.declared.expr.Expr.{Expr}
use Rattle.rule_types.specs.declared.expr.Expr.TheFolds.{fold-roll-Expr}
use Rattle.rule_types.specs.Examples.{well_depth, well, above, above_formula, if_deep, set_pump}
use Rattle.rule_types.specs.Formulas.{levels, has_small_exponents, names_pass}
use Rattle.rule_types.specs.KeyOrder.{IsInKeyOrder}
use Rattle.rule_types.specs.Keys.{is_key, is_input}
use Rattle.rule_types.specs.Reading.{pid_numbers}
use Rattle.rule_types.specs.RuleCases.{small_rule, small_rules, with_names}
use Rattle.rule_types.specs.RuleCases.{with_inputs, with_times, two}
use Rattle.rule_types.specs.RuleCases.{link_key, expression_of, power_formula}
use Rattle.rule_types.specs.RuleCases.{signs}
use Rattle.rule_types.specs.WellFormed.{WellFormed, ConditionFits, RuleFits, WhatFits, FormulaFits}
use Rattle.rule_types.specs.WellFormed.{KindFits, NamesFit, IsRate}
use Rattle.rule_types.specs.WellFormed.{IsRoutingStep, IsCountable, HasCompleteLists, InOrder}
use Rattle.rule_types.specs.WellFormed.{InBounds, PidsNumbered}
use Rattle.rule_types.specs.WellFormed.{has_rate, is_variable_before}
use Rattle.rule_types.proofs.Station.{one_positive, one_at_most_one, no_rate, deep_fits}

-- numbers
twenty : IsRoutingStep (whole (pos 20))
unfolding whole den
twenty = record {
  positive = record { lt = search rules };
  most = record { le = omega arith };
  exact = record { divides = refl };
}

second : IsRoutingStep one
unfolding whole den
second = record {
  positive = record { lt = search rules };
  most = record { le = omega arith };
  exact = record { divides = refl };
}

day : IsRoutingStep (whole (pos 86400))
unfolding whole den
day = record {
  positive = record { lt = search rules };
  most = record { le = search rules };
  exact = record { divides = refl };
}

longest_rate : IsRate (whole (pos 1000000))
unfolding whole den
longest_rate = record {
  least = record { le = search rules };
  most = record { le = search rules };
  exact = record { divides = refl };
}

two_positive : nothing ≤ℚ two
unfolding whole den
two_positive = record { le = search rules }

no_rate_has : ¬ IsTrue (has_rate nothing)
unfolding less whole den
no_rate_has e = cc

pub one_has : IsTrue (has_rate one)
unfolding less whole den
one_has = refl

-- settings and times
bounded : (names : List NameDef) (rate setting step : Rational) → nothing ≤ℚ setting → IsRate rate
    → (IsTrue (has_rate rate) → setting ≤ℚ one) → IsRoutingStep step
    → InBounds (record (with_times rate setting step) { names = names })
unfolding InBounds
bounded names rate setting step s r most t = record {
  initial = All-from_recursion (λ q. nothing ≤ℚ q) (setting ∷ []) (s, tt);
  rates = All-from_recursion IsRate (rate ∷ []) (r, tt);
  rated = (most, tt);
  routing_step = t;
}

-- a rule that reads a node's depth and acts on a link
small_fits : (names : List NameDef) → RuleFits names small_rule
small_fits names = record {
  opened = refl;
  acting = omega arith;
  conditions = All-from_recursion (ConditionFits names) (if_deep ∷ []) (deep_fits names, tt);
  then_values = All-from_recursion (λ action. WhatFits action.what) (set_pump one ∷ []) (one_positive, tt);
  else_values = All-from_recursion (λ action. WhatFits action.what) [] tt;
  conditions_counted = omega arith;
  then_counted = omega arith;
  else_counted = omega arith;
}

small_lists : (names : List NameDef) (rate setting step : Rational)
    → HasCompleteLists (record (with_times rate setting step) { names = names })
unfolding HasCompleteLists
small_lists names rate setting step = record {
  inputs = All-from_recursion (λ key. IsTrue (is_input key) → Contains (well_depth ∷ []) key) (well_depth ∷ [])
      (λ e. (0, omega arith, refl), tt);
  read_links = All-from_recursion (Contains (0 ∷ [])) [] tt;
  acted_links = All-from_recursion (Contains (0 ∷ [])) (0 ∷ []) ((0, omega arith, refl), tt);
  controlled = All-from_recursion (Contains (0 ∷ [])) (0 ∷ []) ((0, omega arith, refl), tt);
}

one_in_order : (names : List NameDef) (rate setting step : Rational)
    → InOrder (record (with_times rate setting step) { names = names })
unfolding InOrder
one_in_order names rate setting step = record {
  input_keys = λ k d h. absurd (omega arith);
  tracked = λ k h. absurd (omega arith);
  controlled = λ k h. absurd (omega arith);
}

no_pids : PidsNumbered (small_rule ∷ [])
unfolding PidsNumbered pid_numbers
no_pids k h = absurd (omega arith)

whole_rules : (names : List NameDef) (rate setting step : Rational) → NamesFit names → IsCountable names
    → InBounds (record (with_times rate setting step) { names = names })
    → WellFormed (record (with_times rate setting step) { names = names })
whole_rules names rate setting step n counted b = record {
  rules = All-from_recursion (RuleFits names) (small_rule ∷ []) (small_fits names, tt);
  names = n;
  inputs = All-from_recursion (λ key. IsTrue (is_key key)) (well_depth ∷ []) (refl, tt);
  lists = small_lists names rate setting step;
  orders = one_in_order names rate setting step;
  pids = no_pids;
  pumps = refl;
  initial = refl;
  rates = refl;
  bounds = b;
  rules_counted = omega arith;
  names_counted = counted;
  inputs_counted = omega arith;
  tracked_counted = omega arith;
  controlled_counted = omega arith;
}

-- a variable and a formula over it
pair_fits : (named : NameDef) (formula : Expr) → named.stands_for ≡ Formula formula
    → FormulaFits (well ∷ named ∷ []) 1 formula → NamesFit (well ∷ named ∷ [])
pair_fits named formula is h zero other e =
    let same : well ≡ other = cc in subst (λ (n : NameDef). KindFits (well ∷ named ∷ []) 0 n.stands_for) same refl
pair_fits named formula is h (suc zero) other e =
    let same : named ≡ other = cc in
    subst (λ (n : NameDef). KindFits (well ∷ named ∷ []) 1 n.stands_for) same
    (subst (λ (kind : NameKind). KindFits (well ∷ named ∷ []) 1 kind) (sym is) h)
pair_fits named formula is h (suc (suc at)) other e = cc

above_fits : FormulaFits (well ∷ above ∷ []) 1 above_formula
above_fits = record {
  shallow = simp fold-roll-Expr (omega arith);
  exponents = simp fold-roll-Expr refl;
  variables = simp fold-roll-Expr refl;
}

small_names : NamesFit (well ∷ above ∷ [])
small_names = pair_fits above above_formula refl above_fits

pub small : WellFormed small_rules
small = whole_rules (well ∷ above ∷ []) nothing one (whole (pos 20)) small_names (omega arith)
    (bounded (well ∷ above ∷ []) nothing one (whole (pos 20)) one_positive no_rate (λ e. one_at_most_one) twenty)

pub slowest_link : WellFormed (with_times (whole (pos 1000000)) one (whole (pos 86400)))
slowest_link = whole_rules (well ∷ above ∷ []) (whole (pos 1000000)) one (whole (pos 86400)) small_names (omega arith)
    (bounded (well ∷ above ∷ []) (whole (pos 1000000)) one (whole (pos 86400)) one_positive longest_rate
    (λ e. one_at_most_one) day)

pub open_wide : WellFormed (with_times nothing two one)
open_wide = whole_rules (well ∷ above ∷ []) nothing two one small_names (omega arith)
    (bounded (well ∷ above ∷ []) nothing two one two_positive no_rate (λ e. absurd (no_rate_has e)) second)

with_formula : (formula : Expr) → FormulaFits (well ∷ expression_of formula ∷ []) 1 formula
    → WellFormed (with_names (well ∷ expression_of formula ∷ []))
with_formula formula h =
    let names = well ∷ expression_of formula ∷ [] in
    whole_rules names nothing one (whole (pos 20)) (pair_fits (expression_of formula) formula refl h) (omega arith)
    (bounded names nothing one (whole (pos 20)) one_positive no_rate (λ e. one_at_most_one) twenty)

-- formulas of many levels
pub signs_levels : (count : ℕ) → levels (signs count) ≡ suc count
unfolding signs
signs_levels zero = simp fold-roll-Expr refl
signs_levels (suc count) = simp (fold-roll-Expr, signs_levels count) refl

signs_exponents : (count : ℕ) → IsTrue (has_small_exponents (signs count))
unfolding signs
signs_exponents zero = simp fold-roll-Expr refl
signs_exponents (suc count) = simp (fold-roll-Expr, signs_exponents count) refl

signs_names : (passes : ℕ → Bool) (count : ℕ) → IsTrue (names_pass passes (signs count))
unfolding signs
signs_names passes zero = simp fold-roll-Expr refl
signs_names passes (suc count) = simp (fold-roll-Expr, signs_names passes count) refl

pub deepest_formula : WellFormed (with_names (well ∷ expression_of (signs 63) ∷ []))
deepest_formula = with_formula (signs 63) (record {
  shallow = rw (signs_levels 63) (omega arith);
  exponents = signs_exponents 63;
  variables = signs_names (is_variable_before (well ∷ expression_of (signs 63) ∷ []) 1) 63;
})

pub largest_exponent : WellFormed (with_names (well ∷ expression_of (power_formula 8) ∷ []))
largest_exponent = with_formula (power_formula 8) (record {
  shallow = simp fold-roll-Expr (omega arith);
  exponents = simp fold-roll-Expr refl;
  variables = simp fold-roll-Expr refl;
})

-- input keys that no condition reads
abbrev more_keys : List Key
more_keys = well_depth ∷ link_key Setting ∷ Clock Date ∷ []

more_in_order : IsInKeyOrder more_keys
more_in_order zero d h = refl
more_in_order (suc zero) d h = refl
more_in_order (suc (suc k)) d h = absurd (omega arith)

more_ordered : InOrder (with_inputs more_keys)
unfolding InOrder
more_ordered = record {
  input_keys = more_in_order;
  tracked = λ k h. absurd (omega arith);
  controlled = λ k h. absurd (omega arith);
}

more_lists : HasCompleteLists (with_inputs more_keys)
unfolding HasCompleteLists
more_lists = record {
  inputs = All-from_recursion (λ key. IsTrue (is_input key) → Contains more_keys key) (well_depth ∷ [])
      (λ e. (0, omega arith, refl), tt);
  read_links = All-from_recursion (Contains (0 ∷ [])) [] tt;
  acted_links = All-from_recursion (Contains (0 ∷ [])) (0 ∷ []) ((0, omega arith, refl), tt);
  controlled = All-from_recursion (Contains (0 ∷ [])) (0 ∷ []) ((0, omega arith, refl), tt);
}

more_bounds : InBounds (with_inputs more_keys)
unfolding InBounds
more_bounds = record {
  initial = All-from_recursion (λ q. nothing ≤ℚ q) (one ∷ []) (one_positive, tt);
  rates = All-from_recursion IsRate (nothing ∷ []) (no_rate, tt);
  rated = (λ e. one_at_most_one, tt);
  routing_step = twenty;
}

pub unread_keys : WellFormed (with_inputs more_keys)
unread_keys = record {
  rules = small.rules;
  names = small_names;
  inputs = All-from_recursion (λ key. IsTrue (is_key key)) more_keys (refl, (refl, (refl, tt)));
  lists = more_lists;
  orders = more_ordered;
  pids = no_pids;
  pumps = refl;
  initial = refl;
  rates = refl;
  bounds = more_bounds;
  rules_counted = omega arith;
  names_counted = omega arith;
  inputs_counted = omega arith;
  tracked_counted = omega arith;
  controlled_counted = omega arith;
}

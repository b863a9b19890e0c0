-- Rules that are prepared for ranges.
use Rattle.rule_types.specs.Tables.{HoldsTables, TableSet}
use Rattle.rule_types.specs.WellFormed.{WellFormed, Times, InBounds, HasCompleteLists, CompleteLists}
use Rattle.rule_types.specs.WellFormed.{InOrder, Orders}
use Rattle.rule_types.specs.declared.rules.Rules.{Rules}
use Rattle.rule_types.proofs.PublicLaws.{opened-times, opened-orders, opened-lists}
use Rattle.verdict_meaning.specs.FitRanges.{RangesFit, prepared_rules}
use Rattle.verdict_meaning.specs.declared.ranges.Ranges.{Ranges}

lists_prepared : (x : Rules) (ranges : Ranges) → CompleteLists x
    → HasCompleteLists (prepared_rules x ranges)
unfolding HasCompleteLists
lists_prepared x ranges h =
    record { inputs = h.inputs; read_links = h.read_links; acted_links = h.acted_links; controlled = h.controlled }

orders_prepared : (x : Rules) (ranges : Ranges) → Orders x → InOrder (prepared_rules x ranges)
unfolding InOrder
orders_prepared x ranges h =
    record { input_keys = h.input_keys; tracked = h.tracked; controlled = h.controlled }

bounds_prepared : (x : Rules) (ranges : Ranges) → Times x → RangesFit x ranges
    → InBounds (prepared_rules x ranges)
unfolding InBounds
bounds_prepared x ranges h fit =
    record { initial = h.initial; rates = h.rates; rated = h.rated; routing_step = fit.step }

-- well formed rules stay so with the start and the step of ranges that fit them
pub prepared-well_formed : (x : Rules) (ranges : Ranges) → WellFormed x → RangesFit x ranges
    → WellFormed (prepared_rules x ranges)
prepared-well_formed x ranges h fit = record {
  rules = h.rules;
  names = h.names;
  inputs = h.inputs;
  lists = lists_prepared x ranges (opened-lists x h.lists);
  orders = orders_prepared x ranges (opened-orders x h.orders);
  pids = h.pids;
  pumps = h.pumps;
  initial = h.initial;
  rates = h.rates;
  bounds = bounds_prepared x ranges (opened-times x h.bounds) fit;
  rules_counted = h.rules_counted;
  names_counted = h.names_counted;
  inputs_counted = h.inputs_counted;
  tracked_counted = h.tracked_counted;
  controlled_counted = h.controlled_counted;
}

-- and tables that held their curves and series still do
pub prepared-tables : (x : Rules) (tables : TableSet) (ranges : Ranges)
    → HoldsTables tables x.rules → HoldsTables tables (prepared_rules x ranges).rules
prepared-tables x tables ranges h = h

-- Rules that are well formed.
use Rattle.rule_types.proofs.RuleCases.{small, unread_keys, deepest_formula, largest_exponent}
use Rattle.rule_types.proofs.RuleCases.{slowest_link, open_wide}
use Rattle.rule_types.proofs.Station.{well_formed}
use Rattle.rule_types.proofs.examples.well_formed_rules.Goals as goal

pub returns : goal.returns
returns c = record {
  station = well_formed;
  small = small;
  unread_keys = unread_keys;
  deepest_formula = deepest_formula;
  largest_exponent = largest_exponent;
  slowest_link = slowest_link;
  open_wide = open_wide;
}

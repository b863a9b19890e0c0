-- What well formed rules cannot have: lists of keys and links.
use Rattle.rule_types.proofs.RuleFaults.{unlisted_left, unlisted_right, unlisted_variable}
use Rattle.rule_types.proofs.RuleFaults.{unlisted_expression, untracked_setting}
use Rattle.rule_types.proofs.RuleFaults.{untracked_status, untracked_open, untracked_closed}
use Rattle.rule_types.proofs.RuleFaults.{not_controlled, controlled_untracked, input_attribute}
use Rattle.rule_types.proofs.RuleFaults.{inputs_fall, input_twice, tracked_fall, tracked_twice}
use Rattle.rule_types.proofs.RuleFaults.{controlled_fall, controlled_twice, no_pumps}
use Rattle.rule_types.proofs.RuleFaults.{no_initial, no_rates, many_inputs, many_tracked}
use Rattle.rule_types.proofs.RuleFaults.{many_controlled}
use Rattle.rule_types.proofs.examples.faulty_lists.Goals as goal

pub returns : goal.returns
returns c = record {
  unlisted_left = unlisted_left;
  unlisted_right = unlisted_right;
  unlisted_variable = unlisted_variable;
  unlisted_expression = unlisted_expression;
  untracked_setting = untracked_setting;
  untracked_status = untracked_status;
  untracked_open = untracked_open;
  untracked_closed = untracked_closed;
  not_controlled = not_controlled;
  controlled_untracked = controlled_untracked;
  input_attribute = input_attribute;
  inputs_fall = inputs_fall;
  input_twice = input_twice;
  tracked_fall = tracked_fall;
  tracked_twice = tracked_twice;
  controlled_fall = controlled_fall;
  controlled_twice = controlled_twice;
  pumps = no_pumps;
  initial = no_initial;
  rates = no_rates;
  many_inputs = many_inputs;
  many_tracked = many_tracked;
  many_controlled = many_controlled;
}

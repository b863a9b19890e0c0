-- What well formed rules cannot have: numbers of PID actions, settings and times.
use Rattle.rule_types.proofs.RuleFaults.{pids_from_one, pids_turned, pids_alike}
use Rattle.rule_types.proofs.RuleFaults.{negative_setting, moving_past_one, negative_rate}
use Rattle.rule_types.proofs.RuleFaults.{large_rate, part_rate, no_step, large_step, part_step}
use Rattle.rule_types.proofs.examples.faulty_numbers.Goals as goal

pub returns : goal.returns
returns c = record {
  pids_from_one = pids_from_one;
  pids_turned = pids_turned;
  pids_alike = pids_alike;
  negative_setting = negative_setting;
  moving_past_one = moving_past_one;
  negative_rate = negative_rate;
  large_rate = large_rate;
  part_rate = part_rate;
  no_step = no_step;
  large_step = large_step;
  part_step = part_step;
}

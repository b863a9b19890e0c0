-- The states and memories of the station.
use Rattle.rule_types.proofs.Station.{fits, long_step, longer_step, memories_fit, too_few_links}
use Rattle.rule_types.proofs.Station.{negative_setting, negative_target, negative_timer}
use Rattle.rule_types.proofs.Station.{pump_off_target, part_step, no_step, too_few_inputs}
use Rattle.rule_types.proofs.Station.{too_few_memories}
use Rattle.rule_types.proofs.examples.states.Goals as goal

pub returns : goal.returns
returns c = record {
  fits = fits;
  long_step = long_step;
  longer_step = longer_step;
  memories_fit = memories_fit;
  too_few_links = too_few_links;
  negative_setting = negative_setting;
  negative_target = negative_target;
  negative_timer = negative_timer;
  pump_off_target = pump_off_target;
  part_step = part_step;
  no_step = no_step;
  too_few_inputs = too_few_inputs;
  too_few_memories = too_few_memories;
}

use Rattle.network_lines.proofs.PublicLaws.{values-time, values-status, values-setting, values-travel_time}
use Rattle.network_lines.proofs.laws.values.Goals as goal

pub returns : goal.returns
returns c = record {
  time = values-time;
  status = values-status;
  setting = values-setting;
  travel_time = values-travel_time;
}

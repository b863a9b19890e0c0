-- The tables of the station.
use Rattle.rule_types.proofs.Station.{tables_held, falling_curve}
use Rattle.rule_types.proofs.examples.tables.Goals as goal

pub returns : goal.returns
returns c = record {
  held = tables_held;
  falling = falling_curve;
}

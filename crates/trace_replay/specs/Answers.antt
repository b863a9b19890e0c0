-- What a replay answers to a row.
use Rattle.std.specs.Prelude.{List, Option, Some, None, Result, Ok, Err, ℤ}
use Rattle.exact_fraction.specs.Number.{Rational}
use Rattle.rule_types.specs.declared.row.Row.{Row}
use Rattle.rule_types.specs.declared.stop.RowStop.{RowStop}
use Rattle.rule_types.specs.declared.stop.RowStop.TheVariants as row_stop
use Rattle.rule_types.specs.declared.stop.Stop.{Stop}

-- a row at a moment, with these inputs
abbrev pub row_at : ℤ → List (Option Rational) → Row
row_at moment inputs = record { moment = moment; inputs = inputs }

-- the answer to a row, by the stop that was kept before it and the one that is kept after it
abbrev pub row_answer : Option Stop → Option Stop → Result (Unit {0}) RowStop
row_answer (Some stop) after = Err (row_stop.Stopped stop)
row_answer None None = Ok tt
row_answer None (Some stop) = Err (row_stop.Stop stop)

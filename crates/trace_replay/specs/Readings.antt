-- The answer of a reading.
use Rattle.std.specs.Prelude.{List, Result, Ok, Err}
use Rattle.rule_types.specs.declared.action.Order.{Order}
use Rattle.rule_types.specs.declared.stop.Stop.{Stop}

-- the orders of a reading that did not stop, or its stop
abbrev pub given : Result (Unit {0}) Stop → List Order → Result (List Order) Stop
given (Ok done) orders = Ok orders
given (Err stop) orders = Err stop

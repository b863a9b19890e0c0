-- The stop that a call answers.
use Rattle.std.specs.Prelude.{Option, Some, None, Result, Ok, Err}
use Rattle.rule_types.specs.declared.stop.Stop.{Stop}

abbrev pub stop_of : {A : Type 0} → Result A Stop → Option Stop
stop_of (Ok done) = None
stop_of (Err stop) = Some stop

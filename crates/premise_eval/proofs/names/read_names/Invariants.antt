use Rattle.std.proofs.Common.{◌≡◌, drop}
use Rattle.rule_meaning.specs.Formula.{stop_from}
use Rattle.premise_eval.specs.Kept.{marked}
use Rattle.premise_eval.specs.internal.NameReading.{NamesHeld}
use Rattle.premise_eval.proofs.names.read_names.Given as goal

abbrev pub invariant-loop-at : goal.invariant-loop-at
invariant-loop-at l = record {
  stop : stop_from l.rules (marked l.asks) l.state 0 l.rules.names
      ≡ stop_from l.rules (marked l.asks) l.state l.at (drop l.at l.rules.names);
  held : NamesHeld l.rules l.state (marked l.asks) l.at l.names;
}

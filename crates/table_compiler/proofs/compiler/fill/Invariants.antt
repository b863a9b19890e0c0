use Rattle.std.proofs.Common.{◌≡◌, length, take}
use Rattle.table_compiler.specs.internal.Filling.{tables_with, rows_of_places}
use Rattle.table_compiler.proofs.compiler.fill.Given as goal

abbrev pub invariant-loop-place : goal.invariant-loop-place
invariant-loop-place l = record {
  each : length l.tables ≡ length l.fn.tables;
  rows : l.tables ≡ tables_with l.rules.controlled (rows_of_places l.rules.rules (take l.place-index l.places));
}

use Rattle.std.proofs.Common.{[], length, take, refl, ap, ◌∙◌}
use Rattle.table_compiler.specs.internal.Filling.{rows_of_places}
use Rattle.table_compiler.proofs.Filling.{places_more, places_all, as_many}
use Rattle.table_compiler.proofs.compiler.fill.Goals as goal

pub loop-place-init : goal.loop-place-init
loop-place-init c = record { each = refl; rows = c.requires.empty }

pub enter_rule_at-requires-clause-each : goal.enter_rule_at-requires-clause-each
enter_rule_at-requires-clause-each c =
    c.loop-place.invariant.each ∙ ap length c.requires.empty ∙ as_many c.args.rules.now.controlled (λ link. [])

pub loop-place-preserved : goal.loop-place-preserved
loop-place-preserved c = record {
  each = c.in_ok-enter_rule_at.ensures.each ∙ c.loop-place.invariant.each;
  rows =
      places_more c.args.rules.now.controlled c.enter_rule_at.new.tables c.args.rules.now.rules c.args.places.now c.loop-place.place-index 0 c.loop-place-test.true
      (c.in_ok-enter_rule_at.ensures.rows (rows_of_places c.args.rules.now.rules (take c.loop-place.place-index c.args.places.now)) c.loop-place.invariant.rows);
}

pub returns : goal.returns
returns c = record {
  rows =
      places_all c.args.rules.now.controlled c.loop-place.tables c.args.rules.now.rules c.args.places.now c.loop-place.place-index c.loop-place-test.false
      c.loop-place.invariant.rows;
  each = c.loop-place.invariant.each;
}

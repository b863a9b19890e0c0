use Rattle.std.proofs.Common.{List, ℕ, sym, subst, ap, ◌∙◌}
use Rattle.std.specs.Prelude.{OnOk}
use Rattle.std.specs.List.Sorted.{IsStrictlyIncreasing}
use Rattle.exact_fraction.specs.Number.{Rational}
use Rattle.rule_types.proofs.PublicLaws.{opened-orders}
use Rattle.rule_meaning.specs.History.{stayed, standings_after}
use Rattle.rule_meaning.specs.Replay.{switches_after}
use Rattle.trace_replay.specs.Readings.{given}
use Rattle.trace_replay.specs.internal.Moving.{CanMove}
use Rattle.trace_replay.specs.internal.Rows.{orders_when}
use Rattle.trace_replay.proofs.LinkSwitches.{none_switches}
use Rattle.trace_replay.proofs.row.stand.Goals as goal

pub follow-requires-clause-rising : goal.follow-requires-clause-rising
follow-requires-clause-rising g c =
    subst (λ (links : List ℕ). IsStrictlyIncreasing links) (sym c.as_slice.ensures.value) (opened-orders c.args.rules.now c.requires.well_formed.orders).tracked

pub follow-requires-clause-can_move : goal.follow-requires-clause-can_move
follow-requires-clause-can_move g c =
    let orders = orders_when c.args.due (g.R.Reads.last_orders c.args.readings.now) in
    let holds : CanMove orders c.args.rules.now.tracked c.args.rules.now.rates c.args.links.now =
    subst (λ read. OnOk read (CanMove orders c.args.rules.now.tracked c.args.rules.now.rates c.args.links.now)) c.in-Ok.is c.requires.can_move in
    rw c.orders_of.ensures
    (subst (λ (links : List ℕ). CanMove orders links c.as_slice-in-Ok.result.now c.args.links.now) (sym c.as_slice.ensures.value)
    (subst (λ (rates : List Rational). CanMove orders c.args.rules.now.tracked rates c.args.links.now) (sym c.as_slice-in-Ok.ensures.value) holds))

pub returns-in-Err-clause-switches : goal.returns-in-Err-clause-switches
returns-in-Err-clause-switches g c = λ state same.
    let orders = orders_when c.args.due (g.R.Reads.last_orders c.args.readings.now) in
    none_switches c.args.moment c.args.links.now c.args.switches.now (c.requires.each_link ∙ sym c.requires.each_switch)
    ∙ ap (λ new. switches_after c.args.moment c.args.links.now new c.args.switches.now)
    (sym (ap stayed same) ∙ sym (ap (λ read. standings_after c.args.rules.now c.args.gap.now state (given read orders)) c.in-Err.is))

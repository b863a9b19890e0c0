use Rattle.std.proofs.Common.{◌≡◌, ◌<◌, ℕ, Some, List, length, rules, refl, sym, subst, ap, ◌∙◌}
use Rattle.std.proofs.lemmas.List.{with_items_is, take_at}
use Rattle.std.specs.Prelude.{All}
use Rattle.std.specs.Vec.{with_items}
use Rattle.std.specs.List.Sorted.{IsStrictlyIncreasing}
use Rattle.rule_meaning.proofs.PublicLaws.{standing-settings}
use Rattle.exact_fraction.specs.Number.{zero}
use Rattle.exact_fraction.specs.Order.{◌≤ℚ◌}
use Rattle.rule_types.specs.declared.row.Row.{Row}
use Rattle.rule_types.specs.declared.state.LinkState.{LinkState}
use Rattle.rule_types.specs.declared.state.State.{State}
use Rattle.rule_types.specs.Fitting.{FitsRules}
use Rattle.rule_meaning.specs.History.{stayed, standings_after}
use Rattle.rule_meaning.specs.Replay.{links_at, switches_after, stop_of}
use Rattle.replay_meaning.specs.Kept.{Kept, reading_of, state_of, standings_at}
use Rattle.clock_values.proofs.PublicLaws.{steps-of_rules}
use Rattle.trace_replay.specs.Answers.{row_at}
use Rattle.trace_replay.specs.Progress.{kept_of}
use Rattle.trace_replay.specs.Readings.{given}
use Rattle.trace_replay.specs.internal.Moving.{CanMove, settings_at}
use Rattle.trace_replay.specs.internal.Rows.{due_after, memories_when, orders_when}
use Rattle.trace_replay.proofs.BackToFront.{stayed_timed}
use Rattle.trace_replay.proofs.LinkSteps.{links_of}
use Rattle.trace_replay.proofs.FirstSteps.{stayed_long, places_within, places_long, settings_are, settings_stay}
use Rattle.trace_replay.proofs.RowFacts.{state_fits, gap_least, orders_rise, can_move, state_same, reading_same, when_read, stop_same}
use Rattle.trace_replay.proofs.row.take_row.Goals as goal

pub stand-changed-requires-clause-each_link : goal.stand-changed-requires-clause-each_link
stand-changed-requires-clause-each_link g c =
    let long : length c.set_timers.new.links ≡ c.args.progress.now.links.len = search rules in
    let each : length c.deref_mut-3.result.now ≡ length c.args.rules.now.tracked =
    ap length (c.deref_mut-3.ensures.value ∙ c.read_row-read.ensures.links ∙ take_at c.set_timers.new.links _ c.args.progress.now.links.len long)
    ∙ c.set_timers.auto.links ∙ ap length c.deref_mut.ensures.value ∙ c.requires.fits.links in
    each

pub stand-changed-requires-clause-each_switch : goal.stand-changed-requires-clause-each_switch
stand-changed-requires-clause-each_switch g c = ap length c.deref_mut-4.ensures.value ∙ c.requires.fits.switches

pub gap_at-gap-requires : goal.gap_at-gap-requires
gap_at-gap-requires g c = record { routing_step = steps-of_rules c.args.rules.now c.requires.follows.rules.formed }

pub read_row-read-requires-clause-fits : goal.read_row-read-requires-clause-fits
read_row-read-requires-clause-fits g c =
    let timed : c.set_timers.new.links ≡ links_at c.start_at-start.result c.args.moment (stayed c.args.progress.now.links.items) c.args.progress.now.switches.items =
    c.set_timers.ensures.links ∙ (λ i. links_at c.start_at-start.result c.args.moment (stayed (c.deref_mut.ensures.value i)) (c.deref.ensures.value i)) in
    let long : length c.set_timers.new.links ≡ c.args.progress.now.links.len = search rules in
    subst (FitsRules c.args.rules.now)
    (sym (state_same c.args.rules.now (kept_of c.args.progress.now) (row_at c.args.moment c.args.inputs.now) c.args.progress.now.links.len c.start_at-start.result c.step_at-step.result
    c.copy_from_slice.new.self.items c.set_timers.new.links _ c.start_at-start.ensures c.step_at-step.ensures c.copy_from_slice.ensures.items long timed))
    (state_fits (g.R.Reads.choice c.args.readings.now) c.args.rules.now (g.R.Reads.held c.args.readings.now) (kept_of c.args.progress.now) (row_at c.args.moment c.args.inputs.now) c.requires.follows)

pub stand-changed-requires-clause-gap : goal.stand-changed-requires-clause-gap
stand-changed-requires-clause-gap g c =
    subst (λ q. zero ≤ℚ q) (sym c.gap_at-gap.ensures)
    (gap_least (g.R.Reads.choice c.args.readings.now) c.args.rules.now (g.R.Reads.held c.args.readings.now) (kept_of c.args.progress.now) (row_at c.args.moment c.args.inputs.now) c.requires.follows)

pub stand-changed-requires-clause-in_order : goal.stand-changed-requires-clause-in_order
stand-changed-requires-clause-in_order g c =
    let timed : c.set_timers.new.links ≡ links_at c.start_at-start.result c.args.moment (stayed c.args.progress.now.links.items) c.args.progress.now.switches.items =
    c.set_timers.ensures.links ∙ (λ i. links_at c.start_at-start.result c.args.moment (stayed (c.deref_mut.ensures.value i)) (c.deref.ensures.value i)) in
    let long : length c.set_timers.new.links ≡ c.args.progress.now.links.len = search rules in
    when_read (λ orders. IsStrictlyIncreasing (links_of orders)) c.read_row-read.result (orders_when c.is_due-due.result (g.R.Reads.last_orders c.read_row-read.new.readings))
    (reading_of (g.R.Reads.choice c.args.readings.now) c.args.rules.now (g.R.Reads.held c.args.readings.now) (kept_of c.args.progress.now) (row_at c.args.moment c.args.inputs.now))
    (reading_same (g.R.Reads.choice c.args.readings.now) c.args.rules.now (g.R.Reads.held c.args.readings.now) (kept_of c.args.progress.now) (row_at c.args.moment c.args.inputs.now)
    c.is_due-due.result c.read_row-read.result (orders_when c.is_due-due.result (g.R.Reads.last_orders c.read_row-read.new.readings)) _ _ c.deref_mut-2.result.now c.is_due-due.ensures
    (state_same c.args.rules.now (kept_of c.args.progress.now) (row_at c.args.moment c.args.inputs.now) c.args.progress.now.links.len c.start_at-start.result c.step_at-step.result
    c.copy_from_slice.new.self.items c.set_timers.new.links _ c.start_at-start.ensures c.step_at-step.ensures c.copy_from_slice.ensures.items long timed)
    c.deref_mut-2.ensures.value refl c.read_row-read.ensures.reading)
    (λ found is. orders_rise (g.R.Reads.choice c.args.readings.now) c.args.rules.now (g.R.Reads.held c.args.readings.now) (kept_of c.args.progress.now) (row_at c.args.moment c.args.inputs.now) found c.requires.follows is)

pub stand-changed-requires-clause-can_move : goal.stand-changed-requires-clause-can_move
stand-changed-requires-clause-can_move g c =
    let timed : c.set_timers.new.links ≡ links_at c.start_at-start.result c.args.moment (stayed c.args.progress.now.links.items) c.args.progress.now.switches.items =
    c.set_timers.ensures.links ∙ (λ i. links_at c.start_at-start.result c.args.moment (stayed (c.deref_mut.ensures.value i)) (c.deref.ensures.value i)) in
    let long : length c.set_timers.new.links ≡ c.args.progress.now.links.len = search rules in
    let same = state_same c.args.rules.now (kept_of c.args.progress.now) (row_at c.args.moment c.args.inputs.now) c.args.progress.now.links.len c.start_at-start.result c.step_at-step.result
    c.copy_from_slice.new.self.items c.set_timers.new.links _ c.start_at-start.ensures c.step_at-step.ensures c.copy_from_slice.ensures.items long timed in
    when_read (λ orders. CanMove orders c.args.rules.now.tracked c.args.rules.now.rates c.deref_mut-3.result.now) c.read_row-read.result (orders_when c.is_due-due.result (g.R.Reads.last_orders c.read_row-read.new.readings))
    (reading_of (g.R.Reads.choice c.args.readings.now) c.args.rules.now (g.R.Reads.held c.args.readings.now) (kept_of c.args.progress.now) (row_at c.args.moment c.args.inputs.now))
    (reading_same (g.R.Reads.choice c.args.readings.now) c.args.rules.now (g.R.Reads.held c.args.readings.now) (kept_of c.args.progress.now) (row_at c.args.moment c.args.inputs.now)
    c.is_due-due.result c.read_row-read.result (orders_when c.is_due-due.result (g.R.Reads.last_orders c.read_row-read.new.readings)) _ _ c.deref_mut-2.result.now c.is_due-due.ensures
    (state_same c.args.rules.now (kept_of c.args.progress.now) (row_at c.args.moment c.args.inputs.now) c.args.progress.now.links.len c.start_at-start.result c.step_at-step.result
    c.copy_from_slice.new.self.items c.set_timers.new.links _ c.start_at-start.ensures c.step_at-step.ensures c.copy_from_slice.ensures.items long timed)
    c.deref_mut-2.ensures.value refl c.read_row-read.ensures.reading)
    (λ found is.
    subst (λ (links : List LinkState). CanMove found c.args.rules.now.tracked c.args.rules.now.rates links)
    (sym (c.deref_mut-3.ensures.value ∙ c.read_row-read.ensures.links ∙ ap (λ (s : State). s.links) same))
    (can_move (g.R.Reads.choice c.args.readings.now) c.args.rules.now (g.R.Reads.held c.args.readings.now) (kept_of c.args.progress.now) (row_at c.args.moment c.args.inputs.now) found c.requires.follows is))

pub copy_changed-requires-clause-within : goal.copy_changed-requires-clause-within
copy_changed-requires-clause-within g c =
    let long : length c.set_timers.new.links ≡ c.args.progress.now.links.len = search rules in
    let each : length c.deref_mut-3.result.now ≡ length c.args.rules.now.tracked =
    ap length (c.deref_mut-3.ensures.value ∙ c.read_row-read.ensures.links ∙ take_at c.set_timers.new.links _ c.args.progress.now.links.len long)
    ∙ c.set_timers.auto.links ∙ ap length c.deref_mut.ensures.value ∙ c.requires.fits.links in
    let moved : (with_items c.read_row-read.new.links c.stand-changed.new.links).items ≡ c.stand-changed.new.links =
    with_items_is c.read_row-read.new.links c.stand-changed.new.links (search rules) in
    subst (λ (ps : List ℕ). All (λ place. place < length c.deref-3.result.now) ps) (sym c.deref-2.ensures.value)
    (subst (λ (ls : List LinkState). All (λ (place : ℕ). place < length ls) c.args.progress.now.places.items) (sym (c.deref-3.ensures.value ∙ moved))
    (places_within c.args.rules.now c.stand-changed.new.links c.args.progress.now.places.items (c.stand-changed.auto.links ∙ each) c.requires.fits.places))

pub copy_changed-requires-clause-each : goal.copy_changed-requires-clause-each
copy_changed-requires-clause-each g c =
    ap length c.deref_mut-5.ensures.value ∙ ap length c.requires.fits.settings
    ∙ standing-settings c.args.rules.now (stayed c.args.progress.now.links.items)
    ∙ sym (ap length c.deref-2.ensures.value ∙ places_long c.args.rules.now c.args.progress.now.places.items c.requires.fits.places)

pub copy_changed-requires-clause-same : goal.copy_changed-requires-clause-same
copy_changed-requires-clause-same g c = λ still. (
    let timed : c.set_timers.new.links ≡ links_at c.start_at-start.result c.args.moment (stayed c.args.progress.now.links.items) c.args.progress.now.switches.items =
    c.set_timers.ensures.links ∙ (λ i. links_at c.start_at-start.result c.args.moment (stayed (c.deref_mut.ensures.value i)) (c.deref.ensures.value i)) in
    let long : length c.set_timers.new.links ≡ c.args.progress.now.links.len = search rules in
    let each : length c.deref_mut-3.result.now ≡ length c.args.rules.now.tracked =
    ap length (c.deref_mut-3.ensures.value ∙ c.read_row-read.ensures.links ∙ take_at c.set_timers.new.links _ c.args.progress.now.links.len long)
    ∙ c.set_timers.auto.links ∙ ap length c.deref_mut.ensures.value ∙ c.requires.fits.links in
    let moved : (with_items c.read_row-read.new.links c.stand-changed.new.links).items ≡ c.stand-changed.new.links =
    with_items_is c.read_row-read.new.links c.stand-changed.new.links (search rules) in
    let stays : stayed c.stand-changed.new.links ≡ stayed c.args.progress.now.links.items =
    ap stayed (c.stand-changed.ensures.unchanged still ∙ c.deref_mut-3.ensures.value ∙ c.read_row-read.ensures.links
    ∙ take_at c.set_timers.new.links _ c.args.progress.now.links.len long ∙ timed)
    ∙ stayed_timed c.start_at-start.result c.args.moment (stayed c.args.progress.now.links.items) c.args.progress.now.switches.items
    (stayed_long c.args.progress.now.links.items ∙ c.requires.fits.links ∙ sym c.requires.fits.switches) in
    c.deref_mut-5.ensures.value
    ∙ settings_stay c.args.rules.now c.args.progress.now.links.items c.stand-changed.new.links c.args.progress.now.places.items c.args.progress.now.settings.items
    c.requires.follows.rules.formed.orders (c.stand-changed.auto.links ∙ each) c.requires.fits.places c.requires.fits.settings stays
    ∙ sym (λ i. settings_at ((c.deref-3.ensures.value ∙ moved) i) (c.deref-2.ensures.value i)))

pub returns-clause-kept : goal.returns-clause-kept
returns-clause-kept g c =
    let row : Row = row_at c.args.moment c.args.inputs.now in
    let before : Kept = kept_of c.args.progress.now in
    let timed : c.set_timers.new.links ≡ links_at c.start_at-start.result c.args.moment (stayed c.args.progress.now.links.items) c.args.progress.now.switches.items =
    c.set_timers.ensures.links ∙ (λ i. links_at c.start_at-start.result c.args.moment (stayed (c.deref_mut.ensures.value i)) (c.deref.ensures.value i)) in
    let long : length c.set_timers.new.links ≡ c.args.progress.now.links.len = search rules in
    let moved : (with_items c.read_row-read.new.links c.stand-changed.new.links).items ≡ c.stand-changed.new.links =
    with_items_is c.read_row-read.new.links c.stand-changed.new.links (search rules) in
    let same = state_same c.args.rules.now before row c.args.progress.now.links.len c.start_at-start.result c.step_at-step.result
    c.copy_from_slice.new.self.items c.set_timers.new.links _ c.start_at-start.ensures c.step_at-step.ensures c.copy_from_slice.ensures.items long timed in
    let reading : given c.read_row-read.result (orders_when c.is_due-due.result (g.R.Reads.last_orders c.read_row-read.new.readings))
    ≡ reading_of (g.R.Reads.choice c.args.readings.now) c.args.rules.now (g.R.Reads.held c.args.readings.now) before row =
    reading_same (g.R.Reads.choice c.args.readings.now) c.args.rules.now (g.R.Reads.held c.args.readings.now) before row
    c.is_due-due.result c.read_row-read.result (orders_when c.is_due-due.result (g.R.Reads.last_orders c.read_row-read.new.readings)) _ _ c.deref_mut-2.result.now c.is_due-due.ensures
    same c.deref_mut-2.ensures.value refl c.read_row-read.ensures.reading in
    let lent : c.deref_mut-3.result.now ≡ (state_of c.args.rules.now before row).links =
    c.deref_mut-3.ensures.value ∙ c.read_row-read.ensures.links ∙ ap (λ (s : State). s.links) same in
    let standings : stayed (with_items c.read_row-read.new.links c.stand-changed.new.links).items
    ≡ standings_at (g.R.Reads.choice c.args.readings.now) c.args.rules.now (g.R.Reads.held c.args.readings.now) before row =
    ap stayed moved ∙ c.stand-changed.ensures.links (state_of c.args.rules.now before row) (sym lent)
    ∙ (λ i. standings_after c.args.rules.now (c.gap_at-gap.ensures i) (state_of c.args.rules.now before row) (reading i)) in
    let switches = with_items_is c.args.progress.now.switches c.stand-changed.new.switches (search rules)
    ∙ c.stand-changed.ensures.switches (state_of c.args.rules.now before row) (sym lent)
    ∙ (λ i. switches_after c.args.moment (lent i)
    (standings_after c.args.rules.now (c.gap_at-gap.ensures i) (state_of c.args.rules.now before row) (reading i)) (c.deref_mut-4.ensures.value i)) in
    let memories = with_items_is c.args.progress.now.memories c.read_row-read.new.memories (search rules) ∙ c.read_row-read.ensures.memories
    ∙ (λ i. memories_when (c.is_due-due.ensures i) c.args.rules.now (same i) (c.deref_mut-2.ensures.value i)
    (reading i)) in
    let due = c.last_due-progress.ensures ∙ ap (λ d. due_after d c.args.moment c.args.progress.now.due) c.is_due-due.ensures in
    let stop = c.err-progress.ensures.value ∙ stop_same c.read_row-read.result (orders_when c.is_due-due.result (g.R.Reads.last_orders c.read_row-read.new.readings)) ∙ ap stop_of reading in
    λ i. record {
      standings = standings i;
      switches = switches i;
      memories = memories i;
      start = Some (c.start_at-start.ensures i);
      last = Some c.args.moment;
      due = due i;
      stop = stop i;
    }

pub returns-clause-fits : goal.returns-clause-fits
returns-clause-fits g c =
    let long : length c.set_timers.new.links ≡ c.args.progress.now.links.len = search rules in
    let each : length c.deref_mut-3.result.now ≡ length c.args.rules.now.tracked =
    ap length (c.deref_mut-3.ensures.value ∙ c.read_row-read.ensures.links ∙ take_at c.set_timers.new.links _ c.args.progress.now.links.len long)
    ∙ c.set_timers.auto.links ∙ ap length c.deref_mut.ensures.value ∙ c.requires.fits.links in
    let moved : (with_items c.read_row-read.new.links c.stand-changed.new.links).items ≡ c.stand-changed.new.links =
    with_items_is c.read_row-read.new.links c.stand-changed.new.links (search rules) in
    let after : length c.stand-changed.new.links ≡ length c.args.rules.now.tracked = c.stand-changed.auto.links ∙ each in
    record {
      links = ap length moved ∙ after;
      switches =
          ap length (with_items_is c.args.progress.now.switches c.stand-changed.new.switches (search rules))
          ∙ c.stand-changed.auto.switches ∙ ap length c.deref_mut-4.ensures.value ∙ c.requires.fits.switches;
      inputs = ap length (c.read_row-read.ensures.inputs ∙ c.copy_from_slice.ensures.items) ∙ c.requires.follows.fits.0.inputs;
      memories =
          ap length (with_items_is c.args.progress.now.memories c.read_row-read.new.memories (search rules))
          ∙ c.read_row-read.auto.memories ∙ ap length c.deref_mut-2.ensures.value ∙ c.requires.fits.memories;
      places = c.requires.fits.places;
      settings =
          with_items_is c.args.progress.now.settings c.copy_changed.new.settings (search rules)
          ∙ c.copy_changed.ensures ∙ (λ i. settings_at (c.deref-3.ensures.value i) (c.deref-2.ensures.value i))
          ∙ settings_are c.args.rules.now (with_items c.read_row-read.new.links c.stand-changed.new.links).items c.args.progress.now.places.items
          c.requires.follows.rules.formed.orders (ap length moved ∙ after) c.requires.fits.places;
    }

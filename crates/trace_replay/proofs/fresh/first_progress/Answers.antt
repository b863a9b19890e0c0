use Rattle.std.proofs.Common.{◌≡◌, ◌<◌, ℕ, None, List, length, replicate, rules, sym, subst, ap, ◌∙◌}
use Rattle.std.proofs.lemmas.List.{with_items_is, length-replicate}
use Rattle.std.specs.Prelude.{All}
use Rattle.rule_types.specs.declared.state.LinkState.{LinkState}
use Rattle.rule_types.specs.Reading.{pid_count}
use Rattle.rule_meaning.specs.Pid.{fresh}
use Rattle.rule_meaning.specs.Replay.{first_standings}
use Rattle.trace_replay.specs.internal.Moving.{settings_at}
use Rattle.trace_replay.proofs.FirstSteps.{places_within, settings_are, unswitched_is}
use Rattle.trace_replay.proofs.fresh.first_progress.Goals as goal

pub copy_settings-requires-clause-within : goal.copy_settings-requires-clause-within
copy_settings-requires-clause-within c =
    let long : length c.in_ok-links.links.items ≡ length c.args.rules.now.tracked = c.in_ok-links.ensures.each ∙ ap length c.as_slice.ensures.value ∙ c.requires.well_formed.initial in
    subst (λ (ps : List ℕ). All (λ place. place < length c.deref-2.result.now) ps) (sym c.deref.ensures.value)
    (subst (λ (ls : List LinkState). All (λ (place : ℕ). place < length ls) c.in_ok-places.places.items) (sym c.deref-2.ensures.value)
    (places_within c.args.rules.now c.in_ok-links.links.items c.in_ok-places.places.items long c.in_ok-places.ensures.places))

pub returns-clause-kept : goal.returns-clause-kept
returns-clause-kept c =
    let standings = c.in_ok-links.ensures.standings ∙ ap first_standings c.as_slice.ensures.value in
    let switches = c.in_ok-switches.ensures.items_if_clones_equal (λ y h. search rules) ∙ ap (λ n. replicate n None) c.len.ensures.value ∙ unswitched_is c.args.rules.now.tracked in
    let memories = c.in_ok-memories.ensures.fresh ∙ ap (λ r. replicate (pid_count r) fresh) c.as_slice-2.ensures.value in
    λ i. record {
      standings = standings i;
      switches = switches i;
      memories = memories i;
      start = c.args.rules.now.start;
      last = None;
      due = None;
      stop = None;
    }

pub returns-clause-fits : goal.returns-clause-fits
returns-clause-fits c =
    let long : length c.in_ok-links.links.items ≡ length c.args.rules.now.tracked = c.in_ok-links.ensures.each ∙ ap length c.as_slice.ensures.value ∙ c.requires.well_formed.initial in
    record {
      links = long;
      switches =
          ap length (c.in_ok-switches.ensures.items_if_clones_equal (λ y h. search rules)) ∙ length-replicate c.len.result None ∙ c.len.ensures.value;
      inputs =
          ap length (c.in_ok-inputs.ensures.items_if_clones_equal (λ y h. search rules)) ∙ length-replicate c.len-2.result None ∙ c.len-2.ensures.value;
      memories =
          ap length (c.in_ok-memories.ensures.fresh ∙ ap (λ r. replicate (pid_count r) fresh) c.as_slice-2.ensures.value) ∙ length-replicate (pid_count c.args.rules.now.rules) fresh;
      places = c.in_ok-places.ensures.places;
      settings =
          with_items_is c.in_ok-settings.settings c.copy_settings.new.settings (search rules)
          ∙ c.copy_settings.ensures ∙ (λ i. settings_at (c.deref-2.ensures.value i) (c.deref.ensures.value i))
          ∙ settings_are c.args.rules.now c.in_ok-links.links.items c.in_ok-places.places.items c.requires.well_formed.orders long c.in_ok-places.ensures.places;
    }

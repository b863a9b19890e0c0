use Rattle.std.proofs.Common.{◌≡◌, ◌<◌, ◌≤◌, Some, length, get_or, sym, subst, ap, ◌∙◌, cond, arith}
use Rattle.std.proofs.lemmas.List.{length-set}
use Rattle.std.proofs.lemmas.Option.{slice_get-get_or, slice_get_read, get_or_from_slice_get}
use Rattle.std.specs.Prelude.{slice_get}
use Rattle.rule_types.specs.declared.state.LinkState.{LinkState}
use Rattle.rule_meaning.specs.History.{all_moved, new_target}
use Rattle.rule_meaning.specs.Movement.{moved}
use Rattle.rule_meaning.specs.Replay.{is_switch, switches_after}
use Rattle.trace_replay.specs.internal.Moving.{IsOnItsWay}
use Rattle.trace_replay.proofs.LinkSteps.{follow_step, follow_end, same_later}
use Rattle.trace_replay.proofs.LinkSwitches.{same_item, rest_same, still_same, switched_step, switched_end}
use Rattle.trace_replay.proofs.follow.follow.Goals as goal

pub follow_one-moves-requires-clause-rate : goal.follow_one-moves-requires-clause-rate
follow_one-moves-requires-clause-rate c =
    let within : c.loop-at.at < length c.args.tracked.now = c.loop-at-test.true in
    let link = slice_get-get_or c.args.tracked.now c.loop-at.at 0 within in
    let rate = slice_get_read c.args.rates.now (length c.args.tracked.now) c.loop-at.at c.index-rates-at.result (sym c.requires.each_rate) within c.index-rates-at.is in
    let here = slice_get_read c.loop-at.links (length c.args.tracked.now) c.loop-at.at c.index-links-at.result (sym c.loop-at.invariant.long) within c.index-links-at.is in
    let old = same_item c.loop-at.links c.args.links.now c.loop-at.at c.index-links-at.result c.loop-at.invariant.later_links here in
    (c.requires.can_move c.loop-at.at (get_or c.args.tracked.now c.loop-at.at 0) c.index-rates-at.result c.index-links-at.result link rate old).0

pub follow_one-moves-requires-clause-on_its_way : goal.follow_one-moves-requires-clause-on_its_way
follow_one-moves-requires-clause-on_its_way c =
    let within : c.loop-at.at < length c.args.tracked.now = c.loop-at-test.true in
    let link : slice_get c.args.tracked.now c.loop-at.at ≡ Some (get_or c.args.tracked.now c.loop-at.at 0) = slice_get-get_or c.args.tracked.now c.loop-at.at 0 within in
    let rate = slice_get_read c.args.rates.now (length c.args.tracked.now) c.loop-at.at c.index-rates-at.result (sym c.requires.each_rate) within c.index-rates-at.is in
    let here = slice_get_read c.loop-at.links (length c.args.tracked.now) c.loop-at.at c.index-links-at.result (sym c.loop-at.invariant.long) within c.index-links-at.is in
    let old = same_item c.loop-at.links c.args.links.now c.loop-at.at c.index-links-at.result c.loop-at.invariant.later_links here in
    let lent : get_or c.loop-at.links c.loop-at.at c.index-links-at-in-loop-at.result ≡ c.index-links-at.result =
    get_or_from_slice_get c.loop-at.links c.loop-at.at c.index-links-at.result c.index-links-at-in-loop-at.result here in
    let target : c.target_of-target.result ≡ new_target c.args.orders.now (get_or c.args.tracked.now c.loop-at.at 0) c.index-links-at.result.target =
    c.target_of-target.ensures
    ∙ ap (λ (o : LinkState). new_target c.from_link-rest.result.now (get_or c.args.tracked.now c.loop-at.at 0) o.target) (sym c.index-links-at.is)
    ∙ c.from_link-rest.ensures.same (get_or c.args.tracked.now c.loop-at.at 0) c.index-links-at.result.target (omega arith)
    ∙ c.loop-at.invariant.same c.loop-at.at (get_or c.args.tracked.now c.loop-at.at 0) c.index-links-at.result.target (omega arith) link in
    subst (λ t. IsOnItsWay c.index-rates-at.result (get_or c.loop-at.links c.loop-at.at c.index-links-at-in-loop-at.result).setting t) (sym target)
    (subst (λ (o : LinkState). IsOnItsWay c.index-rates-at.result o.setting (new_target c.args.orders.now (get_or c.args.tracked.now c.loop-at.at 0) c.index-links-at.result.target)) (sym lent)
    (c.requires.can_move c.loop-at.at (get_or c.args.tracked.now c.loop-at.at 0) c.index-rates-at.result c.index-links-at.result link rate old).1)

pub loop-at-preserved : goal.loop-at-preserved
loop-at-preserved c =
    let within : c.loop-at.at < length c.args.tracked.now = c.loop-at-test.true in
    let inside : c.loop-at.at < length c.loop-at.links = omega (arith, within, c.loop-at.invariant.long) in
    let inside_switches : c.loop-at.at < length c.loop-at.switches = omega (arith, within, c.loop-at.invariant.long_switches) in
    let link : slice_get c.args.tracked.now c.loop-at.at ≡ Some (get_or c.args.tracked.now c.loop-at.at 0) = slice_get-get_or c.args.tracked.now c.loop-at.at 0 within in
    let rate = slice_get_read c.args.rates.now (length c.args.tracked.now) c.loop-at.at c.index-rates-at.result (sym c.requires.each_rate) within c.index-rates-at.is in
    let here = slice_get_read c.loop-at.links (length c.args.tracked.now) c.loop-at.at c.index-links-at.result (sym c.loop-at.invariant.long) within c.index-links-at.is in
    let old = same_item c.loop-at.links c.args.links.now c.loop-at.at c.index-links-at.result c.loop-at.invariant.later_links here in
    let there = slice_get_read c.loop-at.switches (length c.args.tracked.now) c.loop-at.at c.index-switches-at.result (sym c.loop-at.invariant.long_switches) within c.index-switches-at.is in
    let last = same_item c.loop-at.switches c.args.switches.now c.loop-at.at c.index-switches-at.result c.loop-at.invariant.later_switches there in
    let lent : get_or c.loop-at.links c.loop-at.at c.index-links-at-in-loop-at.result ≡ c.index-links-at.result =
    get_or_from_slice_get c.loop-at.links c.loop-at.at c.index-links-at.result c.index-links-at-in-loop-at.result here in
    let target : c.target_of-target.result ≡ new_target c.args.orders.now (get_or c.args.tracked.now c.loop-at.at 0) c.index-links-at.result.target =
    c.target_of-target.ensures
    ∙ ap (λ (o : LinkState). new_target c.from_link-rest.result.now (get_or c.args.tracked.now c.loop-at.at 0) o.target) (sym c.index-links-at.is)
    ∙ c.from_link-rest.ensures.same (get_or c.args.tracked.now c.loop-at.at 0) c.index-links-at.result.target (omega arith)
    ∙ c.loop-at.invariant.same c.loop-at.at (get_or c.args.tracked.now c.loop-at.at 0) c.index-links-at.result.target (omega arith) link in
    let setting : c.follow_one-moves.new.link.setting
    ≡ moved c.index-rates-at.result c.args.gap.now c.index-links-at.result.setting (new_target c.args.orders.now (get_or c.args.tracked.now c.loop-at.at 0) c.index-links-at.result.target) =
    c.follow_one-moves.ensures.setting ∙ (λ i. moved c.index-rates-at.result c.args.gap.now (lent i).setting (target i)) in
    let switch : c.follow_one-moves.new.switch
    ≡ cond (is_switch c.index-links-at.result.setting c.follow_one-moves.new.link.setting) (Some c.args.moment) c.index-switches-at.result =
    c.follow_one-moves.ensures.switch
    ∙ (λ i. cond (is_switch (lent i).setting c.follow_one-moves.new.link.setting) (Some c.args.moment) (sym c.index-switches-at.is i)) in
    record {
      links =
          follow_step c.args.gap.now c.args.orders.now c.args.tracked.now c.args.rates.now c.args.links.now c.loop-at.links c.loop-at.at
          (get_or c.args.tracked.now c.loop-at.at 0) c.index-rates-at.result c.index-links-at.result c.follow_one-moves.new.link
          (all_moved c.args.gap.now c.args.orders.now c.args.tracked.now c.args.rates.now c.args.links.now)
          inside link rate old setting (c.follow_one-moves.ensures.target ∙ target) c.loop-at.invariant.links;
      switches =
          switched_step c.args.moment c.args.gap.now c.args.orders.now c.args.tracked.now c.args.rates.now c.args.links.now c.args.switches.now c.loop-at.switches c.loop-at.at
          (get_or c.args.tracked.now c.loop-at.at 0) c.index-rates-at.result c.index-links-at.result c.follow_one-moves.new.link c.index-switches-at.result c.follow_one-moves.new.switch
          (switches_after c.args.moment c.args.links.now (all_moved c.args.gap.now c.args.orders.now c.args.tracked.now c.args.rates.now c.args.links.now) c.args.switches.now)
          inside_switches link rate old last setting switch c.loop-at.invariant.switches;
      later_links = rest_same c.loop-at.links c.args.links.now c.loop-at.at c.follow_one-moves.new.link c.loop-at.invariant.later_links;
      later_switches = rest_same c.loop-at.switches c.args.switches.now c.loop-at.at c.follow_one-moves.new.switch c.loop-at.invariant.later_switches;
      same =
          same_later c.args.tracked.now c.args.orders.now c.loop-at.rest.now c.from_link-rest.result.now c.loop-at.at
          (get_or c.args.tracked.now c.loop-at.at 0) c.requires.rising link c.from_link-rest.ensures.same c.loop-at.invariant.same;
      in_order = c.from_link-rest.ensures.in_order;
      long = length-set c.loop-at.links c.loop-at.at _ ∙ c.loop-at.invariant.long;
      long_switches = length-set c.loop-at.switches c.loop-at.at _ ∙ c.loop-at.invariant.long_switches;
      unchanged =
          still_same c.args.links.now c.loop-at.links c.loop-at.at c.follow_one-moves.new.link c.index-links-at-in-loop-at.result c.loop-at.changed c.follow_one-moves.result
          c.loop-at.invariant.unchanged c.follow_one-moves.ensures.unchanged;
    }

pub returns-clause-links : goal.returns-clause-links
returns-clause-links c =
    let past : length c.args.tracked.now ≤ c.loop-at.at = omega (arith, c.loop-at-test.false) in
    follow_end c.args.gap.now c.args.orders.now c.args.tracked.now c.args.rates.now c.args.links.now c.loop-at.links c.loop-at.at
    (all_moved c.args.gap.now c.args.orders.now c.args.tracked.now c.args.rates.now c.args.links.now) past c.loop-at.invariant.long c.loop-at.invariant.links

pub returns-clause-switches : goal.returns-clause-switches
returns-clause-switches c =
    let past : length c.args.tracked.now ≤ c.loop-at.at = omega (arith, c.loop-at-test.false) in
    switched_end c.args.moment c.args.links.now _ c.args.switches.now c.loop-at.switches c.loop-at.at
    (switches_after c.args.moment c.args.links.now (all_moved c.args.gap.now c.args.orders.now c.args.tracked.now c.args.rates.now c.args.links.now) c.args.switches.now)
    (omega (arith, past, c.requires.each_link)) (omega (arith, past, c.loop-at.invariant.long_switches)) c.loop-at.invariant.switches

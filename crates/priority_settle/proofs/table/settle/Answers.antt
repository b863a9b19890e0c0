use Rattle.std.proofs.Common.{◌≡◌, ◌∙◌, ap, sym, length}
use Rattle.std.proofs.lemmas.List.{length-map, with_items_is}
use Rattle.rule_meaning.specs.Settled.{settled_on}
use Rattle.priority_settle.specs.Settling.{settled_each}
use Rattle.priority_settle.proofs.Entries.{all_held}
use Rattle.priority_settle.proofs.table.settle.Goals as goal

pub returns : goal.returns
returns c =
    let long = ap length c.settle_into.ensures.settled
    ∙ length-map c.args.rules.now.controlled (settled_on c.args.rules.now.rules c.args.listed.now)
    ∙ sym (c.in_ok-firsts.ensures.len ∙ c.len.ensures.value) in
    let table : c.deref.result.now
    ≡ settled_each c.args.rules.now.rules c.args.rules.now.controlled c.args.listed.now
    = c.deref.ensures.value
    ∙ with_items_is c.in_ok-firsts.firsts c.settle_into.new.firsts long
    ∙ c.settle_into.ensures.settled in
    record {
      pairs =
          rw (← all_held c.args.rules.now.rules c.args.rules.now.controlled c.args.listed.now, ← table)
          c.held_pairs.ensures.value;
    }

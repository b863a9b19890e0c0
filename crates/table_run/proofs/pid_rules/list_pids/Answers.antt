use Rattle.std.proofs.Common.{◌∙◌, ℕ, get_or, arith}
use Rattle.std.specs.Vec.{vec_capacity}
use Rattle.table_run.specs.internal.PidRules.{pids_of}
use Rattle.table_run.proofs.PidSteps.{same_item, number_within, pids_room, pids_step, pids_end, pids_start}
use Rattle.table_run.proofs.pid_rules.list_pids.Goals as goal

pub list_rule-requires-clause-within : goal.list_rule-requires-clause-within
list_rule-requires-clause-within c =
    let number : ℕ = get_or c.args.numbers.now c.loop-at.at 0 in
    number_within c.args.rules.now c.args.numbers.now c.loop-at.at number c.requires.numbers c.loop-at-test.true
    (same_item c.args.numbers.now c.loop-at.at 0 number c.loop-at-test.true)

pub list_rule-requires-clause-room : goal.list_rule-requires-clause-room
list_rule-requires-clause-room c =
    let number : ℕ = get_or c.args.numbers.now c.loop-at.at 0 in
    let room = pids_room c.args.rules.now c.args.state.now c.args.numbers.now c.loop-at.at number c.loop-at.pairs.items (vec_capacity c.args.pairs.now) (vec_capacity c.loop-at.pairs)
    c.loop-at-test.true (same_item c.args.numbers.now c.loop-at.at 0 number c.loop-at-test.true)
    (c.loop-at.invariant.pairs ∙ pids_start c.args.rules.now c.args.state.now c.args.numbers.now c.requires.numbers)
    (c.requires.room c.args.state.now) c.loop-at.invariant.capacity in
    omega (arith, room, c.loop-at.pairs.ok)

pub loop-at-preserved : goal.loop-at-preserved
loop-at-preserved c =
    let number : ℕ = get_or c.args.numbers.now c.loop-at.at 0 in
    record {
      pairs = pids_step c.args.rules.now c.args.state.now c.args.numbers.now c.loop-at.at number (pids_of c.args.rules.now c.args.state.now c.args.numbers.now)
          c.loop-at.pairs.items c.list_rule.new.pairs.items c.loop-at-test.true (same_item c.args.numbers.now c.loop-at.at 0 number c.loop-at-test.true)
          c.loop-at.invariant.pairs c.list_rule.ensures.pairs;
      capacity = omega (arith, c.list_rule.ensures.capacity, c.loop-at.invariant.capacity);
    }

pub returns-clause-pairs : goal.returns-clause-pairs
returns-clause-pairs c =
    pids_end c.args.rules.now c.args.state.now c.args.numbers.now c.loop-at.at (pids_of c.args.rules.now c.args.state.now c.args.numbers.now) c.loop-at.pairs.items c.loop-at-test.false c.loop-at.invariant.pairs
    ∙ pids_start c.args.rules.now c.args.state.now c.args.numbers.now c.requires.numbers

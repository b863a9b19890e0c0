use Rattle.std.proofs.Common.{◌≡◌, true, false, arith}
use Rattle.state_checker.proofs.WitnessSteps.{outside, within_ok}
use Rattle.state_checker.proofs.checking.check_state.Goals as goal

pub returns-then-not-is_in_ranges : goal.returns-then-not-is_in_ranges
returns-then-not-is_in_ranges c =
    let off : c.is_in_ranges.result ≡ false = grind (arith, c.if-not-is_in_ranges.true) in
    record { exact = outside c.args.rules.now c.args.tables.now c.args.question.now c.args.ranges.now c.args.state.now c.in_ok-cell.cell c.is_in_ranges.result c.in_ok-cell.ensures.value off c.is_in_ranges.ensures.exact }

pub returns : goal.returns
returns c =
    let on : c.is_in_ranges.result ≡ true = grind (arith, c.if-not-is_in_ranges.false) in
    record { exact = within_ok c.args.rules.now c.args.tables.now c.args.question.now c.args.ranges.now c.args.state.now c.in_ok-cell.cell c.is_in_ranges.result c.has_event.result c.requires.fits c.in_ok-cell.ensures.value on c.is_in_ranges.ensures.exact c.has_event.ensures.value }

use Rattle.std.proofs.Common.{◌≡◌, true, false, sym, ◌∙◌, arith}
use Rattle.state_checker.proofs.FitSteps.{fits_from}
use Rattle.state_checker.proofs.WitnessSteps.{no_witness, no_witness_is, witness_value}
use Rattle.state_checker.proofs.checking.is_witness.Goals as goal

pub check_state-requires-clause-fits : goal.check_state-requires-clause-fits
check_state-requires-clause-fits c =
    let on : c.fits_rules.result ≡ true = grind (arith, c.if-not-fits_rules.false) in
    fits_from c.args.rules.now c.args.state.now c.requires.formed (sym c.fits_rules.ensures.value ∙ on)

pub returns-then-not-fits_rules : goal.returns-then-not-fits_rules
returns-then-not-fits_rules c =
    let off : c.fits_rules.result ≡ false = grind (arith, c.if-not-fits_rules.true) in
    let none = no_witness c.args.rules.now c.args.tables.now c.args.question.now c.args.ranges.now c.args.state.now c.fits_rules.result c.fits_rules.ensures.value off in
    record {
      value = none;
      exact = no_witness_is c.args.rules.now c.args.tables.now c.args.question.now c.args.ranges.now c.args.state.now none;
    }

pub returns : goal.returns
returns c = record {
  value = witness_value c.args.rules.now c.args.tables.now c.args.question.now c.args.ranges.now c.args.state.now c.check_state.result c.requires.formed c.check_state.ensures.exact;
  exact = c.check_state.ensures.exact;
}

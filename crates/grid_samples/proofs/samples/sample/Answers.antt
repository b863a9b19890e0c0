use Rattle.std.proofs.Common.{rules, ◌≡◌, Some, sym, subst}
use Rattle.rule_types.specs.Fitting.{FitsRules}
use Rattle.verdict_meaning.specs.Grids.{cell_numbers, sample_with}
use Rattle.grid_samples.proofs.SampleFits.{numbers_fit}
use Rattle.grid_samples.proofs.samples.sample.Goals as goal

pub returns-in_ok-state-in-Some-clause-fits : goal.returns-in_ok-state-in-Some-clause-fits
returns-in_ok-state-in-Some-clause-fits c =
    let found : cell_numbers c.args.cell.now.keys ≡ Some c.in-Some.numbers.items = search rules in
    let is : c.in_ok-state-in-Some.state ≡ sample_with c.args.rules.now c.args.cell.now.moments c.in-Some.numbers.items = search rules in
    λ pieces. subst (FitsRules c.args.rules.now) (sym is)
    (numbers_fit c.args.rules.now c.args.cell.now c.in-Some.numbers.items c.requires.formed pieces found)

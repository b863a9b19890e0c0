use Rattle.expr_parser.proofs.PublicLaws.{formulas_read-built, formulas_read-levels, formulas_read-exponents, formulas_read-variables, formulas_read-fits}
use Rattle.expr_parser.proofs.laws.formulas_read.Goals as goal

pub returns-clause-built : goal.returns-clause-built
returns-clause-built c = formulas_read-built

pub returns-clause-levels : goal.returns-clause-levels
returns-clause-levels c = formulas_read-levels

pub returns-clause-exponents : goal.returns-clause-exponents
returns-clause-exponents c = formulas_read-exponents

pub returns-clause-variables : goal.returns-clause-variables
returns-clause-variables c = formulas_read-variables

pub returns-clause-fits : goal.returns-clause-fits
returns-clause-fits c = formulas_read-fits

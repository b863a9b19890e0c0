-- What the crates above may cite in their lemmas, and all that they may. Each term proves the clause
-- of src/laws.rt that its name says, law and clause, and the answers of those laws are these terms:
-- so no more is cited than a public clause says.
use Rattle.std.proofs.Common.{◌≡◌, ℕ, ◌≤◌, List, Ok}
use Rattle.std.specs.Prelude.{IsTrue}
use Rattle.rule_types.specs.declared.expr.Expr.{Expr}
use Rattle.rule_types.specs.Formulas.{levels, has_small_exponents, names_pass}
use Rattle.expr_parser.specs.declared.name_index.DeclaredName.{DeclaredName}
use Rattle.expr_parser.specs.Names.{is_variable_at}
use Rattle.expr_parser.specs.Reading.{expr_in}
use Rattle.expr_parser.proofs.Sound.{read_is}
pub use Rattle.expr_parser.proofs.Sound.{built_is as formulas_read-built}
pub use Rattle.expr_parser.proofs.Fitting.{fits_behind as formulas_read-fits}
pub use Rattle.expr_parser.proofs.LongestNumbers.{longest_is as longest_numbers-longest, number_token as longest_numbers-found, token_read as longest_numbers-number}

pub formulas_read-levels : (names : List DeclaredName) (text : List ℕ) (formula : Expr) → expr_in names text ≡ Ok formula → levels formula ≤ 64
formulas_read-levels names text formula h = (read_is names (is_variable_at names) (λ n e. e) text formula h).shallow

pub formulas_read-exponents : (names : List DeclaredName) (text : List ℕ) (formula : Expr) → expr_in names text ≡ Ok formula → IsTrue (has_small_exponents formula)
formulas_read-exponents names text formula h = (read_is names (is_variable_at names) (λ n e. e) text formula h).exponents

pub formulas_read-variables : (names : List DeclaredName) (text : List ℕ) (formula : Expr) → expr_in names text ≡ Ok formula
    → IsTrue (names_pass (is_variable_at names) formula)
formulas_read-variables names text formula h = (read_is names (is_variable_at names) (λ n e. e) text formula h).variables

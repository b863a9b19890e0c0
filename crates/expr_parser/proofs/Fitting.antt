-- A formula that is read over the names of some definitions fits behind them.
use Rattle.std.proofs.Common.{◌≡◌, ℕ, zero, suc, Bool, true, false, if◌then◌else◌, nat_lt, List, [], ◌∷◌, ◌++◌, length, None, Some, is_some, slice_get, Ok, refl, arith}
use Rattle.std.proofs.lemmas.Bool.Decides.{nat_tests}
use Rattle.rule_types.specs.declared.expr.Expr.{Expr}
use Rattle.rule_types.specs.declared.names.NameDef.{NameDef}
use Rattle.rule_types.specs.Reading.{is_variable_kind, is_variable}
use Rattle.rule_types.specs.WellFormed.{is_variable_before, FormulaFits}
use Rattle.expr_parser.specs.Names.{if_variable, is_variable_at, declared_names}
use Rattle.expr_parser.specs.Reading.{expr_in}
use Rattle.expr_parser.proofs.Sound.{read_is}

-- a variable among the names is one of the names behind which a formula stands
record IsBefore (names later : List NameDef) (n : ℕ) : Type 0 where
  before : nat_lt n (length names) ≡ true
  variable : is_variable (slice_get (names ++ later) n) ≡ true

variable_if : (t : Bool) (n : ℕ) → is_some (if t then Some n else None) ≡ true → t ≡ true
variable_if true n h = refl
variable_if false n h = absurd cc

before_at : (names later : List NameDef) (n m : ℕ) → is_some (if_variable m (slice_get (declared_names names) n)) ≡ true → IsBefore names later n
before_at [] later n m h = absurd cc
before_at (named ∷ names) later zero m h =
    record { before = grind (arith, nat_tests); variable = variable_if (is_variable_kind named.stands_for) m h }
before_at (named ∷ names) later (suc n) m h =
    let known = before_at names later n m h in
    let less : nat_lt n (length names) ≡ true = known.before in
    record { before = grind (arith, nat_tests); variable = known.variable }

is_before : (names later : List NameDef) (n : ℕ) → is_variable_at (declared_names names) n ≡ true → is_variable_before (names ++ later) (length names) n ≡ true
is_before names later n h =
    let known = before_at names later n n h in
    rw (known.before) known.variable

pub fits_behind : (names later : List NameDef) (text : List ℕ) (formula : Expr) → expr_in (declared_names names) text ≡ Ok formula
    → FormulaFits (names ++ later) (length names) formula
fits_behind names later text formula h =
    let read = read_is (declared_names names) (is_variable_before (names ++ later) (length names)) (is_before names later) text formula h in
    record { shallow = read.shallow; exponents = read.exponents; variables = read.variables }

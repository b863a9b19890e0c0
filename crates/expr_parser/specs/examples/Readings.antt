-- What some texts are read as, worked out by hand.
use Rattle.std.specs.Prelude.{◌≡◌, ℕ, zero, suc, true, List, [], ◌++◌, Result, Ok}
use Rattle.std.specs.Prelude.{Err, is_ok, pos, codes}
use Rattle.exact_fraction.specs.Number.{Rational}
use Rattle.rule_types.specs.declared.expr.Expr.{Expr}
use Rattle.rule_types.specs.declared.expr.Expr.TheVariants.{Name, Number, Neg, Abs, Sgn, Step, Add}
use Rattle.rule_types.specs.declared.expr.Expr.TheVariants.{Sub, Mul, Div, Pow}
use Rattle.expr_parser.specs.declared.fault.ExprCause.{ExprCause}
use Rattle.expr_parser.specs.declared.fault.ExprCause.TheVariants.{UnknownName, OutsideFunction}
use Rattle.expr_parser.specs.declared.fault.ExprCause.TheVariants.{BadExpression, NumberTooLarge}
use Rattle.expr_parser.specs.declared.fault.ExprCause.TheVariants.{TooDeep}
use Rattle.expr_parser.specs.Reading.{FaultAt, expr_in}
use Rattle.expr_parser.specs.examples.Lexing.{names}

-- what a text is read as, over the names of the examples
abbrev pub read : List ℕ → Result Expr FaultAt
read text = expr_in names text

abbrev pub a : Expr
a = Name 0

abbrev pub e : Expr
e = Name 3

-- a fault from its first byte to before its end
abbrev pub fault : ExprCause → ℕ → ℕ → Result Expr FaultAt
fault cause start end = Err (record { cause = cause; span = record { start = start; end = end } })

abbrev pub half : Rational
half = record { num = pos 1; below = 1 }

-- formulas
pub record AreRead : Type 0 where
  pub case : read (codes " A ") ≡ Ok a
  pub sign_above_power : read (codes "-a^2") ≡ Ok (Neg (Pow a 2))
  pub sign_in_product : read (codes "-a * -e") ≡ Ok (Mul (Neg a) (Neg e))
  pub plus : read (codes "+a - +e") ≡ Ok (Sub a e)
  pub sum_from_left : read (codes "a - e + a") ≡ Ok (Add (Sub a e) a)
  pub product_from_left : read (codes "a/e*a") ≡ Ok (Mul (Div a e) a)
  pub product_first : read (codes "a + a * e") ≡ Ok (Add a (Mul a e))
  pub parentheses : read (codes "(a + e)^0 * (a)") ≡ Ok (Mul (Pow (Add a e) 0) a)
  pub highest_power : read (codes "a^8") ≡ Ok (Pow a 8)
  pub number : read (codes ".5 * a") ≡ Ok (Mul (Number half) a)
  pub functions : read (codes "ABS(a) + sgn (e) + Step(abs)")
      ≡ Ok (Add (Add (Abs a) (Sgn e)) (Step (Name 2)))
  pub name_of_function : read (codes "abs - abs(abs)") ≡ Ok (Sub (Name 2) (Abs (Name 2)))

-- names and functions that there are not
pub record AreUnknown : Type 0 where
  pub unknown : read (codes "b + sqrt(c)") ≡ fault UnknownName 0 1
  pub expression : read (codes "a + q") ≡ fault UnknownName 4 5
  pub name_first : read (codes "sqrt(a) + b") ≡ fault UnknownName 10 11
  pub no_function : read (codes "a + sqrt (a)") ≡ fault OutsideFunction 4 8
  pub variable : read (codes "a (1)") ≡ fault OutsideFunction 0 1
  pub before_grammar : read (codes "a a) b") ≡ fault UnknownName 5 6
  pub before_stray : read (codes "b $") ≡ fault UnknownName 0 1
  pub behind_stray : read (codes "a $ b") ≡ fault BadExpression 0 5
  pub name_of_function : read (codes "sgn + a") ≡ fault UnknownName 0 3

-- texts outside the grammar
pub record AreOutside : Type 0 where
  pub empty : read [] ≡ fault BadExpression 0 0
  pub two_signs : read (codes "--a") ≡ fault BadExpression 0 3
  pub power_of_9 : read (codes "2^9") ≡ fault BadExpression 0 3
  pub power_of_two_digits : read (codes "a^08") ≡ fault BadExpression 0 4
  pub power_with_point : read (codes "a^2.") ≡ fault BadExpression 0 4
  pub power_of_name : read (codes "a^e") ≡ fault BadExpression 0 3
  pub power_of_power : read (codes "a^2^3") ≡ fault BadExpression 0 5
  pub two_operands : read (codes "2e") ≡ fault BadExpression 0 2
  pub not_closed : read (codes "(a") ≡ fault BadExpression 0 2
  pub not_open : read (codes "a)") ≡ fault BadExpression 0 2
  pub nothing_enclosed : read (codes "abs()") ≡ fault BadExpression 0 5
  pub no_operand : read (codes "a *") ≡ fault BadExpression 0 3
  pub before_number : read (codes "1e19 +") ≡ fault BadExpression 0 6

-- a text so many times
abbrev pub times : ℕ → List ℕ → List ℕ
times zero text = []
times (suc n) text = text ++ times n text

-- a text in so many parentheses
abbrev pub enclosed : ℕ → List ℕ → List ℕ
enclosed n text = times n (codes "(") ++ text ++ times n (codes ")")

-- numbers past their bounds, and formulas of 64 and of 65 levels
pub record AreBounds : Type 0 where
  pub too_large : read (codes "2*1e19") ≡ fault NumberTooLarge 2 6
  pub parentheses : read (enclosed 63 (codes "a")) ≡ Ok a
  pub too_many_parentheses : read (enclosed 64 (codes "a")) ≡ fault TooDeep 0 129
  pub function : is_ok (read (times 63 (codes "abs(") ++ codes "a" ++ times 63 (codes ")")))
      ≡ true
  pub too_many_functions : read (times 64 (codes "abs(") ++ codes "a" ++ times 64 (codes ")"))
      ≡ fault TooDeep 0 321
  pub terms : is_ok (read (codes "a" ++ times 63 (codes "+a"))) ≡ true
  pub too_many_terms : read (codes "a" ++ times 64 (codes "+a")) ≡ fault TooDeep 0 129
  pub power : read (codes "(" ++ enclosed 62 (codes "a") ++ codes ")^2") ≡ fault TooDeep 0 129
  pub large_before_deep : read (enclosed 64 (codes "1e19")) ≡ fault NumberTooLarge 64 68
  pub grammar_before_deep : read (codes "(" ++ enclosed 64 (codes "a"))
      ≡ fault BadExpression 0 130

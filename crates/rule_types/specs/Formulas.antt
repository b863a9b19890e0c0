-- What a formula is made of.
use Rattle.std.specs.Prelude.{ℕ, suc, Bool, true, ◌&&◌, nat_le, List, [], ◌∷◌, ◌++◌, max}
use Rattle.rule_types.specs.declared.expr.Expr.{Expr}
use Rattle.rule_types.specs.declared.expr.Expr.TheOpen.{Expr-F}
use Rattle.rule_types.specs.declared.expr.Expr.TheFolds.{fold-Expr}

-- one node, with the levels of each operand in its place
abbrev pub levels_step : Expr-F ℕ → ℕ
levels_step (Expr-F.Number q) = 1
levels_step (Expr-F.Name n) = 1
levels_step (Expr-F.Neg a) = suc a
levels_step (Expr-F.Abs a) = suc a
levels_step (Expr-F.Sgn a) = suc a
levels_step (Expr-F.Step a) = suc a
levels_step (Expr-F.Add a b) = suc (max a b)
levels_step (Expr-F.Sub a b) = suc (max a b)
levels_step (Expr-F.Mul a b) = suc (max a b)
levels_step (Expr-F.Div a b) = suc (max a b)
levels_step (Expr-F.Pow a n) = suc a

-- the levels of a formula's tree: a number or a name is one level, and each sign, function,
-- operator and power one more than its deepest operand
abbrev pub levels : Expr → ℕ
levels = fold-Expr ℕ levels_step

-- one node, with the names of each operand in its place
abbrev pub names_step : Expr-F (List ℕ) → List ℕ
names_step (Expr-F.Number q) = []
names_step (Expr-F.Name n) = n ∷ []
names_step (Expr-F.Neg a) = a
names_step (Expr-F.Abs a) = a
names_step (Expr-F.Sgn a) = a
names_step (Expr-F.Step a) = a
names_step (Expr-F.Add a b) = a ++ b
names_step (Expr-F.Sub a b) = a ++ b
names_step (Expr-F.Mul a b) = a ++ b
names_step (Expr-F.Div a b) = a ++ b
names_step (Expr-F.Pow a n) = a

-- the names in a formula, from the left to the right
abbrev pub formula_names : Expr → List ℕ
formula_names = fold-Expr (List ℕ) names_step

-- one node, with the test of each operand in its place
abbrev pub names_pass_step : (ℕ → Bool) → Expr-F Bool → Bool
names_pass_step passes (Expr-F.Number q) = true
names_pass_step passes (Expr-F.Name n) = passes n
names_pass_step passes (Expr-F.Neg a) = a
names_pass_step passes (Expr-F.Abs a) = a
names_pass_step passes (Expr-F.Sgn a) = a
names_pass_step passes (Expr-F.Step a) = a
names_pass_step passes (Expr-F.Add a b) = a && b
names_pass_step passes (Expr-F.Sub a b) = a && b
names_pass_step passes (Expr-F.Mul a b) = a && b
names_pass_step passes (Expr-F.Div a b) = a && b
names_pass_step passes (Expr-F.Pow a n) = a

-- whether each name in a formula passes a test
abbrev pub names_pass : (ℕ → Bool) → Expr → Bool
names_pass passes = fold-Expr Bool (names_pass_step passes)

-- one node, with the test of each operand in its place
abbrev pub exponents_step : Expr-F Bool → Bool
exponents_step (Expr-F.Number q) = true
exponents_step (Expr-F.Name n) = true
exponents_step (Expr-F.Neg a) = a
exponents_step (Expr-F.Abs a) = a
exponents_step (Expr-F.Sgn a) = a
exponents_step (Expr-F.Step a) = a
exponents_step (Expr-F.Add a b) = a && b
exponents_step (Expr-F.Sub a b) = a && b
exponents_step (Expr-F.Mul a b) = a && b
exponents_step (Expr-F.Div a b) = a && b
exponents_step (Expr-F.Pow a n) = a && nat_le n 8

-- whether each exponent of a formula is at most 8
abbrev pub has_small_exponents : Expr → Bool
has_small_exponents = fold-Expr Bool exponents_step

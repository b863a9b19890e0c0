-- Sides on the left of conditions.
use Rattle.std.proofs.Common.{◌≡◌, ℕ, zero, suc, Bool, true, false, ◌||◌, Some, List, [], ◌∷◌, refl, sym, ap, ◌∙◌, arith, true≢false, eqb-true}
use Rattle.std.proofs.lemmas.Option.{none-some, same_Some}
use Rattle.std.specs.Prelude.{slice_get}
use Rattle.std.specs.List.{list_any}
use Rattle.rule_types.specs.declared.condition.Condition.{Condition}
use Rattle.rule_types.specs.declared.condition.Side.{Side}
use Rattle.rule_types.specs.declared.condition.Side.TheVariants as side
use Rattle.rule_types.specs.declared.rule.Rule.{Rule}
use Rattle.rule_types.specs.declared.rules.Rules.{Rules}
use Rattle.rule_types.proofs.PublicLaws.{equal_keys-key}
use Rattle.table_compiler.specs.Parts.{same_column}
use Rattle.table_run.specs.Sides.{is_left_side}

-- ---- one of a list passes
or_first : (a b : Bool) → a ≡ true → (a || b) ≡ true
or_first true b h = refl
or_first false b h = absurd (true≢false (sym h))

or_later : (a b : Bool) → b ≡ true → (a || b) ≡ true
or_later true b h = refl
or_later false b h = h

pub any_at : {A : Type 0} (test : A → Bool) (xs : List A) (k : ℕ) (one : A) → slice_get xs k ≡ Some one
    → test one ≡ true → list_any test xs ≡ true
any_at test [] k one is h = absurd (none-some one is)
any_at test (x ∷ xs) zero one is h = or_first (test x) (list_any test xs) (ap test (same_Some x one is) ∙ h)
any_at test (x ∷ xs) (suc k) one is h = or_later (test x) (list_any test xs) (any_at test xs k one is h)

-- one of a list that passes
pub record Passes {A : Type 0} (test : A → Bool) (xs : List A) : Type 0 where
  pub place : ℕ
  pub one : A
  pub is : slice_get xs place ≡ Some one
  pub passes : test one ≡ true

pub any_found : {A : Type 0} (test : A → Bool) (xs : List A) → list_any test xs ≡ true → Passes test xs
any_found test [] h = absurd (true≢false (sym h))
any_found test (x ∷ xs) h = found_by test x xs (test x) refl h (any_found test xs)
  where
    found_by : {A : Type 0} (test : A → Bool) (x : A) (xs : List A) (b : Bool) → test x ≡ b → (b || list_any test xs) ≡ true
        → (list_any test xs ≡ true → Passes test xs) → Passes test (x ∷ xs)
    found_by test x xs true is h later = record { place = 0; one = x; is = refl; passes = is }
    found_by test x xs false is h later =
        let found = later h in
        record { place = suc found.place; one = found.one; is = found.is; passes = found.passes }

-- ---- columns that are one are equal
pub same_is : (column other : Side) → same_column column other ≡ true → column ≡ other
same_is (side.Key key) (side.Key other) h = ap side.Key ((equal_keys-key key other).0 h)
same_is (side.Key key) (side.Expr other) h = grind arith
same_is (side.Expr name) (side.Key other) h = grind arith
same_is (side.Expr name) (side.Expr other) h = ap side.Expr (eqb-true name other h)

is_same : (column : Side) → same_column column column ≡ true
is_same (side.Key key) = (equal_keys-key key key).1 refl
is_same (side.Expr name) = grind arith

-- ---- sides on the left
pub same_left : (x : Rules) (place : ℕ) (rule : Rule) (number : ℕ) (c : Condition) (column : Side)
    → slice_get x.rules place ≡ Some rule → slice_get rule.conditions number ≡ Some c → c.left ≡ column
    → is_left_side x column ≡ true
unfolding is_left_side
same_left x place rule number c column of_rules of_rule left =
    any_at (λ (row : Rule). list_any (λ (one : Condition). same_column one.left column) row.conditions) x.rules place rule of_rules
    (any_at (λ (one : Condition). same_column one.left column) rule.conditions number c of_rule
    (ap (λ one. same_column one column) left ∙ is_same column))

-- What parts and clauses of rows are worth at a state.
use Rattle.std.proofs.Common.{◌≡◌, ℕ, Bool, true, false, not, Option, Some, None, List, [], ◌∷◌, refl, sym, ap, ◌∙◌, arith, slice_get}
use Rattle.std.specs.Prelude.{◌&&◌, ◌||◌}
use Rattle.std.specs.List.{list_all, list_any}
use Rattle.std.proofs.lemmas.Bool.{eqb-true}
use Rattle.exact_fraction.specs.Number.{Rational}
use Rattle.interval_sets.specs.declared.interval.Interval.{Interval}
use Rattle.interval_sets.specs.Sets.{set_of, union_of, intersection_of}
use Rattle.interval_sets.proofs.PublicLaws.{set_members-relation, set_members-union, set_members-intersection}
use Rattle.rule_types.specs.declared.condition.Condition.{Condition}
use Rattle.rule_types.specs.declared.condition.Right.{Right}
use Rattle.rule_types.specs.declared.condition.Right.TheVariants as right
use Rattle.rule_types.specs.declared.condition.Side.{Side}
use Rattle.rule_types.specs.declared.condition.Side.TheVariants as side
use Rattle.rule_types.specs.declared.rules.Rules.{Rules}
use Rattle.rule_types.specs.declared.state.State.{State}
use Rattle.rule_types.proofs.PublicLaws.{equal_keys-key}
use Rattle.rule_meaning.specs.Condition.{left_value, right_value, meets, both_meet, hours_of_step, holds}
use Rattle.rule_meaning.specs.Premise.{premise_by}
use Rattle.rule_meaning.proofs.PublicLaws.{premises-by_place}
use Rattle.table_compiler.specs.declared.part.Part.{Part}
use Rattle.table_compiler.specs.declared.part.Part.TheVariants.{Column, Number}
use Rattle.table_compiler.specs.declared.table.Clause.{Clause}
use Rattle.table_compiler.specs.Parts.{same_column, joined_part, part_by, part_of}
use Rattle.table_compiler.specs.Clauses.{is_empty_set, is_empty_part, never_holds, is_possible, clauses_of}
use Rattle.table_compiler.specs.Meaning.{is_in, condition_holds, part_holds, clause_holds, all_hold}
use Rattle.table_compiler.proofs.ClauseTruth.{Unites, or_false, clauses_premise}

-- columns that are one are equal
same_is : (column other : Side) → same_column column other ≡ true → column ≡ other
same_is (side.Key key) (side.Key other) h = ap side.Key ((equal_keys-key key other).0 h)
same_is (side.Key key) (side.Expr other) h = grind arith
same_is (side.Expr name) (side.Key other) h = grind arith
same_is (side.Expr name) (side.Expr other) h = ap side.Expr (eqb-true name other h)

-- ---- united and met parts
in_union : (a b : List Interval) (o : Option Rational) → is_in (union_of a b) o ≡ (is_in a o || is_in b o)
in_union a b None = refl
in_union a b (Some q) = set_members-union a b q

in_intersection : (a b : List Interval) (o : Option Rational) → is_in (intersection_of a b) o ≡ (is_in a o && is_in b o)
in_intersection a b None = refl
in_intersection a b (Some q) = set_members-intersection a b q

joined_by : (x : Rules) (s : State) (conditions : List Condition) (operation : List Interval → List Interval → List Interval) (both : Bool → Bool → Bool) (column other : Side) (set others : List Interval) (one : Part) (same : Bool) → same_column column other ≡ same
    → ((o : Option Rational) → is_in (operation set others) o ≡ both (is_in set o) (is_in others o))
    → joined_part operation (Column column set) (Column other others) ≡ Some one
    → part_holds x s conditions one ≡ both (part_holds x s conditions (Column column set)) (part_holds x s conditions (Column other others))
unfolding part_holds
joined_by x s conditions operation both column other set others one true is h e =
    let made : Column column (operation set others) ≡ one = (let given : Some (Column column (operation set others)) ≡ Some one = rw is at e in grind arith) in
    ap (part_holds x s conditions) (sym made)
    ∙ h (left_value x s column)
    ∙ ap (λ side. both (is_in set (left_value x s column)) (is_in others (left_value x s side))) (same_is column other is)
joined_by x s conditions operation both column other set others one false is h e =
    absurd (let given : None ≡ Some one = rw is at e in grind arith)

joined_truth : (x : Rules) (s : State) (conditions : List Condition) (operation : List Interval → List Interval → List Interval) (both : Bool → Bool → Bool)
    → ((a b : List Interval) (o : Option Rational) → is_in (operation a b) o ≡ both (is_in a o) (is_in b o))
    → (part other one : Part) → joined_part operation part other ≡ Some one
    → part_holds x s conditions one ≡ both (part_holds x s conditions part) (part_holds x s conditions other)
joined_truth x s conditions operation both h (Column column set) (Column other others) one e =
    joined_by x s conditions operation both column other set others one (same_column column other) refl (h set others) e
joined_truth x s conditions operation both h (Column column set) (Number other) one e = absurd (grind arith)
joined_truth x s conditions operation both h (Number place) (Column other others) one e = absurd (grind arith)
joined_truth x s conditions operation both h (Number place) (Number other) one e = absurd (grind arith)

pub unites : (x : Rules) (s : State) (conditions : List Condition) → Unites (part_holds x s conditions)
unites x s conditions = record {
  united = joined_truth x s conditions union_of ◌||◌ in_union;
  met = joined_truth x s conditions intersection_of ◌&&◌ in_intersection;
}

-- ---- the part of a condition
in_relation : (c : Condition) (step q : Rational) (o : Option Rational) → c.half_step ≡ false → is_in (set_of c.rel q) o ≡ both_meet c step o (Some q)
unfolding meets
in_relation c step q None h = refl
in_relation c step q (Some p) h = rw h (set_members-relation c.rel q p)

value_holds : (x : Rules) (s : State) (c : Condition) (q : Rational) → c.right ≡ right.Value q → both_meet c (hours_of_step s.step) (left_value x s c.left) (Some q) ≡ holds x s c
unfolding holds right_value
value_holds x s c q is = ap (λ r. both_meet c (hours_of_step s.step) (left_value x s c.left) (right_value x s r)) (sym is)

part_by_holds : (x : Rules) (s : State) (conditions : List Condition) (place : ℕ) (c : Condition) (half : Bool) (other : Right) → slice_get conditions place ≡ Some c → c.half_step ≡ half → c.right ≡ other → part_holds x s conditions (part_by place c.left c.rel half other) ≡ holds x s c
unfolding part_holds
part_by_holds x s conditions place c true other at half is = ap (condition_holds x s) at
part_by_holds x s conditions place c false (right.Key key) at half is = ap (condition_holds x s) at
part_by_holds x s conditions place c false (right.Value q) at half is =
    in_relation c (hours_of_step s.step) q (left_value x s c.left) half ∙ value_holds x s c q is

part_of_holds : (x : Rules) (s : State) (conditions : List Condition) (place : ℕ) (c : Condition) → slice_get conditions place ≡ Some c → part_holds x s conditions (part_of place c) ≡ holds x s c
unfolding part_of
part_of_holds x s conditions place c at = part_by_holds x s conditions place c c.half_step c.right at refl refl

-- the clauses of a premise hold where it does
pub premise_is : (x : Rules) (s : State) (conditions : List Condition) → all_hold x s conditions (clauses_of conditions) ≡ premise_by (holds x s) conditions
unfolding clause_holds
premise_is x s conditions =
    clauses_premise (part_holds x s conditions) (unites x s conditions) conditions
    ∙ premises-by_place (λ place c. part_holds x s conditions (part_of place c)) (holds x s) conditions (part_of_holds x s conditions)

-- ---- clauses that can never hold
no_member : (set : List Interval) (o : Option Rational) → is_empty_set set ≡ true → is_in set o ≡ false
no_member set None h = refl
no_member [] (Some q) h = refl
no_member (piece ∷ pieces) (Some q) h = grind arith

empty_part : (x : Rules) (s : State) (conditions : List Condition) (part : Part) → is_empty_part part ≡ true → part_holds x s conditions part ≡ false
unfolding part_holds
empty_part x s conditions (Column column set) h = no_member set (left_value x s column) h
empty_part x s conditions (Number place) h = grind arith

never_true : (x : Rules) (s : State) (conditions : List Condition) (parts : List Part) → never_holds parts ≡ true → list_any (part_holds x s conditions) parts ≡ false
never_true x s conditions [] h = refl
never_true x s conditions (part ∷ []) h = or_false (part_holds x s conditions part) ∙ empty_part x s conditions part h
never_true x s conditions (part ∷ next ∷ more) h = grind arith

-- a test that fails wherever another does fails for all where that does
fails_by : {A : Type 0} (p q : A → Bool) (y : A) (b : Bool) (more q_more : Bool) → p y ≡ b → (p y ≡ false → q y ≡ false) → (more ≡ false → q_more ≡ false) → (p y && more) ≡ false → (q y && q_more) ≡ false
fails_by p q y true more q_more is one later h =
    let rest : more ≡ false = rw is at h in let e : q_more ≡ false = later rest in and_false (q y) q_more e
  where
    and_false : (a b : Bool) → b ≡ false → (a && b) ≡ false
    and_false true b e = e
    and_false false b e = refl
fails_by p q y false more q_more is one later h = ap (λ b. b && q_more) (one is)

fails_for_all : {A : Type 0} (p q : A → Bool) → ((y : A) → p y ≡ false → q y ≡ false) → (xs : List A) → list_all p xs ≡ false → list_all q xs ≡ false
fails_for_all p q one [] h = h
fails_for_all p q one (y ∷ ys) h = fails_by p q y (p y) (list_all p ys) (list_all q ys) refl (one y) (fails_for_all p q one ys) h

not_is : (b : Bool) → not b ≡ false → b ≡ true
not_is true h = refl
not_is false h = sym h

pub impossible : (x : Rules) (s : State) (conditions : List Condition) (clauses : List Clause) → is_possible clauses ≡ false → all_hold x s conditions clauses ≡ false
unfolding is_possible clause_holds
impossible x s conditions clauses h =
    fails_for_all (λ (clause : Clause). not (never_holds clause.parts)) (λ (clause : Clause). list_any (part_holds x s conditions) clause.parts)
    (λ clause never. never_true x s conditions clause.parts (not_is (never_holds clause.parts) never)) clauses h

-- The conditions of one rule, over what is kept.
use Rattle.std.proofs.Common.{◌≡◌, ℕ, ◌+◌, ◌-◌, ◌<◌, ◌≤◌, ltb, true, false, Bool, Option, Some, None, List, [], length, get_or, option_and_then, refl, sym, ap, subst, ◌∙◌, ◌⊎◌, inl, inr, ⊎_elim, arith}
use Rattle.std.proofs.lemmas.Bool.Decides.{nat_tests}
use Rattle.std.proofs.lemmas.List.{get_or_default}
use Rattle.std.proofs.lemmas.List.Elements.{All-weaker}
use Rattle.std.proofs.lemmas.Option.{same_Some, slice_get_within, slice_get-get_or, slice_get_past, get_or_from_slice_get}
use Rattle.std.specs.Prelude.{IsTrue, IsSomeAnd, Contains, slice_get}
use Rattle.std.specs.List.{All}
use Rattle.exact_fraction.specs.Number.{Rational}
use Rattle.rule_types.specs.declared.condition.Condition.{Condition}
use Rattle.rule_types.specs.declared.condition.Side.{Side}
use Rattle.rule_types.specs.declared.condition.Right.{Right}
use Rattle.rule_types.specs.declared.condition.Right.TheVariants as right
use Rattle.rule_types.specs.declared.rule.Rule.{Rule}
use Rattle.rule_types.specs.declared.rules.Rules.{Rules}
use Rattle.rule_types.specs.declared.state.State.{State}
use Rattle.rule_types.specs.WellFormed.{WellFormed, RuleFits, ConditionFits, IsHalfStep}
use Rattle.rule_meaning.specs.Condition.{holds, left_value, right_value}
use Rattle.rule_meaning.specs.Formula.{is_used}
use Rattle.rule_meaning.specs.Premise.{premise_holds, whole_holds}
use Rattle.rule_meaning.specs.Worth.{last_of, controller_of, set_point_of}
use Rattle.rule_meaning.proofs.PublicLaws.{premises-walk, last_conditions-at_end}
use Rattle.premise_eval.specs.declared.column.Column.{Column}
use Rattle.premise_eval.specs.declared.column.Pair.{Pair}
use Rattle.premise_eval.specs.Columns.{value_in, IsColumn, IsPair, RightPaired, PairsFit, AllPairsFit, SideAsked, ColumnsMade, ConditionExists, IsRightSide, IsSideOf}
use Rattle.premise_eval.specs.Kept.{Kept, IsPlan, IsMade}
use Rattle.premise_eval.specs.internal.ColumnReading.{right_in, holds_in, TruthIn, NoColumn}
use Rattle.premise_eval.proofs.ColumnSteps.{none_past, all_at, contained_at, side_value_is, right_of, holds_is, asked_side, truth_is}
use Rattle.premise_eval.proofs.PlanSteps.{row_at, rows_long, pairs_long, pair_at}

-- ---- rules and conditions by their numbers
pub at_found : {A : Type 0} (xs items : List A) (k : ℕ) (one : A) → items ≡ xs → k < length items
    → one ≡ get_or items k one → slice_get xs k ≡ Some one
at_found xs items k one same within is =
    ap (λ l. slice_get l k) (sym same) ∙ slice_get-get_or items k one within ∙ ap Some (sym is)

pub some_at : {A : Type 0} (o : Option A) (P : A → Type 0) (one : A) → IsSomeAnd o P → o ≡ Some one → P one
some_at o P one h is = subst (λ v. IsSomeAnd v P) is h

pub exists_at : (x : Rules) (rule number : ℕ) (row : Rule) → ConditionExists x rule number
    → slice_get x.rules rule ≡ Some row → number < length row.conditions
exists_at x rule number row exists is =
    some_at (slice_get x.rules rule) (λ (one : Rule). number < length one.conditions) row exists is

pub rule_exists : (x : Rules) (rule number : ℕ) → ConditionExists x rule number
    → rule < length x.rules
rule_exists x rule number exists = by_rule (slice_get x.rules rule) refl
  where
    by_rule : (o : Option Rule) → slice_get x.rules rule ≡ o → rule < length x.rules
    by_rule None is =
        absurd (subst (λ v. IsSomeAnd v (λ (one : Rule). number < length one.conditions)) is exists)
    by_rule (Some row) is = slice_get_within x.rules rule row is

pub half_steps : (x : Rules) (rule : ℕ) (row : Rule) → WellFormed x
    → slice_get x.rules rule ≡ Some row
    → All (λ c. IsTrue c.half_step → IsHalfStep c) row.conditions
half_steps x rule row formed is =
    All-weaker (ConditionFits x.names) (λ (c : Condition). IsTrue c.half_step → IsHalfStep c)
    (λ c fits. fits.half_step) row.conditions
    (all_at (RuleFits x.names) x.rules rule row formed.rules is).conditions

-- ---- what is kept for one rule
pub pairs_row : (x : Rules) (kept : Kept) (rows : List (List Pair)) (k : ℕ) (row given : List Pair)
    (rule : Rule)
    → IsPlan x kept → rows ≡ kept.pairs → k < length rows → row ≡ get_or rows k row → given ≡ row
    → slice_get x.rules k ≡ Some rule → PairsFit kept.columns rule.conditions given
pairs_row x kept rows k row given rule plan same within is as_given found =
    subst (λ l. PairsFit kept.columns rule.conditions l) (sym as_given)
    (row_at kept.columns x.rules rows k rule row
    (subst (λ l. AllPairsFit kept.columns x.rules l) (sym same) plan.pairs) within is found)

pub condition_is : (x : Rules) (only : List Rule) (s : State) (kept : Kept) (row : Rule)
    (number : ℕ) (c one : Condition) (hours : Rational) (values : List (Option Rational))
    (pairs : List Pair) (d : Pair) (found : Bool)
    → IsMade x only s kept → Contains only row → PairsFit kept.columns row.conditions pairs
    → hours ≡ kept.hours → values ≡ kept.values → slice_get row.conditions number ≡ Some c
    → slice_get row.conditions number ≡ Some one
    → found ≡ holds_in hours values (get_or pairs number d) one → found ≡ holds x s c
condition_is x only s kept row number c one hours values pairs d found made among fit same_hours same_values is as_read reads =
    let same : one ≡ c = same_Some one c (sym as_read ∙ is) in
    reads
    ∙ ap (λ y. holds_in hours values (get_or pairs number d) y) same
    ∙ holds_is x s (is_used x only) kept.columns values hours c (get_or pairs number d)
    (subst (λ l. ColumnsMade x (is_used x only) s kept.columns l) (sym same_values) made.columns)
    (pair_at kept.columns row.conditions pairs number c d fit is)
    (asked_side x only row number c among is) (same_hours ∙ made.hours)

pub premise_is : (x : Rules) (only : List Rule) (s : State) (kept : Kept) (row : Rule)
    (conditions : List Condition) (hours : Rational) (values : List (Option Rational))
    (pairs : List Pair) (found : Bool)
    → IsMade x only s kept → Contains only row → PairsFit kept.columns row.conditions pairs
    → hours ≡ kept.hours → values ≡ kept.values → conditions ≡ row.conditions
    → ((truth : Condition → Bool) → TruthIn hours values truth conditions pairs
    → found ≡ whole_holds truth conditions)
    → found ≡ premise_holds x s row
premise_is x only s kept row conditions hours values pairs found made among fit same_hours same_values same reads =
    let told : TruthIn hours values (holds x s) row.conditions pairs =
    truth_is x s only row kept.columns values hours pairs
    (subst (λ l. ColumnsMade x (is_used x only) s kept.columns l) (sym same_values) made.columns)
    (same_hours ∙ made.hours) among fit in
    reads (holds x s) (subst (λ l. TruthIn hours values (holds x s) l pairs) (sym same) told)
    ∙ ap (whole_holds (holds x s)) same
    ∙ sym (premises-walk (holds x s) row.conditions)

-- ---- the last condition
last_none : (columns : List Column) (cs : List Condition) (pairs : List Pair)
    → PairsFit columns cs pairs → None ≡ slice_get pairs (length pairs - 1) → last_of cs ≡ None
last_none columns cs pairs fit is =
    let past : length pairs ≤ length pairs - 1 = none_past pairs (length pairs - 1) (sym is) in
    let long = pairs_long columns cs pairs fit in
    last_conditions-at_end cs ∙ slice_get_past cs (length cs - 1) (omega (arith, past, long))

last_some : (columns : List Column) (cs : List Condition) (pairs : List Pair) (pair : Pair)
    → PairsFit columns cs pairs → Some pair ≡ slice_get pairs (length pairs - 1)
    → (c : Condition) × (slice_get cs (length cs - 1) ≡ Some c) × IsPair columns c pair
last_some columns cs pairs pair fit is = by_last (slice_get cs (length cs - 1)) refl
  where
    within : length pairs - 1 < length pairs
    within = slice_get_within pairs (length pairs - 1) pair (sym is)

    by_last : (o : Option Condition) → slice_get cs (length cs - 1) ≡ o → (c : Condition) × (slice_get cs (length cs - 1) ≡ Some c) × IsPair columns c pair
    by_last None e =
        let past : length cs ≤ length cs - 1 = none_past cs (length cs - 1) e in
        absurd (omega (arith, past, within, pairs_long columns cs pairs fit))
    by_last (Some c) e =
        let place : length cs - 1 ≡ length pairs - 1 = ap (λ n. n - 1) (pairs_long columns cs pairs fit) in
        let here = pair_at columns cs pairs (length cs - 1) c pair fit e in
        let same : get_or pairs (length cs - 1) pair ≡ pair =
        ap (λ n. get_or pairs n pair) place ∙ get_or_from_slice_get pairs (length pairs - 1) pair pair (sym is) in
        (c, e, subst (λ p. IsPair columns c p) same here)

pub no_controller : (x : Rules) (s : State) (columns : List Column) (cs : List Condition)
    (pairs : List Pair)
    → PairsFit columns cs pairs → None ≡ slice_get pairs (length pairs - 1)
    → None ≡ controller_of x s cs
unfolding controller_of
no_controller x s columns cs pairs fit is =
    sym (ap (option_and_then (λ c. left_value x s c.left)) (last_none columns cs pairs fit is))

pub controller_is : (x : Rules) (only : List Rule) (s : State) (kept : Kept) (row : Rule)
    (values : List (Option Rational)) (pairs : List Pair) (pair : Pair)
    → IsMade x only s kept → Contains only row → PairsFit kept.columns row.conditions pairs
    → values ≡ kept.values → Some pair ≡ slice_get pairs (length pairs - 1)
    → value_in values pair.left ≡ controller_of x s row.conditions
unfolding controller_of
controller_is x only s kept row values pairs pair made among fit same is =
    let last = last_some kept.columns row.conditions pairs pair fit is in
    side_value_is x s (is_used x only) kept.columns values pair.left last.0.left
    (subst (λ l. ColumnsMade x (is_used x only) s kept.columns l) (sym same) made.columns) last.2.left
    (asked_side x only row (length row.conditions - 1) last.0 among last.1)
    ∙ sym (ap (option_and_then (λ c. left_value x s c.left)) (last_conditions-at_end row.conditions ∙ last.1))

pub no_set_point : (x : Rules) (s : State) (cs : List Condition)
    → None ≡ slice_get cs (length cs - 1) → None ≡ set_point_of x s cs
unfolding set_point_of
no_set_point x s cs is =
    sym (ap (option_and_then (λ c. right_value x s c.right)) (last_conditions-at_end cs ∙ sym is))

pub no_pair : (x : Rules) (s : State) (columns : List Column) (cs : List Condition)
    (pairs : List Pair)
    → PairsFit columns cs pairs → None ≡ slice_get pairs (length pairs - 1)
    → None ≡ set_point_of x s cs
unfolding set_point_of
no_pair x s columns cs pairs fit is =
    sym (ap (option_and_then (λ c. right_value x s c.right)) (last_none columns cs pairs fit is))

pub set_point_is : (x : Rules) (only : List Rule) (s : State) (kept : Kept) (row : Rule)
    (values : List (Option Rational)) (pairs : List Pair) (pair : Pair) (one : Condition)
    → IsMade x only s kept → PairsFit kept.columns row.conditions pairs
    → values ≡ kept.values → Some pair ≡ slice_get pairs (length pairs - 1)
    → Some one ≡ slice_get row.conditions (length row.conditions - 1)
    → right_in values pair.right one.right ≡ set_point_of x s row.conditions
unfolding set_point_of
set_point_is x only s kept row values pairs pair one made fit same is as_read =
    let last = last_some kept.columns row.conditions pairs pair fit is in
    let which : one ≡ last.0 = same_Some one last.0 (as_read ∙ last.1) in
    ap (λ (c : Condition). right_in values pair.right c.right) which
    ∙ right_of x s (is_used x only) kept.columns values pair.right last.0.right
    (subst (λ l. ColumnsMade x (is_used x only) s kept.columns l) (sym same) made.columns) last.2.right
    ∙ sym (ap (option_and_then (λ c. right_value x s c.right)) (last_conditions-at_end row.conditions ∙ last.1))

pub set_point_by : (x : Rules) (only : List Rule) (s : State) (kept : Kept) (row : Rule)
    (values : List (Option Rational)) (pairs : List Pair) (one : Condition)
    → IsMade x only s kept → PairsFit kept.columns row.conditions pairs
    → values ≡ kept.values
    → Some one ≡ slice_get row.conditions (length row.conditions - 1)
    → option_and_then (λ (pair : Pair). right_in values pair.right one.right) (slice_get pairs (length pairs - 1))
    ≡ set_point_of x s row.conditions
set_point_by x only s kept row values pairs one made fit same as_read =
    by_pair (slice_get pairs (length pairs - 1)) refl
  where
    by_pair : (o : Option Pair) → slice_get pairs (length pairs - 1) ≡ o → option_and_then (λ (pair : Pair). right_in values pair.right one.right) o ≡ set_point_of x s row.conditions
    by_pair None e = no_pair x s kept.columns row.conditions pairs fit (sym e)
    by_pair (Some pair) e = set_point_is x only s kept row values pairs pair one made fit same (sym e) as_read

-- a condition that exists has its columns
pub pair_within : (x : Rules) (rule number : ℕ) (columns : List Column) (pairs : List Pair)
    → ConditionExists x rule number
    → ((row : Rule) → slice_get x.rules rule ≡ Some row → PairsFit columns row.conditions pairs)
    → number < length pairs
pair_within x rule number columns pairs exists each = by_rule (slice_get x.rules rule) refl
  where
    by_rule : (o : Option Rule) → slice_get x.rules rule ≡ o → number < length pairs
    by_rule None is =
        absurd (subst (λ v. IsSomeAnd v (λ (one : Rule). number < length one.conditions)) is exists)
    by_rule (Some row) is =
        let within = exists_at x rule number row exists is in
        omega (arith, within, pairs_long columns row.conditions pairs (each row is))

-- ---- the column of a side
asked_of : (x : Rules) (only : List Rule) (given : Side) → IsSideOf x only given
    → SideAsked (is_used x only) given
asked_of x only given h =
    ⊎_elim
    (λ left. subst (λ y. SideAsked (is_used x only) y) left
    (let place = contained_at h.rule.conditions h.condition h.of_rule in asked_side x only h.rule place.0 h.condition h.among place.1))
    (λ other. right_asked h.condition.right other) h.is
  where
    right_asked : (r : Right) → IsRightSide given r → SideAsked (is_used x only) given
    right_asked (right.Key key) e = subst (λ y. SideAsked (is_used x only) y) (sym e) tt
    right_asked (right.Value q) e = absurd e

pub side_is : (x : Rules) (only : List Rule) (s : State) (kept : Kept)
    (values : List (Option Rational)) (at : ℕ) (given : Side)
    → IsMade x only s kept → values ≡ kept.values → IsColumn kept.columns at given
    → IsSideOf x only given → value_in values at ≡ left_value x s given
side_is x only s kept values at given made same found of_rules =
    side_value_is x s (is_used x only) kept.columns values at given
    (subst (λ l. ColumnsMade x (is_used x only) s kept.columns l) (sym same) made.columns) found (asked_of x only given of_rules)

pub side_column : (x : Rules) (only : List Rule) (kept : Kept) (given : Side) → IsPlan x kept
    → IsSideOf x only given → (at : ℕ) × IsColumn kept.columns at given
side_column x only kept given plan h =
    let rule_place = contained_at x.rules h.rule h.of_rules in
    let place = contained_at h.rule.conditions h.condition h.of_rule in
    let rows = rows_long kept.columns x.rules kept.pairs plan.pairs in
    let inside : rule_place.0 < length x.rules = slice_get_within x.rules rule_place.0 h.rule rule_place.1 in
    let fit : PairsFit kept.columns h.rule.conditions (get_or kept.pairs rule_place.0 []) =
    row_at kept.columns x.rules kept.pairs rule_place.0 h.rule (get_or kept.pairs rule_place.0 []) plan.pairs (omega (arith, inside, rows))
    (get_or_default kept.pairs rule_place.0 [] (get_or kept.pairs rule_place.0 []) (omega (arith, inside, rows))) rule_place.1 in
    by_side h.condition (pair_at kept.columns h.rule.conditions (get_or kept.pairs rule_place.0 []) place.0 h.condition (record { left = 0; right = 0 }) fit place.1) h.is
  where
    by_right : (columns : List Column) (at : ℕ) (r : Right) → IsRightSide given r → RightPaired columns at r → IsColumn columns at given
    by_right columns at (right.Key key) e paired = subst (λ y. IsColumn columns at y) (sym e) paired
    by_right columns at (right.Value q) e paired = absurd e

    by_side : {pair : Pair} (c : Condition) → IsPair kept.columns c pair → (c.left ≡ given) ⊎ IsRightSide given c.right → (at : ℕ) × IsColumn kept.columns at given
    by_side {pair = pair} c fit (inl left) = (pair.left, subst (λ y. IsColumn kept.columns pair.left y) left fit.left)
    by_side {pair = pair} c fit (inr other) = (pair.right, by_right kept.columns pair.right c.right other fit.right)

pub no_side : (x : Rules) (only : List Rule) (kept : Kept) (given : Side)
    (columns : List Column) (count : ℕ)
    → IsPlan x kept → columns ≡ kept.columns → count ≡ length columns → NoColumn columns count given
    → IsSideOf x only given → ⊥
unfolding NoColumn
no_side x only kept given columns count plan same long none h =
    let found = side_column x only kept given plan h in
    let at_columns : slice_get columns found.0 ≡ Some found.1.column = ap (λ l. slice_get l found.0) same ∙ found.1.is in
    let within : found.0 < length columns = slice_get_within columns found.0 found.1.column at_columns in
    none found.0 found.1.column (omega (arith, within, long)) at_columns found.1.of_side

-- ---- the search for a column
pub none_yet : (columns : List Column) (given : Side) → NoColumn columns 0 given
unfolding NoColumn
none_yet columns given at column below is same = absurd (omega arith)

pub one_more_none : (columns : List Column) (k : ℕ) (given : Side) (d : Column)
    → k < length columns → ((get_or columns k d).side ≡ given → ⊥) → NoColumn columns k given
    → NoColumn columns (k + 1) given
unfolding NoColumn
one_more_none columns k given d within apart none at column below is same = by_test (ltb at k) refl
  where
    by_test : (t : Bool) → ltb at k ≡ t → ⊥
    by_test true e = none at column (grind (arith, nat_tests)) is same
    by_test false e =
        let here : at ≡ k = grind (arith, nat_tests) in
        let which : get_or columns k d ≡ column = ap (λ n. get_or columns n d) (sym here) ∙ get_or_from_slice_get columns at column d is in
        apart (ap (λ (one : Column). one.side) which ∙ same)

pub none_at_end : (columns : List Column) (k count : ℕ) (given : Side) → count ≤ k
    → NoColumn columns k given → NoColumn columns count given
unfolding NoColumn
none_at_end columns k count given past none at column below is same = none at column (omega arith) is same

pub column_here : (columns : List Column) (k : ℕ) (given : Side) (d : Column)
    → k < length columns → (get_or columns k d).side ≡ given → IsColumn columns k given
column_here columns k given d within same = record {
  column = get_or columns k d;
  is = slice_get-get_or columns k d within;
  of_side = same;
}

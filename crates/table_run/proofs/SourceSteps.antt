-- The columns that have the sides of tables.
use Rattle.std.proofs.Common.{◌≡◌, ℕ, ◌+◌, ◌<◌, ◌≤◌, Bool, true, false, Option, Some, None, List, length, get_or, take, refl, sym, ap, subst, ◌∙◌, arith, nat_lt}
use Rattle.std.proofs.lemmas.Bool.Decides.{nat_tests}
use Rattle.std.proofs.lemmas.Option.{slice_get-get_or, slice_get_within, get_or_from_slice_get}
use Rattle.std.specs.Prelude.{slice_get, IfSome, IsSomeAnd}
use Rattle.rule_types.specs.declared.condition.Condition.{Condition}
use Rattle.rule_types.specs.declared.condition.Side.{Side}
use Rattle.rule_types.specs.declared.rule.Rule.{Rule}
use Rattle.rule_types.specs.declared.rules.Rules.{Rules}
use Rattle.rule_types.specs.WellFormed.{WellFormed, RuleFits, IsCountable}
use Rattle.premise_eval.specs.declared.column.Column.{Column}
use Rattle.premise_eval.specs.Columns.{IsColumn, ConditionExists}
use Rattle.std.specs.List.{AllZip, list_any}
use Rattle.table_compiler.specs.Parts.{same_column}
use Rattle.table_run.specs.Sides.{is_left_side}
use Rattle.table_run.proofs.LeftConditions.{any_found, same_is, same_left}
use Rattle.table_run.specs.declared.sources.ConditionAt.{ConditionAt}
use Rattle.table_run.specs.internal.Sources.{HasLeftAt, HasLeft, NoLeftBefore, NoLeftIn, IsConditionOf, IsSource, AreSources}
use Rattle.table_plan.specs.declared.plan_column.PlanColumn.{PlanColumn}
use Rattle.table_run.proofs.Zips.{zip_all}

-- ---- the conditions of a rule
pub none_before : (conditions : List Condition) (side : Side) → NoLeftBefore conditions 0 side
unfolding NoLeftBefore
none_before conditions side = λ j c below is e. absurd (omega arith)

pub none_more : (conditions : List Condition) (k : ℕ) (side : Side) (one : Condition)
    → one ≡ get_or conditions k one → (one.left ≡ side → ⊥) → NoLeftBefore conditions k side
    → NoLeftBefore conditions (k + 1) side
unfolding NoLeftBefore
none_more conditions k side one is other none = λ j c below here e.
    more_by conditions k side one is other none j c here e (nat_lt j k) refl below
  where
    more_by : (conditions : List Condition) (k : ℕ) (side : Side) (one : Condition)
        → one ≡ get_or conditions k one → (one.left ≡ side → ⊥)
        → ((j : ℕ) (c : Condition) → j < k → slice_get conditions j ≡ Some c → c.left ≡ side → ⊥)
        → (j : ℕ) (c : Condition) → slice_get conditions j ≡ Some c → c.left ≡ side
        → (b : Bool) → nat_lt j k ≡ b → j < k + 1 → ⊥
    more_by conditions k side one is other none j c here e true lt below =
        none j c (grind (arith, nat_tests)) here e
    more_by conditions k side one is other none j c here e false lt below =
        let same : j ≡ k = grind (arith, nat_tests) in
        let at : slice_get conditions k ≡ Some c = ap (slice_get conditions) (sym same) ∙ here in
        let found : get_or conditions k one ≡ c = get_or_from_slice_get conditions k c one at in
        other (ap (λ (d : Condition). d.left) (is ∙ found) ∙ e)

pub left_here : (conditions : List Condition) (k : ℕ) (side : Side) (one : Condition)
    → k < length conditions → one ≡ get_or conditions k one → one.left ≡ side
    → HasLeftAt conditions k side
left_here conditions k side one within is e = record {
  condition = one;
  is = slice_get-get_or conditions k one within ∙ ap Some (sym is);
  left = e;
}

-- ---- the rules
pub none_in : (rules : List Rule) (side : Side) → NoLeftIn rules 0 side
unfolding NoLeftIn
none_in rules side = λ k row j c below is here e. absurd (omega arith)

pub none_in_more : (rules : List Rule) (k : ℕ) (side : Side) (one : Rule)
    → one ≡ get_or rules k one → NoLeftBefore one.conditions (length one.conditions) side
    → NoLeftIn rules k side → NoLeftIn rules (k + 1) side
unfolding NoLeftIn NoLeftBefore
none_in_more rules k side one is other none = λ i row j c below at here e.
    in_by rules k side one is other none i row j c at here e (nat_lt i k) refl below
  where
    in_by : (rules : List Rule) (k : ℕ) (side : Side) (one : Rule)
        → one ≡ get_or rules k one
        → ((j : ℕ) (c : Condition) → j < length one.conditions → slice_get one.conditions j ≡ Some c → c.left ≡ side → ⊥)
        → ((i : ℕ) (row : Rule) (j : ℕ) (c : Condition) → i < k → slice_get rules i ≡ Some row → slice_get row.conditions j ≡ Some c → c.left ≡ side → ⊥)
        → (i : ℕ) (row : Rule) (j : ℕ) (c : Condition) → slice_get rules i ≡ Some row
        → slice_get row.conditions j ≡ Some c → c.left ≡ side
        → (b : Bool) → nat_lt i k ≡ b → i < k + 1 → ⊥
    in_by rules k side one is other none i row j c at here e true lt below =
        none i row j c (grind (arith, nat_tests)) at here e
    in_by rules k side one is other none i row j c at here e false lt below =
        let same : i ≡ k = grind (arith, nat_tests) in
        let there : slice_get rules k ≡ Some row = ap (slice_get rules) (sym same) ∙ at in
        let found : one ≡ row = is ∙ get_or_from_slice_get rules k row one there in
        let within : slice_get one.conditions j ≡ Some c = ap (λ (r : Rule). slice_get r.conditions j) found ∙ here in
        other j c (slice_get_within one.conditions j c within) within e

pub rule_here : (x : Rules) (k : ℕ) (side : Side) (one : Rule) (number : ℕ)
    → k < length x.rules → one ≡ get_or x.rules k one → HasLeftAt one.conditions number side
    → HasLeft x (record { rule = k; number = number }) side
rule_here x k side one number within is h = record {
  row = one;
  of_rules = slice_get-get_or x.rules k one within ∙ ap Some (sym is);
  of_row = h;
}

-- ---- what is found
pub not_left : (x : Rules) (column : Side) → NoLeftIn x.rules (length x.rules) column → is_left_side x column ≡ false
unfolding NoLeftIn is_left_side
not_left x column none = absent_by x column none (is_left_side x column) refl
  where
    absent_by : (x : Rules) (column : Side)
        → ((k : ℕ) (row : Rule) (j : ℕ) (c : Condition) → k < length x.rules → slice_get x.rules k ≡ Some row → slice_get row.conditions j ≡ Some c → c.left ≡ column → ⊥)
        → (b : Bool) → list_any (λ (row : Rule). list_any (λ (one : Condition). same_column one.left column) row.conditions) x.rules ≡ b
        → b ≡ false
    absent_by x column none false is = refl
    absent_by x column none true is =
        let rule = any_found (λ (row : Rule). list_any (λ (one : Condition). same_column one.left column) row.conditions) x.rules is in
        let condition = any_found (λ (one : Condition). same_column one.left column) rule.one.conditions rule.passes in
        absurd (none rule.place rule.one condition.place condition.one (slice_get_within x.rules rule.place rule.one rule.is) rule.is condition.is
        (same_is condition.one.left column condition.passes))

pub source_left : (x : Rules) (at : ConditionAt) (column : Side) → HasLeft x at column → is_left_side x column ≡ true
source_left x at column h =
    same_left x at.rule h.row at.number h.of_row.condition column h.of_rules h.of_row.is h.of_row.left

pub condition_is : (x : Rules) (column : Side) (found : Option ConditionAt)
    → IfSome found (λ at. HasLeft x at column)
    → (found ≡ None → NoLeftIn x.rules (length x.rules) column)
    → IsConditionOf x column found
condition_is x column (Some at) is absent = is
condition_is x column None is absent = not_left x column (absent refl)

pub found_at : (conditions : List Condition) (column : Side) (found : Option ℕ) (number : ℕ)
    → found ≡ Some number → IfSome found (λ n. HasLeftAt conditions n column)
    → HasLeftAt conditions number column
found_at conditions column found number is has =
    let h : IfSome (Some number) (λ n. HasLeftAt conditions n column) = subst (λ (o : Option ℕ). IfSome o (λ n. HasLeftAt conditions n column)) is has in
    h

pub all_sources : (x : Rules) (among : List Column) (columns : List PlanColumn) (sources : List (Option ℕ)) (i : ℕ)
    → length columns ≤ i
    → AllZip (λ (column : PlanColumn) (source : Option ℕ). IsSource x among column.side source) (take i columns) sources
    → AreSources x among columns sources
unfolding AreSources
all_sources x among columns sources i past all =
    zip_all (λ (column : PlanColumn) (source : Option ℕ). IsSource x among column.side source) columns columns sources i refl past all

pub exists : (x : Rules) (at : ConditionAt) (side : Side) → HasLeft x at side → ConditionExists x at.rule at.number
exists x at side h =
    subst (λ o. IsSomeAnd o (λ (row : Rule). at.number < length row.conditions)) (sym h.of_rules)
    (slice_get_within h.row.conditions at.number h.of_row.condition h.of_row.is)

pub column_is : (x : Rules) (columns : List Column) (at : ConditionAt) (side : Side) (column : ℕ)
    → HasLeft x at side
    → ((row : Rule) (c : Condition) → slice_get x.rules at.rule ≡ Some row → slice_get row.conditions at.number ≡ Some c → IsColumn columns column c.left)
    → IsColumn columns column side
column_is x columns at side column h each =
    subst (IsColumn columns column) h.of_row.left (each h.row h.of_row.condition h.of_rules h.of_row.is)

pub conditions_counted : (x : Rules) (k : ℕ) (one : Rule) → WellFormed x → k < length x.rules
    → one ≡ get_or x.rules k one → IsCountable one.conditions
conditions_counted x k one formed within is =
    let fits : RuleFits x.names (get_or x.rules k one) = formed.rules k one within in
    subst (λ (r : Rule). IsCountable r.conditions) (sym is) fits.conditions_counted

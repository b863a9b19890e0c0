-- The values of the columns of a plan, and their pieces.
use Rattle.std.proofs.Common.{◌≡◌, ℕ, ◌+◌, ◌<◌, ◌≤◌, Bool, true, false, cond, Option, Some, None, List, [], ◌∷◌, ◌++◌, length, get_or, set, take, drop, map, option_and_then, refl, sym, ap, subst, ◌∙◌, arith, append_assoc}
use Rattle.std.proofs.lemmas.List.{drop_more, set_at, map_more, length-map, length-take-le, take_all, drop_all, append-nil}
use Rattle.std.proofs.lemmas.Option.{slice_get_within, get_or_from_slice_get}
use Rattle.std.specs.Prelude.{slice_get, Contains}
use Rattle.rule_types.specs.declared.condition.Side.{Side}
use Rattle.rule_types.specs.declared.rules.Rules.{Rules}
use Rattle.rule_types.specs.declared.state.State.{State}
use Rattle.rule_meaning.specs.Condition.{left_value}
use Rattle.rule_meaning.specs.Formula.{is_used}
use Rattle.premise_eval.specs.declared.column.Column.{Column}
use Rattle.premise_eval.specs.Columns.{value_in, SideAsked}
use Rattle.premise_eval.specs.Kept.{Kept}
use Rattle.premise_eval.proofs.PublicLaws.{columns-made, columns-asked}
use Rattle.action_values.specs.Links.{IsSound}
use Rattle.std.specs.Option.{option_map}
use Rattle.table_plan.specs.Pieces.{piece}
use Rattle.table_plan.specs.Plan.{pieces_of}
use Rattle.table_plan.specs.declared.plan_column.PlanColumn.{PlanColumn}
use Rattle.table_run.specs.Sides.{is_left_side}
use Rattle.table_run.specs.Planned.{value_read}
use Rattle.table_run.specs.declared.sources.ConditionAt.{ConditionAt}
use Rattle.table_run.specs.internal.Sources.{HasLeft, IsLeftColumn, IsSource, AreSources}
use Rattle.table_run.proofs.SourceSteps.{source_left}
use Rattle.table_run.proofs.Zips.{zipped, zip_long}

-- ---- a list that is written from the front
one_more : {A B : Type 0} (f : A → B) (xs : List A) (vs : List B) (at : ℕ) (d : A)
    → at < length xs → length vs ≡ length xs
    → set (map f (take at xs) ++ drop at vs) at (f (get_or xs at d))
    ≡ map f (take (at + 1) xs) ++ drop (at + 1) vs
one_more f xs vs at d within long =
    let rest : drop at vs ≡ get_or vs at (f d) ∷ drop (at + 1) vs = drop_more vs at (f d) (omega (arith, within, long)) in
    let front : length (map f (take at xs)) ≡ at = length-map (take at xs) f ∙ length-take-le at xs (omega arith) in
    ap (λ l. set (map f (take at xs) ++ l) at (f (get_or xs at d))) rest
    ∙ set_at (map f (take at xs)) (get_or vs at (f d)) (drop (at + 1) vs) (f (get_or xs at d)) at front
    ∙ sym (append_assoc (map f (take at xs)) (f (get_or xs at d) ∷ []) (drop (at + 1) vs))
    ∙ ap (λ l. l ++ drop (at + 1) vs) (sym (map_more f xs at d within))

pub written : {A B : Type 0} (f : A → B) (xs : List A) (vs now : List B) (at : ℕ) (d : A)
    (found : B)
    → now ≡ map f (take at xs) ++ drop at vs → found ≡ f (get_or xs at d)
    → at < length xs → length vs ≡ length xs
    → set now at found ≡ map f (take (at + 1) xs) ++ drop (at + 1) vs
written f xs vs now at d found is reads within long =
    ap (λ l. set l at found) is
    ∙ ap (λ v. set (map f (take at xs) ++ drop at vs) at v) reads
    ∙ one_more f xs vs at d within long

pub all_written : {A B : Type 0} (f : A → B) (xs : List A) (vs now : List B) (at : ℕ)
    → now ≡ map f (take at xs) ++ drop at vs → length xs ≤ at → length vs ≡ length xs
    → now ≡ map f xs
all_written f xs vs now at is past long =
    is ∙ ap (λ l. map f l ++ drop at vs) (take_all at xs past)
    ∙ ap (λ l. map f xs ++ l) (drop_all at vs (omega (arith, past, long)))
    ∙ append-nil (map f xs)

-- ---- the value of a side
read_left : (x : Rules) (s : State) (column : Side) (b : Bool) → is_left_side x column ≡ b → b ≡ true
    → left_value x s column ≡ cond (is_left_side x column) (left_value x s column) None
read_left x s column b is left = sym (ap (λ c. cond c (left_value x s column) None) (is ∙ left))

pub read_some : (x : Rules) (s : State) (at : ConditionAt) (column : Side) → HasLeft x at column
    → left_value x s column ≡ value_read x s column
unfolding value_read
read_some x s at column h = read_left x s column true (source_left x at column h) refl

pub read_none : (x : Rules) (s : State) (column : Side) → is_left_side x column ≡ false
    → None ≡ value_read x s column
unfolding value_read
read_none x s column h = sym (ap (λ b. cond b (left_value x s column) None) h)

contained : {A : Type 0} (xs : List A) (k : ℕ) (one : A) → slice_get xs k ≡ Some one → Contains xs one
contained xs k one is = (k, slice_get_within xs k one is, get_or_from_slice_get xs k one one is)

pub left_read : (x : Rules) (s : State) (kept : Kept) (column : Side) (number : ℕ)
    → IsSound x s kept → IsLeftColumn x kept.columns number column
    → value_in kept.values number ≡ left_value x s column
left_read x s kept column number sound h =
    let at = h.condition in
    let row = h.left.row in
    let c = h.left.of_row.condition in
    let asked : SideAsked (is_used x x.rules) c.left =
    columns-asked x x.rules row at.number c (contained x.rules at.rule row h.left.of_rules) h.left.of_row.is in
    let on : SideAsked (is_used x x.rules) column = subst (λ side. SideAsked (is_used x x.rules) side) h.left.of_row.left asked in
    ap (λ o. option_and_then (λ v. v) o) (columns-made x x.rules s kept number column sound.made h.column on)

pub source_at : (x : Rules) (among : List Column) (columns : List PlanColumn) (sources : List (Option ℕ)) (k : ℕ) (d : PlanColumn) (e : Option ℕ)
    → AreSources x among columns sources → k < length columns → IsSource x among (get_or columns k d).side (get_or sources k e)
unfolding AreSources
source_at x among columns sources k d e all within =
    zipped (λ (column : PlanColumn) (source : Option ℕ). IsSource x among column.side source) columns sources all k d e within

pub sources_long : (x : Rules) (among : List Column) (columns : List PlanColumn) (sources : List (Option ℕ))
    → AreSources x among columns sources → length columns ≡ length sources
unfolding AreSources
sources_long x among columns sources all =
    zip_long (λ (column : PlanColumn) (source : Option ℕ). IsSource x among column.side source) columns sources all

pub some_source : (x : Rules) (among : List Column) (column : Side) (source : Option ℕ) (at : ℕ)
    → source ≡ Some at → IsSource x among column source → IsLeftColumn x among at column
some_source x among column source at is h = subst (IsSource x among column) is h

pub none_source : (x : Rules) (among : List Column) (column : Side) (source : Option ℕ)
    → source ≡ None → IsSource x among column source → is_left_side x column ≡ false
none_source x among column source is h = subst (IsSource x among column) is h

pub pieces_are : (x : Rules) (s : State) (columns : List PlanColumn) (pieces : List (Option ℕ))
    → pieces ≡ map (λ column. option_map (piece column.cuts) (value_read x s column.side)) columns
    → pieces ≡ pieces_of columns (value_read x s)
unfolding pieces_of
pieces_are x s columns pieces is = is

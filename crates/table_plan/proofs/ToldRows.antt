-- What rows order at a state is what they order by what a reading tells.
use Rattle.std.proofs.Common.{◌≡◌, Bool, not, cond, Some, List, [], ◌∷◌, refl, ap, ◌∙◌, slice_get}
use Rattle.std.specs.Prelude.{◌&&◌, ◌||◌, option_map}
use Rattle.std.specs.List.{list_all, list_any, find}
use Rattle.rule_types.specs.declared.condition.Condition.{Condition}
use Rattle.rule_types.specs.declared.rules.Rules.{Rules}
use Rattle.rule_types.specs.declared.state.State.{State}
use Rattle.rule_meaning.specs.Condition.{left_value}
use Rattle.rule_meaning.specs.Reading.{conditions_at}
use Rattle.table_compiler.specs.declared.part.Part.{Part}
use Rattle.table_compiler.specs.declared.part.Part.TheVariants.{Column, Number}
use Rattle.table_compiler.specs.declared.table.Clause.{Clause}
use Rattle.table_compiler.specs.declared.table.TableRow.{TableRow}
use Rattle.table_compiler.specs.Meaning.{condition_holds, part_holds, clause_holds, row_holds, ordered_by}
use Rattle.table_plan.specs.Told.{part_told, clause_told, row_told, ordered_told, told_at}

any_same : {X : Type 0} (f g : X → Bool) → ((x : X) → f x ≡ g x) → (xs : List X) → list_any f xs ≡ list_any g xs
any_same f g each [] = refl
any_same f g each (x ∷ xs) = ap (λ t. t || list_any f xs) (each x) ∙ ap (λ t. g x || t) (any_same f g each xs)

all_same : {X : Type 0} (f g : X → Bool) → ((x : X) → f x ≡ g x) → (xs : List X) → list_all f xs ≡ list_all g xs
all_same f g each [] = refl
all_same f g each (x ∷ xs) = ap (λ t. t && list_all f xs) (each x) ∙ ap (λ t. g x && t) (all_same f g each xs)

find_same : {X : Type 0} (f g : X → Bool) → ((x : X) → f x ≡ g x) → (xs : List X) → find f xs ≡ find g xs
find_same f g each [] = refl
find_same f g each (x ∷ xs) = ap (λ t. cond t (Some x) (find f xs)) (each x) ∙ ap (λ o. cond (g x) (Some x) o) (find_same f g each xs)

part_same : (x : Rules) (s : State) (conditions : List Condition) (part : Part) → part_holds x s conditions part ≡ part_told (left_value x s) (λ place. condition_holds x s (slice_get conditions place)) part
unfolding part_holds part_told
part_same x s conditions (Column column set) = refl
part_same x s conditions (Number place) = refl

clause_same : (x : Rules) (s : State) (conditions : List Condition) (clause : Clause) → clause_holds x s conditions clause ≡ clause_told (left_value x s) (λ place. condition_holds x s (slice_get conditions place)) clause
unfolding clause_holds clause_told
clause_same x s conditions clause =
    any_same (part_holds x s conditions) (part_told (left_value x s) (λ place. condition_holds x s (slice_get conditions place))) (part_same x s conditions) clause.parts

row_same : (x : Rules) (s : State) (row : TableRow) → row_holds x s row ≡ row_told (told_at x s) row
unfolding row_holds row_told
row_same x s row =
    ap (λ t. cond row.negated (not t) t)
    (all_same (clause_holds x s (conditions_at x.rules row.action))
    (clause_told (left_value x s) (λ place. condition_holds x s (slice_get (conditions_at x.rules row.action) place)))
    (clause_same x s (conditions_at x.rules row.action)) row.clauses)

pub rows_same : (x : Rules) (s : State) (rows : List TableRow) → ordered_by x s rows ≡ ordered_told (told_at x s) rows
unfolding ordered_by ordered_told
rows_same x s rows = ap (option_map (λ (row : TableRow). row.action)) (find_same (row_holds x s) (row_told (told_at x s)) (row_same x s) rows)

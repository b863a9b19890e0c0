-- Flat rows order what the rows of their table order.
use Rattle.std.proofs.Common.{◌≡◌, ℕ, zero, suc, ◌+◌, ◌<◌, ◌≤◌, Bool, true, false, not, cond, Option, Some, None, List, [], ◌∷◌, ◌++◌, length, get_or, take, refl, sym, ap, subst, ◌∙◌, arith, All}
use Rattle.std.specs.Prelude.{◌||◌, option_map, map, slice_get}
use Rattle.std.specs.List.{find}
use Rattle.std.specs.Option.{IfSome}
use Rattle.std.proofs.Math.Bool.{beq, and-true, or-false}
use Rattle.std.proofs.lemmas.List.{take_more}
use Rattle.std.proofs.lemmas.List.Elements.{All-head, All-tail}
use Rattle.std.proofs.lemmas.Option.{none-some, same_Some}
use Rattle.rule_types.specs.declared.action.ActionAt.{ActionAt}
use Rattle.table_plan.specs.declared.piece_rows.PieceRow.{PieceRow}
use Rattle.table_plan.specs.declared.plan_rows.PieceRange.{PieceRange}
use Rattle.table_plan.specs.declared.plan_rows.PlanClause.{PlanClause}
use Rattle.table_plan.specs.declared.plan_rows.PlanRow.{PlanRow}
use Rattle.table_plan.specs.declared.plan_rows.PlanTable.{PlanTable}
use Rattle.table_plan.specs.PlanRows.{piece_at, lies_among, part_by, clause_by, row_by, first_in}
use Rattle.table_plan.specs.internal.FlatRows.{clause_of, row_of, KnowsFlat}
use Rattle.table_plan.proofs.KeptRows.{find_none_more, find_here, find_nothing}

-- ---- one flat row
differs : (among negated : Bool) → not (beq among negated) ≡ (cond negated (not among) among)
differs true true = refl
differs true false = refl
differs false true = refl
differs false false = refl

pub flat_holds : (pieces : List (Option ℕ)) (truth : ActionAt → ℕ → Bool) (flat : PieceRow) (among : Bool) → among ≡ lies_among flat.range.first flat.range.last (piece_at pieces flat.range.column)
    → not (beq among flat.negated) ≡ row_by pieces truth (row_of flat)
unfolding row_of row_by clause_by part_by
flat_holds pieces truth flat among is =
    let lies = lies_among flat.range.first flat.range.last (piece_at pieces flat.range.column) in
    differs among flat.negated
    ∙ ap (λ t. cond flat.negated (not t) t) (is ∙ sym (and-true (lies || false) ∙ or-false lies))

-- ---- the first of flat rows
mapped_step : {X Y : Type 0} (f : X → Y) (x : X) (t : Bool) (o : Option Y) (q : Option X) → o ≡ option_map f q → cond t (Some (f x)) o ≡ option_map f (cond t (Some x) q)
mapped_step f x true o q is = refl
mapped_step f x false o q is = is

find_mapped : {X Y : Type 0} (p : Y → Bool) (f : X → Y) (xs : List X) → find p (map f xs) ≡ option_map f (find (λ x. p (f x)) xs)
find_mapped p f [] = refl
find_mapped p f (x ∷ xs) = mapped_step f x (p (f x)) (find p (map f xs)) (find (λ y. p (f y)) xs) (find_mapped p f xs)

flat_action : (found : Option PieceRow) → option_map (λ (row : PlanRow). row.action) (option_map row_of found) ≡ option_map (λ (flat : PieceRow). flat.action) found
unfolding row_of
flat_action None = refl
flat_action (Some flat) = refl

pub first_flat : (pieces : List (Option ℕ)) (truth : ActionAt → ℕ → Bool) (flat : List PieceRow) (found : Option PieceRow) → find (λ (row : PieceRow). row_by pieces truth (row_of row)) flat ≡ found
    → option_map (λ (row : PieceRow). row.action) found ≡ first_in pieces truth (map row_of flat)
unfolding first_in
first_flat pieces truth flat found is =
    sym (ap (option_map (λ (row : PlanRow). row.action)) (find_mapped (row_by pieces truth) row_of flat)
    ∙ flat_action (find (λ (row : PieceRow). row_by pieces truth (row_of row)) flat)
    ∙ ap (option_map (λ (row : PieceRow). row.action)) is)

same_item : {X : Type 0} (xs : List X) (i : ℕ) (d e : X) → i < length xs → get_or xs i d ≡ get_or xs i e
same_item [] i d e within = absurd (omega arith)
same_item (x ∷ xs) zero d e within = refl
same_item (x ∷ xs) (suc i) d e within = same_item xs i d e (omega arith)

pub flat_here : (pieces : List (Option ℕ)) (truth : ActionAt → ℕ → Bool) (flat : List PieceRow) (i : ℕ) (d : PieceRow) → i < length flat → find (λ (row : PieceRow). row_by pieces truth (row_of row)) (take i flat) ≡ None
    → row_by pieces truth (row_of (get_or flat i d)) ≡ true → Some (get_or flat i d).action ≡ first_in pieces truth (map row_of flat)
flat_here pieces truth flat i d within none holds =
    first_flat pieces truth flat (Some (get_or flat i d))
    (find_here (λ (row : PieceRow). row_by pieces truth (row_of row)) flat i (get_or flat i d) within (same_item flat i d (get_or flat i d) within) none holds)

pub flat_not_here : (pieces : List (Option ℕ)) (truth : ActionAt → ℕ → Bool) (flat : List PieceRow) (i : ℕ) (d : PieceRow) → i < length flat → find (λ (row : PieceRow). row_by pieces truth (row_of row)) (take i flat) ≡ None
    → row_by pieces truth (row_of (get_or flat i d)) ≡ false → find (λ (row : PieceRow). row_by pieces truth (row_of row)) (take (i + 1) flat) ≡ None
flat_not_here pieces truth flat i d within none fails =
    find_none_more (λ (row : PieceRow). row_by pieces truth (row_of row)) flat i (get_or flat i d) within (same_item flat i d (get_or flat i d) within) none fails

pub flat_nowhere : (pieces : List (Option ℕ)) (truth : ActionAt → ℕ → Bool) (flat : List PieceRow) (i : ℕ) → length flat ≤ i → find (λ (row : PieceRow). row_by pieces truth (row_of row)) (take i flat) ≡ None
    → None ≡ first_in pieces truth (map row_of flat)
flat_nowhere pieces truth flat i past none =
    first_flat pieces truth flat None (find_nothing (λ (row : PieceRow). row_by pieces truth (row_of row)) flat i past none)

-- ---- flat rows, made one by one
pub one_only : {X : Type 0} (xs : List X) (x : X) → length xs ≡ 1 → x ≡ get_or xs 0 x → xs ≡ x ∷ []
one_only [] x one is = absurd (omega arith)
one_only (y ∷ []) x one is = ap (λ z. z ∷ []) (sym is)
one_only (y ∷ z ∷ zs) x one is = absurd (omega arith)

pub flat_is : (row : PlanRow) (slice : List PlanClause) (clause : PlanClause) (range : PieceRange) → slice ≡ row.clauses → slice ≡ clause ∷ [] → clause_of range ≡ clause
    → row_of (record { range = range; negated = row.negated; action = row.action }) ≡ row
unfolding row_of
flat_is row slice clause range slice_is only held =
    let R : List PlanClause → PlanRow = λ clauses. record { action = row.action; negated = row.negated; clauses = clauses } in
    ap R (ap (λ first. first ∷ []) held ∙ sym only ∙ slice_is)

map_pushed : {X Y : Type 0} (f : X → Y) (xs : List X) (x : X) → map f (xs ++ x ∷ []) ≡ map f xs ++ f x ∷ []
map_pushed f [] x = refl
map_pushed f (y ∷ ys) x = ap (λ list. f y ∷ list) (map_pushed f ys x)

pub flat_more : (old new : List PieceRow) (flat : PieceRow) (rows : List PlanRow) (i : ℕ) (row : PlanRow) → i < length rows → row ≡ get_or rows i row → new ≡ old ++ flat ∷ [] → map row_of old ≡ take i rows → row_of flat ≡ row
    → map row_of new ≡ take (i + 1) rows
flat_more old new flat rows i row within is pushed held one =
    ap (map row_of) pushed ∙ map_pushed row_of old flat
    ∙ ap (λ list. list ++ row_of flat ∷ []) held
    ∙ ap (λ r. take i rows ++ r ∷ []) (one ∙ is)
    ∙ sym (take_more rows i row within)

pub flat_made : (columns : List ℕ) (number : Bool) (flat : Option (List PieceRow)) (rows given made : List PlanRow) → made ≡ rows → given ≡ rows → IfSome flat (λ list. map row_of list ≡ given)
    → KnowsFlat (record { columns = columns; by_number = number; rows = made; flat = flat })
flat_made columns number flat rows given made made_is given_is h =
    let P : List PlanRow → Type 0 = λ all. IfSome flat (λ list. map row_of list ≡ all) in
    record { rows = subst P (given_is ∙ sym made_is) h }

pub table_at : (tables : List PlanTable) (k : ℕ) (table : PlanTable) → All KnowsFlat tables → Some table ≡ slice_get tables k → KnowsFlat table
table_at [] k table all is = absurd (none-some table (sym is))
table_at (t ∷ ts) zero table all is = subst KnowsFlat (sym (same_Some table t is)) (All-head KnowsFlat t ts all)
table_at (t ∷ ts) (suc k) table all is = table_at ts k table (All-tail KnowsFlat t ts all) is

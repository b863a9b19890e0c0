-- Rows, clauses and parts of a plan, made one by one.
use Rattle.std.proofs.Common.{◌≡◌, ℕ, zero, suc, ◌+◌, ◌-◌, ◌*◌, ◌<◌, ◌≤◌, Bool, true, false, not, cond, ltb, leb, Option, Some, None, is_some, List, [], ◌∷◌, ◌++◌, length, get_or, take, refl, sym, ap, subst, ◌∙◌, arith, option_map, slice_get, All}
use Rattle.std.specs.Prelude.{◌&&◌, ◌||◌, option_and_then}
use Rattle.std.specs.List.{list_any, find, flat_map}
use Rattle.std.specs.Option.{option_or}
use Rattle.std.proofs.lemmas.Bool.{false≢true}
use Rattle.std.proofs.lemmas.Bool.Decides.{nat_tests}
use Rattle.std.proofs.lemmas.List.{length-map, take_more}
use Rattle.std.proofs.lemmas.List.Elements.{All-take, All-drop, All-head, All-tail, All-push}
use Rattle.std.proofs.lemmas.List.Folds.{find-append, list_any-append}
use Rattle.std.proofs.lemmas.Option.{none-some, same_Some}
use Rattle.std.proofs.Math.Seq.{take-append_seam, drop-append_seam}
use Rattle.exact_fraction.specs.Number.{Rational}
use Rattle.interval_sets.specs.declared.interval.Bound.{Bound}
use Rattle.interval_sets.specs.declared.interval.Bound.TheVariants as end
use Rattle.interval_sets.specs.declared.interval.Interval.{Interval}
use Rattle.interval_sets.specs.Intervals.{lies_in, is_above, is_below}
use Rattle.rule_types.specs.declared.condition.Side.{Side}
use Rattle.table_compiler.specs.declared.part.Part.{Part}
use Rattle.table_compiler.specs.declared.part.Part.TheVariants as part
use Rattle.table_compiler.specs.declared.table.TableRow.{TableRow}
use Rattle.table_compiler.specs.declared.table.LinkTable.{LinkTable}
use Rattle.table_compiler.specs.Meaning.{is_in}
use Rattle.table_compiler.specs.Parts.{same_column}
use Rattle.table_plan.specs.declared.column_ends.ColumnEnd.{ColumnEnd}
use Rattle.table_plan.specs.declared.column_places.ColumnPlaces.{ColumnPlaces}
use Rattle.table_plan.specs.declared.plan_column.PlanColumn.{PlanColumn}
use Rattle.table_plan.specs.declared.plan_rows.PieceRange.{PieceRange}
use Rattle.table_plan.specs.declared.plan_rows.PlanPart.{PlanPart}
use Rattle.table_plan.specs.declared.plan_rows.PlanPart.TheVariants.{Pieces, Number}
use Rattle.table_plan.specs.declared.plan_rows.PlanRow.{PlanRow}
use Rattle.table_plan.specs.declared.plan_rows.PlanTable.{PlanTable}
use Rattle.table_plan.specs.Ends.{interval_ends, part_ends}
use Rattle.table_plan.specs.Pieces.{piece, IsCut}
use Rattle.table_plan.specs.Plan.{Plan, pieces_of, first_by, IsPlanOf}
use Rattle.table_plan.specs.PlanRows.{piece_at, lies_among, part_by, row_by, first_in}
use Rattle.table_plan.specs.Told.{Told, part_told, row_told, ordered_told, rows_of}
use Rattle.table_plan.specs.internal.Collected.{place_in, Places, found, column_sides, cuts_on, IsPlanned}
use Rattle.table_plan.specs.Pieces.{IsCutEnd}
use Rattle.table_plan.specs.internal.Planned.{AreCutEnds, PlansTable, PlansTables}
use Rattle.table_plan.proofs.PieceOrder.{cut_below, cut_above, piece_most}
use Rattle.table_plan.proofs.PlaceLists.{places_found, place_splits, place_within, same_side}

-- ---- facts of all that lists give
pub all_left : {X : Type 0} (P : X → Type 0) (xs ys : List X) → All P (xs ++ ys) → All P xs
all_left P xs ys all = subst (All P) (take-append_seam xs ys) (All-take P (length xs) (xs ++ ys) all)

pub all_right : {X : Type 0} (P : X → Type 0) (xs ys : List X) → All P (xs ++ ys) → All P ys
all_right P xs ys all = subst (All P) (drop-append_seam xs ys) (All-drop P (length xs) (xs ++ ys) all)

pub all_given : {X Y : Type 0} (P : Y → Type 0) (f : X → List Y) (xs : List X) (i : ℕ) (d : X) → i < length xs → All P (flat_map f xs) → All P (f (get_or xs i d))
all_given P f [] i d within all = absurd (omega arith)
all_given P f (x ∷ xs) zero d within all = all_left P (f x) (flat_map f xs) all
all_given P f (x ∷ xs) (suc i) d within all = all_given P f xs i d (omega arith) (all_right P (f x) (flat_map f xs) all)

pub all_at : {X Y : Type 0} (P : Y → Type 0) (f : X → List Y) (xs : List X) (i : ℕ) (x : X) → i < length xs → x ≡ get_or xs i x → All P (flat_map f xs) → All P (f x)
all_at P f xs i x within is all = let Q = λ (y : _). All P (f y) in subst Q (sym is) (all_given P f xs i x within all)

-- ---- ranges of pieces
after_test : (a b : ℕ) → ltb a b ≡ leb (a + 1) b
after_test a b = grind (arith, nat_tests)

not_test : (a b : ℕ) → not (ltb a b) ≡ leb b a
not_test a b = grind (arith, nat_tests)

before_test : (a b i : ℕ) → b ≡ 2 * i + 1 → ltb a b ≡ leb a (b - 1)
before_test a b i odd = grind (arith, nat_tests)

always_test : (a b : ℕ) → a ≤ b → true ≡ leb a b
always_test a b h = grind (arith, nat_tests)

pub above_open : (cuts : List Rational) (low : Bound) (p : Rational) (m : Bool) (first : ℕ) → low ≡ end.Bound p m → m ≡ true → IsCutEnd cuts low → first ≡ piece cuts p → (x : Rational) → is_above low x ≡ leb (first + 1) (piece cuts x)
above_open cuts low p m first is open_is cut found_is x =
    ap (λ b. is_above b x) is
    ∙ ap (λ t. is_above (end.Bound p t) x) open_is
    ∙ cut_below cuts p x (let P : Bound → Type 0 = λ b. IsCutEnd cuts b in subst P is cut)
    ∙ after_test (piece cuts p) (piece cuts x)
    ∙ ap (λ n. leb (n + 1) (piece cuts x)) (sym found_is)

pub above_closed : (cuts : List Rational) (low : Bound) (p : Rational) (m : Bool) (first : ℕ) → low ≡ end.Bound p m → m ≡ false → IsCutEnd cuts low → first ≡ piece cuts p → (x : Rational) → is_above low x ≡ leb first (piece cuts x)
above_closed cuts low p m first is closed_is cut found_is x =
    ap (λ b. is_above b x) is
    ∙ ap (λ t. is_above (end.Bound p t) x) closed_is
    ∙ ap not (cut_above cuts p x (let P : Bound → Type 0 = λ b. IsCutEnd cuts b in subst P is cut))
    ∙ not_test (piece cuts x) (piece cuts p)
    ∙ ap (λ n. leb n (piece cuts x)) (sym found_is)

pub below_open : (cuts : List Rational) (high : Bound) (p : Rational) (m : Bool) (last : ℕ) → high ≡ end.Bound p m → m ≡ true → IsCutEnd cuts high → last ≡ piece cuts p → (x : Rational) → is_below high x ≡ leb (piece cuts x) (last - 1)
below_open cuts high p m last is open_is cut found_is x =
    let it : IsCut cuts p = (let P : Bound → Type 0 = λ b. IsCutEnd cuts b in subst P is cut) in
    ap (λ b. is_below b x) is
    ∙ ap (λ t. is_below (end.Bound p t) x) open_is
    ∙ cut_above cuts p x it
    ∙ before_test (piece cuts x) (piece cuts p) it.place it.odd
    ∙ ap (λ n. leb (piece cuts x) (n - 1)) (sym found_is)

pub below_closed : (cuts : List Rational) (high : Bound) (p : Rational) (m : Bool) (last : ℕ) → high ≡ end.Bound p m → m ≡ false → IsCutEnd cuts high → last ≡ piece cuts p → (x : Rational) → is_below high x ≡ leb (piece cuts x) last
below_closed cuts high p m last is closed_is cut found_is x =
    ap (λ b. is_below b x) is
    ∙ ap (λ t. is_below (end.Bound p t) x) closed_is
    ∙ ap not (cut_below cuts p x (let P : Bound → Type 0 = λ b. IsCutEnd cuts b in subst P is cut))
    ∙ not_test (piece cuts p) (piece cuts x)
    ∙ ap (λ n. leb (piece cuts x) n) (sym found_is)

pub below_none : (cuts : List Rational) (high : Bound) (count : ℕ) → high ≡ end.NoBound → count ≡ length cuts → (x : Rational) → is_below high x ≡ leb (piece cuts x) (2 * count)
below_none cuts high count is counted x =
    ap (λ b. is_below b x) is
    ∙ always_test (piece cuts x) (2 * length cuts) (piece_most cuts x)
    ∙ ap (λ n. leb (piece cuts x) (2 * n)) (sym counted)

-- ---- the ranges of a set
or_right : (t : Bool) → (t || false) ≡ t
or_right true = refl
or_right false = refl

range_holds : (pieces : List (Option ℕ)) (truth : ℕ → Bool) (cuts : List Rational) (interval : Interval) (range : PieceRange) (at : ℕ) → range.column ≡ at
    → ((x : Rational) → lies_in interval x ≡ (leb range.first (piece cuts x) && leb (piece cuts x) range.last))
    → (value : Option Rational) → piece_at pieces at ≡ option_map (piece cuts) value → part_by pieces truth (Pieces range) ≡ is_in (interval ∷ []) value
unfolding part_by
range_holds pieces truth cuts interval range at here holds None is =
    ap (λ o. lies_among range.first range.last o) (ap (piece_at pieces) here ∙ is)
range_holds pieces truth cuts interval range at here holds (Some x) is =
    ap (λ o. lies_among range.first range.last o) (ap (piece_at pieces) here ∙ is)
    ∙ sym (holds x) ∙ sym (or_right (lies_in interval x))

in_append : (xs ys : List Interval) (value : Option Rational) → is_in (xs ++ ys) value ≡ (is_in xs value || is_in ys value)
in_append xs ys None = refl
in_append xs ys (Some x) = list_any-append (λ piece. lies_in piece x) xs ys

or_assoc : (a b c : Bool) → ((a || b) || c) ≡ (a || (b || c))
or_assoc true b c = refl
or_assoc false b c = refl

pub set_step : (pieces : List (Option ℕ)) (truth : ℕ → Bool) (cuts : List Rational) (set : List Interval) (i at : ℕ) (interval : Interval) (range : PieceRange) (first old new : List PlanPart)
    → i < length set → interval ≡ get_or set i interval → range.column ≡ at
    → ((x : Rational) → lies_in interval x ≡ (leb range.first (piece cuts x) && leb (piece cuts x) range.last))
    → new ≡ old ++ Pieces range ∷ [] → (value : Option Rational) → piece_at pieces at ≡ option_map (piece cuts) value
    → list_any (part_by pieces truth) old ≡ (list_any (part_by pieces truth) first || is_in (take i set) value)
    → list_any (part_by pieces truth) new ≡ (list_any (part_by pieces truth) first || is_in (take (i + 1) set) value)
set_step pieces truth cuts set i at interval range first old new within is here holds pushed value told so_far =
    let f = part_by pieces truth in
    ap (list_any (part_by pieces truth)) pushed
    ∙ list_any-append (part_by pieces truth) old (Pieces range ∷ [])
    ∙ ap (λ t. t || (part_by pieces truth (Pieces range) || false)) so_far
    ∙ ap (λ t. (list_any (part_by pieces truth) first || is_in (take i set) value) || t) (or_right (part_by pieces truth (Pieces range)) ∙ range_holds pieces truth cuts interval range at here holds value told)
    ∙ or_assoc (list_any (part_by pieces truth) first) (is_in (take i set) value) (is_in (interval ∷ []) value)
    ∙ ap (λ t. list_any (part_by pieces truth) first || t) (sym (in_append (take i set) (interval ∷ []) value) ∙ ap (λ xs. is_in xs value) (ap (λ x. take i set ++ x ∷ []) is ∙ sym (take_more set i interval within)))

pub set_begun : (value : Option Rational) (t : Bool) → t ≡ (t || is_in [] value)
set_begun None t = sym (or_right t)
set_begun (Some x) t = sym (or_right t)

-- ---- the part of a column
pub cut_ends_at : (columns : List PlanColumn) (column : Side) (set : List Interval) → All (IsPlanned columns) (flat_map (interval_ends column) set) → All (AreCutEnds (cuts_on columns column)) set
cut_ends_at columns column set all k d within =
    let both : All (IsPlanned columns) (interval_ends column (get_or set k d)) = all_given (IsPlanned columns) (interval_ends column) set k d within all in
    let low : ColumnEnd = record { side = column; bound = (get_or set k d).low } in
    let high : ColumnEnd = record { side = column; bound = (get_or set k d).high } in
    let first = All-head (IsPlanned columns) low (high ∷ []) both in
    let second = All-head (IsPlanned columns) high [] (All-tail (IsPlanned columns) low (high ∷ []) both) in
    record { low = first.cut; high = second.cut }

pub no_intervals : (columns : List PlanColumn) (column : Side) (set : List Interval) → All (IsPlanned columns) (flat_map (interval_ends column) set) → place_in (column_sides columns) column ≡ None
    → (value : Option Rational) → false ≡ is_in set value
no_intervals columns column [] all none None = refl
no_intervals columns column [] all none (Some x) = refl
no_intervals columns column (interval ∷ set) all none value =
    let low : ColumnEnd = record { side = column; bound = interval.low } in
    let high : ColumnEnd = record { side = column; bound = interval.high } in
    let first = All-head (IsPlanned columns) low (high ∷ flat_map (interval_ends column) set) all in
    absurd (false≢true (sym (ap is_some none) ∙ first.placed))

pieces_cons : (first : PlanColumn) (more : List PlanColumn) (value : Side → Option Rational) → pieces_of (first ∷ more) value ≡ option_map (piece first.cuts) (value first.side) ∷ pieces_of more value
unfolding pieces_of
pieces_cons first more value = refl

cuts_first : (first : PlanColumn) (more : List PlanColumn) (column : Side) (b : Bool) → same_column first.side column ≡ b → cuts_on (first ∷ more) column ≡ cond b first.cuts (cuts_on more column)
unfolding cuts_on
cuts_first first more column b is = ap (λ t. cond t first.cuts (cuts_on more column)) is

piece_by_first : (first : PlanColumn) (more : List PlanColumn) (column : Side) (value : Side → Option Rational) (i : ℕ) (b : Bool) → same_column first.side column ≡ b → place_in (first.side ∷ column_sides more) column ≡ Some i
    → ((j : ℕ) → place_in (column_sides more) column ≡ Some j → piece_at (pieces_of more value) j ≡ option_map (piece (cuts_on more column)) (value column))
    → piece_at (option_map (piece first.cuts) (value first.side) ∷ pieces_of more value) i ≡ option_map (piece (cuts_on (first ∷ more) column)) (value column)
piece_by_first first more column value zero true is place later =
    ap (λ s. option_map (piece first.cuts) (value s)) (same_side first.side column is)
    ∙ ap (λ cuts. option_map (piece cuts) (value column)) (sym (cuts_first first more column true is))
piece_by_first first more column value (suc i) true is place later =
    absurd (let none : suc i ≡ 0 = place_splits first.side column (column_sides more) (suc i) place true is in omega arith)
piece_by_first first more column value zero false is place later =
    let next = place_splits first.side column (column_sides more) 0 place false is in
    absurd (let none : 0 ≡ suc next.0 = next.2 in omega arith)
piece_by_first first more column value (suc i) false is place later =
    let next = place_splits first.side column (column_sides more) (suc i) place false is in
    let one : next.0 ≡ i = (let step : suc i ≡ suc next.0 = next.2 in omega arith) in
    later i (next.1 ∙ ap Some one)
    ∙ ap (λ cuts. option_map (piece cuts) (value column)) (sym (cuts_first first more column false is))

pub piece_placed : (columns : List PlanColumn) (column : Side) (value : Side → Option Rational) (i : ℕ) → place_in (column_sides columns) column ≡ Some i
    → piece_at (pieces_of columns value) i ≡ option_map (piece (cuts_on columns column)) (value column)
unfolding place_in
piece_placed [] column value i place = absurd (none-some i place)
piece_placed (first ∷ more) column value i place =
    ap (λ pieces. piece_at pieces i) (pieces_cons first more value)
    ∙ piece_by_first first more column value i (same_column first.side column) refl place (λ j h. piece_placed more column value j h)

column_by : (first : PlanColumn) (more : List PlanColumn) (column : Side) (i : ℕ) (held : PlanColumn) (b : Bool) → same_column first.side column ≡ b → place_in (first.side ∷ column_sides more) column ≡ Some i
    → slice_get (first ∷ more) i ≡ Some held → ((j : ℕ) → place_in (column_sides more) column ≡ Some j → slice_get more j ≡ Some held → held.cuts ≡ cuts_on more column)
    → held.cuts ≡ cuts_on (first ∷ more) column
column_by first more column zero held true is place here later =
    ap (λ (c : PlanColumn). c.cuts) (sym (same_Some first held here)) ∙ sym (cuts_first first more column true is)
column_by first more column (suc i) held true is place here later =
    absurd (let none : suc i ≡ 0 = place_splits first.side column (column_sides more) (suc i) place true is in omega arith)
column_by first more column zero held false is place here later =
    let next = place_splits first.side column (column_sides more) 0 place false is in
    absurd (let none : 0 ≡ suc next.0 = next.2 in omega arith)
column_by first more column (suc i) held false is place here later =
    let next = place_splits first.side column (column_sides more) (suc i) place false is in
    let one : next.0 ≡ i = (let step : suc i ≡ suc next.0 = next.2 in omega arith) in
    later i (next.1 ∙ ap Some one) here ∙ sym (cuts_first first more column false is)

pub column_placed : (columns : List PlanColumn) (column : Side) (i : ℕ) (held : PlanColumn) → place_in (column_sides columns) column ≡ Some i → slice_get columns i ≡ Some held → held.cuts ≡ cuts_on columns column
unfolding place_in
column_placed [] column i held place here = absurd (none-some i place)
column_placed (first ∷ more) column i held place here =
    column_by first more column i held (same_column first.side column) refl place here (λ j h g. column_placed more column j held h g)

pub all_within : {X Y : Type 0} (P : Y → Type 0) (f : X → List Y) (xs items : List X) (i : ℕ) (x : X) → items ≡ xs → i < length items → x ≡ get_or items i x → All P (flat_map f xs) → All P (f x)
all_within P f xs items i x same within is all = let Q = λ (l : List _). All P (flat_map f l) in all_at P f items i x within is (subst Q (sym same) all)

pub all_pushed : {X : Type 0} (P : X → Type 0) (old new : List X) (x : X) → new ≡ old ++ x ∷ [] → All P old → P x → All P new
all_pushed P old new x pushed all one = subst (All P) (sym pushed) (All-push P old x all one)

pub part_none : (columns : List PlanColumn) (places : ColumnPlaces) (column : Side) (set : List Interval) (p : Part) → Places places (column_sides columns) → p ≡ part.Column column set → All (IsPlanned columns) (part_ends p) → found places column ≡ None
    → (value : Side → Option Rational) (truth : ℕ → Bool) (t : Bool) → t ≡ (t || part_told value truth p)
unfolding part_told part_ends
part_none columns places column set p held is planned none value truth t =
    let P : Part → Type 0 = λ q. All (IsPlanned columns) (part_ends q) in
    sym (or_right t)
    ∙ ap (λ b. t || b) (no_intervals columns column set (subst P is planned) (sym (places_found places (column_sides columns) column held) ∙ none) (value column))
    ∙ ap (λ q. t || part_told value truth q) (sym is)

pub part_number : (pieces : List (Option ℕ)) (value : Side → Option Rational) (truth : ℕ → Bool) (p : Part) (place : ℕ) (old new : List PlanPart) → p ≡ part.Number place → new ≡ old ++ Number place ∷ []
    → list_any (part_by pieces truth) new ≡ (list_any (part_by pieces truth) old || part_told value truth p)
unfolding part_told part_by
part_number pieces value truth p place old new is pushed =
    ap (list_any (part_by pieces truth)) pushed
    ∙ list_any-append (part_by pieces truth) old (Number place ∷ [])
    ∙ ap (λ b. list_any (part_by pieces truth) old || b) (or_right (truth place))
    ∙ ap (λ q. list_any (part_by pieces truth) old || part_told value truth q) (sym is)

pub place_inside : (columns : List PlanColumn) (places : ColumnPlaces) (column : Side) (at : ℕ) → Places places (column_sides columns) → found places column ≡ Some at → at < length columns
place_inside columns places column at held is =
    let same : length (column_sides columns) ≡ length columns = length-map columns (λ (c : PlanColumn). c.side) in
    let inside : at < length (column_sides columns) = place_within (column_sides columns) column at (sym (places_found places (column_sides columns) column held) ∙ is) in
    omega arith

pub column_there : (columns : List PlanColumn) (places : ColumnPlaces) (column : Side) (at : ℕ) (held : PlanColumn) → Places places (column_sides columns) → found places column ≡ Some at → slice_get columns at ≡ Some held
    → (place_in (column_sides columns) column ≡ Some at) × (held.cuts ≡ cuts_on columns column)
column_there columns places column at held placed is there =
    let place = sym (places_found places (column_sides columns) column placed) ∙ is in
    (place, column_placed columns column at held place there)

pub cuts_planned : (columns : List PlanColumn) (column : Side) (set pieces : List Interval) (p : Part) (cuts : List Rational) → p ≡ part.Column column set → pieces ≡ set → cuts ≡ cuts_on columns column → All (IsPlanned columns) (part_ends p)
    → All (AreCutEnds cuts) pieces
unfolding part_ends
cuts_planned columns column set pieces p cuts is pieces_is cuts_is planned =
    let P : Part → Type 0 = λ q. All (IsPlanned columns) (part_ends q) in
    let Q : List Rational → Type 0 = λ all. All (AreCutEnds all) pieces in
    let R : List Interval → Type 0 = λ xs. All (AreCutEnds (cuts_on columns column)) xs in
    subst Q (sym cuts_is) (subst R (sym pieces_is) (cut_ends_at columns column set (subst P is planned)))

pub part_ranges : (columns : List PlanColumn) (column : Side) (set pieces : List Interval) (p : Part) (cuts : List Rational) (at : ℕ) (old new : List PlanPart) → p ≡ part.Column column set → pieces ≡ set → cuts ≡ cuts_on columns column
    → place_in (column_sides columns) column ≡ Some at
    → ((found : List (Option ℕ)) (truth : ℕ → Bool) (value : Option Rational) → piece_at found at ≡ option_map (piece cuts) value → list_any (part_by found truth) new ≡ (list_any (part_by found truth) old || is_in pieces value))
    → (value : Side → Option Rational) (truth : ℕ → Bool) → list_any (part_by (pieces_of columns value) truth) new ≡ (list_any (part_by (pieces_of columns value) truth) old || part_told value truth p)
unfolding part_told
part_ranges columns column set pieces p cuts at old new is pieces_is cuts_is place added value truth =
    added (pieces_of columns value) truth (value column) (piece_placed columns column value at place ∙ ap (λ all. option_map (piece all) (value column)) (sym cuts_is))
    ∙ ap (λ xs. list_any (part_by (pieces_of columns value) truth) old || is_in xs (value column)) pieces_is
    ∙ ap (λ q. list_any (part_by (pieces_of columns value) truth) old || part_told value truth q) (sym is)

side_by : (first : PlanColumn) (more : List PlanColumn) (column : Side) (i : ℕ) (held : PlanColumn) (b : Bool) → same_column first.side column ≡ b → place_in (first.side ∷ column_sides more) column ≡ Some i
    → slice_get (first ∷ more) i ≡ Some held → ((j : ℕ) → place_in (column_sides more) column ≡ Some j → slice_get more j ≡ Some held → held.side ≡ column) → held.side ≡ column
side_by first more column zero held true is place here later =
    ap (λ (c : PlanColumn). c.side) (sym (same_Some first held here)) ∙ same_side first.side column is
side_by first more column (suc i) held true is place here later =
    absurd (let none : suc i ≡ 0 = place_splits first.side column (column_sides more) (suc i) place true is in omega arith)
side_by first more column zero held false is place here later =
    let next = place_splits first.side column (column_sides more) 0 place false is in
    absurd (let none : 0 ≡ suc next.0 = next.2 in omega arith)
side_by first more column (suc i) held false is place here later =
    let next = place_splits first.side column (column_sides more) (suc i) place false is in
    let one : next.0 ≡ i = (let step : suc i ≡ suc next.0 = next.2 in omega arith) in
    later i (next.1 ∙ ap Some one) here

pub side_placed : (columns : List PlanColumn) (column : Side) (i : ℕ) (held : PlanColumn) → place_in (column_sides columns) column ≡ Some i → slice_get columns i ≡ Some held → held.side ≡ column
unfolding place_in
side_placed [] column i held place here = absurd (none-some i place)
side_placed (first ∷ more) column i held place here =
    side_by first more column i held (same_column first.side column) refl place here (λ j h g. side_placed more column j held h g)

-- ---- rows, one by one
mapped : (a : Option PlanRow) (b : Option TableRow) (p : PlanRow) (r : TableRow) (t : Bool) → option_map (λ (row : PlanRow). row.action) a ≡ option_map (λ (row : TableRow). row.action) b → p.action ≡ r.action
    → option_map (λ (row : PlanRow). row.action) (option_or a (cond t (Some p) None)) ≡ option_map (λ (row : TableRow). row.action) (option_or b (cond t (Some r) None))
mapped None None p r true h same = ap Some same
mapped None None p r false h same = refl
mapped None (Some b) p r t h same = absurd (none-some b.action h)
mapped (Some a) None p r t h same = absurd (none-some a.action (sym h))
mapped (Some a) (Some b) p r t h same = h

pub first_pushed : (pieces : List (Option ℕ)) (told : Told) (plan : List PlanRow) (rows : List TableRow) (p : PlanRow) (r : TableRow)
    → first_in pieces told.truth plan ≡ ordered_told told rows → p.action ≡ r.action → row_by pieces told.truth p ≡ row_told told r
    → first_in pieces told.truth (plan ++ p ∷ []) ≡ ordered_told told (rows ++ r ∷ [])
unfolding first_in ordered_told
first_pushed pieces told plan rows p r so_far same holds =
    ap (option_map (λ (row : PlanRow). row.action)) (find-append (row_by pieces told.truth) plan (p ∷ []))
    ∙ ap (λ t. option_map (λ (row : PlanRow). row.action) (option_or (find (row_by pieces told.truth) plan) (cond t (Some p) None))) holds
    ∙ mapped (find (row_by pieces told.truth) plan) (find (row_told told) rows) p r (row_told told r) so_far same
    ∙ ap (option_map (λ (row : TableRow). row.action)) (sym (find-append (row_told told) rows (r ∷ [])))

pub first_more : (pieces : List (Option ℕ)) (told : Told) (plan new : List PlanRow) (rows : List TableRow) (i : ℕ) (p : PlanRow) (r : TableRow)
    → i < length rows → r ≡ get_or rows i r → new ≡ plan ++ p ∷ [] → first_in pieces told.truth plan ≡ ordered_told told (take i rows) → p.action ≡ r.action → row_by pieces told.truth p ≡ row_told told r
    → first_in pieces told.truth new ≡ ordered_told told (take (i + 1) rows)
first_more pieces told plan new rows i p r within is pushed so_far same holds =
    ap (first_in pieces told.truth) pushed
    ∙ first_pushed pieces told plan (take i rows) p r so_far same holds
    ∙ ap (ordered_told told) (ap (λ x. take i rows ++ x ∷ []) is ∙ sym (take_more rows i r within))

pub first_none : (pieces : List (Option ℕ)) (told : Told) → first_in pieces told.truth [] ≡ ordered_told told []
unfolding first_in ordered_told
first_none pieces told = refl

-- ---- tables, one by one
plans_pushed : (columns : List PlanColumn) (tables : List LinkTable) (plans : List PlanTable) (table : LinkTable) (plan : PlanTable) → PlansTables columns tables plans → PlansTable columns table plan
    → PlansTables columns (tables ++ table ∷ []) (plans ++ plan ∷ [])
plans_pushed columns [] [] table plan h one = (one, tt)
plans_pushed columns [] (p ∷ ps) table plan h one = absurd h
plans_pushed columns (t ∷ ts) [] table plan h one = absurd h
plans_pushed columns (t ∷ ts) (p ∷ ps) table plan h one = (h.0, plans_pushed columns ts ps table plan h.1 one)

pub plans_more : (columns : List PlanColumn) (tables : List LinkTable) (plans new : List PlanTable) (i : ℕ) (table : LinkTable) (plan : PlanTable) → i < length tables → table ≡ get_or tables i table → new ≡ plans ++ plan ∷ []
    → PlansTables columns (take i tables) plans → PlansTable columns table plan → PlansTables columns (take (i + 1) tables) new
plans_more columns tables plans new i table plan within is pushed h one =
    let P : List PlanTable → Type 0 = λ all. PlansTables columns (take (i + 1) tables) all in
    let Q : List LinkTable → Type 0 = λ all. PlansTables columns all (plans ++ plan ∷ []) in
    subst P (sym pushed)
    (subst Q (ap (λ x. take i tables ++ x ∷ []) is ∙ sym (take_more tables i table within)) (plans_pushed columns (take i tables) plans table plan h one))

plans_at : (columns : List PlanColumn) (tables : List LinkTable) (plans : List PlanTable) → PlansTables columns tables plans → (k : ℕ) (told : Told)
    → option_and_then (λ (t : PlanTable). first_in (pieces_of columns told.value) told.truth t.rows) (slice_get plans k) ≡ ordered_told told (rows_of (slice_get tables k))
unfolding ordered_told
plans_at columns [] [] h k told = refl
plans_at columns [] (p ∷ ps) h k told = absurd h
plans_at columns (t ∷ ts) [] h k told = absurd h
plans_at columns (t ∷ ts) (p ∷ ps) h zero told = h.0.orders told
plans_at columns (t ∷ ts) (p ∷ ps) h (suc k) told = plans_at columns ts ps h.1 k told

plans_count : (columns : List PlanColumn) (tables : List LinkTable) (plans : List PlanTable) → PlansTables columns tables plans → length plans ≡ length tables
plans_count columns [] [] h = refl
plans_count columns [] (p ∷ ps) h = absurd h
plans_count columns (t ∷ ts) [] h = absurd h
plans_count columns (t ∷ ts) (p ∷ ps) h = ap suc (plans_count columns ts ps h.1)

pub plan_is : (plan : Plan) (tables : List LinkTable) → PlansTables plan.columns tables plan.tables → IsPlanOf plan tables
unfolding first_by
plan_is plan tables h = record {
  orders = λ table told. plans_at plan.columns tables plan.tables h table told;
  count = plans_count plan.columns tables plan.tables h;
}

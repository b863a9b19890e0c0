-- What links take by a plan of tables.
use Rattle.std.proofs.Common.{◌≡◌, ℕ, zero, suc, ◌+◌, ◌<◌, ◌==◌, Bool, true, false, not, ◌||◌, ◌&&◌, cond, Option, Some, None, option_and_then, List, [], ◌∷◌, length, get_or, map, refl, sym, ap, subst, ◌∙◌, arith}
use Rattle.std.proofs.lemmas.Bool.Decides.{nat_tests}
use Rattle.std.proofs.lemmas.Iterator.Adapters.{position_from-zero}
use Rattle.std.proofs.lemmas.List.{length-map}
use Rattle.std.proofs.lemmas.List.Elements.{All-head, All-tail}
use Rattle.std.proofs.lemmas.List.Kept.{AllPairs-from_increasing}
use Rattle.std.proofs.lemmas.Option.{none-some, same_Some, slice_get_within, get_or_from_slice_get, slice_get-map}
use Rattle.std.specs.Prelude.{slice_get, All}
use Rattle.std.specs.Option.{option_map}
use Rattle.std.specs.List.{position, position_from, find, list_any, list_all}
use Rattle.std.specs.List.Sorted.{IsStrictlyIncreasing}
use Rattle.rule_types.specs.declared.action.ActionAt.{ActionAt}
use Rattle.rule_types.specs.declared.condition.Side.{Side}
use Rattle.rule_types.specs.declared.rules.Rules.{Rules}
use Rattle.rule_types.specs.declared.state.State.{State}
use Rattle.rule_types.specs.WellFormed.{WellFormed}
use Rattle.rule_types.proofs.PublicLaws.{opened-orders}
use Rattle.rule_meaning.specs.Condition.{left_value}
use Rattle.table_compiler.specs.declared.part.Part.{Part}
use Rattle.table_compiler.specs.declared.part.Part.TheVariants.{Column, Number}
use Rattle.table_compiler.specs.declared.table.Clause.{Clause}
use Rattle.table_compiler.specs.declared.table.LinkTable.{LinkTable}
use Rattle.table_compiler.specs.declared.table.TableRow.{TableRow}
use Rattle.table_compiler.specs.Meaning.{is_in, ordered_by, tabled}
use Rattle.table_plan.specs.Plan.{Plan, pieces_of, first_by, IsPlanOf}
use Rattle.table_plan.specs.Told.{part_told, clause_told, row_told, ordered_told, rows_of, rows_at, told_at}
use Rattle.table_plan.proofs.PublicLaws.{told-ordered}
use Rattle.table_run.specs.Sides.{is_left_side, PartReads, RowReads, ServesRules}
use Rattle.table_run.specs.Planned.{value_read, told_read, planned_at, planned, AreFirsts}

-- ---- the place of a link
same_number : (n : ℕ) → (n == n) ≡ true
same_number n = grind (arith, nat_tests)

other_number : (m n : ℕ) → m < n → (m == n) ≡ false
other_number m n less = grind (arith, nat_tests)

place_from : (link : ℕ) (links : List ℕ) (i k : ℕ) → slice_get links k ≡ Some link
    → ((j other : ℕ) → j < k → slice_get links j ≡ Some other → (other == link) ≡ false)
    → position_from (λ other. other == link) i links ≡ Some (i + k)
place_from link [] i k is apart = absurd (none-some link is)
place_from link (first ∷ links) i zero is apart =
    let same : first ≡ link = same_Some first link is in
    let whole : i + 0 ≡ i = omega arith in
    ap (λ b. cond b (Some i) (position_from (λ (other : ℕ). other == link) (i + 1) links)) (ap (λ n. n == link) same ∙ same_number link)
    ∙ ap Some (sym whole)
place_from link (first ∷ links) i (suc k) is apart =
    let next : (i + 1) + k ≡ i + suc k = omega arith in
    ap (λ b. cond b (Some i) (position_from (λ (other : ℕ). other == link) (i + 1) links)) (apart 0 first (omega arith) refl)
    ∙ place_from link links (i + 1) k is (λ j other below at. apart (suc j) other (omega (arith, below)) at)
    ∙ ap Some next

place_of : (links : List ℕ) (k link : ℕ) → IsStrictlyIncreasing links → slice_get links k ≡ Some link
    → position (λ other. other == link) links ≡ Some k
place_of links k link rising is =
    let pairs = AllPairs-from_increasing links rising in
    let within : k < length links = slice_get_within links k link is in
    let at : get_or links k 0 ≡ link = get_or_from_slice_get links k link 0 is in
    let whole : 0 + k ≡ k = omega arith in
    position_from-zero (λ (other : ℕ). other == link) links
    ∙ place_from link links 0 k is (λ j other below found.
    let less : get_or links j 0 < get_or links k 0 = pairs j k 0 below within in
    let there : get_or links j 0 ≡ other = get_or_from_slice_get links j other 0 found in
    other_number other link (omega (arith, less, at, there)))
    ∙ ap Some whole

-- ---- lists with the same items
same_items : {A : Type 0} (xs ys : List A) → length xs ≡ length ys
    → ((k : ℕ) (one other : A) → slice_get xs k ≡ Some one → slice_get ys k ≡ Some other → one ≡ other)
    → xs ≡ ys
same_items [] [] long each = refl
same_items [] (y ∷ ys) long each = absurd (omega (arith, long))
same_items (x ∷ xs) [] long each = absurd (omega (arith, long))
same_items (x ∷ xs) (y ∷ ys) long each =
    ap (λ z. z ∷ xs) (each 0 x y refl refl)
    ∙ ap (λ l. y ∷ l) (same_items xs ys (omega (arith, long)) (λ k one other at there. each (suc k) one other at there))

planned_here : (x : Rules) (plan : Plan) (s : State) (k link : ℕ) → IsStrictlyIncreasing x.controlled
    → slice_get x.controlled k ≡ Some link → planned x plan s link ≡ planned_at x plan s k
unfolding planned
planned_here x plan s k link rising is = ap (option_and_then (planned_at x plan s)) (place_of x.controlled k link rising is)

pub firsts_planned : (x : Rules) (plan : Plan) (s : State) (truth : ActionAt → ℕ → Bool) (firsts : List (Option ActionAt))
    → WellFormed x → truth ≡ (told_at x s).truth → length firsts ≡ length x.controlled
    → AreFirsts plan (pieces_of plan.columns (value_read x s)) truth firsts
    → firsts ≡ map (planned x plan s) x.controlled
unfolding AreFirsts
firsts_planned x plan s truth firsts formed same long are =
    let rising : IsStrictlyIncreasing x.controlled = (opened-orders x formed.orders).controlled in
    let each : length (map (planned x plan s) x.controlled) ≡ length x.controlled = length-map x.controlled (planned x plan s) in
    same_items firsts (map (planned x plan s) x.controlled) (long ∙ sym each)
    (λ k one other at there. item_by x plan s truth firsts same are rising k one other at (slice_get x.controlled k) refl
    (sym (slice_get-map (planned x plan s) x.controlled k) ∙ there))
  where
    item_by : (x : Rules) (plan : Plan) (s : State) (truth : ActionAt → ℕ → Bool) (firsts : List (Option ActionAt))
        → truth ≡ (told_at x s).truth
        → ((table : ℕ) (first : Option ActionAt) → slice_get firsts table ≡ Some first → first ≡ first_by plan table (pieces_of plan.columns (value_read x s)) truth)
        → IsStrictlyIncreasing x.controlled
        → (k : ℕ) (one other : Option ActionAt) → slice_get firsts k ≡ Some one
        → (o : Option ℕ) → slice_get x.controlled k ≡ o → option_map (planned x plan s) o ≡ Some other → one ≡ other
    item_by x plan s truth firsts same are rising k one other at None is there = absurd (none-some other there)
    item_by x plan s truth firsts same are rising k one other at (Some link) is there =
        are k one at
        ∙ ap (λ (t : ActionAt → ℕ → Bool). first_by plan k (pieces_of plan.columns (value_read x s)) t) same
        ∙ sym (planned_here x plan s k link rising is)
        ∙ same_Some (planned x plan s link) other there

-- ---- a plan orders what its tables order
any_alike : {A : Type 0} (P : A → Type 0) (f g : A → Bool) (xs : List A) → ((one : A) → P one → f one ≡ g one)
    → All P xs → list_any f xs ≡ list_any g xs
any_alike P f g [] same all = refl
any_alike P f g (x ∷ xs) same all =
    ap (λ b. b || list_any f xs) (same x (All-head P x xs all))
    ∙ ap (λ b. g x || b) (any_alike P f g xs same (All-tail P x xs all))

all_alike : {A : Type 0} (P : A → Type 0) (f g : A → Bool) (xs : List A) → ((one : A) → P one → f one ≡ g one)
    → All P xs → list_all f xs ≡ list_all g xs
all_alike P f g [] same all = refl
all_alike P f g (x ∷ xs) same all =
    ap (λ b. b && list_all f xs) (same x (All-head P x xs all))
    ∙ ap (λ b. g x && b) (all_alike P f g xs same (All-tail P x xs all))

find_alike : {A : Type 0} (P : A → Type 0) (f g : A → Bool) (xs : List A) → ((one : A) → P one → f one ≡ g one)
    → All P xs → find f xs ≡ find g xs
find_alike P f g [] same all = refl
find_alike P f g (x ∷ xs) same all =
    ap (λ b. cond b (Some x) (find f xs)) (same x (All-head P x xs all))
    ∙ ap (λ o. cond (g x) (Some x) o) (find_alike P f g xs same (All-tail P x xs all))

read_here : (x : Rules) (s : State) (column : Side) → is_left_side x column ≡ true → value_read x s column ≡ left_value x s column
unfolding value_read
read_here x s column h = ap (λ b. cond b (left_value x s column) None) h

same_part : (x : Rules) (s : State) (truth : ℕ → Bool) (part : Part) → PartReads x part
    → part_told (value_read x s) truth part ≡ part_told (left_value x s) truth part
unfolding part_told
same_part x s truth (Column column set) h = ap (is_in set) (read_here x s column h)
same_part x s truth (Number place) h = refl

same_clause : (x : Rules) (s : State) (truth : ℕ → Bool) (clause : Clause) → All (PartReads x) clause.parts
    → clause_told (value_read x s) truth clause ≡ clause_told (left_value x s) truth clause
unfolding clause_told
same_clause x s truth clause h =
    any_alike (PartReads x) (part_told (value_read x s) truth) (part_told (left_value x s) truth) clause.parts (same_part x s truth) h

same_row : (x : Rules) (s : State) (row : TableRow) → RowReads x row
    → row_told (told_read x s) row ≡ row_told (told_at x s) row
unfolding row_told
same_row x s row h =
    let truth : ℕ → Bool = (told_at x s).truth row.action in
    ap (λ b. cond row.negated (not b) b)
    (all_alike (λ (clause : Clause). All (PartReads x) clause.parts) (clause_told (value_read x s) truth) (clause_told (left_value x s) truth)
    row.clauses (same_clause x s truth) h)

same_told : (x : Rules) (s : State) (rows : List TableRow) → All (RowReads x) rows
    → ordered_told (told_read x s) rows ≡ ordered_by x s rows
unfolding ordered_told
same_told x s rows h =
    ap (option_map (λ (row : TableRow). row.action))
    (find_alike (RowReads x) (row_told (told_read x s)) (row_told (told_at x s)) rows (same_row x s) h)
    ∙ sym (told-ordered x s rows)

found_from : (link : ℕ) (f : ℕ → Option ActionAt) (g : LinkTable → Option ActionAt) (tables : List LinkTable) (i : ℕ)
    → ((k : ℕ) (table : LinkTable) → slice_get tables k ≡ Some table → f (i + k) ≡ g table)
    → option_and_then f (position_from (λ other. other == link) i (map (λ (table : LinkTable). table.link) tables))
    ≡ option_and_then g (find (λ (table : LinkTable). table.link == link) tables)
found_from link f g [] i same = refl
found_from link f g (table ∷ tables) i same = found_by link f g table tables i same (table.link == link)
    (found_from link f g tables (i + 1) (λ k one is.
    let next : (i + 1) + k ≡ i + suc k = omega arith in ap f next ∙ same (suc k) one is))
  where
    found_by : (link : ℕ) (f : ℕ → Option ActionAt) (g : LinkTable → Option ActionAt) (table : LinkTable) (tables : List LinkTable) (i : ℕ)
        → ((k : ℕ) (one : LinkTable) → slice_get (table ∷ tables) k ≡ Some one → f (i + k) ≡ g one)
        → (b : Bool)
        → option_and_then f (position_from (λ other. other == link) (i + 1) (map (λ (one : LinkTable). one.link) tables))
        ≡ option_and_then g (find (λ (one : LinkTable). one.link == link) tables)
        → option_and_then f (cond b (Some i) (position_from (λ other. other == link) (i + 1) (map (λ (one : LinkTable). one.link) tables)))
        ≡ option_and_then g (cond b (Some table) (find (λ (one : LinkTable). one.link == link) tables))
    found_by link f g table tables i same true later = let whole : i ≡ i + 0 = omega arith in ap f whole ∙ same 0 table refl
    found_by link f g table tables i same false later = later

rows_here : (tables : List LinkTable) (k : ℕ) (table : LinkTable) → slice_get tables k ≡ Some table → rows_at tables k ≡ table.rows
rows_here tables k table is = ap rows_of is

reads_here : (x : Rules) (tables : List LinkTable) (k : ℕ) (table : LinkTable)
    → All (λ (one : LinkTable). All (RowReads x) one.rows) tables → slice_get tables k ≡ Some table → All (RowReads x) table.rows
reads_here x tables k table all is =
    subst (λ (one : LinkTable). All (RowReads x) one.rows) (get_or_from_slice_get tables k table table is)
    (all k table (slice_get_within tables k table is))

link_planned : (x : Rules) (plan : Plan) (tables : List LinkTable) → ServesRules x tables → IsPlanOf plan tables
    → (s : State) (link : ℕ) → planned x plan s link ≡ tabled x tables s link
unfolding planned tabled
link_planned x plan tables serves made s link =
    ap (λ l. option_and_then (planned_at x plan s) (position (λ (other : ℕ). other == link) l)) (sym serves.links)
    ∙ ap (option_and_then (planned_at x plan s)) (position_from-zero (λ (other : ℕ). other == link) (map (λ (table : LinkTable). table.link) tables))
    ∙ found_from link (planned_at x plan s) (λ (table : LinkTable). ordered_by x s table.rows) tables 0
    (λ k table is.
    let whole : 0 + k ≡ k = omega arith in
    ap (planned_at x plan s) whole
    ∙ made.orders k (told_read x s)
    ∙ ap (ordered_told (told_read x s)) (rows_here tables k table is)
    ∙ same_told x s table.rows (reads_here x tables k table serves.columns is))

pub plan_orders : (x : Rules) (plan : Plan) (tables : List LinkTable) → ServesRules x tables → IsPlanOf plan tables
    → planned x plan ≡ tabled x tables
plan_orders x plan tables serves made = λ i s link. link_planned x plan tables serves made s link i

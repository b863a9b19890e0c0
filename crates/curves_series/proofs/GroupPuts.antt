-- One more line at the tables of a section: at the place of its name, or as a new table.
use Rattle.std.proofs.Common.{◌≡◌, ℕ, zero, suc, ◌<◌, Bool, true, false, List, [], ◌∷◌, ◌++◌, length, get_or, refl, sym, ap, arith}
use Rattle.std.proofs.Common.{Some, None, set, ◌≤◌, map, subst, ◌∙◌}
use Rattle.std.specs.Prelude.{Result, Ok, Err, OnOk}
use Rattle.std.specs.Borrow.{Bor}
use Rattle.std.proofs.lemmas.List.{map-set, map-append, length-map}
use Rattle.std.specs.List.{list_any}
use Rattle.curves_series.specs.declared.groups.LinesOf.{LinesOf}
use Rattle.std.specs.List.{position, position_or_len}
use Rattle.std.specs.Str.{bytes_eq}
use Rattle.std.proofs.lemmas.Grind.{common_steps}
use Rattle.std.proofs.lemmas.List.Sums.{fails_before_first}
use Rattle.std.proofs.lemmas.List.Quantifiers.{position-Some}
use Rattle.inp_text.specs.declared.source_line.SourceLine.{SourceLine}
use Rattle.curves_series.specs.Groups.{Group, name_of, names_of, with_line}
use Rattle.curves_series.specs.Series.{names_file, is_file_series}
use Rattle.curves_series.specs.declared.groups.Groups.{Groups}
use Rattle.curves_series.specs.internal.Views.{zipped, lines_now, groups_now, group_at, IsEven, HaveLines}

put_at : (line : SourceLine) (names : List (List ℕ)) (lists : List (List SourceLine)) (k : ℕ) → k < length names → length names ≡ length lists → bytes_eq (name_of line) (get_or names k []) ≡ true → ((j : ℕ) → j < k → bytes_eq (name_of line) (get_or names j []) ≡ false) → zipped names (set lists k (get_or lists k [] ++ line ∷ [])) ≡ with_line line (zipped names lists)
unfolding with_line
put_at line [] lists k lt e is before = grind arith
put_at line (n ∷ names) [] k lt e is before = grind arith
put_at line (n ∷ names) (l ∷ lists) zero lt e is before = rw is refl
put_at line (n ∷ names) (l ∷ lists) (suc k) lt e is before =
    rw (before 0 (omega arith)) (ap (λ later. record { name = n; lines = l } ∷ later) (put_at line names lists k (omega (arith, lt)) (omega (arith, e)) is (λ j below. before (suc j) (omega (arith, below)))))

new_at : (line : SourceLine) (names : List (List ℕ)) (lists : List (List SourceLine)) → length names ≡ length lists → ((j : ℕ) → j < length names → bytes_eq (name_of line) (get_or names j []) ≡ false) → zipped (names ++ name_of line ∷ []) (lists ++ (line ∷ []) ∷ []) ≡ with_line line (zipped names lists)
unfolding with_line
new_at line [] [] e none = refl
new_at line [] (l ∷ lists) e none = grind arith
new_at line (n ∷ names) [] e none = grind arith
new_at line (n ∷ names) (l ∷ lists) e none =
    rw (none 0 (omega arith)) (ap (λ later. record { name = n; lines = l } ∷ later) (new_at line names lists (omega (arith, e)) (λ j below. none (suc j) (omega (arith, below)))))

-- at the place that a look-up of the name gives
pub line_put : (line : SourceLine) (names : List (List ℕ)) (lists : List (List SourceLine)) (k : ℕ) → length names ≡ length lists → position (bytes_eq (name_of line)) names ≡ Some k → zipped names (set lists k (get_or lists k [] ++ line ∷ [])) ≡ with_line line (zipped names lists)
line_put line names lists k e h =
    let at = position-Some (bytes_eq (name_of line)) names k [] h in
    put_at line names lists k at.0 e at.1 at.2

none_passes : (p : List ℕ → Bool) (names : List (List ℕ)) → position p names ≡ None → (j : ℕ) → j < length names → p (get_or names j []) ≡ false
none_passes p names h j lt =
    let past : length names ≤ position_or_len p names = grind (arith, common_steps) in
    fails_before_first p names j [] (omega (arith, past, lt))

-- as a new table, where a look-up of the name gives nothing
pub table_put : (line : SourceLine) (names : List (List ℕ)) (lists : List (List SourceLine)) → length names ≡ length lists → position (bytes_eq (name_of line)) names ≡ None → zipped (names ++ name_of line ∷ []) (lists ++ (line ∷ []) ∷ []) ≡ with_line line (zipped names lists)
table_put line names lists e h = new_at line names lists e (none_passes (bytes_eq (name_of line)) names h)

-- what holds where a call succeeds follows from what it ensures there
pub on_ok : {A E : Type 0} {P Q : Type 0} (r : Result A E) → (P → Q) → OnOk r P → OnOk r Q
on_ok (Ok x) f h = f h
on_ok (Err e) f h = tt

pub ok_both : {A E : Type 0} {P Q R : Type 0} (r : Result A E) → (P → Q → R) → OnOk r P → OnOk r Q → OnOk r R
ok_both (Ok x) f h g = f h g
ok_both (Err e) f h g = tt

-- the lines of each table
abbrev lists_of : List LinesOf → List (List SourceLine)
lists_of tables = map (λ table. lines_now table.lines.items) tables

get_list : (tables : List LinesOf) (k : ℕ) (d : LinesOf) → k < length tables → get_or (lists_of tables) k [] ≡ lines_now (get_or tables k d).lines.items
get_list [] k d lt = grind arith
get_list (t ∷ tables) zero d lt = refl
get_list (t ∷ tables) (suc k) d lt = get_list tables k d (omega (arith, lt))

-- a line at the end of the lines of a table
pub pushed_list : (tables : List LinesOf) (k : ℕ) (old new : LinesOf) (line : Bor SourceLine) → k < length tables → old ≡ get_or tables k old → new.lines.items ≡ old.lines.items ++ line ∷ [] → lists_of (set tables k new) ≡ set (lists_of tables) k (get_or (lists_of tables) k [] ++ line.now ∷ [])
pushed_list tables k old new line lt is e =
    let own : lines_now old.lines.items ≡ get_or (lists_of tables) k [] = ap (λ t. lines_now t.lines.items) is ∙ sym (get_list tables k old lt) in
    let more : lines_now new.lines.items ≡ get_or (lists_of tables) k [] ++ line.now ∷ [] = ap lines_now e ∙ map-append (λ l. l.now) old.lines.items (line ∷ []) ∙ ap (λ found. found ++ line.now ∷ []) own in
    map-set (λ table. lines_now table.lines.items) tables k new ∙ ap (set (lists_of tables) k) more

-- the names and the lines of tables, where there are as many of both
pub zipped_names : (names : List (List ℕ)) (lists : List (List SourceLine)) → length names ≡ length lists → names_of (zipped names lists) ≡ names
zipped_names [] lists e = refl
zipped_names (n ∷ names) [] e = grind arith
zipped_names (n ∷ names) (l ∷ lists) e = ap (λ later. n ∷ later) (zipped_names names lists (omega (arith, e)))

zipped_marks : (names : List (List ℕ)) (lists : List (List SourceLine)) → length names ≡ length lists → map is_file_series (zipped names lists) ≡ map (λ lines. list_any names_file lines) lists
zipped_marks [] [] e = refl
zipped_marks [] (l ∷ lists) e = grind arith
zipped_marks (n ∷ names) [] e = grind arith
zipped_marks (n ∷ names) (l ∷ lists) e = ap (λ later. list_any names_file l ∷ later) (zipped_marks names lists (omega (arith, e)))

map_twice : (tables : List LinesOf) → map (λ lines. list_any names_file lines) (lists_of tables) ≡ map (λ table. list_any names_file (lines_now table.lines.items)) tables
map_twice [] = refl
map_twice (t ∷ tables) = ap (λ later. list_any names_file (lines_now t.lines.items) ∷ later) (map_twice tables)

even_lists : (g : Groups) → IsEven g → length g.names ≡ length (lists_of g.tables.items)
even_lists g even = even ∙ sym (length-map g.tables.items (λ table. lines_now table.lines.items))

pub names_in : (g : Groups) (groups : List Group) → IsEven g → groups_now g ≡ groups → names_of groups ≡ g.names
names_in g groups even is = sym (ap names_of is) ∙ zipped_names g.names (lists_of g.tables.items) (even_lists g even)

pub marks_in : (g : Groups) (groups : List Group) → IsEven g → groups_now g ≡ groups → map is_file_series groups ≡ map (λ table. list_any names_file (lines_now table.lines.items)) g.tables.items
marks_in g groups even is = sym (ap (map is_file_series) is) ∙ zipped_marks g.names (lists_of g.tables.items) (even_lists g even) ∙ map_twice g.tables.items

pub ruleset read_off = (names_in, marks_in)

-- the table at a place
zipped_get : (names : List (List ℕ)) (lists : List (List SourceLine)) (k : ℕ) (d : Group) → length names ≡ length lists → k < length names → get_or (zipped names lists) k d ≡ record { name = get_or names k []; lines = get_or lists k [] }
zipped_get [] lists k d e lt = absurd (omega (arith, lt))
zipped_get (n ∷ names) [] k d e lt = absurd (omega (arith, e))
zipped_get (n ∷ names) (l ∷ lists) zero d e lt = refl
zipped_get (n ∷ names) (l ∷ lists) (suc k) d e lt = zipped_get names lists k d (omega (arith, e)) (omega (arith, lt))

zipped_length : (names : List (List ℕ)) (lists : List (List SourceLine)) → length names ≡ length lists → length (zipped names lists) ≡ length names
zipped_length [] lists e = refl
zipped_length (n ∷ names) [] e = absurd (omega (arith, e))
zipped_length (n ∷ names) (l ∷ lists) e = ap suc (zipped_length names lists (omega (arith, e)))

pub groups_many : (g : Groups) → IsEven g → length (groups_now g) ≡ length g.tables.items
groups_many g even = zipped_length g.names (lists_of g.tables.items) (even_lists g even) ∙ even

pub group_is : (g : Groups) (k : ℕ) (d : LinesOf) → IsEven g → k < length g.tables.items → group_at g k ≡ record { name = get_or g.names k []; lines = lines_now (get_or g.tables.items k d).lines.items }
group_is g k d even lt =
    zipped_get g.names (lists_of g.tables.items) k _ (even_lists g even) (omega (arith, even, lt))
    ∙ ap (λ lines. record { name = get_or g.names k []; lines = lines }) (get_list g.tables.items k d lt)

-- a table has a line
pub table_some : (g : Groups) (k : ℕ) (d : LinesOf) → IsEven g → HaveLines (groups_now g) → k < length g.tables.items → 0 < length (get_or g.tables.items k d).lines.items
table_some g k d even full lt =
    let some = full k (record { name = []; lines = [] }) (omega (arith, lt, groups_many g even)) in
    let here = subst (λ group. 0 < length group.lines) (group_is g k d even lt) some in
    omega (arith, here, length-map (get_or g.tables.items k d).lines.items (λ line. line.now))

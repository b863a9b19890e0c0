-- The tables of a section: their names differ, and each has the lines that begin with its name.
use Rattle.std.proofs.Common.{◌≡◌, ℕ, zero, suc, ◌<◌, Bool, true, false, cond, List, [], ◌∷◌, ◌++◌, length, get_or, refl, sym, ap, ◌∙◌, arith, append_assoc, true≢false}
use Rattle.std.specs.Prelude.{⊤, All, AllPairs, filter}
use Rattle.std.specs.Str.{bytes_eq}
use Rattle.std.proofs.lemmas.List.{append-nil}
use Rattle.std.proofs.lemmas.List.Kept.{AllPairs-cons}
use Rattle.std.proofs.lemmas.Slice.Eq.{bytes_eq-Decides}
use Rattle.inp_text.specs.declared.source_line.SourceLine.{SourceLine}
use Rattle.curves_series.specs.Groups.{Group, name_of, with_line, with_lines, groups_of}

same_name : (n : List ℕ) → bytes_eq n n ≡ true
same_name n = (bytes_eq-Decides n n).1 refl

-- the test gives the same either way
turned_by : (m n : List ℕ) (b : Bool) → bytes_eq n m ≡ b → bytes_eq m n ≡ false → bytes_eq n m ≡ false
turned_by m n false is apart = is
turned_by m n true is apart =
    let one : n ≡ m = (bytes_eq-Decides n m).0 is in
    absurd (true≢false (sym ((bytes_eq-Decides m n).1 (sym one)) ∙ apart))

turned : (m n : List ℕ) → bytes_eq m n ≡ false → bytes_eq n m ≡ false
turned m n apart = turned_by m n (bytes_eq n m) refl apart

or_none : (a b : Bool) → cond a true b ≡ false → (a ≡ false) × (b ≡ false)
or_none true b h = absurd (true≢false h)
or_none false b h = (refl, h)

-- a name is that of one of these tables
abbrev has_name : List ℕ → List Group → Bool
has_name n [] = false
has_name n (group ∷ later) = cond (bytes_eq n group.name) true (has_name n later)

-- the names differ
abbrev IsApart : List Group → Type 0
IsApart [] = ⊤
IsApart (group ∷ later) = (has_name group.name later ≡ false) × IsApart later

new_by : (n : List ℕ) (line : SourceLine) (group : Group) (later : List Group) (same : Bool) → has_name n (group ∷ later) ≡ false → has_name n (with_line line later) ≡ false → has_name n (cond same (record { name = group.name; lines = group.lines ++ line ∷ [] } ∷ later) (group ∷ with_line line later)) ≡ false
new_by n line group later true none more = none
new_by n line group later false none more = rw ((or_none (bytes_eq n group.name) (has_name n later) none).0) more

-- a line with another name brings no such name
new_name : (n : List ℕ) (line : SourceLine) (groups : List Group) → bytes_eq n (name_of line) ≡ false → has_name n groups ≡ false → has_name n (with_line line groups) ≡ false
unfolding with_line
new_name n line [] other none = rw other refl
new_name n line (group ∷ later) other none =
    new_by n line group later (bytes_eq (name_of line) group.name) none (new_name n line later other (or_none (bytes_eq n group.name) (has_name n later) none).1)

apart_by : (line : SourceLine) (group : Group) (later : List Group) (same : Bool) → bytes_eq (name_of line) group.name ≡ same → has_name group.name later ≡ false → IsApart later → IsApart (with_line line later) → IsApart (cond same (record { name = group.name; lines = group.lines ++ line ∷ [] } ∷ later) (group ∷ with_line line later))
apart_by line group later true is first apart more = (first, apart)
apart_by line group later false is first apart more =
    (new_name group.name line later (turned (name_of line) group.name is) first, more)

apart_line : (line : SourceLine) (groups : List Group) → IsApart groups → IsApart (with_line line groups)
unfolding with_line
apart_line line [] apart = (refl, tt)
apart_line line (group ∷ later) (first, apart) =
    apart_by line group later (bytes_eq (name_of line) group.name) refl first apart (apart_line line later apart)

apart_lines : (groups : List Group) (lines : List SourceLine) → IsApart groups → IsApart (with_lines groups lines)
unfolding with_lines
apart_lines groups [] apart = apart
apart_lines groups (line ∷ later) apart = apart_lines (with_line line groups) later (apart_line line groups apart)

all_apart : (group : Group) (groups : List Group) → has_name group.name groups ≡ false → All (λ later. bytes_eq group.name later.name ≡ false) groups
all_apart group [] none k d lt = absurd (omega (arith, lt))
all_apart group (next ∷ later) none zero d lt = (or_none (bytes_eq group.name next.name) (has_name group.name later) none).0
all_apart group (next ∷ later) none (suc k) d lt =
    all_apart group later (or_none (bytes_eq group.name next.name) (has_name group.name later) none).1 k d (omega (arith, lt))

pairs_apart : (groups : List Group) → IsApart groups → AllPairs (λ one later. bytes_eq one.name later.name ≡ false) groups
pairs_apart [] apart i j d lt within = absurd (omega (arith, within))
pairs_apart (group ∷ later) (first, apart) i j d lt within =
    AllPairs-cons (λ one next. bytes_eq one.name next.name ≡ false) group later (all_apart group later first) (pairs_apart later apart) i j d lt within

pub names_differ : (lines : List SourceLine) → AllPairs (λ one later. bytes_eq one.name later.name ≡ false) (groups_of lines)
names_differ lines = pairs_apart (groups_of lines) (apart_lines [] lines tt)

-- ---- the lines of a name
abbrev under : List ℕ → List Group → List SourceLine
under n [] = []
under n (group ∷ later) = cond (bytes_eq group.name n) group.lines (under n later)

-- a line, where it has the name
abbrev own : List ℕ → SourceLine → List SourceLine
own n line = cond (bytes_eq (name_of line) n) (line ∷ []) []

same_test : (a b n : List ℕ) → bytes_eq a b ≡ true → bytes_eq b n ≡ bytes_eq a n
same_test a b n is = ap (λ m. bytes_eq m n) (sym ((bytes_eq-Decides a b).0 is))

put_by : (n : List ℕ) (line : SourceLine) (group : Group) (later : List Group) (same here : Bool) → bytes_eq (name_of line) group.name ≡ same → bytes_eq group.name n ≡ here → under n (with_line line later) ≡ under n later ++ own n line → under n (cond same (record { name = group.name; lines = group.lines ++ line ∷ [] } ∷ later) (group ∷ with_line line later)) ≡ under n (group ∷ later) ++ own n line
put_by n line group later true true is at more =
    rw (at, sym (same_test (name_of line) group.name n is) ∙ at) refl
put_by n line group later true false is at more =
    rw (at, sym (same_test (name_of line) group.name n is) ∙ at) (sym (append-nil (under n later)))
put_by n line group later false true is at more = rw (at, other (bytes_eq (name_of line) n) refl) (sym (append-nil group.lines))
  where
    other : (b : Bool) → bytes_eq (name_of line) n ≡ b → bytes_eq (name_of line) n ≡ false
    other false e = e
    other true e =
        let one : name_of line ≡ n = (bytes_eq-Decides (name_of line) n).0 e in
        let two : group.name ≡ n = (bytes_eq-Decides group.name n).0 at in
        absurd (true≢false (sym ((bytes_eq-Decides (name_of line) group.name).1 (one ∙ sym two)) ∙ is))
put_by n line group later false false is at more = rw at more

put_line : (n : List ℕ) (line : SourceLine) (groups : List Group) → under n (with_line line groups) ≡ under n groups ++ own n line
unfolding with_line
put_line n line [] = new (bytes_eq (name_of line) n) refl
  where
    new : (b : Bool) → bytes_eq (name_of line) n ≡ b → under n (record { name = name_of line; lines = line ∷ [] } ∷ []) ≡ under n [] ++ own n line
    new true e = rw e refl
    new false e = rw e refl
put_line n line (group ∷ later) =
    put_by n line group later (bytes_eq (name_of line) group.name) (bytes_eq group.name n) refl refl (put_line n line later)

own_first : (n : List ℕ) (line : SourceLine) (later : List SourceLine) → own n line ++ filter (λ l. bytes_eq (name_of l) n) later ≡ filter (λ l. bytes_eq (name_of l) n) (line ∷ later)
own_first n line later = by (bytes_eq (name_of line) n)
  where
    by : (b : Bool) → cond b (line ∷ []) [] ++ filter (λ l. bytes_eq (name_of l) n) later ≡ cond b (line ∷ filter (λ l. bytes_eq (name_of l) n) later) (filter (λ l. bytes_eq (name_of l) n) later)
    by true = refl
    by false = refl

put_lines : (n : List ℕ) (groups : List Group) (lines : List SourceLine) → under n (with_lines groups lines) ≡ under n groups ++ filter (λ l. bytes_eq (name_of l) n) lines
unfolding with_lines
put_lines n groups [] = sym (append-nil (under n groups))
put_lines n groups (line ∷ later) =
    put_lines n (with_line line groups) later
    ∙ ap (λ front. front ++ filter (λ l. bytes_eq (name_of l) n) later) (put_line n line groups)
    ∙ append_assoc (under n groups) (own n line) (filter (λ l. bytes_eq (name_of l) n) later)
    ∙ ap (λ rest. under n groups ++ rest) (own_first n line later)

-- each table has the lines of its name
own_lines : (groups : List Group) → IsApart groups → All (λ group. group.lines ≡ under group.name groups) groups
own_lines [] apart k d lt = absurd (omega (arith, lt))
own_lines (group ∷ later) apart zero d lt = rw (same_name group.name) refl
own_lines (group ∷ later) (first, apart) (suc k) d lt =
    let below : k < length later = omega (arith, lt) in
    rw (all_apart group later first k d below) (own_lines later apart k d below)

pub lines_of_names : (lines : List SourceLine) → All (λ group. group.lines ≡ filter (λ line. bytes_eq (name_of line) group.name) lines) (groups_of lines)
lines_of_names lines k d lt =
    let group = get_or (groups_of lines) k d in
    own_lines (groups_of lines) (apart_lines [] lines tt) k d lt ∙ put_lines group.name [] lines

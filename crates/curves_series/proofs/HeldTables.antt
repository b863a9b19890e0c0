-- What is held of the tables of a section, table by table.
use Rattle.std.proofs.Common.{◌≡◌, ℕ, zero, suc, ◌+◌, ◌<◌, ◌≤◌, Option, None, Ok, Err, List, [], ◌∷◌, ◌++◌, length, get_or, drop, refl, sym, ap, subst, ◌∙◌, arith, append_assoc}
use Rattle.std.specs.Prelude.{All, IfSome, IfOk, cond, if◌then◌else◌, Bool, true, false, not, ◌&&◌}
use Rattle.std.specs.Str.{bytes_eq}
use Rattle.std.proofs.lemmas.List.{append-nil, drop_all, drop_more, length-append}
use Rattle.std.proofs.lemmas.List.Elements.{All-append, All-nil}
use Rattle.inp_text.specs.declared.source_line.SourceLine.{SourceLine}
use Rattle.rule_types.specs.declared.refusal.Refusal.{Refusal}
use Rattle.rule_types.specs.Refusals.{earlier}
use Rattle.rule_types.proofs.PublicLaws.{refusals-alone, refusals-in_any_order}
use Rattle.curves_series.specs.Groups.{Group, name_of, with_line, with_lines, groups_of}
use Rattle.rule_types.specs.Tables.{CurveTable, SeriesTable}
use Rattle.curves_series.specs.Curves.{curve_of}
use Rattle.curves_series.specs.Names.{curve_word, series_word, is_used}
use Rattle.curves_series.specs.Reading.{TableRead, held_of, refusal_of, held_from, refusal_from, some_read, curve_read, series_read}
use Rattle.curves_series.specs.Series.{series_of, is_file_series}
use Rattle.curves_series.specs.declared.groups.Groups.{Groups}
use Rattle.std.specs.Prelude.{Result, OnOk}
use Rattle.curves_series.specs.internal.Views.{groups_now, group_at, IsEven, HaveLines, Adds}
use Rattle.curves_series.proofs.GroupPuts.{names_in}

pub alone : (a : Option Refusal) → earlier a None ≡ a
alone a = refusals-alone a

-- ---- table by table
-- one more table is held, and one more refusal is compared
held_step : {A : Type 0} (read : ℕ → Group → TableRead A) (at : ℕ) (group : Group) (later : List Group) (found : TableRead A) (old new whole : List (Option A)) → found ≡ read at group → new ≡ old ++ held_of found ∷ [] → old ++ held_from read at (group ∷ later) ≡ whole → new ++ held_from read (suc at) later ≡ whole
unfolding held_from
held_step read at group later found old new whole is pushed all =
    ap (λ front. front ++ held_from read (suc at) later) pushed
    ∙ append_assoc old (held_of found ∷ []) (held_from read (suc at) later)
    ∙ ap (λ r. old ++ held_of r ∷ held_from read (suc at) later) is
    ∙ all

refusal_step : {A : Type 0} (read : ℕ → Group → TableRead A) (at : ℕ) (group : Group) (later : List Group) (found : TableRead A) (old new whole : Option Refusal) → found ≡ read at group → new ≡ earlier old (refusal_of found) → earlier old (refusal_from read at (group ∷ later)) ≡ whole → earlier new (refusal_from read (suc at) later) ≡ whole
unfolding refusal_from
refusal_step read at group later found old new whole is lower all =
    ap (λ front. earlier front (refusal_from read (suc at) later)) lower
    ∙ sym (refusals-in_any_order old (refusal_of found) (refusal_from read (suc at) later))
    ∙ ap (λ r. earlier old (earlier (refusal_of r) (refusal_from read (suc at) later))) is
    ∙ all

-- what is held and refused so far gives, with the tables from a place on, what all give
pub record IsReadTo {A : Type 0} (read : ℕ → Group → TableRead A) (P : A → Type 0) (groups : List Group) (at : ℕ) (held : List (Option A)) (refusal : Option Refusal) : Type 0 where
  pub held_all : held ++ held_from read at (drop at groups) ≡ held_from read 0 groups
  pub refusal_all : earlier refusal (refusal_from read at (drop at groups)) ≡ refusal_from read 0 groups
  pub points : All (λ table. IfSome table P) held

pub read_none : {A : Type 0} (read : ℕ → Group → TableRead A) (P : A → Type 0) (groups : List Group) (held : List (Option A)) (refusal : Option Refusal) → held ≡ [] → refusal ≡ None → IsReadTo read P groups 0 held refusal
unfolding refusal_from earlier
read_none read P groups held refusal one two = record {
  held_all = ap (λ front. front ++ held_from read 0 groups) one;
  refusal_all = ap (λ front. earlier front (refusal_from read 0 groups)) two;
  points = subst (λ front. All (λ table. IfSome table P) front) (sym one) (All-nil (λ table. IfSome table P));
}

held_point : {A : Type 0} (P : A → Type 0) (found : TableRead A) → IfOk found (λ table. IfSome table P) → IfSome (held_of found) P
held_point P (Ok table) h = h
held_point P (Err refusal) h = tt

one_held : {A : Type 0} (P : A → Type 0) (table : Option A) → IfSome table P → All (λ t. IfSome t P) (table ∷ [])
one_held P table h zero d lt = h
one_held P table h (suc k) d lt = absurd (omega (arith, lt))

pub read_more : {A : Type 0} (read : ℕ → Group → TableRead A) (P : A → Type 0) (groups : List Group) (at : ℕ) (d : Group) (old new : List (Option A)) (before after : Option Refusal) (found : TableRead A) → at < length groups → found ≡ read at (get_or groups at d) → IfOk found (λ table. IfSome table P) → new ≡ old ++ held_of found ∷ [] → after ≡ earlier before (refusal_of found) → IsReadTo read P groups at old before → IsReadTo read P groups (at + 1) new after
read_more read P groups at d old new before after found lt is points pushed lower so_far =
    let here : drop at groups ≡ get_or groups at d ∷ drop (at + 1) groups = drop_more groups at d lt in
    let next : suc at ≡ at + 1 = omega arith in
    let held = held_step read at (get_or groups at d) (drop (at + 1) groups) found old new _ is pushed (sym (ap (λ gs. old ++ held_from read at gs) here) ∙ so_far.held_all) in
    let refused = refusal_step read at (get_or groups at d) (drop (at + 1) groups) found before after _ is lower (sym (ap (λ gs. earlier before (refusal_from read at gs)) here) ∙ so_far.refusal_all) in
    record {
      held_all = subst (λ n. new ++ held_from read n (drop (at + 1) groups) ≡ held_from read 0 groups) next held;
      refusal_all = subst (λ n. earlier after (refusal_from read n (drop (at + 1) groups)) ≡ refusal_from read 0 groups) next refused;
      points = subst (λ tables. All (λ table. IfSome table P) tables) (sym pushed) (All-append (λ table. IfSome table P) old (held_of found ∷ []) so_far.points (one_held P (held_of found) (held_point P found points)));
    }

pub held_end : {A : Type 0} (read : ℕ → Group → TableRead A) (P : A → Type 0) (groups : List Group) (at : ℕ) (held : List (Option A)) (refusal : Option Refusal) → length groups ≤ at → IsReadTo read P groups at held refusal → held ≡ held_from read 0 groups
unfolding held_from
held_end read P groups at held refusal most so_far =
    sym (append-nil held) ∙ sym (ap (λ gs. held ++ held_from read at gs) (drop_all at groups most)) ∙ so_far.held_all

pub refusal_end : {A : Type 0} (read : ℕ → Group → TableRead A) (P : A → Type 0) (groups : List Group) (at : ℕ) (held : List (Option A)) (refusal : Option Refusal) → length groups ≤ at → IsReadTo read P groups at held refusal → refusal ≡ refusal_from read 0 groups
unfolding refusal_from
refusal_end read P groups at held refusal most so_far =
    sym (refusals-alone refusal) ∙ sym (ap (λ gs. earlier refusal (refusal_from read at gs)) (drop_all at groups most)) ∙ so_far.refusal_all

-- what is read of one more table is added where there is memory
pub adds : {A T E : Type 0} (result : Result T E) (P : A → Type 0) (old new : List (Option A)) (before after : Option Refusal) (found due : TableRead A) → found ≡ due → IfOk found (λ table. IfSome table P) → OnOk result (new ≡ old ++ held_of found ∷ []) → OnOk result (after ≡ earlier before (refusal_of found)) → OnOk result (Adds old before new after due P)
adds (Ok done) P old new before after found due is points held lower =
    subst (λ read. Adds old before new after read P) is (record { held = held; refusal = lower; points = points })
adds (Err fault) P old new before after found due is points held lower = tt

-- what is read of the table at a place is what the definition says
pub curve_found : (g : Groups) (controls : List SourceLine) (at : ℕ) (mark : Bool) (found : TableRead CurveTable) → IsEven g → mark ≡ is_used curve_word controls g.names at → found ≡ (if mark then some_read (curve_of (group_at g at)) else Ok None) → found ≡ curve_read controls (groups_now g) at (group_at g at)
curve_found g controls at mark found even used is =
    let names = names_in g (groups_now g) even refl in
    is ∙ ap (λ b. if b then some_read (curve_of (group_at g at)) else Ok None) (used ∙ ap (λ ns. is_used curve_word controls ns at) (sym names))

pub series_found : (g : Groups) (controls : List SourceLine) (at : ℕ) (mark : Bool) (found : TableRead SeriesTable) → IsEven g → mark ≡ is_used series_word controls g.names at → found ≡ (if mark && not (is_file_series (group_at g at)) then some_read (series_of (group_at g at)) else Ok None) → found ≡ series_read controls (groups_now g) at (group_at g at)
series_found g controls at mark found even used is =
    let names = names_in g (groups_now g) even refl in
    is ∙ ap (λ b. if b && not (is_file_series (group_at g at)) then some_read (series_of (group_at g at)) else Ok None) (used ∙ ap (λ ns. is_used series_word controls ns at) (sym names))

-- ---- each table has a line
data IsFull : List Group → Type 0 where
  Empty : IsFull []
  Front : (group : Group) (later : List Group) → 0 < length group.lines → IsFull later → IsFull (group ∷ later)

full_by : (line : SourceLine) (group : Group) (later : List Group) (same : Bool) → 0 < length group.lines → IsFull later → IsFull (with_line line later) → IsFull (cond same (record { name = group.name; lines = group.lines ++ line ∷ [] } ∷ later) (group ∷ with_line line later))
full_by line group later true some full more =
    Front _ later (omega (arith, length-append group.lines (line ∷ []))) full
full_by line group later false some full more = Front group _ some more

full_line : (line : SourceLine) (groups : List Group) → IsFull groups → IsFull (with_line line groups)
unfolding with_line
full_line line [] Empty = Front _ [] (omega arith) Empty
full_line line (group ∷ later) (Front g l some full) =
    full_by line group later (bytes_eq (name_of line) group.name) some full (full_line line later full)

full_lines : (groups : List Group) (lines : List SourceLine) → IsFull groups → IsFull (with_lines groups lines)
unfolding with_lines
full_lines groups [] full = full
full_lines groups (line ∷ later) full = full_lines (with_line line groups) later (full_line line groups full)

all_full : (groups : List Group) → IsFull groups → HaveLines groups
all_full [] Empty k d lt = absurd (omega (arith, lt))
all_full (group ∷ later) (Front g l some full) zero d lt = some
all_full (group ∷ later) (Front g l some full) (suc k) d lt = all_full later full k d (omega (arith, lt))

pub lines_some : (lines : List SourceLine) → HaveLines (groups_of lines)
lines_some lines = all_full (groups_of lines) (full_lines [] lines Empty)

-- What drafts of columns keep.
use Rattle.std.proofs.Common.{◌≡◌, ℕ, zero, suc, ◌+◌, ◌<◌, ◌≤◌, Bool, true, false, cond, Option, Some, None, is_some, List, [], ◌∷◌, ◌++◌, map, Contains, length, get_or, set, take, refl, sym, ap, subst, ◌∙◌, arith, option_map, slice_get, IsTrue, All}
use Rattle.std.proofs.lemmas.Bool.{false≢true}
use Rattle.std.proofs.lemmas.List.{get_or-map, map-append, length-map, set-get_or, take_all, take_more}
use Rattle.std.proofs.lemmas.List.Elements.{All-contains, All-more, All-weaker, All-nil, All-cons, All-head, All-tail, All-push, All-set, All-get_or, Contains-append_left, Contains-push, Contains-get_or}
use Rattle.std.proofs.lemmas.Option.{none-some, same_Some, slice_get-get_or, slice_get_within, get_or_from_slice_get}
use Rattle.exact_fraction.specs.Number.{Rational}
use Rattle.interval_sets.specs.declared.interval.Bound.{Bound}
use Rattle.interval_sets.specs.declared.interval.Bound.TheVariants as end
use Rattle.rule_types.specs.declared.condition.Side.{Side}
use Rattle.table_compiler.specs.Parts.{same_column}
use Rattle.table_plan.specs.declared.column_drafts.ColumnDraft.{ColumnDraft}
use Rattle.table_plan.specs.declared.column_ends.ColumnEnd.{ColumnEnd}
use Rattle.table_plan.specs.declared.plan_column.PlanColumn.{PlanColumn}
use Rattle.table_plan.specs.Columns.{IsEndOn}
use Rattle.table_plan.specs.Pieces.{IsCut}
use Rattle.table_plan.specs.internal.Collected.{IsDraftOf, place_in, draft_sides, ends_on, IsAmong, IsKept, with_end, column_sides, cuts_on, IsPlanned, AreMadeOf}
use Rattle.table_plan.specs.Pieces.{IsCutEnd}
use Rattle.table_plan.proofs.PlaceLists.{place_kept, place_splits, place_within, same_side}

ends_cons : (first : ColumnDraft) (more : List ColumnDraft) (column : Side) (b : Bool) → same_column first.side column ≡ b → ends_on (first ∷ more) column ≡ cond b first.ends (ends_on more column)
unfolding ends_on
ends_cons first more column b is = ap (λ t. cond t first.ends (ends_on more column)) is

-- ---- one draft more
some_behind : (o : Option ℕ) → is_some (option_map suc o) ≡ true → is_some o ≡ true
some_behind None e = e
some_behind (Some i) e = refl

some_place : (first column : Side) (more : List Side) → same_column first column ≡ false → IsTrue (is_some (place_in (first ∷ more) column)) → IsTrue (is_some (place_in more column))
unfolding place_in
some_place first column more is h = some_behind (place_in more column) (ap (λ t. is_some (cond t (Some 0) (option_map suc (place_in more column)))) (sym is) ∙ h)

ends_by : (first : ColumnDraft) (rest more : List ColumnDraft) (column : Side) (b : Bool) → same_column first.side column ≡ b → IsTrue (is_some (place_in (first.side ∷ draft_sides rest) column))
    → (IsTrue (is_some (place_in (draft_sides rest) column)) → ends_on (rest ++ more) column ≡ ends_on rest column) → ends_on (first ∷ (rest ++ more)) column ≡ ends_on (first ∷ rest) column
ends_by first rest more column true is h later = ends_cons first (rest ++ more) column true is ∙ sym (ends_cons first rest column true is)
ends_by first rest more column false is h later =
    ends_cons first (rest ++ more) column false is
    ∙ later (some_place first.side column (draft_sides rest) is h)
    ∙ sym (ends_cons first rest column false is)

ends_kept : (drafts more : List ColumnDraft) (column : Side) → IsTrue (is_some (place_in (draft_sides drafts) column)) → ends_on (drafts ++ more) column ≡ ends_on drafts column
unfolding ends_on place_in
ends_kept [] more column h = absurd (false≢true h)
ends_kept (first ∷ rest) more column h =
    ends_by first rest more column (same_column first.side column) refl h (λ g. ends_kept rest more column g)

pub kept_pushed : (drafts : List ColumnDraft) (draft : ColumnDraft) (e : ColumnEnd) → IsKept drafts e → IsKept (drafts ++ draft ∷ []) e
kept_pushed drafts draft e kept = record {
  placed =
      ap (λ sides. is_some (place_in sides e.side)) (map-append (λ (d : ColumnDraft). d.side) drafts (draft ∷ []))
      ∙ ap is_some (place_kept (draft_sides drafts) (draft.side ∷ []) e.side kept.placed)
      ∙ kept.placed;
  among =
      let P : List Rational → Type 0 = λ ends. IsAmong ends e.bound in
      subst P (sym (ends_kept drafts (draft ∷ []) e.side kept.placed)) kept.among;
}

-- ---- one end more
with_end_side : (draft : ColumnDraft) (bound : Bound) → (with_end draft bound).side ≡ draft.side
with_end_side draft end.NoBound = refl
with_end_side draft (end.Bound p m) = refl

pub sides_with_end : (drafts : List ColumnDraft) (at : ℕ) (draft : ColumnDraft) (bound : Bound) → slice_get drafts at ≡ Some draft → draft_sides (set drafts at (with_end draft bound)) ≡ draft_sides drafts
sides_with_end [] at draft bound is = refl
sides_with_end (first ∷ more) zero draft bound is =
    let it : first ≡ draft = same_Some first draft is in
    ap (λ s. s ∷ draft_sides more) (with_end_side draft bound ∙ ap (λ (d : ColumnDraft). d.side) (sym it))
sides_with_end (first ∷ more) (suc at) draft bound is = ap (λ ss. first.side ∷ ss) (sides_with_end more at draft bound is)

-- an end that is among others stays where one more is added
among_more : (draft : ColumnDraft) (bound other : Bound) → IsAmong draft.ends other → IsAmong (with_end draft bound).ends other
among_more draft end.NoBound other h = h
among_more draft (end.Bound p m) end.NoBound h = tt
among_more draft (end.Bound p m) (end.Bound q n) h = Contains-append_left draft.ends (p ∷ []) q h

among_last : (draft : ColumnDraft) (bound : Bound) → IsAmong (with_end draft bound).ends bound
among_last draft end.NoBound = tt
among_last draft (end.Bound p m) = Contains-push draft.ends p

first_set : (first draft : ColumnDraft) (more : List ColumnDraft) (bound : Bound) (column : Side) (other : Bound) (b : Bool) → first ≡ draft → same_column first.side column ≡ b
    → IsAmong (ends_on (first ∷ more) column) other → IsAmong (ends_on (with_end draft bound ∷ more) column) other
first_set first draft more bound column other true it is h =
    let P : List Rational → Type 0 = λ ends. IsAmong ends other in
    let Q : ColumnDraft → Type 0 = λ d. IsAmong d.ends other in
    let side_is : (with_end draft bound).side ≡ first.side = with_end_side draft bound ∙ ap (λ (d : ColumnDraft). d.side) (sym it) in
    subst P (sym (ends_cons (with_end draft bound) more column true (ap (λ s. same_column s column) side_is ∙ is)))
    (among_more draft bound other (subst Q it (subst P (ends_cons first more column true is) h)))
first_set first draft more bound column other false it is h =
    let P : List Rational → Type 0 = λ ends. IsAmong ends other in
    let side_is : (with_end draft bound).side ≡ first.side = with_end_side draft bound ∙ ap (λ (d : ColumnDraft). d.side) (sym it) in
    subst P (sym (ends_cons (with_end draft bound) more column false (ap (λ s. same_column s column) side_is ∙ is)))
    (subst P (ends_cons first more column false is) h)

later_set : (first : ColumnDraft) (old new : List ColumnDraft) (column : Side) (other : Bound) (b : Bool) → same_column first.side column ≡ b
    → (IsAmong (ends_on old column) other → IsAmong (ends_on new column) other) → IsAmong (ends_on (first ∷ old) column) other → IsAmong (ends_on (first ∷ new) column) other
later_set first old new column other true is later h =
    let P : List Rational → Type 0 = λ ends. IsAmong ends other in
    subst P (sym (ends_cons first new column true is)) (subst P (ends_cons first old column true is) h)
later_set first old new column other false is later h =
    let P : List Rational → Type 0 = λ ends. IsAmong ends other in
    subst P (sym (ends_cons first new column false is)) (later (subst P (ends_cons first old column false is) h))

among_set : (drafts : List ColumnDraft) (at : ℕ) (draft : ColumnDraft) (bound : Bound) → slice_get drafts at ≡ Some draft → (column : Side) (other : Bound)
    → IsAmong (ends_on drafts column) other → IsAmong (ends_on (set drafts at (with_end draft bound)) column) other
among_set [] at draft bound is column other h = h
among_set (first ∷ more) zero draft bound is column other h =
    first_set first draft more bound column other (same_column first.side column) (same_Some first draft is) refl h
among_set (first ∷ more) (suc at) draft bound is column other h =
    later_set first more (set more at (with_end draft bound)) column other (same_column first.side column) refl (λ g. among_set more at draft bound is column other g) h

-- the draft at the place of a column has the column's ends
draft_by : (first : ColumnDraft) (more : List ColumnDraft) (column : Side) (draft other : ColumnDraft) (n : ℕ) (b : Bool) → same_column first.side column ≡ b
    → place_in (first.side ∷ draft_sides more) column ≡ Some n → slice_get (first ∷ more) n ≡ Some draft → other.side ≡ draft.side
    → ((j : ℕ) → place_in (draft_sides more) column ≡ Some j → slice_get more j ≡ Some draft → ends_on (set more j other) column ≡ other.ends)
    → ends_on (set (first ∷ more) n other) column ≡ other.ends
draft_by first more column draft other zero true is place here side_is later =
    let it : first ≡ draft = same_Some first draft here in
    ends_cons other more column true (ap (λ s. same_column s column) (side_is ∙ ap (λ (d : ColumnDraft). d.side) (sym it)) ∙ is)
draft_by first more column draft other (suc n) true is place here side_is later =
    absurd (let none : suc n ≡ 0 = place_splits first.side column (draft_sides more) (suc n) place true is in omega arith)
draft_by first more column draft other zero false is place here side_is later =
    let next = place_splits first.side column (draft_sides more) 0 place false is in
    absurd (let none : 0 ≡ suc next.0 = next.2 in omega arith)
draft_by first more column draft other (suc n) false is place here side_is later =
    let next = place_splits first.side column (draft_sides more) (suc n) place false is in
    let one : next.0 ≡ n = (let step : suc n ≡ suc next.0 = next.2 in omega arith) in
    ends_cons first (set more n other) column false is ∙ later n (next.1 ∙ ap Some one) here

draft_at : (drafts : List ColumnDraft) (at : ℕ) (column : Side) → place_in (draft_sides drafts) column ≡ Some at → (draft : ColumnDraft) → slice_get drafts at ≡ Some draft
    → (other : ColumnDraft) → other.side ≡ draft.side → ends_on (set drafts at other) column ≡ other.ends
unfolding place_in
draft_at [] at column place draft is other side_is = absurd (none-some at place)
draft_at (first ∷ more) at column place draft is other side_is =
    draft_by first more column draft other at (same_column first.side column) refl place is side_is
    (λ j h g. draft_at more j column h draft g other side_is)

pub kept_with_end : (drafts : List ColumnDraft) (at : ℕ) (draft : ColumnDraft) (e : ColumnEnd) → place_in (draft_sides drafts) e.side ≡ Some at → slice_get drafts at ≡ Some draft
    → IsKept (set drafts at (with_end draft e.bound)) e
kept_with_end drafts at draft e place is = record {
  placed = ap (λ sides. is_some (place_in sides e.side)) (sides_with_end drafts at draft e.bound is) ∙ ap is_some place;
  among =
      let P : List Rational → Type 0 = λ ends. IsAmong ends e.bound in
      subst P (sym (draft_at drafts at e.side place draft is (with_end draft e.bound) (with_end_side draft e.bound))) (among_last draft e.bound);
}

pub kept_others : (drafts : List ColumnDraft) (at : ℕ) (draft : ColumnDraft) (bound : Bound) → slice_get drafts at ≡ Some draft → (e : ColumnEnd) → IsKept drafts e
    → IsKept (set drafts at (with_end draft bound)) e
kept_others drafts at draft bound is e kept = record {
  placed = ap (λ sides. is_some (place_in sides e.side)) (sides_with_end drafts at draft bound is) ∙ kept.placed;
  among = among_set drafts at draft bound is e.side e.bound kept.among;
}

pub draft_there : (drafts : List ColumnDraft) (at : ℕ) (column : Side) (d : ColumnDraft) → place_in (draft_sides drafts) column ≡ Some at → (at < length drafts) × (slice_get drafts at ≡ Some (get_or drafts at d))
draft_there drafts at column d place =
    let same : length (draft_sides drafts) ≡ length drafts = length-map drafts (λ (e : ColumnDraft). e.side) in
    let inside : at < length (draft_sides drafts) = place_within (draft_sides drafts) column at place in
    let within : at < length drafts = omega arith in
    (within, slice_get-get_or drafts at d within)

-- ---- columns that are made of drafts
pub made_push : (drafts : List ColumnDraft) (columns : List PlanColumn) (draft : ColumnDraft) (column : PlanColumn) → AreMadeOf drafts columns → column.side ≡ draft.side → All (IsCut column.cuts) draft.ends → All (Contains draft.ends) column.cuts
    → AreMadeOf (drafts ++ draft ∷ []) (columns ++ column ∷ [])
made_push [] [] draft column made side_is cuts from = (side_is, cuts, from, tt)
made_push [] (c ∷ cs) draft column made side_is cuts from = absurd made
made_push (d ∷ ds) [] draft column made side_is cuts from = absurd made
made_push (d ∷ ds) (c ∷ cs) draft column made side_is cuts from = (made.0, made.1, made.2, made_push ds cs draft column made.3 side_is cuts from)

made_sides : (drafts : List ColumnDraft) (columns : List PlanColumn) → AreMadeOf drafts columns → column_sides columns ≡ draft_sides drafts
made_sides [] [] made = refl
made_sides [] (c ∷ cs) made = absurd made
made_sides (d ∷ ds) [] made = absurd made
made_sides (d ∷ ds) (c ∷ cs) made =
    let first : c.side ≡ d.side = made.0 in
    let later : column_sides cs ≡ draft_sides ds = made_sides ds cs made.3 in
    cc

cuts_cons : (first : PlanColumn) (more : List PlanColumn) (column : Side) (b : Bool) → same_column first.side column ≡ b → cuts_on (first ∷ more) column ≡ cond b first.cuts (cuts_on more column)
unfolding cuts_on
cuts_cons first more column b is = ap (λ t. cond t first.cuts (cuts_on more column)) is

cut_among : (cuts ends : List Rational) (bound : Bound) → All (IsCut cuts) ends → IsAmong ends bound → IsCutEnd cuts bound
cut_among cuts ends end.NoBound all h = tt
cut_among cuts ends (end.Bound p m) all h = All-contains (IsCut cuts) ends p all h

none_among : (bound : Bound) → IsAmong [] bound → IsCutEnd [] bound
none_among end.NoBound h = tt
none_among (end.Bound p m) h = absurd (let low = h.1 in omega arith)

cuts_by : (d : ColumnDraft) (ds : List ColumnDraft) (c : PlanColumn) (cs : List PlanColumn) (column : Side) (bound : Bound) (b : Bool) → same_column d.side column ≡ b
    → c.side ≡ d.side → All (IsCut c.cuts) d.ends → (IsAmong (ends_on ds column) bound → IsCutEnd (cuts_on cs column) bound)
    → IsAmong (ends_on (d ∷ ds) column) bound → IsCutEnd (cuts_on (c ∷ cs) column) bound
cuts_by d ds c cs column bound true is side_is cuts later h =
    let P : List Rational → Type 0 = λ ends. IsAmong ends bound in
    let Q : List Rational → Type 0 = λ all. IsCutEnd all bound in
    subst Q (sym (cuts_cons c cs column true (ap (λ s. same_column s column) side_is ∙ is)))
    (cut_among c.cuts d.ends bound cuts (subst P (ends_cons d ds column true is) h))
cuts_by d ds c cs column bound false is side_is cuts later h =
    let P : List Rational → Type 0 = λ ends. IsAmong ends bound in
    let Q : List Rational → Type 0 = λ all. IsCutEnd all bound in
    subst Q (sym (cuts_cons c cs column false (ap (λ s. same_column s column) side_is ∙ is)))
    (later (subst P (ends_cons d ds column false is) h))

made_cuts : (drafts : List ColumnDraft) (columns : List PlanColumn) (column : Side) (bound : Bound) → AreMadeOf drafts columns → IsAmong (ends_on drafts column) bound → IsCutEnd (cuts_on columns column) bound
unfolding ends_on cuts_on
made_cuts [] [] column bound made h = none_among bound h
made_cuts [] (c ∷ cs) column bound made h = absurd made
made_cuts (d ∷ ds) [] column bound made h = absurd made
made_cuts (d ∷ ds) (c ∷ cs) column bound made h =
    cuts_by d ds c cs column bound (same_column d.side column) refl made.0 made.1 (λ g. made_cuts ds cs column bound made.3 g) h

pub made_planned : (drafts : List ColumnDraft) (columns : List PlanColumn) → AreMadeOf drafts columns → (e : ColumnEnd) → IsKept drafts e → IsPlanned columns e
made_planned drafts columns made e kept = record {
  placed = ap (λ sides. is_some (place_in sides e.side)) (made_sides drafts columns made) ∙ kept.placed;
  cut = made_cuts drafts columns e.side e.bound made kept.among;
}

pub made_places : (drafts : List ColumnDraft) (columns : List PlanColumn) → AreMadeOf drafts columns → draft_sides drafts ≡ column_sides columns
made_places drafts columns made = sym (made_sides drafts columns made)

-- an end that is no number adds nothing
pub no_end : (drafts : List ColumnDraft) (at : ℕ) (draft : ColumnDraft) (bound : Bound) → slice_get drafts at ≡ Some draft → ((p : Rational) (m : Bool) → bound ≡ end.Bound p m → ⊥) → drafts ≡ set drafts at (with_end draft bound)
no_end drafts at draft end.NoBound is not =
    sym (ap (set drafts at) (sym (get_or_from_slice_get drafts at draft draft is)) ∙ set-get_or drafts at draft)
no_end drafts at draft (end.Bound p m) is not = absurd (not p m refl)

-- ---- one end more, and one draft more
pub blank_draft : Side → ColumnDraft
blank_draft column = record { side = column; ends = [] }

pub sides_pushed : (drafts new : List ColumnDraft) (draft : ColumnDraft) → new ≡ drafts ++ draft ∷ [] → draft_sides new ≡ draft_sides drafts ++ draft.side ∷ []
sides_pushed drafts new draft is = ap draft_sides is ∙ map-append (λ (d : ColumnDraft). d.side) drafts (draft ∷ [])

pub kept_more : (ends : List ColumnEnd) (i : ℕ) (e : ColumnEnd) (old new : List ColumnDraft) → i < length ends → e ≡ get_or ends i e → All (IsKept old) (take i ends) → ((other : ColumnEnd) → IsKept old other → IsKept new other) → IsKept new e
    → All (IsKept new) (take (i + 1) ends)
kept_more ends i e old new within is so_far others here =
    All-more (IsKept new) ends i e within (All-weaker (IsKept old) (IsKept new) others (take i ends) so_far) (subst (IsKept new) is here)

pub counted_sides : (drafts : List ColumnDraft) (n : ℕ) → n ≡ length drafts → n ≡ length (draft_sides drafts)
counted_sides drafts n is = is ∙ sym (length-map drafts (λ (d : ColumnDraft). d.side))

pub made_more : (drafts : List ColumnDraft) (i : ℕ) (draft : ColumnDraft) (columns new : List PlanColumn) (column : PlanColumn) → i < length drafts → draft ≡ get_or drafts i draft → new ≡ columns ++ column ∷ []
    → AreMadeOf (take i drafts) columns → column.side ≡ draft.side → All (IsCut column.cuts) draft.ends → All (Contains draft.ends) column.cuts → AreMadeOf (take (i + 1) drafts) new
made_more drafts i draft columns new column within is pushed made side_is cuts from =
    let P : List PlanColumn → Type 0 = λ all. AreMadeOf (take (i + 1) drafts) all in
    let Q : List ColumnDraft → Type 0 = λ all. AreMadeOf all (columns ++ column ∷ []) in
    subst P (sym pushed)
    (subst Q (ap (λ d. take i drafts ++ d ∷ []) is ∙ sym (take_more drafts i draft within)) (made_push (take i drafts) columns draft column made side_is cuts from))

pub made_taken : (drafts items : List ColumnDraft) (i : ℕ) (columns : List PlanColumn) → items ≡ drafts → length items ≤ i → AreMadeOf (take i items) columns → AreMadeOf drafts columns
made_taken drafts items i columns same past made =
    let P : List ColumnDraft → Type 0 = λ all. AreMadeOf all columns in
    subst P (take_all i items past ∙ same) made

-- ---- drafts of ends
side_by : (first : ColumnDraft) (more : List ColumnDraft) (column : Side) (draft : ColumnDraft) (n : ℕ) (b : Bool) → same_column first.side column ≡ b → place_in (first.side ∷ draft_sides more) column ≡ Some n → slice_get (first ∷ more) n ≡ Some draft
    → ((j : ℕ) → place_in (draft_sides more) column ≡ Some j → slice_get more j ≡ Some draft → draft.side ≡ column) → draft.side ≡ column
side_by first more column draft zero true is place here later =
    ap (λ (d : ColumnDraft). d.side) (sym (same_Some first draft here)) ∙ same_side first.side column is
side_by first more column draft (suc n) true is place here later =
    absurd (let none : suc n ≡ 0 = place_splits first.side column (draft_sides more) (suc n) place true is in omega arith)
side_by first more column draft zero false is place here later =
    let next = place_splits first.side column (draft_sides more) 0 place false is in
    absurd (let none : 0 ≡ suc next.0 = next.2 in omega arith)
side_by first more column draft (suc n) false is place here later =
    let next = place_splits first.side column (draft_sides more) (suc n) place false is in
    let one : next.0 ≡ n = (let step : suc n ≡ suc next.0 = next.2 in omega arith) in
    later n (next.1 ∙ ap Some one) here

draft_side : (drafts : List ColumnDraft) (at : ℕ) (column : Side) (draft : ColumnDraft) → place_in (draft_sides drafts) column ≡ Some at → slice_get drafts at ≡ Some draft → draft.side ≡ column
unfolding place_in
draft_side [] at column draft place here = absurd (none-some at place)
draft_side (first ∷ more) at column draft place here =
    side_by first more column draft at (same_column first.side column) refl place here (λ j h g. draft_side more j column draft h g)

draft_grown : (ends : List ColumnEnd) (draft : ColumnDraft) (bound : Bound) → IsDraftOf ends draft → Contains ends (record { side = draft.side; bound = bound }) → IsDraftOf ends (with_end draft bound)
draft_grown ends draft end.NoBound of there = of
draft_grown ends draft (end.Bound p m) of there = record {
  read = of.read;
  from = All-push (IsEndOn ends draft.side) draft.ends p of.from (record { left_out = m; there = there });
}

pub drafts_grown : (ends : List ColumnEnd) (drafts new : List ColumnDraft) (at : ℕ) (draft : ColumnDraft) (e : ColumnEnd) → place_in (draft_sides drafts) e.side ≡ Some at → slice_get drafts at ≡ Some draft → new ≡ set drafts at (with_end draft e.bound)
    → Contains ends e → All (IsDraftOf ends) drafts → All (IsDraftOf ends) new
drafts_grown ends drafts new at draft e place here new_is there all =
    let P : Side → Type 0 = λ s. Contains ends (record { side = s; bound = e.bound }) in
    let within : at < length drafts = slice_get_within drafts at draft here in
    let one : IsDraftOf ends draft = subst (IsDraftOf ends) (get_or_from_slice_get drafts at draft draft here) (All-get_or (IsDraftOf ends) drafts at draft within all) in
    subst (All (IsDraftOf ends)) (sym new_is)
    (All-set (IsDraftOf ends) drafts at (with_end draft e.bound) (draft_grown ends draft e.bound one (subst P (sym (draft_side drafts at e.side draft place here)) there)) all)

pub drafts_pushed : (ends : List ColumnEnd) (drafts new : List ColumnDraft) (draft : ColumnDraft) → new ≡ drafts ++ draft ∷ [] → draft.ends ≡ [] → Contains (map (λ (e : ColumnEnd). e.side) ends) draft.side → All (IsDraftOf ends) drafts → All (IsDraftOf ends) new
drafts_pushed ends drafts new draft new_is none there all =
    let P : List Rational → Type 0 = λ list. All (IsEndOn ends draft.side) list in
    all_grown ends drafts new draft new_is (record { read = there; from = subst P (sym none) (All-nil (IsEndOn ends draft.side)) }) all
  where
    all_grown : (given : List ColumnEnd) (old now : List ColumnDraft) (one : ColumnDraft) → now ≡ old ++ one ∷ [] → IsDraftOf given one → All (IsDraftOf given) old → All (IsDraftOf given) now
    all_grown given old now one is of rest = subst (All (IsDraftOf given)) (sym is) (All-push (IsDraftOf given) old one rest of)

pub side_there : (ends : List ColumnEnd) (e : ColumnEnd) → Contains ends e → Contains (map (λ (x : ColumnEnd). x.side) ends) e.side
side_there ends e there =
    let P : Side → Type 0 = λ s. Contains (map (λ (x : ColumnEnd). x.side) ends) s in
    let within : there.0 < length ends = there.1 in
    let same : length (map (λ (x : ColumnEnd). x.side) ends) ≡ length ends = length-map ends (λ (x : ColumnEnd). x.side) in
    let inside : there.0 < length (map (λ (x : ColumnEnd). x.side) ends) = omega arith in
    subst P (get_or-map (λ (x : ColumnEnd). x.side) ends there.0 e e.side within ∙ ap (λ (x : ColumnEnd). x.side) there.2)
    (Contains-get_or (map (λ (x : ColumnEnd). x.side) ends) there.0 e.side inside)

-- ---- columns of ends
pub made_read : (drafts : List ColumnDraft) (columns : List PlanColumn) (ends : List ColumnEnd) → AreMadeOf drafts columns → All (IsDraftOf ends) drafts → All (λ (c : PlanColumn). Contains (map (λ (e : ColumnEnd). e.side) ends) c.side) columns
made_read [] [] ends made all = All-nil (λ (c : PlanColumn). Contains (map (λ (e : ColumnEnd). e.side) ends) c.side)
made_read [] (c ∷ cs) ends made all = absurd made
made_read (d ∷ ds) [] ends made all = absurd made
made_read (d ∷ ds) (c ∷ cs) ends made all =
    let P : Side → Type 0 = λ s. Contains (map (λ (e : ColumnEnd). e.side) ends) s in
    All-cons (λ (x : PlanColumn). Contains (map (λ (e : ColumnEnd). e.side) ends) x.side) c cs
    (subst P (sym made.0) (All-head (IsDraftOf ends) d ds all).read)
    (made_read ds cs ends made.3 (All-tail (IsDraftOf ends) d ds all))

pub made_from : (drafts : List ColumnDraft) (columns : List PlanColumn) (ends : List ColumnEnd) → AreMadeOf drafts columns → All (IsDraftOf ends) drafts → All (λ (c : PlanColumn). All (IsEndOn ends c.side) c.cuts) columns
made_from [] [] ends made all = All-nil (λ (c : PlanColumn). All (IsEndOn ends c.side) c.cuts)
made_from [] (c ∷ cs) ends made all = absurd made
made_from (d ∷ ds) [] ends made all = absurd made
made_from (d ∷ ds) (c ∷ cs) ends made all =
    let P : Side → Type 0 = λ s. All (IsEndOn ends s) c.cuts in
    All-cons (λ (x : PlanColumn). All (IsEndOn ends x.side) x.cuts) c cs
    (subst P (sym made.0) (All-weaker (Contains d.ends) (IsEndOn ends d.side) (λ p h. All-contains (IsEndOn ends d.side) d.ends p (All-head (IsDraftOf ends) d ds all).from h) c.cuts made.2))
    (made_from ds cs ends made.3 (All-tail (IsDraftOf ends) d ds all))

-- The merge of the edges of two sets: what is still to come, from where the merge stands, completes the whole.
use Rattle.std.proofs.Common.{◌≡◌, ℕ, ◌+◌, ◌<◌, Bool, true, false, None, Some, List, [], ◌∷◌, ◌++◌, length, refl, sym, ap, ap₂, subst, ◌∙◌, append_assoc, arith, cond}
use Rattle.std.proofs.lemmas.List.{append-nil}
use Rattle.std.specs.Prelude.{◌||◌}
use Rattle.std.proofs.lemmas.Bool.{false≢true}
use Rattle.interval_sets.specs.declared.edge.Edge.{Edge}
use Rattle.interval_sets.specs.declared.merge.Step.{Step}
use Rattle.interval_sets.specs.declared.combination.Combination.{Combination}
use Rattle.interval_sets.specs.declared.combination.Combination.TheVariants.{Union, Meet, Difference}
use Rattle.interval_sets.specs.internal.Edges.{stands_before, Leads, Rises, IsHeldEdge, AreHeldEdges, differs, oddly_many, IsDownward, in_combination, with_edge, rest_after, IsCombination}
use Rattle.interval_sets.specs.internal.MergeSteps.{sooner_of, next_step_of}
use Rattle.interval_sets.proofs.Bools.{differs_false, differs_moved, differs_through}
use Rattle.interval_sets.proofs.EdgeOrder.{before_trans, same_edge}

-- where an edge fails the test, so do all that follow it
pub none_after : (test : Edge → Bool) → IsDownward test → (e : Edge) (edges : List Edge) → Leads e edges → Rises edges → test e ≡ false → oddly_many test edges ≡ false
none_after test down e [] leads rises fails = refl
none_after test down e (f ∷ edges) leads rises fails = by_test (test f) refl (none_after test down f edges rises.0 rises.1)
  where
    by_test : (t : Bool) → test f ≡ t → (test f ≡ false → oddly_many test edges ≡ false) → differs t (oddly_many test edges) ≡ false
    by_test true p later = absurd (false≢true (sym fails ∙ down e f leads p))
    by_test false p later = later p

odd_taken_past : (test : Edge → Bool) (t : Bool) (e : Edge) (edges : List Edge) → test e ≡ true → oddly_many test (with_edge t e edges) ≡ differs t (oddly_many test edges)
odd_taken_past test true e edges p = ap (λ x. differs x (oddly_many test edges)) p
odd_taken_past test false e edges p = refl

odd_taken_short : (test : Edge → Bool) (t : Bool) (e : Edge) (edges : List Edge) → test e ≡ false → oddly_many test (with_edge t e edges) ≡ oddly_many test edges
odd_taken_short test true e edges p = ap (λ x. differs x (oddly_many test edges)) p
odd_taken_short test false e edges p = refl

-- the edges `rest` are those of the combination from a place on, where the two sets hold or not there and have the edges
-- `left` and `right` from there on
pub record Comes (how : Combination) (in_left : Bool) (left : List Edge) (in_right : Bool) (right rest : List Edge) : Type 0 where
  pub changes : (test : Edge → Bool) → IsDownward test → differs (in_combination how in_left in_right) (oddly_many test rest) ≡ in_combination how (differs in_left (oddly_many test left)) (differs in_right (oddly_many test right))
  pub rising : Rises rest
  pub leads : (d : Edge) → Leads d left → Leads d right → Leads d rest
  pub held : AreHeldEdges left → AreHeldEdges right → AreHeldEdges rest

pub leads_through : (d e : Edge) (edges : List Edge) → stands_before d e ≡ true → Leads e edges → Leads d edges
leads_through d e [] h leads = tt
leads_through d e (f ∷ edges) h leads = before_trans d e f h leads

leads_first : (d e : Edge) (s t : Bool) (left right : List Edge) → (s || t) ≡ true → Leads d (with_edge s e left) → Leads d (with_edge t e right) → stands_before d e ≡ true
leads_first d e true t left right some l r = l
leads_first d e false true left right some l r = r
leads_first d e false false left right some l r = absurd (false≢true some)

leads_taken : (d e : Edge) (t : Bool) (edges : List Edge) → stands_before d e ≡ true → Leads e edges → Leads d (with_edge t e edges)
leads_taken d e true edges h leads = h
leads_taken d e false edges h leads = leads_through d e edges h leads

rises_taken : (e : Edge) (t : Bool) (edges : List Edge) → Leads e edges → Rises edges → Rises (with_edge t e edges)
rises_taken e true edges leads rises = (leads, rises)
rises_taken e false edges leads rises = rises

held_rest : (e : Edge) (t : Bool) (edges : List Edge) → AreHeldEdges (with_edge t e edges) → AreHeldEdges edges
held_rest e true edges held = held.1
held_rest e false edges held = held

held_first : (e : Edge) (s t : Bool) (left right : List Edge) → (s || t) ≡ true → AreHeldEdges (with_edge s e left) → AreHeldEdges (with_edge t e right) → IsHeldEdge e
held_first e true t left right some l r = l.0
held_first e false true left right some l r = r.0
held_first e false false left right some l r = absurd (false≢true some)

held_taken : (e : Edge) (t : Bool) (edges : List Edge) → IsHeldEdge e → AreHeldEdges edges → AreHeldEdges (with_edge t e edges)
held_taken e true edges h held = (h, held)
held_taken e false edges h held = held

-- one step of the merge, over an edge of the left, of the right or of both
pub comes_step : (how : Combination) (a b s t : Bool) (e : Edge) (left right rest : List Edge) → (s || t) ≡ true → Leads e left → Leads e right → Rises left → Rises right → Comes how (differs a s) left (differs b t) right rest → Comes how a (with_edge s e left) b (with_edge t e right) (with_edge (differs (in_combination how a b) (in_combination how (differs a s) (differs b t))) e rest)
comes_step how a b s t e left right rest some el er rl rr next =
    let here = in_combination how a b in
    let there = in_combination how (differs a s) (differs b t) in
    let later = next.leads e el er in
    record {
      changes = λ test down. by_test test down (test e) refl;
      rising = rises_taken e (differs here there) rest later next.rising;
      leads = λ d l r. leads_taken d e (differs here there) rest (leads_first d e s t left right some l r) later;
      held = λ l r. held_taken e (differs here there) rest (held_first e s t left right some l r) (next.held (held_rest e s left l) (held_rest e t right r));
    }
  where
    here : Bool
    here = in_combination how a b

    there : Bool
    there = in_combination how (differs a s) (differs b t)

    by_test : (test : Edge → Bool) → IsDownward test → (p : Bool) → test e ≡ p → differs (in_combination how a b) (oddly_many test (with_edge (differs (in_combination how a b) (in_combination how (differs a s) (differs b t))) e rest)) ≡ in_combination how (differs a (oddly_many test (with_edge s e left))) (differs b (oddly_many test (with_edge t e right)))
    by_test test down true p =
        ap (differs (in_combination how a b)) (odd_taken_past test (differs (in_combination how a b) (in_combination how (differs a s) (differs b t))) e rest p)
        ∙ differs_through (in_combination how a b) (in_combination how (differs a s) (differs b t)) (oddly_many test rest)
        ∙ next.changes test down
        ∙ sym (ap₂ (in_combination how) (ap (differs a) (odd_taken_past test s e left p) ∙ differs_moved a s (oddly_many test left)) (ap (differs b) (odd_taken_past test t e right p) ∙ differs_moved b t (oddly_many test right)))
    by_test test down false p =
        ap (differs (in_combination how a b)) (odd_taken_short test (differs (in_combination how a b) (in_combination how (differs a s) (differs b t))) e rest p ∙ none_after test down e rest (next.leads e el er) next.rising p)
        ∙ differs_false (in_combination how a b)
        ∙ sym (ap₂ (in_combination how) (ap (differs a) (odd_taken_short test s e left p ∙ none_after test down e left el rl p) ∙ differs_false a) (ap (differs b) (odd_taken_short test t e right p ∙ none_after test down e right er rr p) ∙ differs_false b))

-- nothing comes where neither set has edges left
pub comes_end : (how : Combination) (a b : Bool) → Comes how a [] b [] []
comes_end how a b = record {
  changes = λ test down. differs_false (in_combination how a b) ∙ sym (ap₂ (in_combination how) (differs_false a) (differs_false b));
  rising = tt;
  leads = λ d l r. tt;
  held = λ l r. tt;
}

-- what comes from the start, where neither set holds, is the combination
pub comes_whole : (how : Combination) (left right rest : List Edge) → AreHeldEdges left → AreHeldEdges right → Comes how false left false right rest → IsCombination how left right rest
comes_whole Union left right rest l r whole = record { changes = whole.changes; rising = whole.rising; held = whole.held l r }
comes_whole Meet left right rest l r whole = record { changes = whole.changes; rising = whole.rising; held = whole.held l r }
comes_whole Difference left right rest l r whole = record { changes = whole.changes; rising = whole.rising; held = whole.held l r }

-- ---- what a step takes of the two lists
pub record IsStep (left right : List Edge) (step : Step) : Type 0 where
  pub left_is : left ≡ with_edge step.from_left step.edge (rest_after step.from_left left)
  pub right_is : right ≡ with_edge step.from_right step.edge (rest_after step.from_right right)
  pub some : (step.from_left || step.from_right) ≡ true
  pub left_leads : Leads step.edge (rest_after step.from_left left)
  pub right_leads : Leads step.edge (rest_after step.from_right right)

sooner_step : (e f : Edge) (left right : List Edge) → Leads e left → Leads f right → IsHeldEdge e → IsHeldEdge f → (s t : Bool) → stands_before e f ≡ s → stands_before f e ≡ t → IsStep (e ∷ left) (f ∷ right) (cond s (record { edge = e; from_left = true; from_right = false }) (cond t (record { edge = f; from_left = false; from_right = true }) (record { edge = e; from_left = true; from_right = true })))
sooner_step e f left right el fr he hf true t p q = record { left_is = refl; right_is = refl; some = refl; left_leads = el; right_leads = p }
sooner_step e f left right el fr he hf false true p q = record { left_is = refl; right_is = refl; some = refl; left_leads = q; right_leads = fr }
sooner_step e f left right el fr he hf false false p q =
    let one = same_edge e f he hf p q in
    let P : Edge → Type 0 = λ g. Leads g right in
    record { left_is = refl; right_is = ap (λ g. g ∷ right) (sym one); some = refl; left_leads = el; right_leads = subst P (sym one) fr }

pub step_facts : (left right : List Edge) → Rises left → Rises right → AreHeldEdges left → AreHeldEdges right → (step : Step) → next_step_of left right ≡ Some step → IsStep left right step
step_facts [] [] rl rr hl hr step is = absurd (none_some is)
  where
    none_some : {step : Step} → None ≡ Some step → ⊥
    none_some is = cc
step_facts [] (f ∷ right) rl rr hl hr step is =
    let e : record { edge = f; from_left = false; from_right = true } ≡ step = cc in
    let P : Step → Type 0 = λ s. IsStep [] (f ∷ right) s in
    subst P e (record { left_is = refl; right_is = refl; some = refl; left_leads = tt; right_leads = rr.0 })
step_facts (e ∷ left) [] rl rr hl hr step is =
    let i : record { edge = e; from_left = true; from_right = false } ≡ step = cc in
    let P : Step → Type 0 = λ s. IsStep (e ∷ left) [] s in
    subst P i (record { left_is = refl; right_is = refl; some = refl; left_leads = rl.0; right_leads = tt })
step_facts (e ∷ left) (f ∷ right) rl rr hl hr step is =
    let i : sooner_of e f ≡ step = cc in
    let P : Step → Type 0 = λ s. IsStep (e ∷ left) (f ∷ right) s in
    subst P i (sooner_step e f left right rl.0 rr.0 hl.0 hr.0 (stands_before e f) (stands_before f e) refl refl)

pub rises_rest : (t : Bool) (edges : List Edge) → Rises edges → Rises (rest_after t edges)
rises_rest true [] rises = tt
rises_rest true (e ∷ edges) rises = rises.1
rises_rest false edges rises = rises

pub held_after : (t : Bool) (edges : List Edge) → AreHeldEdges edges → AreHeldEdges (rest_after t edges)
held_after true [] held = tt
held_after true (e ∷ edges) held = held.1
held_after false edges held = held

-- no step is left only where both lists are empty
pub none_left : (left right : List Edge) → next_step_of left right ≡ None → (left ≡ []) × (right ≡ [])
none_left [] [] is = (refl, refl)
none_left [] (f ∷ right) is = cc
none_left (e ∷ left) [] is = cc
none_left (e ∷ left) (f ∷ right) is = cc

-- ---- the loop
pub record Merging (how : Combination) (all_left all_right left right : List Edge) (in_left in_right : Bool) (edges : List Edge) : Type 0 where
  pub left_rises : Rises left
  pub right_rises : Rises right
  pub left_held : AreHeldEdges left
  pub right_held : AreHeldEdges right
  pub whole : (rest : List Edge) → Comes how in_left left in_right right rest → Comes how false all_left false all_right (edges ++ rest)

pushed : (m : Bool) (e : Edge) (edges rest : List Edge) → cond m (edges ++ e ∷ []) edges ++ rest ≡ edges ++ with_edge m e rest
pushed true e edges rest = append_assoc edges (e ∷ []) rest
pushed false e edges rest = refl

comes_before : (how : Combination) (a b : Bool) (left right rest : List Edge) (step : Step) → IsStep left right step → Rises (rest_after step.from_left left) → Rises (rest_after step.from_right right) → Comes how (differs a step.from_left) (rest_after step.from_left left) (differs b step.from_right) (rest_after step.from_right right) rest → Comes how a left b right (with_edge (differs (in_combination how a b) (in_combination how (differs a step.from_left) (differs b step.from_right))) step.edge rest)
comes_before how a b left right rest step facts rl rr later =
    let l = rest_after step.from_left left in
    let r = rest_after step.from_right right in
    let m = differs (in_combination how a b) (in_combination how (differs a step.from_left) (differs b step.from_right)) in
    let P : List Edge → Type 0 = λ x. Comes how a x b right (with_edge m step.edge rest) in
    let Q : List Edge → Type 0 = λ y. Comes how a (with_edge step.from_left step.edge l) b y (with_edge m step.edge rest) in
    subst P (sym facts.left_is) (subst Q (sym facts.right_is) (comes_step how a b step.from_left step.from_right step.edge l r rest facts.some facts.left_leads facts.right_leads rl rr later))

pub merging_step : (how : Combination) (all_left all_right left right : List Edge) (a b : Bool) (edges : List Edge) (step : Step) → Merging how all_left all_right left right a b edges → next_step_of left right ≡ Some step → Merging how all_left all_right (rest_after step.from_left left) (rest_after step.from_right right) (differs a step.from_left) (differs b step.from_right) (cond (differs (in_combination how a b) (in_combination how (differs a step.from_left) (differs b step.from_right))) (edges ++ step.edge ∷ []) edges)
merging_step how all_left all_right left right a b edges step so is =
    let facts = step_facts left right so.left_rises so.right_rises so.left_held so.right_held step is in
    let m = differs (in_combination how a b) (in_combination how (differs a step.from_left) (differs b step.from_right)) in
    let rl = rises_rest step.from_left left so.left_rises in
    let rr = rises_rest step.from_right right so.right_rises in
    let P : List Edge → Type 0 = λ x. Comes how false all_left false all_right x in
    record {
      left_rises = rl;
      right_rises = rr;
      left_held = held_after step.from_left left so.left_held;
      right_held = held_after step.from_right right so.right_held;
      whole = λ rest later. subst P (sym (pushed m step.edge edges rest)) (so.whole (with_edge m step.edge rest) (comes_before how a b left right rest step facts rl rr later));
    }

pub merging_start : (how : Combination) (left right : List Edge) → Rises left → Rises right → AreHeldEdges left → AreHeldEdges right → Merging how left right left right false false []
merging_start how left right rl rr hl hr = record { left_rises = rl; right_rises = rr; left_held = hl; right_held = hr; whole = λ rest later. later }

pub merging_end : (how : Combination) (all_left all_right left right : List Edge) (a b : Bool) (edges : List Edge) → AreHeldEdges all_left → AreHeldEdges all_right → Merging how all_left all_right left right a b edges → next_step_of left right ≡ None → IsCombination how all_left all_right edges
merging_end how all_left all_right left right a b edges hl hr so is =
    let none = none_left left right is in
    let P : List Edge → Type 0 = λ x. Comes how a x b right [] in
    let Q : List Edge → Type 0 = λ y. Comes how a [] b y [] in
    let nothing = subst P (sym none.0) (subst Q (sym none.1) (comes_end how a b)) in
    let R : List Edge → Type 0 = λ x. IsCombination how all_left all_right x in
    subst R (append-nil edges) (comes_whole how all_left all_right (edges ++ []) hl hr (so.whole [] nothing))

-- ---- the measure
length-with_edge : (t : Bool) (e : Edge) (edges : List Edge) → length (with_edge t e edges) ≡ cond t 1 0 + length edges
length-with_edge true e edges = omega arith
length-with_edge false e edges = omega arith

pub merging_shorter : (left right : List Edge) (step : Step) → IsStep left right step → length (rest_after step.from_left left) + length (rest_after step.from_right right) < length left + length right
merging_shorter left right step facts =
    let l : length left ≡ cond step.from_left 1 0 + length (rest_after step.from_left left) = ap length facts.left_is ∙ length-with_edge step.from_left step.edge (rest_after step.from_left left) in
    let r : length right ≡ cond step.from_right 1 0 + length (rest_after step.from_right right) = ap length facts.right_is ∙ length-with_edge step.from_right step.edge (rest_after step.from_right right) in
    some_taken step.from_left step.from_right (length left) (length right) (length (rest_after step.from_left left)) (length (rest_after step.from_right right)) facts.some l r
  where
    some_taken : (s t : Bool) (m n k j : ℕ) → (s || t) ≡ true → m ≡ cond s 1 0 + k → n ≡ cond t 1 0 + j → k + j < m + n
    some_taken true true m n k j some l r = omega arith
    some_taken true false m n k j some l r = omega arith
    some_taken false true m n k j some l r = omega arith
    some_taken false false m n k j some l r = absurd (false≢true some)

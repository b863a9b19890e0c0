-- The values of names, one by one.
use Rattle.std.proofs.Common.{ltb, ◌≡◌, ◌≢◌, ℕ, zero, suc, ◌+◌, ◌<◌, ◌≤◌, Bool, true, false, cond, Option, Some, None, Ok, Err}
use Rattle.std.proofs.Common.{List, [], ◌∷◌, length, get_or, set, drop, option_and_then, refl, sym, ap, subst, ◌∙◌, arith, add-one}
use Rattle.std.proofs.lemmas.List.{drop_more, length-set, get_or-set_same, get_or-set_other, drop_all}
use Rattle.std.proofs.lemmas.Option.{slice_get_within, slice_get-get_or, get_or_from_slice_get}
use Rattle.std.proofs.lemmas.Bool.Decides.{nat_tests}
use Rattle.std.specs.Prelude.{IsTrue, slice_get}
use Rattle.std.specs.List.{AllZip}
use Rattle.exact_fraction.specs.Number.{Rational}
use Rattle.rule_types.specs.declared.expr.Expr.{Expr}
use Rattle.rule_types.specs.declared.expr.Expr.TheFolds.{fold-Expr}
use Rattle.rule_types.specs.declared.names.NameDef.{NameDef}
use Rattle.rule_types.specs.declared.names.NameKind.{NameKind}
use Rattle.rule_types.specs.declared.names.NameKind.TheVariants.{Variable, Formula}
use Rattle.rule_types.specs.declared.rules.Rules.{Rules}
use Rattle.rule_types.specs.declared.state.State.{State}
use Rattle.rule_types.specs.declared.stop.StopCause.{StopCause}
use Rattle.rule_types.specs.declared.stop.StopPlace.TheVariants as stop
use Rattle.rule_types.specs.Fitting.{SameSizes}
use Rattle.rule_meaning.specs.Condition.{number_of}
use Rattle.rule_meaning.specs.Formula.{Derived, worked_step, variable_kind, variable_named, formula_value, kind_value, stop_or, stop_from}
use Rattle.premise_eval.specs.declared.place.Place.{Place}
use Rattle.premise_eval.specs.Kept.{marked, MarksAre}
use Rattle.premise_eval.proofs.Zips.{zipped, zip_long}
use Rattle.premise_eval.specs.Places.{place_value, KindPlaced, NamesPlaced}
use Rattle.premise_eval.specs.internal.FormulaReading.{variable_read, formula_read, kind_read}
use Rattle.premise_eval.specs.internal.NameReading.{NamesHeld}

abbrev pub as_derived : Option Rational → Derived
as_derived found = Ok found

-- ---- variables and formulas by the places of variables
by_kind : (x : Rules) (s : State) (kind : NameKind) (place : Place) → KindPlaced x kind place
    → SameSizes x s → as_derived (place_value s place) ≡ variable_kind x s kind
unfolding place_value
by_kind x s (Variable key) place placed sizes = ap as_derived (placed.has s sizes)
by_kind x s (Formula formula) place placed sizes = ap (λ p. as_derived (place_value s p)) placed

walked : (x : Rules) (s : State) (names : List NameDef) (places : List Place)
    → AllZip (λ named place. KindPlaced x named.stands_for place) names places → SameSizes x s
    → (n : ℕ)
    → as_derived (option_and_then (place_value s) (slice_get places n))
    ≡ variable_named x s (slice_get names n)
unfolding variable_named
walked x s [] [] placed sizes n = refl
walked x s [] (place ∷ places) placed sizes n = elim placed [ ]
walked x s (named ∷ names) [] placed sizes n = elim placed [ ]
walked x s (named ∷ names) (place ∷ places) placed sizes zero =
    by_kind x s named.stands_for place placed.0 sizes
walked x s (named ∷ names) (place ∷ places) placed sizes (suc n) =
    walked x s names places placed.1 sizes n

variable_is : (x : Rules) (s : State) (places : List Place) → NamesPlaced x places → SameSizes x s
    → (n : ℕ) → variable_read s places n ≡ variable_named x s (slice_get x.names n)
unfolding NamesPlaced variable_read
variable_is x s places placed sizes n = walked x s x.names places placed sizes n

formula_is : (x : Rules) (s : State) (places : List Place) → NamesPlaced x places → SameSizes x s
    → (formula : Expr) → formula_read s places formula ≡ formula_value x s formula
unfolding formula_read formula_value
formula_is x s places placed sizes formula =
    λ i. fold-Expr Derived (worked_step (λ n. variable_is x s places placed sizes n i)) formula

kind_is : (x : Rules) (s : State) (places : List Place) → NamesPlaced x places → SameSizes x s
    → (kind : NameKind) (place : Place) → KindPlaced x kind place
    → kind_read s places kind place ≡ kind_value x s kind
unfolding kind_read kind_value
kind_is x s places placed sizes (Variable key) place at = ap as_derived (at.has s sizes)
kind_is x s places placed sizes (Formula formula) place at = formula_is x s places placed sizes formula

names_zipped : (x : Rules) (places : List Place) → NamesPlaced x places → (at : ℕ) (d : NameDef)
    (e : Place) → at < length x.names
    → KindPlaced x (get_or x.names at d).stands_for (get_or places at e)
unfolding NamesPlaced
names_zipped x places placed at d e within =
    zipped (λ (named : NameDef) (place : Place). KindPlaced x named.stands_for place) x.names places placed at d e within

-- ---- the stops of names
stop_cons : (x : Rules) (asks : ℕ → Bool) (s : State) (at : ℕ) (named : NameDef)
    (names : List NameDef)
    → stop_from x asks s at (named ∷ names)
    ≡ cond (asks at) (stop_or at (kind_value x s named.stands_for) (stop_from x asks s (suc at) names))
    (stop_from x asks s (suc at) names)
unfolding stop_from
stop_cons x asks s at named names = refl

stop_at : (x : Rules) (asks : ℕ → Bool) (s : State) (at : ℕ) (d : NameDef) → at < length x.names
    → stop_from x asks s at (drop at x.names)
    ≡ cond (asks at)
    (stop_or at (kind_value x s (get_or x.names at d).stands_for) (stop_from x asks s (at + 1) (drop (at + 1) x.names)))
    (stop_from x asks s (at + 1) (drop (at + 1) x.names))
stop_at x asks s at d within =
    ap (stop_from x asks s at) (drop_more x.names at d within)
    ∙ stop_cons x asks s at (get_or x.names at d) (drop (at + 1) x.names)
    ∙ ap (λ n. cond (asks at)
    (stop_or at (kind_value x s (get_or x.names at d).stands_for) (stop_from x asks s n (drop (at + 1) x.names)))
    (stop_from x asks s n (drop (at + 1) x.names))) (sym (add-one at))

item_at : {A : Type 0} (xs : List A) (k : ℕ) → k < length xs → A
item_at [] k within = absurd (omega arith)
item_at (x ∷ xs) k within = x

pub skipped : (x : Rules) (asks : ℕ → Bool) (s : State) (at : ℕ) → at < length x.names
    → asks at ≡ false
    → stop_from x asks s at (drop at x.names) ≡ stop_from x asks s (at + 1) (drop (at + 1) x.names)
skipped x asks s at within off =
    let d = item_at x.names at within in
    stop_at x asks s at d within
    ∙ ap (λ t. cond t
    (stop_or at (kind_value x s (get_or x.names at d).stands_for) (stop_from x asks s (at + 1) (drop (at + 1) x.names)))
    (stop_from x asks s (at + 1) (drop (at + 1) x.names))) off

asked : (x : Rules) (asks : ℕ → Bool) (s : State) (at : ℕ) (d : NameDef) (found : Derived)
    → at < length x.names → asks at ≡ true
    → kind_value x s (get_or x.names at d).stands_for ≡ found
    → stop_from x asks s at (drop at x.names)
    ≡ stop_or at found (stop_from x asks s (at + 1) (drop (at + 1) x.names))
asked x asks s at d found within on is =
    stop_at x asks s at d within
    ∙ ap (λ t. cond t
    (stop_or at (kind_value x s (get_or x.names at d).stands_for) (stop_from x asks s (at + 1) (drop (at + 1) x.names)))
    (stop_from x asks s (at + 1) (drop (at + 1) x.names))) on
    ∙ ap (λ f. stop_or at f (stop_from x asks s (at + 1) (drop (at + 1) x.names))) is

-- what the code reads at a place, as a name's value
pub read_is : (x : Rules) (s : State) (places : List Place) → NamesPlaced x places → SameSizes x s
    → (at : ℕ) (named : NameDef) (e : Place) (found : Derived) (names : List NameDef)
    → at < length x.names → names ≡ x.names → named ≡ get_or names at named
    → found ≡ kind_read s places named.stands_for (get_or places at e)
    → kind_value x s (get_or x.names at named).stands_for ≡ found
read_is x s places placed sizes at named e found names within all is given =
    let same : get_or x.names at named ≡ named = sym (is ∙ ap (λ l. get_or l at named) all) in
    let of_name : KindPlaced x named.stands_for (get_or places at e) =
    subst (λ (n : NameDef). KindPlaced x n.stands_for (get_or places at e)) same (names_zipped x places placed at named e within) in
    ap (λ n. kind_value x s n.stands_for) same
    ∙ sym (given ∙ kind_is x s places placed sizes named.stands_for (get_or places at e) of_name)

pub places_long : (x : Rules) (places : List Place) → NamesPlaced x places
    → length x.names ≡ length places
unfolding NamesPlaced
places_long x places placed = zip_long (λ (named : NameDef) (place : Place). KindPlaced x named.stands_for place) x.names places placed

pub asked_ok : (x : Rules) (asks : ℕ → Bool) (s : State) (at : ℕ) (d : NameDef)
    (found : Option Rational) → at < length x.names → asks at ≡ true
    → kind_value x s (get_or x.names at d).stands_for ≡ as_derived found
    → stop_from x asks s at (drop at x.names) ≡ stop_from x asks s (at + 1) (drop (at + 1) x.names)
asked_ok x asks s at d found within on is = asked x asks s at d (as_derived found) within on is

pub asked_stop : (x : Rules) (asks : ℕ → Bool) (s : State) (at : ℕ) (d : NameDef)
    (why : StopCause) → at < length x.names → asks at ≡ true
    → kind_value x s (get_or x.names at d).stands_for ≡ Err why
    → stop_from x asks s at (drop at x.names)
    ≡ Some (record { place = stop.Name at; cause = why })
asked_stop x asks s at d why within on is = asked x asks s at d (Err why) within on is

-- ---- the values of names
true_false : (t : Bool) → IsTrue t → t ≡ false → ⊥
true_false true on off = grind arith
true_false false on off = grind arith

pub held_skip : (x : Rules) (s : State) (asks : ℕ → Bool) (at : ℕ) (names : List (Option Rational))
    → asks at ≡ false → NamesHeld x s asks at names → NamesHeld x s asks (at + 1) names
unfolding NamesHeld
held_skip x s asks at names off held k named below is on =
    by_test (ltb k at) refl
  where
    by_test : (t : Bool) → ltb k at ≡ t → slice_get names k ≡ Some (number_of (kind_value x s named.stands_for))
    by_test true e = held k named (grind (arith, nat_tests)) is on
    by_test false e =
        let same : k ≡ at = grind (arith, nat_tests) in
        absurd (true_false (asks k) on (ap asks same ∙ off))

set_here : (names : List (Option Rational)) (at : ℕ) (found : Option Rational)
    → at < length names → slice_get (set names at found) at ≡ Some found
set_here names at found within =
    let long : at < length (set names at found) = rw (length-set names at found) within in
    slice_get-get_or (set names at found) at found long ∙ ap Some (get_or-set_same names at found found within)

set_there : (names : List (Option Rational)) (k at : ℕ) (found one : Option Rational)
    → k < at → slice_get names k ≡ Some one → slice_get (set names at found) k ≡ Some one
set_there names k at found one below is =
    let within : k < length names = slice_get_within names k one is in
    let long : k < length (set names at found) = rw (length-set names at found) within in
    let apart : k ≢ at = λ e. (omega arith) in
    slice_get-get_or (set names at found) k one long
    ∙ ap Some (get_or-set_other names at k found one apart)
    ∙ ap Some (get_or_from_slice_get names k one one is)

pub held_set : (x : Rules) (s : State) (asks : ℕ → Bool) (at : ℕ) (d : NameDef)
    (names : List (Option Rational)) (found : Option Rational)
    → at < length names → kind_value x s (get_or x.names at d).stands_for ≡ as_derived found
    → NamesHeld x s asks at names → NamesHeld x s asks (at + 1) (set names at found)
unfolding NamesHeld
held_set x s asks at d names found within value held k named below is on =
    by_test (ltb k at) refl
  where
    by_test : (t : Bool) → ltb k at ≡ t → slice_get (set names at found) k ≡ Some (number_of (kind_value x s named.stands_for))
    by_test true e =
        set_there names k at found (number_of (kind_value x s named.stands_for)) (grind (arith, nat_tests)) (held k named (grind (arith, nat_tests)) is on)
    by_test false e =
        let same : k ≡ at = grind (arith, nat_tests) in
        let which : get_or x.names at d ≡ named = ap (λ n. get_or x.names n d) (sym same) ∙ get_or_from_slice_get x.names k named d is in
        ap (slice_get (set names at found)) same
        ∙ set_here names at found within
        ∙ ap (λ r. Some (number_of r)) (sym value)
        ∙ ap (λ n. Some (number_of (kind_value x s n.stands_for))) which

-- the same for a test that gives the marks
pub held_same : (x : Rules) (s : State) (marks : List Bool) (used : ℕ → Bool)
    (names : List (Option Rational))
    → MarksAre (length x.names) marks used → NamesHeld x s (marked marks) (length x.names) names
    → NamesHeld x s used (length x.names) names
unfolding NamesHeld MarksAre
held_same x s marks used names are held k named below is on =
    held k named below is (subst IsTrue (sym (are k below)) on)

same_by : (x : Rules) (s : State) (asks used : ℕ → Bool) (at : ℕ) (names : List NameDef)
    → ((k : ℕ) → at ≤ k → k < at + length names → asks k ≡ used k)
    → stop_from x asks s at names ≡ stop_from x used s at names
unfolding stop_from
same_by x s asks used at [] same = refl
same_by x s asks used at (named ∷ names) same =
    let later = same_by x s asks used (suc at) names (λ k low high. same k (omega arith) (omega arith)) in
    let here : asks at ≡ used at = same at (omega arith) (omega arith) in
    λ i. cond (here i) (stop_or at (kind_value x s named.stands_for) (later i)) (later i)

pub stop_same : (x : Rules) (s : State) (marks : List Bool) (used : ℕ → Bool)
    → MarksAre (length x.names) marks used
    → stop_from x (marked marks) s 0 x.names ≡ stop_from x used s 0 x.names
unfolding MarksAre
stop_same x s marks used are = same_by x s (marked marks) used 0 x.names (λ k low high. are k (omega arith))

pub none_held : (x : Rules) (s : State) (asks : ℕ → Bool) (names : List (Option Rational))
    → NamesHeld x s asks 0 names
unfolding NamesHeld
none_held x s asks names k named below is on = absurd (omega arith)

pub none_stops : (x : Rules) (asks : ℕ → Bool) (s : State) (at : ℕ) → length x.names ≤ at
    → stop_from x asks s at (drop at x.names) ≡ None
unfolding stop_from
none_stops x asks s at past = ap (stop_from x asks s at) (drop_all at x.names past)

-- Columns and the values in them.
use Rattle.std.proofs.Common.{◌≡◌, ℕ, zero, suc, ◌+◌, ◌<◌, ◌≤◌, Bool, Option, Some, None}
use Rattle.std.proofs.Common.{List, [], ◌∷◌, ◌++◌, length, get_or, set, take, drop, map, option_and_then, refl, sym, ap, subst, ◌∙◌, arith, append_assoc}
use Rattle.std.proofs.lemmas.List.{drop_more, set_at, map_more, length-map, length-take-le, take_all, drop_all, append-nil}
use Rattle.std.proofs.lemmas.Option.{slice_get_within, slice_get-get_or, get_or_from_slice_get, slice_get-map, slice_get_past, none-some}
use Rattle.std.specs.Prelude.{slice_get, Contains}
use Rattle.std.specs.List.{AllZip, All}
use Rattle.std.specs.Option.{option_map}
use Rattle.exact_fraction.specs.Number.{Rational}
use Rattle.rule_types.specs.declared.condition.Condition.{Condition}
use Rattle.rule_types.specs.declared.condition.Side.{Side}
use Rattle.rule_types.specs.declared.condition.Side.TheVariants as side
use Rattle.rule_types.specs.declared.condition.Right.{Right}
use Rattle.rule_types.specs.declared.condition.Right.TheVariants as right
use Rattle.rule_types.specs.declared.names.NameDef.{NameDef}
use Rattle.rule_types.specs.declared.rule.Rule.{Rule}
use Rattle.rule_types.specs.declared.rules.Rules.{Rules}
use Rattle.rule_types.specs.declared.state.State.{State}
use Rattle.rule_types.specs.Fitting.{SameSizes}
use Rattle.rule_meaning.specs.Condition.{left_value, right_value, named_value, hours_of_step, both_meet, holds}
use Rattle.rule_meaning.specs.Formula.{is_used}
use Rattle.rule_meaning.proofs.PublicLaws.{some_rules-used}
use Rattle.premise_eval.specs.declared.place.Place.{Place}
use Rattle.premise_eval.specs.declared.column.Column.{Column}
use Rattle.premise_eval.specs.declared.column.Pair.{Pair}
use Rattle.premise_eval.specs.Columns.{value_in, IsColumn, SidePlaced, ColumnsFit, RightPaired, IsPair, PairsFit, SideAsked, ColumnsMade}
use Rattle.premise_eval.specs.internal.NameReading.{NamesHeld}
use Rattle.premise_eval.specs.internal.ColumnReading.{side_read, column_read, right_in, holds_in, TruthIn}

-- ---- a list that is written from the front
pub one_more : {A B : Type 0} (f : A → B) (xs : List A) (vs : List B) (at : ℕ) (d : A)
    → at < length xs → length vs ≡ length xs
    → set (map f (take at xs) ++ drop at vs) at (f (get_or xs at d))
    ≡ map f (take (at + 1) xs) ++ drop (at + 1) vs
one_more f xs vs at d within long =
    let rest : drop at vs ≡ get_or vs at (f d) ∷ drop (at + 1) vs = drop_more vs at (f d) (omega (arith, within, long)) in
    let front : length (map f (take at xs)) ≡ at = length-map (take at xs) f ∙ length-take-le at xs (omega arith) in
    ap (λ l. set (map f (take at xs) ++ l) at (f (get_or xs at d))) rest
    ∙ set_at (map f (take at xs)) (get_or vs at (f d)) (drop (at + 1) vs) (f (get_or xs at d)) at front
    ∙ sym (append_assoc (map f (take at xs)) (f (get_or xs at d) ∷ []) (drop (at + 1) vs))
    ∙ ap (λ l. l ++ drop (at + 1) vs) (sym (map_more f xs at d within))

pub written : {A B : Type 0} (f : A → B) (xs : List A) (vs now : List B) (at : ℕ) (d : A)
    (found : B)
    → now ≡ map f (take at xs) ++ drop at vs → found ≡ f (get_or xs at d)
    → at < length xs → length vs ≡ length xs
    → set now at found ≡ map f (take (at + 1) xs) ++ drop (at + 1) vs
written f xs vs now at d found is reads within long =
    ap (λ l. set l at found) is
    ∙ ap (λ v. set (map f (take at xs) ++ drop at vs) at v) reads
    ∙ one_more f xs vs at d within long

pub all_written : {A B : Type 0} (f : A → B) (xs : List A) (vs now : List B) (at : ℕ)
    → now ≡ map f (take at xs) ++ drop at vs → length xs ≤ at → length vs ≡ length xs
    → now ≡ map f xs
all_written f xs vs now at is past long =
    is ∙ ap (λ l. map f l ++ drop at vs) (take_all at xs past)
    ∙ ap (λ l. map f xs ++ l) (drop_all at vs (omega (arith, past, long)))
    ∙ append-nil (map f xs)

-- ---- elements by place
pub none_past : {A : Type 0} (xs : List A) (k : ℕ) → slice_get xs k ≡ None → length xs ≤ k
none_past [] k e = omega arith
none_past (x ∷ xs) zero e = absurd (none-some x (sym e))
none_past (x ∷ xs) (suc k) e = let h : length xs ≤ k = none_past xs k e in omega arith

pub all_at : {A : Type 0} (P : A → Type 0) (xs : List A) (k : ℕ) (one : A) → All P xs
    → slice_get xs k ≡ Some one → P one
all_at P xs k one all is =
    subst P (get_or_from_slice_get xs k one one is) (all k one (slice_get_within xs k one is))

pub contained_at : {A : Type 0} (xs : List A) (one : A) → Contains xs one
    → (k : ℕ) × (slice_get xs k ≡ Some one)
contained_at xs one h = (h.0, slice_get-get_or xs h.0 one h.1 ∙ ap Some h.2)

-- ---- what columns read
side_is : (x : Rules) (s : State) (asks : ℕ → Bool) (names : List (Option Rational))
    (place : Place) (given : Side)
    → SameSizes x s → NamesHeld x s asks (length x.names) names → length names ≡ length x.names
    → SidePlaced x place given → SideAsked asks given
    → side_read s names place given ≡ left_value x s given
unfolding left_value named_value NamesHeld
side_is x s asks names place (side.Key key) sizes held long placed on = placed.has s sizes
side_is x s asks names place (side.Expr name) sizes held long placed on =
    by_name (slice_get x.names name) refl
  where
    by_name : (o : Option NameDef) → slice_get x.names name ≡ o → value_in names name ≡ named_value x s o
    by_name None is =
        let past : length x.names ≤ name = none_past x.names name is in
        ap (option_and_then (λ found. found)) (slice_get_past names name (omega (arith, past, long)))
    by_name (Some named) is =
        ap (option_and_then (λ found. found)) (held name named (slice_get_within x.names name named is) is on)

pub columns_made : (x : Rules) (s : State) (asks : ℕ → Bool) (names : List (Option Rational))
    (columns : List Column) (values : List (Option Rational))
    → ColumnsFit x columns → SameSizes x s → NamesHeld x s asks (length x.names) names
    → length names ≡ length x.names → values ≡ map (column_read s names) columns
    → ColumnsMade x asks s columns values
unfolding ColumnsMade ColumnsFit column_read
columns_made x s asks names columns values fit sizes held long are at column is on =
    let placed : SidePlaced x column.place column.side = all_at (λ (one : Column). SidePlaced x one.place one.side) columns at column fit is in
    ap (λ l. slice_get l at) are
    ∙ slice_get-map (column_read s names) columns at
    ∙ ap (option_map (column_read s names)) is
    ∙ ap Some (side_is x s asks names column.place column.side sizes held long placed on)

-- ---- the values of the sides of conditions
pub side_of : (x : Rules) (s : State) (asks : ℕ → Bool) (columns : List Column)
    (values : List (Option Rational)) (at : ℕ) (given : Side)
    → ColumnsMade x asks s columns values → IsColumn columns at given → SideAsked asks given
    → slice_get values at ≡ Some (left_value x s given)
unfolding ColumnsMade
side_of x s asks columns values at given made found on =
    made at found.column found.is (subst (λ one. SideAsked asks one) (sym found.of_side) on)
    ∙ ap (λ one. Some (left_value x s one)) found.of_side

pub side_value_is : (x : Rules) (s : State) (asks : ℕ → Bool) (columns : List Column)
    (values : List (Option Rational)) (at : ℕ) (given : Side)
    → ColumnsMade x asks s columns values → IsColumn columns at given → SideAsked asks given
    → value_in values at ≡ left_value x s given
side_value_is x s asks columns values at given made found on =
    ap (option_and_then (λ one. one)) (side_of x s asks columns values at given made found on)

pub right_of : (x : Rules) (s : State) (asks : ℕ → Bool) (columns : List Column)
    (values : List (Option Rational)) (at : ℕ) (given : Right)
    → ColumnsMade x asks s columns values → RightPaired columns at given
    → right_in values at given ≡ right_value x s given
unfolding left_value right_value
right_of x s asks columns values at (right.Key key) made paired =
    side_value_is x s asks columns values at (side.Key key) made paired tt
right_of x s asks columns values at (right.Value q) made paired = refl

pub holds_is : (x : Rules) (s : State) (asks : ℕ → Bool) (columns : List Column)
    (values : List (Option Rational)) (hours : Rational) (c : Condition) (pair : Pair)
    → ColumnsMade x asks s columns values → IsPair columns c pair → SideAsked asks c.left
    → hours ≡ hours_of_step s.step → holds_in hours values pair c ≡ holds x s c
unfolding holds_in holds
holds_is x s asks columns values hours c pair made paired on step =
    let left = side_value_is x s asks columns values pair.left c.left made paired.left on in
    let right = right_of x s asks columns values pair.right c.right made paired.right in
    λ i. both_meet c (step i) (left i) (right i)

-- a side of a condition of a rule is asked for where the names that the rule uses are
pub asked_side : (x : Rules) (only : List Rule) (row : Rule) (j : ℕ) (c : Condition)
    → Contains only row → slice_get row.conditions j ≡ Some c
    → SideAsked (is_used x only) c.left
asked_side x only row j c among is = by_side c.left refl
  where
    by_side : (given : Side) → c.left ≡ given → SideAsked (is_used x only) given
    by_side (side.Key key) e = tt
    by_side (side.Expr name) e =
        let place = contained_at only row among in
        some_rules-used x only place.0 j name row c place.1 is e

truth_by : (x : Rules) (s : State) (asks : ℕ → Bool) (columns : List Column)
    (values : List (Option Rational)) (hours : Rational) (cs : List Condition) (pairs : List Pair)
    → ColumnsMade x asks s columns values → hours ≡ hours_of_step s.step
    → ((j : ℕ) (c : Condition) → slice_get cs j ≡ Some c → SideAsked asks c.left)
    → AllZip (IsPair columns) cs pairs
    → AllZip (λ c pair. holds_in hours values pair c ≡ holds x s c) cs pairs
truth_by x s asks columns values hours [] [] made step on all = tt
truth_by x s asks columns values hours [] (p ∷ ps) made step on all = elim all [ ]
truth_by x s asks columns values hours (c ∷ cs) [] made step on all = elim all [ ]
truth_by x s asks columns values hours (c ∷ cs) (p ∷ ps) made step on all = (
  holds_is x s asks columns values hours c p made all.0 (on 0 c refl) step,
  truth_by x s asks columns values hours cs ps made step (λ j one is. on (suc j) one is) all.1,
)

pub truth_is : (x : Rules) (s : State) (only : List Rule) (row : Rule) (columns : List Column)
    (values : List (Option Rational)) (hours : Rational) (pairs : List Pair)
    → ColumnsMade x (is_used x only) s columns values → hours ≡ hours_of_step s.step
    → Contains only row → PairsFit columns row.conditions pairs
    → TruthIn hours values (holds x s) row.conditions pairs
unfolding TruthIn PairsFit
truth_is x s only row columns values hours pairs made step among all =
    truth_by x s (is_used x only) columns values hours row.conditions pairs made step
    (λ j c is. asked_side x only row j c among is) all

-- Columns that are added, one by one.
use Rattle.std.proofs.Common.{◌≡◌, ℕ, ◌+◌, ◌<◌, ◌≤◌, Some, List, [], ◌∷◌, ◌++◌, length, get_or, take, refl, sym, ap, subst, ◌∙◌, inl, arith}
use Rattle.std.proofs.lemmas.List.{get_or_append_left, get_or_push, length_push}
use Rattle.std.proofs.lemmas.List.Elements.{All-push, All-nil}
use Rattle.std.proofs.lemmas.Option.{slice_get_within, slice_get-get_or, get_or_from_slice_get}
use Rattle.std.specs.Prelude.{slice_get}
use Rattle.std.specs.List.{AllZip, All}
use Rattle.rule_types.specs.declared.names.NameDef.{NameDef}
use Rattle.rule_types.specs.Fitting.{IsStep}
use Rattle.rule_types.specs.WellFormed.{WellFormed}
use Rattle.rule_types.proofs.PublicLaws.{opened-times}
use Rattle.premise_eval.specs.Places.{KindPlaced, NamesPlaced}
use Rattle.premise_eval.proofs.Zips.{zip_all, zip_more, zip_long, zip_at, zipped}
use Rattle.rule_types.specs.declared.condition.Condition.{Condition}
use Rattle.rule_types.specs.declared.condition.Side.{Side}
use Rattle.rule_types.specs.declared.condition.Right.{Right}
use Rattle.rule_types.specs.declared.condition.Right.TheVariants as right
use Rattle.rule_types.specs.declared.rule.Rule.{Rule}
use Rattle.rule_types.specs.declared.rules.Rules.{Rules}
use Rattle.premise_eval.specs.declared.place.Place.{Place}
use Rattle.premise_eval.specs.declared.column.Column.{Column}
use Rattle.premise_eval.specs.declared.column.Pair.{Pair}
use Rattle.premise_eval.specs.Columns.{IsColumn, SidePlaced, ColumnsFit, RightPaired, IsPair, PairsFit, AllPairsFit}
use Rattle.premise_eval.specs.internal.ColumnReading.{Extends}

pub extends_itself : (columns : List Column) → Extends columns columns
unfolding Extends
extends_itself columns at column is = is

pub extends_on : (columns mid more : List Column) → Extends columns mid → Extends mid more
    → Extends columns more
unfolding Extends
extends_on columns mid more first second at column is = second at column (first at column is)

pub extends_push : (columns : List Column) (one : Column) → Extends columns (columns ++ one ∷ [])
unfolding Extends
extends_push columns one at column is =
    let within : at < length columns = slice_get_within columns at column is in
    let long : at < length (columns ++ one ∷ []) = omega (arith, length_push columns one) in
    slice_get-get_or (columns ++ one ∷ []) at column long
    ∙ ap Some (get_or_append_left columns (one ∷ []) column at within ∙ get_or_from_slice_get columns at column column is)

pub column_pushed : (columns : List Column) (given : Side) (place : Place)
    → IsColumn (columns ++ record { side = given; place = place } ∷ []) (length columns) given
column_pushed columns given place =
    let one : Column = record { side = given; place = place } in
    let long : length columns < length (columns ++ one ∷ []) = omega (arith, length_push columns one) in
    record {
      column = one;
      is = slice_get-get_or (columns ++ one ∷ []) (length columns) one long ∙ ap Some (get_or_push columns one one (length columns) refl);
      of_side = refl;
    }

pub fit_pushed : (x : Rules) (columns : List Column) (one : Column) → ColumnsFit x columns
    → SidePlaced x one.place one.side → ColumnsFit x (columns ++ one ∷ [])
unfolding ColumnsFit
fit_pushed x columns one fit placed = All-push (λ (column : Column). SidePlaced x column.place column.side) columns one fit placed

pub column_kept : (columns more : List Column) (at : ℕ) (given : Side) → Extends columns more
    → IsColumn columns at given → IsColumn more at given
unfolding Extends
column_kept columns more at given further h = record {
  column = h.column;
  is = further at h.column h.is;
  of_side = h.of_side;
}

pub right_kept : (columns more : List Column) (at : ℕ) (given : Right) → Extends columns more
    → RightPaired columns at given → RightPaired more at given
right_kept columns more at (right.Key key) further h = column_kept columns more at _ further h
right_kept columns more at (right.Value q) further h = tt

pair_kept : (columns more : List Column) (c : Condition) (pair : Pair) → Extends columns more
    → IsPair columns c pair → IsPair more c pair
pair_kept columns more c pair further h = record {
  left = column_kept columns more pair.left c.left further h.left;
  right = right_kept columns more pair.right c.right further h.right;
}

kept_by : (columns more : List Column) (cs : List Condition) (pairs : List Pair)
    → Extends columns more → AllZip (IsPair columns) cs pairs → AllZip (IsPair more) cs pairs
kept_by columns more [] [] further h = tt
kept_by columns more [] (p ∷ ps) further h = elim h [ ]
kept_by columns more (c ∷ cs) [] further h = elim h [ ]
kept_by columns more (c ∷ cs) (p ∷ ps) further h =
    (pair_kept columns more c p further h.0, kept_by columns more cs ps further h.1)

pub pairs_kept : (columns more : List Column) (cs : List Condition) (pairs : List Pair)
    → Extends columns more → PairsFit columns cs pairs → PairsFit more cs pairs
unfolding PairsFit
pairs_kept columns more cs pairs further h = kept_by columns more cs pairs further h

all_kept_by : (columns more : List Column) (rules : List Rule) (rows : List (List Pair))
    → Extends columns more
    → AllZip (λ rule row. PairsFit columns rule.conditions row) rules rows
    → AllZip (λ rule row. PairsFit more rule.conditions row) rules rows
all_kept_by columns more [] [] further h = tt
all_kept_by columns more [] (p ∷ ps) further h = elim h [ ]
all_kept_by columns more (r ∷ rs) [] further h = elim h [ ]
all_kept_by columns more (r ∷ rs) (p ∷ ps) further h =
    (pairs_kept columns more r.conditions p further h.0, all_kept_by columns more rs ps further h.1)

pub all_pairs_kept : (columns more : List Column) (rules : List Rule) (rows : List (List Pair))
    → Extends columns more → AllPairsFit columns rules rows → AllPairsFit more rules rows
unfolding AllPairsFit
all_pairs_kept columns more rules rows further h = all_kept_by columns more rules rows further h

pub none_paired : (columns : List Column) (pairs : List Pair) → pairs ≡ []
    → PairsFit columns [] pairs
unfolding PairsFit
none_paired columns pairs none = subst (λ l. AllZip (IsPair columns) [] l) (sym none) tt

pub none_all : (columns : List Column) (rows : List (List Pair)) → rows ≡ []
    → AllPairsFit columns [] rows
unfolding AllPairsFit
none_all columns rows none =
    subst (λ (l : List (List Pair)). AllZip (λ (rule : Rule) row. PairsFit columns rule.conditions row) [] l) (sym none) tt

pub none_fit : (x : Rules) (columns : List Column) → columns ≡ [] → ColumnsFit x columns
unfolding ColumnsFit
none_fit x columns none =
    subst (λ (l : List Column). All (λ (column : Column). SidePlaced x column.place column.side) l) (sym none)
    (All-nil (λ (column : Column). SidePlaced x column.place column.side))

pub pairs_more : (columns more : List Column) (cs items : List Condition) (pairs new : List Pair)
    (i : ℕ) (one : Condition) (pair : Pair)
    → Extends columns more → items ≡ cs → i < length items → one ≡ get_or items i one
    → new ≡ pairs ++ pair ∷ [] → PairsFit columns (take i cs) pairs → IsPair more one pair
    → PairsFit more (take (i + 1) cs) new
unfolding PairsFit
pairs_more columns more cs items pairs new i one pair further same within is pushed fit here =
    zip_more (IsPair more) cs items pairs new i one pair same within is pushed (kept_by columns more (take i cs) pairs further fit) here

pub all_more : (columns more : List Column) (rules items : List Rule) (rows new : List (List Pair))
    (i : ℕ) (one : Rule) (row : List Pair)
    → Extends columns more → items ≡ rules → i < length items → one ≡ get_or items i one
    → new ≡ rows ++ row ∷ [] → AllPairsFit columns (take i rules) rows
    → PairsFit more one.conditions row → AllPairsFit more (take (i + 1) rules) new
unfolding AllPairsFit
all_more columns more rules items rows new i one row further same within is pushed fit here =
    zip_more (λ (rule : Rule) (l : List Pair). PairsFit more rule.conditions l) rules items rows new i one row same within is pushed
    (all_kept_by columns more (take i rules) rows further fit) here

pub names_placed : (x : Rules) (items : List NameDef) (places : List Place) (i : ℕ)
    → items ≡ x.names → length items ≤ i
    → AllZip (λ named place. KindPlaced x named.stands_for place) (take i x.names) places
    → NamesPlaced x places
unfolding NamesPlaced
names_placed x items places i same past all =
    zip_all (λ (named : NameDef) (place : Place). KindPlaced x named.stands_for place) x.names items places i same past all

-- the columns of one rule
pub rows_long : (columns : List Column) (rules : List Rule) (rows : List (List Pair))
    → AllPairsFit columns rules rows → length rules ≡ length rows
unfolding AllPairsFit
rows_long columns rules rows fit = zip_long (λ (rule : Rule) (l : List Pair). PairsFit columns rule.conditions l) rules rows fit

pub row_at : (columns : List Column) (rules : List Rule) (rows : List (List Pair)) (k : ℕ)
    (rule : Rule) (row : List Pair)
    → AllPairsFit columns rules rows → k < length rows → row ≡ get_or rows k row
    → slice_get rules k ≡ Some rule → PairsFit columns rule.conditions row
unfolding AllPairsFit
row_at columns rules rows k rule row fit within is given =
    zip_at (λ (one : Rule) (l : List Pair). PairsFit columns one.conditions l) rules rows k rule row fit given
    (slice_get-get_or rows k row within ∙ ap Some (sym is))

pub pairs_long : (columns : List Column) (cs : List Condition) (pairs : List Pair)
    → PairsFit columns cs pairs → length cs ≡ length pairs
unfolding PairsFit
pairs_long columns cs pairs fit = zip_long (IsPair columns) cs pairs fit

pub pair_at : (columns : List Column) (cs : List Condition) (pairs : List Pair) (k : ℕ)
    (c : Condition) (d : Pair)
    → PairsFit columns cs pairs → slice_get cs k ≡ Some c → IsPair columns c (get_or pairs k d)
unfolding PairsFit
pair_at columns cs pairs k c d fit is =
    let within : k < length cs = slice_get_within cs k c is in
    subst (λ one. IsPair columns one (get_or pairs k d)) (get_or_from_slice_get cs k c c is)
    (zipped (IsPair columns) cs pairs fit k c d within)

pub step_is : (x : Rules) → WellFormed x → IsStep x.routing_step
unfolding IsStep
step_is x formed = inl (opened-times x formed.bounds).routing_step

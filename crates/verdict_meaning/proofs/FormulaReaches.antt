-- What a formula can be worth in a box holds what it is worth at a state.
use Rattle.std.proofs.Common.{◌≡◌, ℕ, Bool, true, false, ◌&&◌, Option, Some, None, Ok, Err, List}
use Rattle.std.proofs.Common.{refl, sym, subst, ap}
use Rattle.std.specs.Prelude.{IsTrue, slice_get, ℤ, if◌then◌else◌}
use Rattle.std.proofs.lemmas.Bool.{true≢false}
use Rattle.std.specs.Option.{is_some}
use Rattle.exact_fraction.specs.Number.{Rational}
use Rattle.exact_fraction.specs.Operations.{difference_of, negation_of, product_of, quotient_of}
use Rattle.exact_fraction.specs.Operations.{sum_of}
use Rattle.exact_fraction.specs.Checked.{is_zero}
use Rattle.exact_fraction.proofs.PublicLaws.{order-reflexive}
use Rattle.interval_sets.specs.declared.interval.Interval.{Interval}
use Rattle.interval_sets.specs.Intervals.{lies_in}
use Rattle.rule_types.specs.declared.expr.Expr.{Expr}
use Rattle.rule_types.specs.declared.expr.Expr.TheOpen.{Expr-F}
use Rattle.rule_types.specs.declared.expr.Expr.TheFolds.{fold-Expr, fold-roll-Expr, ind-Expr}
use Rattle.rule_types.specs.declared.expr.Expr.TheFolds.{map-Expr}
use Rattle.rule_types.specs.declared.expr.Expr.TheViews.{roll-Expr}
use Rattle.rule_types.specs.declared.names.NameDef.{NameDef}
use Rattle.rule_types.specs.declared.names.NameKind.{NameKind}
use Rattle.rule_types.specs.declared.names.NameKind.TheVariants.{Variable, Formula}
use Rattle.rule_types.specs.declared.key.Key.{Key}
use Rattle.rule_types.specs.declared.rules.Rules.{Rules}
use Rattle.rule_types.specs.declared.state.State.{State}
use Rattle.rule_types.specs.declared.stop.StopCause.TheVariants as cause
use Rattle.rule_meaning.specs.Formula.{Derived, divided, fitted, formula_value, on_number}
use Rattle.rule_meaning.specs.Formula.{on_numbers, power, sign_of, size_of, step_of}
use Rattle.rule_meaning.specs.Formula.{variable_kind, variable_named, worked_step}
use Rattle.rule_meaning.specs.State.{value}
use Rattle.verdict_meaning.specs.declared.cell.Cell.{Cell}
use Rattle.verdict_meaning.specs.declared.truth.Reach.{Reach}
use Rattle.verdict_meaning.specs.declared.truth.Reach.TheVariants.{Missing, Within}
use Rattle.verdict_meaning.specs.Hulls.{difference_hull, negation_hull, power_hull, product_hull}
use Rattle.verdict_meaning.specs.Hulls.{quotient_hull, sign_hull, size_hull, step_hull, sum_hull}
use Rattle.verdict_meaning.specs.Reaches.{formula_reach, IsReached, key_reach, over, over_both}
use Rattle.verdict_meaning.specs.Reaches.{reach_step, variable_kind_reach, variable_reach}
use Rattle.verdict_meaning.proofs.HullProducts.{fitted_in, IsDerivedIn, power_inside}
use Rattle.verdict_meaning.proofs.HullProducts.{product_inside, quotient_inside}
use Rattle.verdict_meaning.proofs.HullSigns.{in_closed, sign_inside, size_inside, step_inside}
use Rattle.verdict_meaning.proofs.HullSums.{difference_inside, negation_inside, sum_inside}

-- what is derived is as it can be, unless it stops
abbrev pub IsDerivedReach : Reach → Derived → Type 0
IsDerivedReach reach (Ok found) = IsReached reach found
IsDerivedReach reach (Err why) = Unit {0}

pub some_none : (p : Rational) → Some p ≡ None → ⊥
some_none p e = true≢false (ap is_some e)

-- ---- one operand
present_reach : (sure : Bool) (piece : Interval) (d : Derived) → IsDerivedIn piece d
    → IsDerivedReach (Within sure piece) d
present_reach sure piece (Ok (Some q)) h = h
present_reach sure piece (Ok None) h = absurd h
present_reach sure piece (Err why) h = tt

over_tells : (hull : Interval → Interval) (next : Rational → Derived)
    → ((piece : Interval) (p : Rational) → IsTrue (lies_in piece p)
    → IsDerivedIn (hull piece) (next p))
    → (reach : Reach) (d : Derived) → IsDerivedReach reach d
    → IsDerivedReach (over hull reach) (on_number d next)
over_tells hull next each Missing (Ok None) h = refl
over_tells hull next each Missing (Ok (Some p)) h = absurd (some_none p h)
over_tells hull next each Missing (Err why) h = tt
over_tells hull next each (Within sure piece) (Ok None) h = h
over_tells hull next each (Within sure piece) (Ok (Some p)) h =
    present_reach sure (hull piece) (next p) (each piece p h)
over_tells hull next each (Within sure piece) (Err why) h = tt

-- ---- two operands
pub not_both : (sure certain : Bool) → certain ≡ false → (sure && certain) ≡ false
not_both true certain e = e
not_both false certain e = refl

both_step : (hull : Interval → Interval → Interval) (next : Rational → Rational → Derived)
    → ((a b : Interval) (p q : Rational) → IsTrue (lies_in a p) → IsTrue (lies_in b q)
    → IsDerivedIn (hull a b) (next p q))
    → (sure : Bool) (a : Interval) (p : Rational) → IsTrue (lies_in a p)
    → (right : Reach) (d : Derived) → IsDerivedReach right d
    → IsDerivedReach (over_both hull (Within sure a) right) (on_number d (next p))
both_step hull next each sure a p i Missing (Ok None) h = refl
both_step hull next each sure a p i Missing (Ok (Some q)) h = absurd (some_none q h)
both_step hull next each sure a p i Missing (Err why) h = tt
both_step hull next each sure a p i (Within certain b) (Ok None) h = not_both sure certain h
both_step hull next each sure a p i (Within certain b) (Ok (Some q)) h =
    present_reach (sure && certain) (hull a b) (next p q) (each a b p q i h)
both_step hull next each sure a p i (Within certain b) (Err why) h = tt

none_left : (hull : Interval → Interval → Interval) (sure : Bool) (a : Interval) (right : Reach)
    → sure ≡ false → IsReached (over_both hull (Within sure a) right) None
none_left hull sure a Missing e = refl
none_left hull sure a (Within certain b) e = rw e refl

both_tell : (hull : Interval → Interval → Interval) (next : Rational → Rational → Derived)
    → ((a b : Interval) (p q : Rational) → IsTrue (lies_in a p) → IsTrue (lies_in b q)
    → IsDerivedIn (hull a b) (next p q))
    → (left right : Reach) (d e : Derived) → IsDerivedReach left d → IsDerivedReach right e
    → IsDerivedReach (over_both hull left right) (on_numbers d e next)
both_tell hull next each Missing right (Ok None) e h g = refl
both_tell hull next each Missing right (Ok (Some p)) e h g = absurd (some_none p h)
both_tell hull next each Missing right (Err why) e h g = tt
both_tell hull next each (Within sure a) right (Ok None) e h g = none_left hull sure a right h
both_tell hull next each (Within sure a) right (Ok (Some p)) e h g =
    both_step hull next each sure a p h right e g
both_tell hull next each (Within sure a) right (Err why) e h g = tt

-- ---- one node
divided_by : (a b : Interval) (p q : Rational) (zero : Bool) → IsTrue (lies_in a p)
    → IsTrue (lies_in b q)
    → IsDerivedIn (quotient_hull a b)
    (if zero then Err cause.ZeroDivisor else fitted (quotient_of p q))
divided_by a b p q true i j = tt
divided_by a b p q false i j =
    fitted_in (quotient_hull a b) (quotient_of p q) (quotient_inside a b p q i j)

divided_in : (a b : Interval) (p q : Rational) → IsTrue (lies_in a p) → IsTrue (lies_in b q)
    → IsDerivedIn (quotient_hull a b) (divided p q)
unfolding divided
divided_in a b p q i j = divided_by a b p q (is_zero q) i j

abbrev Reached : (ℕ → Reach) → (ℕ → Derived) → Expr → Type 0
Reached reaches given e =
    IsDerivedReach (fold-Expr Reach (reach_step reaches) e)
    (fold-Expr Derived (worked_step given) e)

node_reached : (reaches : ℕ → Reach) (given : ℕ → Derived)
    → ((n : ℕ) → IsDerivedReach (reaches n) (given n))
    → (y : Expr-F ((e : Expr) × Reached reaches given e))
    → IsDerivedReach
    (reach_step reaches
    (map-Expr Expr Reach (fold-Expr Reach (reach_step reaches))
    (map-Expr ((e : Expr) × Reached reaches given e) Expr (λ e. e.0) y)))
    (worked_step given
    (map-Expr Expr Derived (fold-Expr Derived (worked_step given))
    (map-Expr ((e : Expr) × Reached reaches given e) Expr (λ e. e.0) y)))
unfolding reach_step worked_step
node_reached reaches given each (Expr-F.Number q) =
    in_closed q q q (order-reflexive q) (order-reflexive q)
node_reached reaches given each (Expr-F.Name n) = each n
node_reached reaches given each (Expr-F.Neg a) =
    over_tells negation_hull (λ p. Ok (Some (negation_of p))) negation_inside
    (fold-Expr Reach (reach_step reaches) a.0) (fold-Expr Derived (worked_step given) a.0) a.1
node_reached reaches given each (Expr-F.Abs a) =
    over_tells size_hull (λ p. Ok (Some (size_of p))) size_inside
    (fold-Expr Reach (reach_step reaches) a.0) (fold-Expr Derived (worked_step given) a.0) a.1
node_reached reaches given each (Expr-F.Sgn a) =
    over_tells sign_hull (λ p. Ok (Some (sign_of p))) sign_inside
    (fold-Expr Reach (reach_step reaches) a.0) (fold-Expr Derived (worked_step given) a.0) a.1
node_reached reaches given each (Expr-F.Step a) =
    over_tells step_hull (λ p. Ok (Some (step_of p))) step_inside
    (fold-Expr Reach (reach_step reaches) a.0) (fold-Expr Derived (worked_step given) a.0) a.1
node_reached reaches given each (Expr-F.Add a b) =
    both_tell sum_hull (λ p q. fitted (sum_of p q))
    (λ m n p q i j. fitted_in (sum_hull m n) (sum_of p q) (sum_inside m n p q i j))
    (fold-Expr Reach (reach_step reaches) a.0) (fold-Expr Reach (reach_step reaches) b.0)
    (fold-Expr Derived (worked_step given) a.0) (fold-Expr Derived (worked_step given) b.0) a.1
    b.1
node_reached reaches given each (Expr-F.Sub a b) =
    both_tell difference_hull (λ p q. fitted (difference_of p q))
    (λ m n p q i j.
    fitted_in (difference_hull m n) (difference_of p q) (difference_inside m n p q i j))
    (fold-Expr Reach (reach_step reaches) a.0) (fold-Expr Reach (reach_step reaches) b.0)
    (fold-Expr Derived (worked_step given) a.0) (fold-Expr Derived (worked_step given) b.0) a.1
    b.1
node_reached reaches given each (Expr-F.Mul a b) =
    both_tell product_hull (λ p q. fitted (product_of p q))
    (λ m n p q i j. fitted_in (product_hull m n) (product_of p q) (product_inside m n p q i j))
    (fold-Expr Reach (reach_step reaches) a.0) (fold-Expr Reach (reach_step reaches) b.0)
    (fold-Expr Derived (worked_step given) a.0) (fold-Expr Derived (worked_step given) b.0) a.1
    b.1
node_reached reaches given each (Expr-F.Div a b) =
    both_tell quotient_hull divided divided_in (fold-Expr Reach (reach_step reaches) a.0)
    (fold-Expr Reach (reach_step reaches) b.0) (fold-Expr Derived (worked_step given) a.0)
    (fold-Expr Derived (worked_step given) b.0) a.1 b.1
node_reached reaches given each (Expr-F.Pow a n) =
    over_tells (λ piece. power_hull piece n) (λ p. power p n)
    (λ piece p i. power_inside piece p n i) (fold-Expr Reach (reach_step reaches) a.0)
    (fold-Expr Derived (worked_step given) a.0) a.1

pub folds_reach : (reaches : ℕ → Reach) (given : ℕ → Derived)
    → ((n : ℕ) → IsDerivedReach (reaches n) (given n)) → (e : Expr) → Reached reaches given e
folds_reach reaches given each =
    ind-Expr (Reached reaches given)
    (λ z y is.
    subst (λ w. Reached reaches given (roll-Expr w)) is
    (rw (
      fold-roll-Expr Reach (reach_step reaches)
          (map-Expr ((e : Expr) × Reached reaches given e) Expr (λ e. e.0) y),
      fold-roll-Expr Derived (worked_step given)
          (map-Expr ((e : Expr) × Reached reaches given e) Expr (λ e. e.0) y),
    )
    (node_reached reaches given each y)))

-- ---- formulas
kind_reached : (x : Rules) (s : State) (start : ℤ) (cell : Cell)
    → ((key : Key) → IsReached (key_reach start cell key) (value x s key)) → (kind : NameKind)
    → IsDerivedReach (variable_kind_reach start cell kind) (variable_kind x s kind)
kind_reached x s start cell each (Variable key) = each key
kind_reached x s start cell each (Formula formula) = refl

variable_reached : (x : Rules) (s : State) (start : ℤ) (cell : Cell)
    → ((key : Key) → IsReached (key_reach start cell key) (value x s key))
    → (o : Option NameDef)
    → IsDerivedReach (variable_reach start cell o) (variable_named x s o)
unfolding variable_reach variable_named
variable_reached x s start cell each None = refl
variable_reached x s start cell each (Some named) =
    kind_reached x s start cell each named.stands_for

pub formula_reached : (x : Rules) (s : State) (start : ℤ) (cell : Cell)
    → ((key : Key) → IsReached (key_reach start cell key) (value x s key)) → (e : Expr)
    → IsDerivedReach (formula_reach x.names start cell e) (formula_value x s e)
unfolding formula_reach formula_value
formula_reached x s start cell each e =
    folds_reach (λ n. variable_reach start cell (slice_get x.names n))
    (λ n. variable_named x s (slice_get x.names n))
    (λ n. variable_reached x s start cell each (slice_get x.names n)) e

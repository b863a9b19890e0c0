-- The values of a table from the last point back.
use Rattle.std.proofs.Common.{◌≡◌, ℕ, zero, suc, ◌+◌, ◌-◌, ◌<◌, Option, Result, Ok, Err, List, [], ◌∷◌, length, get_or, drop, refl, sym, ap, ap₂, ◌∙◌, arith, false}
use Rattle.std.proofs.lemmas.List.{drop_more, drop_all, get_or_default}
use Rattle.exact_fraction.specs.declared.error.Overflow.{Overflow}
use Rattle.interval_sets.specs.declared.interval.Bound.{Bound}
use Rattle.interval_sets.specs.declared.interval.Bound.TheVariants as end
use Rattle.interval_sets.specs.declared.interval.Interval.{Interval}
use Rattle.rule_types.specs.declared.table.Point.{Point}
use Rattle.rule_meaning.specs.CheckedSteps.{◌>>=◌}
use Rattle.table_hulls.specs.Hulls.{Part, values_over, value_of_point, values_from, all_values, hull_of_both}
use Rattle.table_hulls.specs.internal.Arguments.{values_of}

pub one_back : (part : Part) (p q : Point) (more : List Point) (first later : Option Interval) → values_over p q (part (end.Bound p.x false) (end.Bound q.x false)) ≡ Ok first → values_of part (q ∷ more) ≡ Ok later → values_of part (p ∷ q ∷ more) ≡ Ok (hull_of_both first later)
unfolding values_of values_from
one_back part p q more first later here there = rw (here, there) refl

first_fails : (part : Part) (p q : Point) (more : List Point) (why : Overflow) → values_over p q (part (end.Bound p.x false) (end.Bound q.x false)) ≡ Err why → values_of part (p ∷ q ∷ more) ≡ Err why
unfolding values_of values_from
first_fails part p q more why here = rw here refl

later_fails : (part : Part) (p : Point) (more : List Point) (why : Overflow) → values_of part more ≡ Err why → values_of part (p ∷ more) ≡ Err why
unfolding values_of values_from
later_fails part p [] why h = absurd (grind arith)
later_fails part p (q ∷ more) why h = by (values_over p q _) h
  where
    by : (first : Result (Option Interval) Overflow) → values_from part q more ≡ Err why → (first >>= λ f. values_from part q more >>= λ l. Ok (hull_of_both f l)) ≡ Err why
    by (Ok first) e = rw e refl
    by (Err other) e = refl

-- a step that does not fit anywhere
pub fails_back : (part : Part) (points : List Point) (at : ℕ) (why : Overflow) → values_of part (drop at points) ≡ Err why → values_of part points ≡ Err why
fails_back part points zero why h = h
fails_back part [] (suc at) why h = h
fails_back part (p ∷ more) (suc at) why h = later_fails part p more why (fails_back part more at why h)

-- ---- as the code has them, with the points at their places
pub last_back : (part : Part) (points : List Point) (at : ℕ) (d e : Point) (low : Bound) (over values : Option Interval) → 0 < length points → at ≡ length points - 1 → low ≡ end.Bound (get_or points at d).x false → over ≡ part low end.NoBound → values ≡ value_of_point (get_or points at e) over → (values_of part (drop at points) ≡ Ok values) × (at < length points)
unfolding values_of values_from
last_back part points at d e low over values some is one two three =
    let lt : at < length points = omega (arith, some, is) in
    let more : drop at points ≡ get_or points at d ∷ drop (at + 1) points = drop_more points at d lt in
    let none : drop (at + 1) points ≡ [] = drop_all (at + 1) points (omega (arith, some, is)) in
    let all = more ∙ ap (λ later. get_or points at d ∷ later) none in
    let value = three ∙ ap₂ value_of_point (get_or_default points at e d lt) (two ∙ ap (λ end_at. part end_at end.NoBound) one) in
    (ap (values_of part) all ∙ ap Ok (sym value), lt)

-- the parts of one step back
pub record IsStep (part : Part) (points : List Point) (at : ℕ) (found : Result (Option Interval) Overflow) : Type 0 where
  pub first : Point
  pub second : Point
  pub later : List Point
  pub rest : drop at points ≡ second ∷ later
  pub front : drop (at - 1) points ≡ first ∷ second ∷ later
  pub values : values_over first second (part (end.Bound first.x false) (end.Bound second.x false)) ≡ found

pub step : (part : Part) (points : List Point) (at : ℕ) (d e f g : Point) (low high : Bound) (over : Option Interval) (found : Result (Option Interval) Overflow) → 0 < at → at < length points → low ≡ end.Bound (get_or points (at - 1) d).x false → high ≡ end.Bound (get_or points (at - 1 + 1) e).x false → over ≡ part low high → found ≡ values_over (get_or points (at - 1) f) (get_or points (at - 1 + 1) g) over → IsStep part points at found
step part points at d e f g low high over found some lt one two three is =
    let k = at - 1 in
    let same : at - 1 + 1 ≡ at = omega (arith, some) in
    let within : at - 1 < length points = omega (arith, lt) in
    let next : at - 1 + 1 < length points = omega (arith, some, lt) in
    let here : drop (at - 1) points ≡ get_or points (at - 1) d ∷ drop (at - 1 + 1) points = drop_more points (at - 1) d within in
    let there : drop (at - 1 + 1) points ≡ get_or points (at - 1 + 1) e ∷ drop (at - 1 + 1 + 1) points = drop_more points (at - 1 + 1) e next in
    let firsts = get_or_default points (at - 1) f d within in
    let seconds = get_or_default points (at - 1 + 1) g e next in
    let parts = three ∙ ap₂ part one two in
    record {
      first = get_or points (at - 1) d;
      second = get_or points (at - 1 + 1) e;
      later = drop (at - 1 + 1 + 1) points;
      rest = ap (λ n. drop n points) (sym same) ∙ there;
      front = here ∙ ap (λ later. get_or points (at - 1) d ∷ later) there;
      values =
          sym (ap₂ (λ p q. values_over p q (part (end.Bound (get_or points (at - 1) d).x false) (end.Bound (get_or points (at - 1 + 1) e).x false))) firsts seconds)
          ∙ sym (ap (values_over (get_or points (at - 1) f) (get_or points (at - 1 + 1) g)) parts)
          ∙ sym is;
    }

pub goes_back : (part : Part) (points : List Point) (at : ℕ) (found : Result (Option Interval) Overflow) (first values whole : Option Interval) → 0 < at → at < length points → IsStep part points at found → found ≡ Ok first → values_of part (drop at points) ≡ Ok values → whole ≡ hull_of_both first values → (values_of part (drop (at - 1) points) ≡ Ok whole) × (at - 1 < length points)
goes_back part points at found first values whole some lt s is so_far e =
    let later = sym (ap (values_of part) s.rest) ∙ so_far in (
      ap (values_of part) s.front ∙ one_back part s.first s.second s.later first values (s.values ∙ is) later ∙ ap Ok (sym e),
      omega (arith, lt),
    )

pub stops_back : (part : Part) (points : List Point) (at : ℕ) (found : Result (Option Interval) Overflow) (why : Overflow) → IsStep part points at found → found ≡ Err why → values_of part points ≡ Err why
stops_back part points at found why s is =
    fails_back part points (at - 1) why (ap (values_of part) s.front ∙ first_fails part s.first s.second s.later why (s.values ∙ is))

pub all_made : (part : Part) (points : List Point) (d e : Point) (high : Bound) (over front later whole : Option Interval) → 0 < length points → values_of part points ≡ Ok later → high ≡ end.Bound (get_or points 0 d).x false → over ≡ part end.NoBound high → front ≡ value_of_point (get_or points 0 e) over → whole ≡ hull_of_both front later → Ok whole ≡ all_values part points
unfolding values_of all_values
all_made part [] d e high over front later whole some is one two three four = absurd (omega (arith, some))
all_made part (p ∷ more) d e high over front later whole some is one two three four =
    let own = three ∙ ap (value_of_point p) (two ∙ ap (part end.NoBound) one) in
    rw is (ap Ok (four ∙ ap (λ f. hull_of_both f later) own))

pub all_fail : (part : Part) (points : List Point) (why : Overflow) → 0 < length points → values_of part points ≡ Err why → Err why ≡ all_values part points
unfolding values_of all_values
all_fail part [] why some is = absurd (omega (arith, some))
all_fail part (p ∷ more) why some is = rw is refl

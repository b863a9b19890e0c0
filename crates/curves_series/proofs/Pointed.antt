-- A table that is read has points that a table can have.
use Rattle.std.proofs.Common.{◌≡◌, ℕ, ◌<◌, Bool, true, false, Option, Some, None, Result, Ok, Err, List, [], ◌∷◌, ◌++◌, ℤ, length, refl, ap, subst, arith, inl, inr, ◌⊎◌}
use Rattle.std.specs.Prelude.{◌||◌, ◌&&◌, not, option_map}
use Rattle.std.specs.Borrow.{Bor}
use Rattle.std.proofs.lemmas.List.{length-append, length-map}
use Rattle.exact_fraction.specs.Number.{Rational}
use Rattle.inp_text.specs.Items.{items}
use Rattle.inp_text.specs.declared.source_line.SourceLine.{SourceLine}
use Rattle.num_text.specs.Dates.{date_of}
use Rattle.rule_types.specs.declared.refusal.Refusal.{Refusal}
use Rattle.rule_types.specs.declared.table.Point.{Point}
use Rattle.rule_types.specs.Tables.{IsPointList}
use Rattle.curves_series.specs.Pairs.{Pair, LineRead, pairs_read}
use Rattle.curves_series.specs.Groups.{Group}
use Rattle.curves_series.specs.Curves.{number_pair, number_pairs, values_of, has_two, has_point, pairs_or, bad_curve, items_read, curve_line, curve_lines}
use Rattle.curves_series.specs.Series.{Entries, SeriesLine, SeriesRead, entry_pair, entries_of, behind_name, entries_or, on_axis, series_items, series_line, then_series, points_before, series_lines, bad_series, axis_at, two_items, three_items, entry_then, with_entry}
use Rattle.curves_series.specs.declared.axis.Axis.{Axis}
use Rattle.curves_series.specs.declared.axis.Axis.TheVariants.{Open}
use Rattle.curves_series.specs.internal.Rising.{IsRising}
use Rattle.curves_series.specs.internal.Views.{lines_now}
use Rattle.curves_series.proofs.Rising.{items_by, then_known, curve_rises, read_rises, read_some, rising_list}

more_points : (front rest : List Point) → 0 < length front → 0 < length (front ++ rest)
more_points front rest h = omega (arith, h, length-append front rest)

rest_points : (front rest : List Point) → 0 < length rest → 0 < length (front ++ rest)
rest_points front rest h = omega (arith, h, length-append front rest)

or_true : (a b : Bool) → (a || b) ≡ true → (a ≡ true) ⊎ (b ≡ true)
or_true true b h = inl refl
or_true false b h = inr h

-- ---- curves
two_by : (pair : Pair) (later : Option (List Pair)) (pairs : List Pair) → option_map (λ ps. pair ∷ ps) later ≡ Some pairs → 0 < length pairs
two_by pair None pairs h = absurd (grind arith)
two_by pair (Some ps) pairs h =
    let same : pair ∷ ps ≡ pairs = grind arith in
    subst (λ qs. 0 < length qs) same (omega arith)

two_pairs : (found : List (List ℕ)) (pairs : List Pair) → number_pairs found ≡ Some pairs → has_two found ≡ true → 0 < length pairs
unfolding number_pairs
two_pairs [] pairs h two = absurd (grind arith)
two_pairs (x ∷ []) pairs h two = absurd (grind arith)
two_pairs (x ∷ y ∷ later) pairs h two = two_by (number_pair x y) (number_pairs later) pairs h

or_some : (bad : Refusal) (before : Option Rational) (found : List (List ℕ)) (o : Option (List Pair)) (read : LineRead) → number_pairs found ≡ o → pairs_or bad before o ≡ Ok read → has_two found ≡ true → 0 < length read.points
or_some bad before found None read is h two = absurd (grind arith)
or_some bad before found (Some pairs) read is h two = read_some bad before pairs read (two_pairs found pairs is two) h

line_some : (name : List ℕ) (is_first pointed : Bool) (before : Option Rational) (line : SourceLine) (read : LineRead) → curve_line name is_first pointed before line ≡ Ok read → has_two (values_of is_first (items line.bytes)) ≡ true → 0 < length read.points
unfolding curve_line items_read
line_some name is_first pointed before line read h two =
    let v = values_of is_first (items line.bytes) in
    or_some (bad_curve name line) before v (number_pairs v) read refl (items_by (is_first && (not (has_two (items line.bytes)) || not pointed)) (bad_curve name line) _ read h).1 two

curve_counts : (name : List ℕ) (is_first pointed : Bool) (before : Option Rational) (lines : List SourceLine) (points : List Point) → curve_lines name is_first pointed before lines ≡ Ok points → has_point is_first lines ≡ true → 0 < length points
unfolding curve_lines has_point
curve_counts name is_first pointed before [] points h some = absurd (grind arith)
curve_counts name is_first pointed before (line ∷ later) points h some =
    let known = then_known (curve_line name is_first pointed before line) (λ last. curve_lines name false pointed last later) points h in
    let rest = known.2.0 in
    subst (λ ps. 0 < length ps) known.2.2 (elim (or_true (has_two (values_of is_first (items line.bytes))) (has_point false later) some) [
      | inl here ↦ more_points known.0.points rest (line_some name is_first pointed before line known.0 known.1 here)
      | inr there ↦ rest_points known.0.points rest (curve_counts name false pointed known.0.last later rest known.2.1 there)
    ])

first_pointed : (name : List ℕ) (pointed : Bool) (line : SourceLine) (read : LineRead) → curve_line name true pointed None line ≡ Ok read → pointed ≡ true
unfolding curve_line items_read
first_pointed name true line read h = refl
first_pointed name false line read h =
    let known = (items_by (true && (not (has_two (items line.bytes)) || not false)) (bad_curve name line) _ read h).0 in
    absurd (by (has_two (items line.bytes)) known)
  where
    by : (two : Bool) → (not two || true) ≡ false → ⊥
    by true h = grind arith
    by false h = grind arith

lines_fit : (name : List ℕ) (lines : List SourceLine) (points : List Point) → 0 < length lines → curve_lines name true (has_point true lines) None lines ≡ Ok points → IsPointList points
unfolding curve_lines
lines_fit name [] points some h = absurd (omega (arith, some))
lines_fit name (line ∷ later) points some h =
    let pointed = has_point true (line ∷ later) in
    let known = then_known (curve_line name true pointed None line) (λ last. curve_lines name false pointed last later) points h in
    let is = first_pointed name pointed line known.0 known.1 in
    rising_list points (curve_rises name true pointed None (line ∷ later) points h) (curve_counts name true pointed None (line ∷ later) points h is)

pub curve_fits : (group : Group) (points : List Point) → 0 < length group.lines → curve_lines group.name true (has_point true group.lines) None group.lines ≡ Ok points → IsPointList points
curve_fits group points some h = lines_fit group.name group.lines points some h

-- ---- series
entry_some : (next : Option Axis) (time value : List ℕ) (later : Axis → Option Entries) (entries : Entries) → entry_then next time value later ≡ Some entries → 0 < length entries.pairs
entry_some None time value later entries h = absurd (grind arith)
entry_some (Some axis) time value later entries h = by (later axis) h
  where
    by : (o : Option Entries) → with_entry (entry_pair axis time value) o ≡ Some entries → 0 < length entries.pairs
    by None e = absurd (grind arith)
    by (Some rest) e =
        let same : record { pairs = entry_pair axis time value ∷ rest.pairs; axis = rest.axis } ≡ entries = grind arith in
        subst (λ x. 0 < length x.pairs) same (omega arith)

two_some : (axis : Axis) (date : Option ℤ) (a b : List ℕ) (entries : Entries) → two_items axis date a b ≡ Some entries → 0 < length entries.pairs
two_some axis (Some day) a b entries h = absurd (grind arith)
two_some axis None a b entries h = entry_some (axis_at axis None) a b _ entries h

three_some : (axis : Axis) (date : Option ℤ) (a b c : List ℕ) (two three : Axis → Option Entries) (entries : Entries) → three_items axis date a b c two three ≡ Some entries → 0 < length entries.pairs
three_some axis (Some day) a b c two three entries h = entry_some (axis_at axis (Some day)) b c three entries h
three_some axis None a b c two three entries h = entry_some (axis_at axis None) a b two entries h

entries_some : (axis : Axis) (item : List ℕ) (later : List (List ℕ)) (entries : Entries) → entries_of axis (item ∷ later) ≡ Some entries → 0 < length entries.pairs
unfolding entries_of
entries_some axis a [] entries h = absurd (grind arith)
entries_some axis a (b ∷ []) entries h = two_some axis (date_of a) a b entries h
entries_some axis a (b ∷ c ∷ later) entries h = three_some axis (date_of a) a b c _ _ entries h

behind_some : (axis : Axis) (found : List (List ℕ)) (entries : Entries) → behind_name axis found ≡ Some entries → 0 < length entries.pairs
behind_some axis [] entries h = absurd (grind arith)
behind_some axis (name ∷ []) entries h = absurd (grind arith)
behind_some axis (name ∷ item ∷ later) entries h = entries_some axis item later entries h

-- what is known where the items of a line are read
line_known : (bad : Refusal) (axis : Axis) (before : Option Rational) (found : List (List ℕ)) (o : Option Entries) (line : SeriesLine) → behind_name axis found ≡ o → entries_or bad before o ≡ Ok line → (entries : Entries) × (pairs_read bad before entries.pairs ≡ Ok line.read) × (0 < length entries.pairs)
line_known bad axis before found None line is h = absurd (grind arith)
line_known bad axis before found (Some entries) line is h = (entries, by (pairs_read bad before entries.pairs) h, behind_some axis found entries is)
  where
    by : (r : Result LineRead Refusal) → on_axis entries.axis r ≡ Ok line → r ≡ Ok line.read
    by (Err refusal) e = absurd (grind arith)
    by (Ok read) e =
        let same : record { read = read; axis = entries.axis } ≡ line = grind arith in
        ap (λ x. Ok x.read) same

series_known : (due : Result SeriesLine Refusal) (later : Axis → Option Rational → Result SeriesRead Refusal) (read : SeriesRead) → then_series due later ≡ Ok read → (line : SeriesLine) × (due ≡ Ok line) × ((rest : SeriesRead) × (later line.axis line.read.last ≡ Ok rest) × (line.read.points ++ rest.points ≡ read.points))
series_known (Err refusal) later read h = absurd (grind arith)
series_known (Ok line) later read h = (line, refl, by (later line.axis line.read.last) refl h)
  where
    by : (r : Result SeriesRead Refusal) → later line.axis line.read.last ≡ r → points_before line.read.points r ≡ Ok read → (rest : SeriesRead) × (later line.axis line.read.last ≡ Ok rest) × (line.read.points ++ rest.points ≡ read.points)
    by (Err refusal) is e = absurd (grind arith)
    by (Ok rest) is e =
        let same : record { points = line.read.points ++ rest.points; axis = rest.axis } ≡ read = grind arith in
        (rest, is, ap (λ x. x.points) same)

series_rises : (name : List ℕ) (axis : Axis) (before : Option Rational) (lines : List SourceLine) (read : SeriesRead) → series_lines name axis before lines ≡ Ok read → IsRising before read.points
unfolding series_lines series_line series_items
series_rises name axis before [] read h =
    let same : record { points = []; axis = axis } ≡ read = grind arith in
    subst (λ x. IsRising before x.points) same tt
series_rises name axis before (line ∷ later) read h =
    let known = series_known (series_line name axis before line) (λ after last. series_lines name after last later) read h in
    let rest = known.2.0 in
    let own = line_known (bad_series name line) axis before (items line.bytes) (behind_name axis (items line.bytes)) known.0 refl known.1 in
    subst (λ ps. IsRising before ps) known.2.2 (read_rises (bad_series name line) before own.0.pairs known.0.read rest.points own.1 (series_rises name known.0.axis known.0.read.last later rest known.2.1))

series_counts : (name : List ℕ) (axis : Axis) (before : Option Rational) (line : SourceLine) (later : List SourceLine) (read : SeriesRead) → series_lines name axis before (line ∷ later) ≡ Ok read → 0 < length read.points
unfolding series_lines series_line series_items
series_counts name axis before line later read h =
    let known = series_known (series_line name axis before line) (λ after last. series_lines name after last later) read h in
    let rest = known.2.0 in
    let own = line_known (bad_series name line) axis before (items line.bytes) (behind_name axis (items line.bytes)) known.0 refl known.1 in
    subst (λ ps. 0 < length ps) known.2.2 (more_points known.0.read.points rest.points (read_some (bad_series name line) before own.0.pairs known.0.read own.2 own.1))

pub series_fits : (name : List ℕ) (lines : List SourceLine) (read : SeriesRead) → 0 < length lines → series_lines name Open None lines ≡ Ok read → IsPointList read.points
series_fits name [] read some h = absurd (omega (arith, some))
series_fits name (line ∷ later) read some h =
    rising_list read.points (series_rises name Open None (line ∷ later) read h) (series_counts name Open None line later read h)

-- the same of what the code has
pub curve_now_fits : (name : List ℕ) (lines : List (Bor SourceLine)) (pointed : Bool) (points : List Point) → 0 < length lines → pointed ≡ has_point true (lines_now lines) → curve_lines name true pointed None (lines_now lines) ≡ Ok points → IsPointList points
curve_now_fits name lines pointed points some is h =
    lines_fit name (lines_now lines) points (omega (arith, some, length-map lines (λ line. line.now))) (subst (λ p. curve_lines name true p None (lines_now lines) ≡ Ok points) is h)

pub series_now_fits : (name : List ℕ) (lines : List (Bor SourceLine)) (points : List Point) (axis : Axis) → 0 < length lines → series_lines name Open None (lines_now lines) ≡ Ok (record { points = points; axis = axis }) → IsPointList points
series_now_fits name lines points axis some h =
    series_fits name (lines_now lines) (record { points = points; axis = axis }) (omega (arith, some, length-map lines (λ line. line.now))) h

-- The lines of a table one by one: what is read goes on to the next line, or ends at a refusal.
use Rattle.std.proofs.Common.{◌≡◌, ℕ, ◌+◌, ◌<◌, ◌≤◌, Bool, false, Option, None, Result, Ok, Err, List, [], ◌∷◌, ◌++◌, length, get_or, drop, refl, sym, ap, ap₂, ◌∙◌, arith, append_assoc}
use Rattle.std.specs.Borrow.{Bor}
use Rattle.std.proofs.lemmas.List.{drop_more, drop_all, append-nil}
use Rattle.exact_fraction.specs.Number.{Rational}
use Rattle.inp_text.specs.declared.source_line.SourceLine.{SourceLine}
use Rattle.rule_types.specs.declared.refusal.Refusal.{Refusal}
use Rattle.rule_types.specs.declared.table.Point.{Point}
use Rattle.curves_series.specs.Pairs.{LineRead, before_later}
use Rattle.curves_series.specs.Curves.{then_later, curve_line, curve_lines}
use Rattle.curves_series.specs.Series.{SeriesLine, SeriesRead, then_series, points_before, series_line, series_lines}
use Rattle.curves_series.specs.declared.axis.Axis.{Axis}
use Rattle.curves_series.specs.internal.Views.{lines_now, extended, extended_series}

-- the lines from one on
pub lines_at : (lines : List (Bor SourceLine)) (i : ℕ) (line : Bor SourceLine) → i < length lines → line ≡ get_or lines i line → lines_now (drop i lines) ≡ line.now ∷ lines_now (drop (i + 1) lines)
lines_at lines i line lt is = ap lines_now (drop_more lines i line lt ∙ ap (λ l. l ∷ drop (i + 1) lines) (sym is))

pub lines_end : (lines : List (Bor SourceLine)) (i : ℕ) → length lines ≤ i → lines_now (drop i lines) ≡ []
lines_end lines i most = ap lines_now (drop_all i lines most)

-- ---- curves
points_in : Result LineRead Refusal → List Point
points_in (Ok read) = read.points
points_in (Err refusal) = []

last_in : Result LineRead Refusal → Option Rational
last_in (Ok read) = read.last
last_in (Err refusal) = None

two_fronts : (old more : List Point) (later : Result (List Point) Refusal) → before_later (old ++ more) later ≡ before_later old (before_later more later)
two_fronts old more (Ok points) = ap Ok (append_assoc old more points)
two_fronts old more (Err refusal) = refl

goes_by : (due : Result LineRead Refusal) (later : Option Rational → Result (List Point) Refusal) (old new : List Point) (last : Option Rational) → extended old due ≡ Ok (record { points = new; last = last }) → before_later new (later last) ≡ before_later old (then_later due later)
unfolding points_in last_in
goes_by (Err refusal) later old new last h = grind arith
goes_by (Ok read) later old new last h =
    let front : old ++ read.points ≡ new = ap points_in h in
    let next : read.last ≡ last = ap last_in h in
    sym (ap₂ (λ points x. before_later points (later x)) front next) ∙ two_fronts old read.points (later read.last)

pub goes_on : (name : List ℕ) (is_first pointed : Bool) (before : Option Rational) (line : SourceLine) (later : List SourceLine) (old new : List Point) (last : Option Rational) → extended old (curve_line name is_first pointed before line) ≡ Ok (record { points = new; last = last }) → before_later new (curve_lines name false pointed last later) ≡ before_later old (curve_lines name is_first pointed before (line ∷ later))
unfolding curve_lines
goes_on name is_first pointed before line later old new last h =
    goes_by (curve_line name is_first pointed before line) (λ x. curve_lines name false pointed x later) old new last h

pub stops : (name : List ℕ) (is_first pointed : Bool) (before : Option Rational) (line : SourceLine) (later : List SourceLine) (old : List Point) (refusal : Refusal) → curve_line name is_first pointed before line ≡ Err refusal → before_later old (curve_lines name is_first pointed before (line ∷ later)) ≡ Err refusal
unfolding curve_lines
stops name is_first pointed before line later old refusal h =
    ap (λ due. before_later old (then_later due (λ x. curve_lines name false pointed x later))) h

pub ends : (name : List ℕ) (is_first pointed : Bool) (before : Option Rational) (old : List Point) → before_later old (curve_lines name is_first pointed before []) ≡ Ok old
unfolding curve_lines
ends name is_first pointed before old = ap Ok (append-nil old)

-- ---- series
series_points : Result SeriesLine Refusal → List Point
series_points (Ok found) = found.read.points
series_points (Err refusal) = []

series_last : Result SeriesLine Refusal → Option Rational
series_last (Ok found) = found.read.last
series_last (Err refusal) = None

series_axis : Axis → Result SeriesLine Refusal → Axis
series_axis axis (Ok found) = found.axis
series_axis axis (Err refusal) = axis

two_series : (old more : List Point) (later : Result SeriesRead Refusal) → points_before (old ++ more) later ≡ points_before old (points_before more later)
two_series old more (Ok read) = ap (λ points. Ok (record { points = points; axis = read.axis })) (append_assoc old more read.points)
two_series old more (Err refusal) = refl

series_by : (due : Result SeriesLine Refusal) (later : Axis → Option Rational → Result SeriesRead Refusal) (old new : List Point) (last : Option Rational) (axis : Axis) → extended_series old due ≡ Ok (record { read = record { points = new; last = last }; axis = axis }) → points_before new (later axis last) ≡ points_before old (then_series due later)
unfolding series_points series_last series_axis
series_by (Err refusal) later old new last axis h = grind arith
series_by (Ok found) later old new last axis h =
    let front : old ++ found.read.points ≡ new = ap series_points h in
    let next : found.read.last ≡ last = ap series_last h in
    let after : found.axis ≡ axis = ap (series_axis axis) h in
    sym (ap₂ (λ points x. points_before points (later found.axis x)) front next ∙ ap (λ a. points_before new (later a last)) after) ∙ two_series old found.read.points (later found.axis found.read.last)

pub series_goes_on : (name : List ℕ) (axis after : Axis) (before : Option Rational) (line : SourceLine) (later : List SourceLine) (old new : List Point) (last : Option Rational) → extended_series old (series_line name axis before line) ≡ Ok (record { read = record { points = new; last = last }; axis = after }) → points_before new (series_lines name after last later) ≡ points_before old (series_lines name axis before (line ∷ later))
unfolding series_lines
series_goes_on name axis after before line later old new last h =
    series_by (series_line name axis before line) (λ a x. series_lines name a x later) old new last after h

pub series_stops : (name : List ℕ) (axis : Axis) (before : Option Rational) (line : SourceLine) (later : List SourceLine) (old : List Point) (refusal : Refusal) → series_line name axis before line ≡ Err refusal → points_before old (series_lines name axis before (line ∷ later)) ≡ Err refusal
unfolding series_lines
series_stops name axis before line later old refusal h =
    ap (λ due. points_before old (then_series due (λ a x. series_lines name a x later))) h

pub series_ends : (name : List ℕ) (axis : Axis) (before : Option Rational) (old : List Point) → points_before old (series_lines name axis before []) ≡ Ok (record { points = old; axis = axis })
unfolding series_lines
series_ends name axis before old = ap (λ points. Ok (record { points = points; axis = axis })) (append-nil old)

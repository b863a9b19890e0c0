-- The number of cells, and that few cells have few pieces.
use Rattle.std.proofs.Common.{◌≡◌, ℕ, zero, suc, ◌+◌, ◌*◌, ◌-◌, ◌^◌, ◌<◌, ◌≤◌, Bool, true, false, List, [], ◌∷◌, ◌++◌, length, map, min, nat_lt, refl, sym, subst, ap, ◌∙◌, arith, ℤ}
use Rattle.std.proofs.lemmas.Bool.Decides.{nat_tests}
use Rattle.std.proofs.Math.Nat.{le-mul_of_pos_right, mul_assoc, mul_comm, mul-pos, mul_right_comm, mul-suc, mul-zero}
use Rattle.std.proofs.lemmas.List.Elements.{All-cons, All-head, All-nil, All-tail}
use Rattle.std.specs.Prelude.{All, if◌then◌else◌}
use Rattle.exact_fraction.specs.Number.{Rational}
use Rattle.interval_sets.specs.declared.interval.Interval.{Interval}
use Rattle.rule_types.specs.declared.key.Key.{Key}
use Rattle.rule_types.specs.declared.rules.Rules.{Rules}
use Rattle.verdict_meaning.specs.declared.question.Question.{Question}
use Rattle.verdict_meaning.specs.Grids.{axes_of, cuts_of, pieces_of, product_of_lengths, spans_to}
use Rattle.verdict_meaning.specs.Verdicts.{written_count}
use Rattle.grid_blocks.specs.declared.grid.KeyCuts.{KeyCuts}
use Rattle.grid_blocks.specs.GridBoxes.{piece_count}
use Rattle.grid_cuts.specs.internal.Gridded.{axis_of, piece_product}

-- ---- lengths

pieces_length : (cuts : List Rational) → length (pieces_of cuts) ≡ piece_count cuts
unfolding pieces_of
pieces_length [] = refl
pieces_length (p ∷ []) = refl
pieces_length (p ∷ q ∷ cuts) =
    let later : length (pieces_of (q ∷ cuts)) ≡ piece_count (q ∷ cuts) =
    pieces_length (q ∷ cuts) in
    omega (arith, later)

pub spans_length : (last : ℤ) (firsts : List ℤ)
    → length (spans_to last firsts) ≡ length firsts
unfolding spans_to
spans_length last [] = refl
spans_length last (first ∷ []) = refl
spans_length last (first ∷ next ∷ firsts) = ap suc (spans_length last (next ∷ firsts))

pub product_is : (x : Rules) (question : Question) (entries : List (Key × Interval))
    → product_of_lengths (axes_of x question entries)
    ≡ piece_product (map (axis_of x question) entries)
unfolding product_of_lengths axes_of piece_product
product_is x question [] = refl
product_is x question (entry ∷ entries) =
    ap (λ n. n * product_of_lengths (axes_of x question entries))
    (pieces_length (cuts_of x question entry.0 entry.1))
    ∙ ap (λ n. piece_count (cuts_of x question entry.0 entry.1) * n)
    (product_is x question entries)

-- ---- the count as it is written

written_by : (most n : ℕ) (t : Bool) → nat_lt most n ≡ t → (if t then most else n) ≡ min n most
written_by most n true e = let past : most < n = grind (arith, nat_tests) in omega arith
written_by most n false e = let within : n ≤ most = grind (arith, nat_tests) in omega arith

written_is : (n : ℕ) → written_count n ≡ min n (2 ^ 64 - 1)
written_is n = written_by (2 ^ 64 - 1) n (nat_lt (2 ^ 64 - 1) n) refl

saturates_by : (most n b : ℕ) (t : Bool) → nat_lt most n ≡ t
    → min (min n most * suc b) most ≡ min (n * suc b) most
saturates_by most n b true e =
    let past : most < n = grind (arith, nat_tests) in
    let low : min n most ≡ most = omega arith in
    let here : most * suc b ≡ most * b + most = mul-suc most b in
    let there : n * suc b ≡ n * b + n = mul-suc n b in
    let least : min (most * suc b) most ≡ min (n * suc b) most = omega (arith, here, there) in
    ap (λ k. min (k * suc b) most) low ∙ least
saturates_by most n b false e =
    let within : n ≤ most = grind (arith, nat_tests) in
    let same : min n most ≡ n = omega arith in
    ap (λ k. min (k * suc b) most) same

saturates : (most n b : ℕ) → min (min n most * b) most ≡ min (n * b) most
saturates most n zero = ap (λ k. min k most) (mul-zero (min n most) ∙ sym (mul-zero n))
saturates most n (suc b) = saturates_by most n b (nat_lt most n) refl

pub first_written : (m : ℕ) → m < 2 ^ 64 → m ≡ written_count (piece_product [] * m)
unfolding piece_product
first_written m fits =
    let is : m ≡ min (1 * m) (2 ^ 64 - 1) = omega arith in is ∙ sym (written_is (1 * m))

product_last : (axes : List KeyCuts) (axis : KeyCuts)
    → piece_product (axes ++ axis ∷ []) ≡ piece_product axes * piece_count axis.cuts
unfolding piece_product
product_last [] axis = mul_comm (piece_count axis.cuts) 1
product_last (other ∷ axes) axis =
    ap (λ n. piece_count other.cuts * n) (product_last axes axis)
    ∙ sym (mul_assoc (piece_count other.cuts) (piece_product axes) (piece_count axis.cuts))

pub one_more_written : (so_far all : List KeyCuts) (axis : KeyCuts) (m before after : ℕ)
    → all ≡ so_far ++ axis ∷ [] → before ≡ written_count (piece_product so_far * m)
    → after ≡ min (before * piece_count axis.cuts) (2 ^ 64 - 1)
    → after ≡ written_count (piece_product all * m)
one_more_written so_far all axis m before after is h k =
    k
    ∙ ap (λ n. min (n * piece_count axis.cuts) (2 ^ 64 - 1))
    (h ∙ written_is (piece_product so_far * m))
    ∙ saturates (2 ^ 64 - 1) (piece_product so_far * m) (piece_count axis.cuts)
    ∙ ap (λ n. min n (2 ^ 64 - 1)) (mul_right_comm (piece_product so_far) m (piece_count axis.cuts))
    ∙ sym (written_is (piece_product so_far * piece_count axis.cuts * m))
    ∙ ap (λ n. written_count (n * m)) (sym (ap piece_product is ∙ product_last so_far axis))

-- ---- few cells have few pieces

chain : (a b c : ℕ) → a ≤ b → b ≤ c → a ≤ c
chain a b c h k = omega arith

pub product_some : (axes : List KeyCuts) → All (λ axis. 0 < piece_count axis.cuts) axes
    → 0 < piece_product axes
unfolding piece_product
product_some [] all = omega arith
product_some (axis ∷ axes) all =
    mul-pos (All-head (λ other. 0 < piece_count other.cuts) axis axes all)
    (product_some axes (All-tail (λ other. 0 < piece_count other.cuts) axis axes all))

pub few_each : (axes : List KeyCuts) (m : ℕ) → All (λ axis. 0 < piece_count axis.cuts) axes
    → 0 < m → All (λ axis. piece_count axis.cuts ≤ piece_product axes * m) axes
unfolding piece_product
few_each [] m all some = All-nil (λ axis. piece_count axis.cuts ≤ piece_product [] * m)
few_each (axis ∷ axes) m all some =
    let here = All-head (λ other. 0 < piece_count other.cuts) axis axes all in
    let more = All-tail (λ other. 0 < piece_count other.cuts) axis axes all in
    let first : piece_count axis.cuts ≤ piece_count axis.cuts * piece_product axes =
    le-mul_of_pos_right (piece_count axis.cuts) (product_some axes more) in
    let last : piece_count axis.cuts * piece_product axes
    ≤ piece_count axis.cuts * piece_product axes * m =
    le-mul_of_pos_right (piece_count axis.cuts * piece_product axes) some in
    let same : piece_product axes * (piece_count axis.cuts * m)
    ≡ piece_count axis.cuts * piece_product axes * m =
    sym (mul_assoc (piece_product axes) (piece_count axis.cuts) m)
    ∙ ap (λ n. n * m) (mul_comm (piece_product axes) (piece_count axis.cuts)) in
    All-cons
    (λ other. piece_count other.cuts ≤ piece_count axis.cuts * piece_product axes * m) axis axes
    (chain (piece_count axis.cuts) (piece_count axis.cuts * piece_product axes)
    (piece_count axis.cuts * piece_product axes * m) first last)
    (subst (λ n. All (λ other. piece_count other.cuts ≤ n) axes) same
    (few_each axes (piece_count axis.cuts * m) more (mul-pos here some)))

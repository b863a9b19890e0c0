-- Steps of making the lengths of a grid and the box of a block.
use Rattle.std.proofs.Common.{◌≡◌, ℕ, zero, suc, ◌+◌, ◌<◌, ◌≤◌, ◌^◌, false}
use Rattle.std.proofs.Common.{Option, Some, None, List, [], ◌∷◌, ◌++◌, length, get_or, map, take}
use Rattle.std.proofs.Common.{drop, ℤ, ◌<ℤ◌}
use Rattle.std.proofs.Common.{refl, sym, ap, ap₂, subst, ◌∙◌, arith, length-append}
use Rattle.std.specs.Prelude.{All, IfSome, slice_get}
use Rattle.std.specs.List.{list_any}
use Rattle.std.specs.Option.{unwrap_or}
use Rattle.std.proofs.lemmas.Bool.{or_parts}
use Rattle.std.proofs.lemmas.Bool.Decides.{nat_tests}
use Rattle.std.proofs.lemmas.List.{get_or-map, length-map, get_or_append_left, get_or_at}
use Rattle.std.proofs.lemmas.List.{get_or_default, drop_more}
use Rattle.std.proofs.lemmas.Option.{get_or_from_slice_get, slice_get_within, unwrap_or-slice_get}
use Rattle.interval_sets.specs.declared.interval.Interval.{Interval}
use Rattle.rule_types.specs.declared.key.Key.{Key}
use Rattle.block_search.specs.declared.span.Span.{Span}
use Rattle.block_search.specs.Blocks.{IsWithin, is_none}
use Rattle.grid_blocks.specs.declared.grid.Grid.{Grid}
use Rattle.grid_blocks.specs.declared.grid.KeyCuts.{KeyCuts}
use Rattle.grid_blocks.specs.declared.grid.MomentPieces.{MomentPieces}
use Rattle.grid_blocks.specs.GridBoxes.{box_of, first_moment, interval_of, keys_of, lengths}
use Rattle.grid_blocks.specs.GridBoxes.{moment_lengths, moments_in, moments_of, piece_count}
use Rattle.grid_blocks.specs.GridOrder.{AreFirstsTo}
use Rattle.grid_blocks.specs.GridsOf.{HasFewPieces}
use Rattle.grid_blocks.proofs.Records.{cell_with, count_of, entry_of}

-- what is not there is read as another value
pub read_none : {X : Type 0} (xs : List X) (at : ℕ) (d : X) → slice_get xs at ≡ None
    → d ≡ get_or xs at d
read_none xs at d e = sym (ap (λ o. unwrap_or o d) e) ∙ unwrap_or-slice_get xs at d

-- ---- lengths
pub few_of_keys : (grid : Grid) → HasFewPieces grid
    → All (λ axis. piece_count axis.cuts < 2 ^ 32) grid.keys
unfolding lengths
few_of_keys grid few at d within =
    let counts = map count_of grid.keys in
    let there : at < length counts = omega (arith, within, length-map grid.keys count_of) in
    let long : at < length (counts ++ moment_lengths grid.moments) =
    omega (arith, there, length-append counts (moment_lengths grid.moments)) in
    let read : get_or (counts ++ moment_lengths grid.moments) at 0
    ≡ count_of (get_or grid.keys at d) =
    get_or_append_left counts (moment_lengths grid.moments) 0 at there
    ∙ get_or-map count_of grid.keys at d 0 within in
    subst (λ n. n < 2 ^ 32) read (few at 0 long)

pub few_of_moments : (grid : Grid) (pieces : MomentPieces) → HasFewPieces grid
    → grid.moments ≡ Some pieces → length pieces.firsts < 2 ^ 32
unfolding lengths
few_of_moments grid pieces few is =
    let counts = map count_of grid.keys in
    let count = length pieces.firsts in
    let all : counts ++ moment_lengths grid.moments ≡ counts ++ count ∷ [] =
    ap (λ moments. counts ++ moment_lengths moments) is in
    let within : length counts < length (counts ++ count ∷ []) =
    omega (arith, length-append counts (count ∷ [])) in
    let long : length counts < length (counts ++ moment_lengths grid.moments) =
    subst (λ list. length counts < length list) (sym all) within in
    let read : get_or (counts ++ moment_lengths grid.moments) (length counts) 0 ≡ count =
    ap (λ list. get_or list (length counts) 0) all
    ∙ get_or_at counts count [] 0 (length counts) refl in
    subst (λ n. n < 2 ^ 32) read (few (length counts) 0 long)

-- ---- a block of a grid
pub block_length : (counts : List ℕ) (block : List Span) → IsWithin counts block
    → length block ≡ length counts
unfolding IsWithin
block_length [] [] h = refl
block_length [] (span ∷ block) h = absurd h
block_length (count ∷ counts) [] h = absurd h
block_length (count ∷ counts) (span ∷ block) h = ap suc (block_length counts block h.1)

pub enough_runs : (grid : Grid) (block : List Span) → IsWithin (lengths grid) block
    → length grid.keys ≤ length block
unfolding lengths
enough_runs grid block h =
    let counts = map count_of grid.keys in
    let same = block_length (counts ++ moment_lengths grid.moments) block h in
    omega
    (arith, same, length-append counts (moment_lengths grid.moments), length-map grid.keys count_of)

pub run_of_moments : (grid : Grid) (pieces : MomentPieces) (block : List Span)
    → IsWithin (lengths grid) block → grid.moments ≡ Some pieces
    → length grid.keys < length block
unfolding lengths
run_of_moments grid pieces block h is =
    let counts = map count_of grid.keys in
    let same = block_length (counts ++ moment_lengths grid.moments) block h in
    let one : length (moment_lengths grid.moments) ≡ 1 =
    ap (λ moments. length (moment_lengths moments)) is in
    omega (
      arith,
      same,
      one,
      length-append counts (moment_lengths grid.moments),
      length-map grid.keys count_of,
    )

-- a run of a block that has a cell
some_by : (span : Span) (block : List Span) → list_any is_none (span ∷ block) ≡ false
    → (is_none span ≡ false) × (list_any is_none block ≡ false)
some_by span block h = or_parts (is_none span) (list_any is_none block) h

pub some_piece : (block : List Span) (at : ℕ) (span : Span) → list_any is_none block ≡ false
    → at < length block → span ≡ get_or block at span → span.low < span.high
some_piece [] at span h within is = absurd (omega (arith, within))
some_piece (first ∷ block) zero span h within is =
    let some = (some_by first block h).0 in
    let low : first.low < first.high = grind (arith, nat_tests) in
    subst (λ s. s.low < s.high) (sym is) low
some_piece (first ∷ block) (suc at) span h within is =
    some_piece block at span (some_by first block h).1 (omega (arith, within)) is

-- ---- the entries of keys
abbrev pub pair_of : Key → Interval → Key × Interval
pair_of key piece = (key, piece)

pub keys_more : (axes : List KeyCuts) (block : List Span) (at : ℕ) (axis : KeyCuts) (span : Span)
    → at < length axes → at < length block → axis ≡ get_or axes at axis
    → span ≡ get_or block at span
    → keys_of (take (at + 1) axes) block
    ≡ keys_of (take at axes) block ++ entry_of axis span ∷ []
unfolding keys_of
keys_more [] block at axis span h k e f = absurd (omega (arith, h))
keys_more (first ∷ axes) [] at axis span h k e f = absurd (omega (arith, k))
keys_more (first ∷ axes) (one ∷ block) zero axis span h k e f =
    ap₂ (λ a s. entry_of a s ∷ []) (sym e) (sym f)
keys_more (first ∷ axes) (one ∷ block) (suc at) axis span h k e f =
    let next : suc at + 1 ≡ suc (at + 1) = omega arith in
    ap (λ n. keys_of (take n (first ∷ axes)) (one ∷ block)) next
    ∙ ap (λ more. entry_of first one ∷ more)
    (keys_more axes block at axis span (omega (arith, h)) (omega (arith, k)) e f)

-- one more entry of the loop
pub entry_pushed : (axes : List KeyCuts) (block : List Span) (at : ℕ) (axis : KeyCuts) (d : Span)
    (piece : Interval) (was now : List (Key × Interval)) → at < length axes
    → length axes ≤ length block → axis ≡ get_or axes at axis
    → piece ≡ interval_of axis.cuts (get_or block at d)
    → was ≡ keys_of (take at axes) block → now ≡ was ++ pair_of axis.key piece ∷ []
    → now ≡ keys_of (take (at + 1) axes) block
entry_pushed axes block at axis d piece was now h enough e f old new =
    let there : at < length block = omega (arith, h, enough) in
    new
    ∙ ap₂ (λ list p. list ++ pair_of axis.key p ∷ []) old f
    ∙ sym
    (keys_more axes block at axis (get_or block at d) h there e
    (get_or_default block at d (get_or block at d) there))

-- ---- the box of a block
pub moments_some : (grid : Grid) (pieces : MomentPieces) (block : List Span) (at : ℕ) (d : Span)
    → IsWithin (lengths grid) block → list_any is_none block ≡ false
    → grid.moments ≡ Some pieces → at ≡ length grid.keys
    → (get_or block at d).low < (get_or block at d).high
moments_some grid pieces block at d h some is e =
    let last = run_of_moments grid pieces block h is in
    let within : at < length block = omega (arith, last, e) in
    some_piece block at (get_or block at d) some within
    (get_or_default block at d (get_or block at d) within)

moments_read : (pieces : MomentPieces) (block : List Span) (at : ℕ) (d : Span)
    → at < length block
    → moments_of (Some pieces) (drop at block) ≡ Some (moments_in pieces (get_or block at d))
unfolding moments_of
moments_read pieces block at d within =
    ap (moments_of (Some pieces)) (drop_more block at d within)

pub box_with_moments : (grid : Grid) (pieces : MomentPieces) (block : List Span) (at : ℕ)
    (d : Span) (keys : List (Key × Interval)) (moments : ℤ × ℤ) → IsWithin (lengths grid) block
    → grid.moments ≡ Some pieces → at ≡ length grid.keys → keys ≡ keys_of grid.keys block
    → moments ≡ moments_in pieces (get_or block at d)
    → cell_with keys (Some moments) ≡ box_of grid block
unfolding box_of
box_with_moments grid pieces block at d keys moments h is e alike same =
    let last = run_of_moments grid pieces block h is in
    let within : at < length block = omega (arith, last, e) in
    ap₂ cell_with alike
    (ap Some same
    ∙ sym (moments_read pieces block at d within)
    ∙ ap₂ (λ found n. moments_of found (drop n block)) (sym is) e)

pub box_without_moments : (grid : Grid) (block : List Span) (keys : List (Key × Interval))
    → grid.moments ≡ None → keys ≡ keys_of grid.keys block
    → cell_with keys None ≡ box_of grid block
unfolding box_of moments_of
box_without_moments grid block keys is alike =
    ap₂ cell_with alike (ap (λ found. moments_of found (drop (length grid.keys) block)) (sym is))

-- ---- moments
later_by : (pieces : MomentPieces) (low high : ℕ) (next : Option ℤ)
    → AreFirstsTo pieces.last pieces.firsts → low < high
    → slice_get pieces.firsts high ≡ next
    → IfSome next (λ later. first_moment pieces low <ℤ later)
later_by pieces low high None order h is = tt
later_by pieces low high (Some later) order h is =
    subst (λ m. first_moment pieces low <ℤ m)
    (get_or_from_slice_get pieces.firsts high later pieces.last is)
    (order.rising low high pieces.last h (slice_get_within pieces.firsts high later is))

pub later_first : (pieces : MomentPieces) (low high : ℕ) (first : ℤ)
    → AreFirstsTo pieces.last pieces.firsts → low < high → first ≡ first_moment pieces low
    → IfSome (slice_get pieces.firsts high) (λ later. first <ℤ later)
later_first pieces low high first order h is =
    subst (λ m. IfSome (slice_get pieces.firsts high) (λ later. m <ℤ later)) (sym is)
    (later_by pieces low high (slice_get pieces.firsts high) order h refl)

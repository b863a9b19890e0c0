-- The entry of one axis in the box of a block.
use Rattle.std.proofs.Common.{◌≡◌, ℕ, zero, suc, ◌<◌, true, false, Some, List, [], ◌∷◌}
use Rattle.std.proofs.Common.{length, get_or, map, refl, sym, ap, subst, ◌∙◌, arith}
use Rattle.std.specs.Prelude.{slice_get, slice_set, if◌then◌else◌}
use Rattle.std.proofs.lemmas.Bool.{true≢false, false_from_ne_true}
use Rattle.std.proofs.lemmas.List.{length-map, get_or-map}
use Rattle.std.proofs.lemmas.Option.{get_or_from_slice_get, slice_get_within}
use Rattle.std.proofs.lemmas.Slice.Eq.{bytes_eq-Decides}
use Rattle.interval_sets.specs.declared.interval.Interval.{Interval}
use Rattle.rule_types.specs.declared.key.Key.{Key}
use Rattle.rule_types.specs.KeyOrder.{key_place}
use Rattle.block_search.specs.declared.span.Span.{Span}
use Rattle.verdict_meaning.specs.Certificates.{with_piece}
use Rattle.verdict_meaning.specs.Reaches.{piece_in, same_key}
use Rattle.grid_blocks.specs.declared.grid.KeyCuts.{KeyCuts}
use Rattle.grid_blocks.specs.GridBoxes.{interval_of, keys_of}
use Rattle.grid_blocks.specs.GridOrder.{AreDistinct, key_of}
use Rattle.grid_blocks.proofs.Records.{entry_of}

-- ---- keys that are the same
pub same_itself : (key : Key) → same_key key key ≡ true
same_itself key = (bytes_eq-Decides (key_place key) (key_place key)).1 refl

pub apart_back : (key other : Key) → same_key key other ≡ false → same_key other key ≡ false
apart_back key other apart =
    false_from_ne_true (same_key other key)
    (λ same.
    true≢false
    (sym
    ((bytes_eq-Decides (key_place key) (key_place other)).1
    (sym ((bytes_eq-Decides (key_place other) (key_place key)).0 same)))
    ∙ apart))

-- the first of distinct keys is no later one, and the later ones are distinct
first_apart : (first : KeyCuts) (axes : List KeyCuts) (at : ℕ) (axis : KeyCuts)
    → AreDistinct (map key_of (first ∷ axes)) → slice_get axes at ≡ Some axis
    → same_key axis.key first.key ≡ false
first_apart first axes at axis distinct get =
    let within : at < length axes = slice_get_within axes at axis get in
    let more : suc at < length (map key_of (first ∷ axes)) =
    omega (arith, within, length-map axes key_of) in
    let here : get_or (map key_of axes) at first.key ≡ axis.key =
    get_or-map key_of axes at first first.key within
    ∙ ap key_of (get_or_from_slice_get axes at axis first get) in
    apart_back first.key axis.key
    (subst (λ key. same_key first.key key ≡ false) here
    (distinct 0 (suc at) first.key (omega arith) more))

later_distinct : (first : Key) (keys : List Key) → AreDistinct (first ∷ keys) → AreDistinct keys
later_distinct first keys distinct i j d h k =
    distinct (suc i) (suc j) d (omega (arith, h)) (omega (arith, k))

-- ---- one entry, by its test
found_here : (key : Key) (entry : Key × Interval) (more : List (Key × Interval))
    → same_key key entry.0 ≡ true → piece_in key (entry ∷ more) ≡ Some entry.1
unfolding piece_in
found_here key entry more same =
    ap (λ b. if b then Some entry.1 else piece_in key more) same

found_later : (key : Key) (entry : Key × Interval) (more : List (Key × Interval))
    → same_key key entry.0 ≡ false → piece_in key (entry ∷ more) ≡ piece_in key more
unfolding piece_in
found_later key entry more apart =
    ap (λ b. if b then Some entry.1 else piece_in key more) apart

changed_here : (key : Key) (piece : Interval) (entry : Key × Interval)
    (more : List (Key × Interval)) → same_key key entry.0 ≡ true
    → with_piece key piece (entry ∷ more) ≡ (entry.0, piece) ∷ more
unfolding with_piece
changed_here key piece entry more same =
    ap (λ b. if b then (entry.0, piece) ∷ more else entry ∷ with_piece key piece more) same

changed_later : (key : Key) (piece : Interval) (entry : Key × Interval)
    (more : List (Key × Interval)) → same_key key entry.0 ≡ false
    → with_piece key piece (entry ∷ more) ≡ entry ∷ with_piece key piece more
unfolding with_piece
changed_later key piece entry more apart =
    ap (λ b. if b then (entry.0, piece) ∷ more else entry ∷ with_piece key piece more) apart

-- ---- the entry of an axis
same_axis : (a b : KeyCuts) → Some a ≡ Some b → a ≡ b
same_axis a b e = grind arith

same_span : (a b : Span) → Some a ≡ Some b → a ≡ b
same_span a b e = grind arith

pub piece_of_axis : (axes : List KeyCuts) (block : List Span) (at : ℕ) (axis : KeyCuts)
    (span : Span) → AreDistinct (map key_of axes) → slice_get axes at ≡ Some axis
    → slice_get block at ≡ Some span
    → piece_in axis.key (keys_of axes block) ≡ Some (interval_of axis.cuts span)
unfolding keys_of
piece_of_axis [] block at axis span distinct get run = absurd (grind arith)
piece_of_axis (first ∷ axes) [] at axis span distinct get run = absurd (grind arith)
piece_of_axis (first ∷ axes) (one ∷ block) zero axis span distinct get run =
    let same : first ≡ axis = same_axis first axis get in
    let is : one ≡ span = same_span one span run in
    found_here axis.key (entry_of first one) (keys_of axes block)
    (ap (λ a. same_key axis.key a.key) same ∙ same_itself axis.key)
    ∙ ap (λ a. Some (interval_of a.cuts one)) same
    ∙ ap (λ s. Some (interval_of axis.cuts s)) is
piece_of_axis (first ∷ axes) (one ∷ block) (suc at) axis span distinct get run =
    found_later axis.key (entry_of first one) (keys_of axes block)
    (first_apart first axes at axis distinct get)
    ∙ piece_of_axis axes block at axis span
    (later_distinct first.key (map key_of axes) distinct) get run

pub with_axis : (axes : List KeyCuts) (block : List Span) (at : ℕ) (axis : KeyCuts) (new : Span)
    → AreDistinct (map key_of axes) → slice_get axes at ≡ Some axis → at < length block
    → with_piece axis.key (interval_of axis.cuts new) (keys_of axes block)
    ≡ keys_of axes (slice_set block at new)
unfolding keys_of
with_axis [] block at axis new distinct get within = absurd (grind arith)
with_axis (first ∷ axes) [] at axis new distinct get within = absurd (omega (arith, within))
with_axis (first ∷ axes) (one ∷ block) zero axis new distinct get within =
    let same : first ≡ axis = same_axis first axis get in
    changed_here axis.key (interval_of axis.cuts new) (entry_of first one) (keys_of axes block)
    (ap (λ a. same_key axis.key a.key) same ∙ same_itself axis.key)
    ∙ ap (λ a. (first.key, interval_of a.cuts new) ∷ keys_of axes block) (sym same)
with_axis (first ∷ axes) (one ∷ block) (suc at) axis new distinct get within =
    changed_later axis.key (interval_of axis.cuts new) (entry_of first one) (keys_of axes block)
    (first_apart first axes at axis distinct get)
    ∙ ap (λ more. entry_of first one ∷ more)
    (with_axis axes block at axis new (later_distinct first.key (map key_of axes) distinct) get
    (omega (arith, within)))

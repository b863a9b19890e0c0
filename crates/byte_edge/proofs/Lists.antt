-- Parts of lists, and the lines in them.
use Rattle.std.proofs.Common.{◌≡◌, ℕ, ◌+◌, ◌-◌, ◌<◌, ◌≤◌, min, List, [], ◌++◌, length, take, drop, slice_range, sym, ◌∙◌, ap, arith, length-take}
use Rattle.std.proofs.lemmas.List.{drop-take, drop-drop, take-append-drop, nil_from_length}

-- the range that begins `n` later
pub slice_range-later : (xs : List ℕ) (start n end : ℕ) → start ≤ end → n ≤ length (slice_range xs start end) → slice_range xs (start + n) end ≡ drop n (slice_range xs start end)
slice_range-later xs start n end ordered short =
    let within : n ≤ end - start = omega (arith, length-take (end - start) (drop start xs)) in
    let split : end - start ≡ n + (end - (start + n)) = omega arith in
    rw split (ap (take (end - (start + n))) (sym (drop-drop n start xs)) ∙ sym (drop-take n (end - (start + n)) (drop start xs)))

-- what a read takes off a slot's bytes
pub read-front : (place count : ℕ) (bytes given : List ℕ) → take count given ≡ take count (drop place bytes) → drop place bytes ≡ take count given ++ drop (place + count) bytes
read-front place count bytes given is =
    sym (take-append-drop count (drop place bytes)) ∙ ap (λ l. l ++ drop count (drop place bytes)) (sym is) ∙ ap (λ l. take count given ++ l) (drop-drop count place bytes)

-- a read of no bytes comes at the end alone
pub read-none : (place count room cut : ℕ) (bytes : List ℕ) → count ≡ min (length (drop place bytes)) (min room cut) → 1 ≤ cut → 0 < room → count ≡ 0 → drop (place + count) bytes ≡ []
read-none place count room cut bytes is some_cut some_room none =
    let at : place + count ≡ place = omega arith in
    rw at (nil_from_length (drop place bytes) (omega arith))

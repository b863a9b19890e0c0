-- What a run of writes adds to the bytes written.
use Rattle.std.proofs.Common.{◌≡◌, ℕ, ◌+◌, ◌-◌, ◌≤◌, List, [], ◌++◌, length, take, drop, Some, None, Option, ◌∙◌, ap, sym, subst, arith, length-append, append-nil, append_assoc, length-take}
use Rattle.std.specs.Io.KnownBytes.{Appends, Keeps}
use Rattle.std.proofs.KnownBytes.{Appends-trans}
use Rattle.std.proofs.Math.Seq.{take-add, take-append-add}
use Rattle.std.proofs.lemmas.List.{length-take-le, take-append-le}
use Rattle.byte_edge.specs.Devices.{AppendsPrefix}

-- a piece more was written
pub Appends-piece : (a b c : Option (List ℕ)) (xs : List ℕ) (at n : ℕ) → Appends a b (take at xs) → Appends b c (take n (drop at xs)) → Appends a c (take (at + n) xs)
Appends-piece a b c xs at n first more = rw (take-add at n xs) (Appends-trans a b c _ _ first more)

added : (xs ys piece : List ℕ) (n : ℕ) → n ≤ length piece → ys ≡ xs ++ take n piece → ys ≡ xs ++ take (length ys - length xs) piece
added xs ys piece n bound is =
    let count : length ys - length xs ≡ n = omega (arith, ap length is, length-append xs (take n piece), length-take-le n piece bound) in
    rw count is

-- a write failed after the first `n` bytes
pub Appends-cut : (a b c : Option (List ℕ)) (xs : List ℕ) (n : ℕ) → n ≤ length xs → Appends a b (take n xs) → Keeps b c → AppendsPrefix a c xs
Appends-cut None b c xs n bound first kept = tt
Appends-cut (Some old) (Some mid) (Some new) xs n bound first kept = added old new xs n bound (kept ∙ first)
Appends-cut (Some old) (Some mid) None xs n bound first kept = kept
Appends-cut (Some old) None c xs n bound first kept = absurd first

pub Appends-nothing : (known : Option (List ℕ)) → Appends known known []
Appends-nothing None = tt
Appends-nothing (Some xs) = sym (append-nil xs)

-- one text after the other
pub Appends-then : (was mid now : Option (List ℕ)) (first second : List ℕ)
    → Appends was mid first → Appends mid now second → Appends was now (first ++ second)
Appends-then None mid now first second p q = tt
Appends-then (Some xs) None now first second p q = absurd p
Appends-then (Some xs) (Some ys) None first second p q = absurd q
Appends-then (Some xs) (Some ys) (Some zs) first second p q =
    q ∙ ap (λ bytes. bytes ++ second) p ∙ append_assoc xs first second

pub Appends-same : (was now : Option (List ℕ)) (text other : List ℕ) → text ≡ other → Appends was now text → Appends was now other
Appends-same was now text other e p = let P : List ℕ → Type 0 = λ bytes. Appends was now bytes in subst P e p

prefix-of_parts : (xs ys zs text piece rest : List ℕ) → ys ≡ xs ++ text → zs ≡ ys ++ take (length zs - length ys) piece
    → zs ≡ xs ++ take (length zs - length xs) (text ++ (piece ++ rest))
prefix-of_parts xs ys zs text piece rest p q =
    let count : ℕ = length zs - length ys in
    let len_y : length ys ≡ length xs + length text = ap length p ∙ length-append xs text in
    let len_z : length zs ≡ length ys + length (take count piece) = ap length q ∙ length-append ys (take count piece) in
    let within : count ≤ length piece = omega (arith, length-take count piece) in
    let whole : length zs - length xs ≡ length text + count = omega arith in
    q ∙ ap (λ bytes. bytes ++ take count piece) p ∙ append_assoc xs text (take count piece)
    ∙ ap (λ bytes. xs ++ (text ++ bytes)) (sym (take-append-le count piece rest within))
    ∙ ap (λ bytes. xs ++ bytes) (sym (take-append-add text (piece ++ rest) count))
    ∙ ap (λ n. xs ++ take n (text ++ (piece ++ rest))) (sym whole)

-- a text, and then a prefix of the next piece, is a prefix of all there is to write
pub AppendsPrefix-after : (was mid now : Option (List ℕ)) (text piece rest : List ℕ)
    → Appends was mid text → AppendsPrefix mid now piece → AppendsPrefix was now (text ++ (piece ++ rest))
AppendsPrefix-after None mid now text piece rest p q = tt
AppendsPrefix-after (Some xs) None now text piece rest p q = absurd p
AppendsPrefix-after (Some xs) (Some ys) None text piece rest p q = absurd q
AppendsPrefix-after (Some xs) (Some ys) (Some zs) text piece rest p q = prefix-of_parts xs ys zs text piece rest p q

-- a text is a prefix of what begins with it
pub AppendsPrefix-of : (was now : Option (List ℕ)) (text rest : List ℕ) → Appends was now text → AppendsPrefix was now (text ++ rest)
AppendsPrefix-of None now text rest p = tt
AppendsPrefix-of (Some xs) None text rest p = absurd p
AppendsPrefix-of (Some xs) (Some ys) text rest p =
    let count : length ys - length xs ≡ length text + 0 = omega (arith, ap length p, length-append xs text) in
    p ∙ ap (λ bytes. xs ++ bytes) (sym (append-nil text))
    ∙ ap (λ bytes. xs ++ bytes) (sym (take-append-add text rest 0))
    ∙ ap (λ n. xs ++ take n (text ++ rest)) (sym count)

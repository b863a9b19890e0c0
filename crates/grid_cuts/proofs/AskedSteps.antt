-- The numbers of a question's rules, one number at a time.
use Rattle.std.proofs.Common.{◌≡◌, ℕ, zero, suc, ◌+◌, Bool, List, [], ◌∷◌, ◌++◌, sym, ap, ◌∙◌, arith}
use Rattle.std.proofs.lemmas.List.Elements.{filter-append}
use Rattle.std.specs.Prelude.{filter, if◌then◌else◌}
use Rattle.std.specs.List.{range_with_len}

range_from : (a n : ℕ) → range_with_len a (suc n) ≡ range_with_len a n ++ (a + n) ∷ []
range_from a zero = ap (λ k. k ∷ []) (let e : a ≡ a + 0 = omega arith in e)
range_from a (suc n) =
    ap (λ l. a ∷ l) (range_from (a + 1) n)
    ∙ ap (λ k. a ∷ range_with_len (a + 1) n ++ k ∷ [])
    (let e : a + 1 + n ≡ a + suc n = omega arith in e)

range_more : (n : ℕ) → range_with_len 0 (n + 1) ≡ range_with_len 0 n ++ n ∷ []
range_more n =
    ap (range_with_len 0) (let e : n + 1 ≡ suc n = omega arith in e) ∙ range_from 0 n
    ∙ ap (λ k. range_with_len 0 n ++ k ∷ []) (let e : 0 + n ≡ n = omega arith in e)

pub asked_more : (p : ℕ → Bool) (n : ℕ) (old new : List ℕ)
    → old ≡ filter p (range_with_len 0 n)
    → new ≡ old ++ (if p n then n ∷ [] else [])
    → new ≡ filter p (range_with_len 0 (n + 1))
asked_more p n old new is pushed =
    pushed ∙ ap (λ l. l ++ (if p n then n ∷ [] else [])) is
    ∙ sym (filter-append p (range_with_len 0 n) (n ∷ []))
    ∙ ap (filter p) (sym (range_more n))

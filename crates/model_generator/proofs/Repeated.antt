-- The texts of numbers, one after another.
use Rattle.std.proofs.Common.{◌≡◌, ℕ, suc, ◌+◌, ◌-◌, ◌<◌, ◌≤◌, List, ◌++◌, ap, sym, ◌∙◌, arith, append_assoc}
use Rattle.std.proofs.lemmas.List.{append-nil}
use Rattle.std.specs.List.{flat_map, range_with_len}

pub one_more : (f : ℕ → List ℕ) (text new whole : List ℕ) (i m : ℕ) → i < m → new ≡ text ++ f i
    → text ++ flat_map f (range_with_len i (m - i)) ≡ whole
    → new ++ flat_map f (range_with_len (i + 1) (m - (i + 1))) ≡ whole
one_more f text new whole i m within added is =
    let left : m - i ≡ suc (m - (i + 1)) = omega (arith, within) in
    ap (λ t. t ++ flat_map f (range_with_len (i + 1) (m - (i + 1)))) added
    ∙ append_assoc text (f i) (flat_map f (range_with_len (i + 1) (m - (i + 1))))
    ∙ sym (ap (λ n. text ++ flat_map f (range_with_len i n)) left)
    ∙ is

pub all_done : (f : ℕ → List ℕ) (text whole : List ℕ) (i m : ℕ) → m ≤ i
    → text ++ flat_map f (range_with_len i (m - i)) ≡ whole → text ≡ whole
all_done f text whole i m past is =
    let left : m - i ≡ 0 = omega (arith, past) in
    sym (append-nil text) ∙ sym (ap (λ n. text ++ flat_map f (range_with_len i n)) left) ∙ is

-- three texts behind one another
pub three : (old first second last a b c : List ℕ) → first ≡ old ++ a → second ≡ first ++ b
    → last ≡ second ++ c → last ≡ old ++ (a ++ b ++ c)
three old first second last a b c one two more =
    more ∙ ap (λ t. t ++ c) (two ∙ ap (λ t. t ++ b) one ∙ append_assoc old a b)
    ∙ append_assoc old (a ++ b) c

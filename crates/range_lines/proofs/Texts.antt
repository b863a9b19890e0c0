-- Texts in a row.
use Rattle.std.proofs.Common.{◌≡◌, ℕ, List, ◌++◌, refl, ap, ◌∙◌, append_assoc}

flat : (out head place cause named : List ℕ)
    → (((out ++ head) ++ place) ++ cause) ++ named ≡ out ++ (((head ++ place) ++ cause) ++ named)
flat out head place cause named = simp append_assoc refl

pub report_joined : (out head place cause named a b d : List ℕ)
    → a ≡ out ++ head → b ≡ a ++ place → d ≡ b ++ cause
    → d ++ named ≡ out ++ (((head ++ place) ++ cause) ++ named)
report_joined out head place cause named a b d e h k =
    ap (λ x. x ++ named) k ∙ ap (λ x. (x ++ cause) ++ named) h
    ∙ ap (λ x. ((x ++ place) ++ cause) ++ named) e ∙ flat out head place cause named

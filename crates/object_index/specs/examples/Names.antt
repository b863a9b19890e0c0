-- What names find in a table, worked out by hand.
use Rattle.std.specs.Prelude.{◌≡◌, ℕ, List, [], ◌∷◌, codes}
use Rattle.rule_types.specs.Finding.{Found, Nothing, At, Several, finds}

-- names of curves: two that differ in case alone, and others
abbrev pub curves : List (List ℕ)
curves = codes "Ca" ∷ codes "cA" ∷ codes "Deep" ∷ codes "x1" ∷ []

-- the same bytes are found first, then the only name that is equal without case
pub record AreFinds : Type 0 where
  pub same_bytes : finds curves (codes "cA") ≡ At 1
  pub only_one : finds curves (codes "DEEP") ≡ At 2
  pub several : finds curves (codes "CA") ≡ Several
  pub same_bytes_of_several : finds curves (codes "Ca") ≡ At 0
  pub shorter : finds curves (codes "x") ≡ Nothing
  pub longer : finds curves (codes "x11") ≡ Nothing
  pub among_none : finds [] (codes "x1") ≡ Nothing

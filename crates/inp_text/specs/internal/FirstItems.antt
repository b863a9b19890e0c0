-- The cuts by which the first item of a line is found.
use Rattle.std.specs.Prelude.{ℕ, List, [], ◌∷◌, if◌then◌else◌}
use Rattle.inp_text.specs.Items.{is_blank}

-- what follows the blanks at the front
abbrev pub drop_blanks : List ℕ → List ℕ
drop_blanks [] = []
drop_blanks (byte ∷ rest) = if is_blank byte then drop_blanks rest else byte ∷ rest

-- what stands before the first blank
abbrev pub take_solid : List ℕ → List ℕ
take_solid [] = []
take_solid (byte ∷ rest) = if is_blank byte then [] else byte ∷ take_solid rest

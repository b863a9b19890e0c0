-- The first item of a line is the one at place 0.
use Rattle.std.proofs.Common.{◌≡◌, ℕ, Some, None, List, [], ◌∷◌, refl, arith}
use Rattle.std.specs.Prelude.{slice_get}
use Rattle.inp_text.specs.Headings.{first_of}

pub first_is : (found : List (List ℕ)) (item : List ℕ) → slice_get found 0 ≡ Some item → first_of found ≡ item
first_is [] item h = grind arith
first_is (first ∷ later) item h = grind arith

pub none_first : (found : List (List ℕ)) → slice_get found 0 ≡ None → first_of found ≡ []
none_first [] h = refl
none_first (first ∷ later) h = grind arith

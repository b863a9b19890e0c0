-- The lines of a slot, read at once.
use Rattle.std.specs.Prelude.{ℕ, Bool, true, false, List, map, Ok, Err, Option, option_map, Result, Vec}
use Rattle.std.specs.declared.alloc.Global.{Global}
use Rattle.byte_edge.specs.declared.lines_end.LinesEnd.{LinesEnd}
use Rattle.byte_edge.specs.declared.lines_end.LinesEnd.TheVariants.{Failed, TooLong, NoMemory}

-- the texts of some lines, each of which may be missing
abbrev pub texts_of : List (Option (Vec ℕ Global)) → List (Option (List ℕ))
texts_of all = map (option_map (λ line. line.items)) all

-- the answer is a fault
abbrev pub is_failed : {A : Type 0} → Result A LinesEnd → Bool
is_failed (Ok a) = false
is_failed (Err Failed) = true
is_failed (Err TooLong) = false
is_failed (Err NoMemory) = false

-- Tests that differ.
use Rattle.std.proofs.Common.{◌≡◌, Bool, true, false, refl, sym}
use Rattle.interval_sets.specs.internal.Edges.{differs}

pub differs_false : (a : Bool) → differs a false ≡ a
differs_false true = refl
differs_false false = refl

pub differs_same : (a : Bool) → differs a a ≡ false
differs_same true = refl
differs_same false = refl

-- what is changed by a first test and then by a second
pub differs_moved : (a t y : Bool) → differs a (differs t y) ≡ differs (differs a t) y
differs_moved true true true = refl
differs_moved true true false = refl
differs_moved true false y = refl
differs_moved false t y = refl

-- the change from a to b, and then a further one
pub differs_through : (a b x : Bool) → differs a (differs (differs a b) x) ≡ differs b x
differs_through true true x = refl
differs_through true false true = refl
differs_through true false false = refl
differs_through false b x = refl

-- a change that both have is no difference
pub differs_cancel : (a x y : Bool) → differs a x ≡ differs a y → x ≡ y
differs_cancel true true true e = refl
differs_cancel true true false e = sym e
differs_cancel true false true e = sym e
differs_cancel true false false e = refl
differs_cancel false x y e = e

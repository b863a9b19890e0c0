-- What holds of the parts of a line holds of what is made of them.
use Rattle.std.proofs.Common.{◌≡◌, ℕ, Bool, true, false, List, Option, None, Some, Ok, Err, refl}
use Rattle.std.specs.Prelude.{IfOk, IfSome, IsTrue, ◌&&◌, ok_or, nat_le, ◌<◌}
use Rattle.std.proofs.Common.{arith}
use Rattle.std.proofs.lemmas.Bool.Decides.{nat_tests}
use Rattle.control_lines.specs.Faults.{FaultText, Checked, both, then_with, refused_where}
use Rattle.network_lines.specs.Limits.{room_for}
use Rattle.rule_parser.specs.Controls.{beside}

-- of two parts
pub both_hold : {A B : Type 0} (P : A → Type 0) (Q : B → Type 0) (a : Checked A) (b : Checked B)
    → IfOk a P → IfOk b Q → IfOk (both a b) (λ (found : A × B). P found.0 × Q found.1)
unfolding both
both_hold P Q (Ok a) (Ok b) h k = (h, k)
both_hold P Q (Ok a) (Err fault) h k = tt
both_hold P Q (Err fault) (Ok b) h k = tt
both_hold P Q (Err fault) (Err other) h k = tt

-- of a value that is made of a part
pub then_holds : {A B : Type 0} (P : A → Type 0) (Q : B → Type 0) (f : A → B) (a : Checked A)
    → IfOk a P → ((x : A) → P x → Q (f x)) → IfOk (then_with f a) Q
then_holds P Q f (Ok a) h k = k a h
then_holds P Q f (Err fault) h k = tt

-- of a value beside a check
pub beside_holds : {A B : Type 0} (P : A → Type 0) (Q : B → Type 0) (check : Checked B)
    (value : Checked A) → IfOk check Q → IfOk value P
    → IfOk (beside check value) P
unfolding both
beside_holds P Q (Ok b) (Ok a) h k = k
beside_holds P Q (Ok b) (Err fault) h k = tt
beside_holds P Q (Err fault) (Ok a) h k = tt
beside_holds P Q (Err fault) (Err other) h k = tt

-- of both, where the value is made into something else
pub checked_holds : {A B C : Type 0} (P : A → Type 0) (Q : B → Type 0) (R : C → Type 0)
    (f : A → C) (check : Checked B) (value : Checked A) → IfOk check Q → IfOk value P
    → ((b : B) → Q b → (a : A) → P a → R (f a)) → IfOk (then_with f (beside check value)) R
unfolding both
checked_holds P Q R f (Ok b) (Ok a) h k g = g b h a k
checked_holds P Q R f (Ok b) (Err fault) h k g = tt
checked_holds P Q R f (Err fault) (Ok a) h k g = tt
checked_holds P Q R f (Err fault) (Err other) h k g = tt

-- of a value that is there
pub found_holds : {A : Type 0} (P : A → Type 0) (found : Option A) (fault : FaultText)
    → IfSome found P → IfOk (ok_or found fault) P
found_holds P (Some value) fault h = h
found_holds P None fault h = tt

-- where a check passes, its test fails
pub passed : (test : Bool) (fault : FaultText) → IfOk (refused_where test fault) (λ nothing. test ≡ false)
passed true fault = tt
passed false fault = refl

-- there is room
few_by : (most count : ℕ) → nat_le most count ≡ false → count < most
few_by most count e = grind (arith, nat_tests)

room_by : (b : Bool) (fault : FaultText) (most count : ℕ) → nat_le most count ≡ b
    → IfOk (refused_where b fault) (λ nothing. count < most)
room_by true fault most count e = tt
room_by false fault most count e = few_by most count e

pub has_room : (things : List ℕ) (most count : ℕ)
    → IfOk (room_for things most count) (λ nothing. count < most)
unfolding room_for
has_room things most count = room_by (nat_le most count) _ most count refl

-- the parts of a conjunction
pub first_true : (a b : Bool) → IsTrue (a && b) → IsTrue a
first_true true b h = refl
first_true false b h = h

pub second_true : (a b : Bool) → IsTrue (a && b) → IsTrue b
second_true true b h = h
second_true false b h = cc

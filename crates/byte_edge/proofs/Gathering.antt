-- A line that is being taken, one part after the other.
use Rattle.std.proofs.Common.{◌≡◌, ℕ, suc, zero, ◌-◌, ◌≤◌, List, [], ◌∷◌, ◌++◌, length, take, drop, Some, None, Option, refl, sym, ◌∙◌, ap, arith, length-append, append_assoc}
use Rattle.std.proofs.lemmas.List.{take-append-drop, length-take-le}
use Rattle.std.specs.Io.KnownBytes.{Consumes, Keeps, prepend_known}
use Rattle.std.proofs.KnownBytes.{Consumes-trans}
use Rattle.byte_edge.specs.Lines.{newlines, IsWholeLine}
use Rattle.byte_edge.specs.internal.LineParts.{LinePrefix, IsTaken}
use Rattle.byte_edge.proofs.Lines.{newlines-append}

-- the bytes taken so far have no LF
pub record IsBegun (line : LinePrefix) (old_room new_room : ℕ) (before after : Option (List ℕ)) : Type 0 where
  pub raw : List ℕ
  pub none : newlines raw ≡ 0
  pub taken : IsTaken raw line old_room new_room before after

pub take-append_take : (n : ℕ) (xs ys : List ℕ) → take n (take n xs ++ ys) ≡ take n (xs ++ ys)
take-append_take zero xs ys = refl
take-append_take (suc n) [] ys = refl
take-append_take (suc n) (x ∷ xs) ys = ap (λ l. x ∷ l) (take-append_take n xs ys)

pub Consumes-held : (held : List ℕ) (n : ℕ) (left : Option (List ℕ)) → Consumes (prepend_known held left) (prepend_known (drop n held) left) (take n held)
Consumes-held held n None = tt
Consumes-held held n (Some ys) = ap (λ l. l ++ ys) (sym (take-append-drop n held)) ∙ append_assoc (take n held) (drop n held) ys

-- a part of the bytes held was taken too
pub Consumes-part : (before : Option (List ℕ)) (held : List ℕ) (n : ℕ) (left : Option (List ℕ)) (rest raw : List ℕ)
    → rest ≡ drop n held → Consumes before (prepend_known held left) raw → Consumes before (prepend_known rest left) (raw ++ take n held)
Consumes-part before held n left rest raw is consumed =
    rw is (Consumes-trans before (prepend_known held left) (prepend_known (drop n held) left) raw (take n held) consumed (Consumes-held held n left))

-- a read gave more bytes, once none were held
pub Consumes-filled : (before : Option (List ℕ)) (rest held : List ℕ) (left now : Option (List ℕ)) (raw : List ℕ)
    → rest ≡ [] → Consumes before (prepend_known rest left) raw → Consumes left now held → Consumes before (prepend_known held now) raw
Consumes-filled None rest held left now raw empty consumed read = tt
Consumes-filled (Some xs) rest held None now raw empty consumed read = absurd consumed
Consumes-filled (Some xs) rest held (Some ys) None raw empty consumed read = absurd read
Consumes-filled (Some xs) rest held (Some ys) (Some zs) raw empty consumed read = consumed ∙ ap (λ l. raw ++ (l ++ ys)) empty ∙ ap (λ l. raw ++ l) read

-- a read failed, once no bytes were held
pub Consumes-unread : (before : Option (List ℕ)) (rest held : List ℕ) (left now : Option (List ℕ)) (raw : List ℕ)
    → rest ≡ [] → held ≡ [] → Consumes before (prepend_known rest left) raw → Keeps left now → Consumes before (prepend_known held now) raw
Consumes-unread None rest held left now raw empty none consumed kept = tt
Consumes-unread (Some xs) rest held None now raw empty none consumed kept = absurd consumed
Consumes-unread (Some xs) rest held (Some ys) None raw empty none consumed kept = absurd kept
Consumes-unread (Some xs) rest held (Some ys) (Some zs) raw empty none consumed kept =
    consumed ∙ ap (λ l. raw ++ (l ++ ys)) (empty ∙ sym none) ∙ ap (λ l. raw ++ (held ++ l)) (sym kept)

-- one more part was taken and paid for
pub IsTaken-part : (line new : LinePrefix) (old_room room : ℕ) (before : Option (List ℕ)) (held rest : List ℕ) (n : ℕ) (left : Option (List ℕ)) (raw : List ℕ)
    → n ≤ length held → n ≤ room → rest ≡ drop n held
    → new.bytes ≡ take line.most (line.bytes ++ take n held) → new.most ≡ line.most
    → IsTaken raw line old_room room before (prepend_known held left)
    → IsTaken (raw ++ take n held) new old_room (room - n) before (prepend_known rest left)
IsTaken-part line new old_room room before held rest n left raw within affordable is bytes most taken = record {
  kept = rw most (bytes ∙ ap (λ l. take line.most (l ++ take n held)) taken.kept ∙ take-append_take line.most raw (take n held));
  paid = omega (arith, taken.paid, length-append raw (take n held), length-take-le n held within);
  consumed = Consumes-part before held n left rest raw is taken.consumed;
}

-- a whole line after bytes without an LF is a whole line
pub IsWholeLine-after : (raw part : List ℕ) → newlines raw ≡ 0 → IsWholeLine part → IsWholeLine (raw ++ part)
IsWholeLine-after raw part none whole = record {
  text = raw ++ whole.text;
  is = ap (λ l. raw ++ l) whole.is ∙ sym (append_assoc raw whole.text (10 ∷ []));
  only = let only = whole.only in omega (arith, newlines-append raw whole.text);
}

-- two runs of bytes without an LF
pub newlines-joined : (raw part : List ℕ) → newlines raw ≡ 0 → newlines part ≡ 0 → newlines (raw ++ part) ≡ 0
newlines-joined raw part none more = omega (arith, newlines-append raw part)

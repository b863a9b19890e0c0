-- Pieces are read back as they are written.
use Rattle.std.proofs.Common.{◌≡◌, ℕ, ◌+◌, ◌-◌, ◌==◌, Bool, true, false, cond, ◌&&◌, List, [], ◌∷◌, ◌++◌, codes, length, take, Some, None, refl, ap, sym, ◌∙◌, arith, append_assoc, length-append}
use Rattle.std.specs.Prelude.{All, IsTrue, slice_get}
use Rattle.std.specs.List.{slice_split}
use Rattle.std.specs.Str.{bytes_eq}
use Rattle.std.proofs.lemmas.Bool.{and_parts}
use Rattle.std.proofs.lemmas.List.Elements.{All-nil, All-cons, All-append}
use Rattle.std.proofs.lemmas.List.Splits.{slice_split_at, slice_split_none}
use Rattle.std.proofs.lemmas.Option.{none-some, slice_get-get_or}
use Rattle.std.proofs.lemmas.Slice.Eq.{bytes_eq-Decides}
use Rattle.std.proofs.Math.Seq.{get_or-append_seam, take-append_seam}
use Rattle.exact_fraction.specs.Number.{Rational, IsNumber}
use Rattle.interval_sets.specs.Intervals.{has_member}
use Rattle.interval_sets.specs.declared.interval.Bound.{Bound}
use Rattle.interval_sets.specs.declared.interval.Bound.TheVariants as end
use Rattle.interval_sets.specs.declared.interval.Interval.{Interval}
use Rattle.num_text.specs.Fields.{◌>>=◌, field, leading_digits, past_digits}
use Rattle.num_text.specs.Values.{spelled_value, written_value}
use Rattle.num_text.proofs.PublicLaws.{round_trips-value}
use Rattle.report_lines.specs.KeyLines.{bound_if, open_end, low_end, high_end, high_by, front_of, interval_of, piece_by, piece_of}
use Rattle.report_lines.specs.Words.{value_of}
use Rattle.report_text.specs.Readable.{bound_fits, piece_fits}
use Rattle.report_text.specs.WrittenLines.{written_low, written_high, written_piece}
use Rattle.report_text.proofs.HighBytes.{without, of_value}
use Rattle.report_text.proofs.NumbersBack.{number_held, value_back}

-- ---- no number is written as an end that is not there
no_low : spelled_value (codes "-inf") ≡ None
unfolding spelled_value field leading_digits past_digits
no_low = refl

no_high : spelled_value (codes "+inf") ≡ None
unfolding spelled_value field leading_digits past_digits
no_high = refl

other_text : (endless : List ℕ) → spelled_value endless ≡ None → (q : Rational) → IsNumber q → (b : Bool)
    → bytes_eq endless (written_value q) ≡ b → b ≡ false
other_text endless none q h false e = refl
other_text endless none q h true e =
    let same : endless ≡ written_value q = (bytes_eq-Decides endless (written_value q)).0 e in
    absurd (none-some q (sym none ∙ ap spelled_value same ∙ round_trips-value q h))

open_back : (endless : List ℕ) → spelled_value endless ≡ None → (q : Rational) → IsNumber q
    → open_end endless (written_value q) ≡ Some (end.Bound q true)
open_back endless none q h =
    ap (λ b. cond b (Some end.NoBound) (bound_if true (value_of (written_value q))))
    (other_text endless none q h (bytes_eq endless (written_value q)) refl)
    ∙ ap (bound_if true) (value_back q h)

-- ---- ends
low_back : (low : Bound) → IsTrue (bound_fits low) → low_end (written_low low) ≡ Some low
unfolding low_end
low_back end.NoBound h = refl
low_back (end.Bound q true) h = open_back (codes "-inf") no_low q (number_held q h)
low_back (end.Bound q false) h = ap (bound_if false) (value_back q (number_held q h))

last_of : (text : List ℕ) (byte : ℕ) → slice_get (text ++ (byte ∷ [])) (length (text ++ (byte ∷ [])) - 1) ≡ Some byte
last_of text byte =
    let whole = text ++ (byte ∷ []) in
    let long : length whole ≡ length text + 1 = length-append text (byte ∷ []) in
    let at : length whole - 1 ≡ length text = omega (arith, long) in
    ap (slice_get whole) at ∙ slice_get-get_or whole (length text) byte (omega (arith, long))
    ∙ ap (λ b. Some b) (get_or-append_seam text byte [] byte)

front_is : (text : List ℕ) (byte : ℕ) → front_of (text ++ (byte ∷ [])) ≡ text
front_is text byte =
    let whole = text ++ (byte ∷ []) in
    let long : length whole ≡ length text + 1 = length-append text (byte ∷ []) in
    let at : length whole - 1 ≡ length text = omega (arith, long) in
    ap (λ n. take n whole) at ∙ take-append_seam text (byte ∷ [])

high_is : (text : List ℕ) (byte : ℕ) → high_end (text ++ (byte ∷ [])) ≡ high_by text byte
unfolding high_end
high_is text byte =
    ap (λ o. o >>= high_by (front_of (text ++ (byte ∷ [])))) (last_of text byte)
    ∙ ap (λ t. high_by t byte) (front_is text byte)

high_back : (high : Bound) → IsTrue (bound_fits high) → high_end (written_high high) ≡ Some high
high_back end.NoBound h = high_is (codes "+inf") 41
high_back (end.Bound q true) h =
    high_is (written_value q) 41 ∙ open_back (codes "+inf") no_high q (number_held q h)
high_back (end.Bound q false) h =
    high_is (written_value q) 93 ∙ ap (bound_if false) (value_back q (number_held q h))

-- ---- no comma stands in an end
abbrev IsOnePart : List ℕ → Type 0
IsOnePart text = All (λ byte. (byte == 44) ≡ false) text

value_part : (q : Rational) → IsOnePart (written_value q)
value_part q = without 44 (omega arith) (written_value q) (of_value q)

more : (byte : ℕ) (text : List ℕ) → (byte == 44) ≡ false → IsOnePart text → IsOnePart (byte ∷ text)
more byte text here rest = All-cons (λ b. (b == 44) ≡ false) byte text here rest

none_part : IsOnePart []
none_part = All-nil (λ byte. (byte == 44) ≡ false)

low_part : (low : Bound) → IsOnePart (written_low low)
low_part end.NoBound =
    more 40 (codes "-inf") refl (more 45 (codes "inf") refl (more 105 (codes "nf") refl (more 110 (codes "f") refl (more 102 [] refl none_part))))
low_part (end.Bound q true) = more 40 (written_value q) refl (value_part q)
low_part (end.Bound q false) = more 91 (written_value q) refl (value_part q)

behind_value : (q : Rational) (byte : ℕ) → (byte == 44) ≡ false → IsOnePart (written_value q ++ (byte ∷ []))
behind_value q byte e =
    All-append (λ b. (b == 44) ≡ false) (written_value q) (byte ∷ []) (value_part q) (more byte [] e none_part)

high_part : (high : Bound) → IsOnePart (written_high high)
high_part end.NoBound =
    more 43 (codes "inf)") refl (more 105 (codes "nf)") refl (more 110 (codes "f)") refl (more 102 (codes ")") refl (more 41 [] refl none_part))))
high_part (end.Bound q true) = behind_value q 41 refl
high_part (end.Bound q false) = behind_value q 93 refl

pub piece_back : (piece : Interval) → IsTrue (piece_fits piece) → piece_of (written_piece piece) ≡ Some piece
unfolding piece_of written_piece
piece_back piece h =
    let parts = and_parts (bound_fits piece.low && bound_fits piece.high) (has_member piece.low piece.high) h in
    let ends = and_parts (bound_fits piece.low) (bound_fits piece.high) parts.0 in
    let low = written_low piece.low in
    let high = written_high piece.high in
    ap (λ t. piece_by (slice_split (λ byte. byte == 44) t)) (append_assoc low (codes ",") high)
    ∙ ap piece_by (slice_split_at (λ byte. byte == 44) low 44 high (low_part piece.low) refl)
    ∙ ap (λ l. piece_by (low ∷ l)) (slice_split_none (λ byte. byte == 44) high (high_part piece.high))
    ∙ ap (λ o. interval_of o (high_end high)) (low_back piece.low ends.0)
    ∙ ap (λ o. interval_of (Some piece.low) o) (high_back piece.high ends.1)
    ∙ ap (λ b. cond b (Some piece) None) parts.1

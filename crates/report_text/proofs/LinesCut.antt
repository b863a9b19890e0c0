-- A text of lines is cut into these lines.
use Rattle.std.proofs.Common.{◌≡◌, ℕ, ◌+◌, ◌-◌, ◌<◌, ◌==◌, true, not, cond, ◌&&◌, List, [], ◌∷◌, ◌++◌, length, take, map, refl, ap, ◌∙◌, arith, append_assoc, length-append}
use Rattle.std.specs.Prelude.{All, nat_lt, slice_index}
use Rattle.std.specs.Io.BufRead.{ends_with_byte, strip_last}
use Rattle.std.proofs.lemmas.Bool.{and_parts, not-true}
use Rattle.std.proofs.lemmas.Bool.Decides.{nat_tests}
use Rattle.std.proofs.lemmas.List.Elements.{All-head, All-tail}
use Rattle.std.proofs.Math.Seq.{get_or-append_seam, take-append_seam}
use Rattle.byte_edge.specs.Lines.{raw_lines, onto_first, line_text, lines}
use Rattle.report_text.specs.ReadBack.{is_one_line, IsLineText}
use Rattle.report_text.specs.WrittenReports.{Texts, text_of}

same_byte : (byte : ℕ) → (byte == byte) ≡ true
same_byte byte = grind (arith, nat_tests)

-- ---- the end of a line
last_is : (text : List ℕ) (byte : ℕ) → ends_with_byte byte (text ++ (byte ∷ [])) ≡ true
last_is text byte =
    let whole = text ++ (byte ∷ []) in
    let long : length whole ≡ length text + 1 = length-append text (byte ∷ []) in
    let at : length whole - 1 ≡ length text = omega (arith, long) in
    let past : 0 < length whole = omega (arith, long) in
    let some : nat_lt 0 (length whole) ≡ true = grind (arith, nat_tests) in
    ap (λ b. b && (slice_index whole (length whole - 1) == byte)) some
    ∙ ap (λ n. slice_index whole n == byte) at ∙ ap (λ b. b == byte) (get_or-append_seam text byte [] 0) ∙ same_byte byte

strip_is : (text : List ℕ) (byte : ℕ) → strip_last byte (text ++ (byte ∷ [])) ≡ text
strip_is text byte =
    let whole = text ++ (byte ∷ []) in
    let long : length whole ≡ length text + 1 = length-append text (byte ∷ []) in
    let at : length whole - 1 ≡ length text = omega (arith, long) in
    ap (λ b. cond b (take (length whole - 1) whole) whole) (last_is text byte)
    ∙ ap (λ n. take n whole) at ∙ take-append_seam text (byte ∷ [])

-- ---- the first line
first_raw : (text rest : List ℕ) → is_one_line text ≡ true → raw_lines (text ++ (10 ∷ rest)) ≡ (text ++ (10 ∷ [])) ∷ raw_lines rest
first_raw [] rest e = refl
first_raw (byte ∷ text) rest e =
    let parts = and_parts (not (byte == 10)) (is_one_line text) e in
    ap (λ b. cond b ((byte ∷ []) ∷ raw_lines (text ++ (10 ∷ rest))) (onto_first byte (raw_lines (text ++ (10 ∷ rest)))))
    (not-true (byte == 10) parts.0)
    ∙ ap (onto_first byte) (first_raw text rest parts.1)

pub lines_cut : (texts : Texts) → All IsLineText texts → lines (text_of texts) ≡ texts
unfolding text_of
lines_cut [] all = refl
lines_cut (text ∷ more) all =
    let here = All-head IsLineText text more all in
    ap lines (append_assoc text (10 ∷ []) (text_of more))
    ∙ ap (map line_text) (first_raw text (text_of more) here.one)
    ∙ ap (λ t. strip_last 13 t ∷ lines (text_of more)) (strip_is text 10)
    ∙ ap (λ t. t ∷ lines (text_of more)) here.end
    ∙ ap (λ l. text ∷ l) (lines_cut more (All-tail IsLineText text more all))

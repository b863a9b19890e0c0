-- The text of a report is cut into its lines.
use Rattle.std.proofs.Common.{◌≡◌, ℕ, ◌-◌, ◌<◌, ◌==◌, Bool, true, false, not, cond, ◌&&◌, List, [], ◌∷◌, length, map, take, get_or, Some, None, refl, sym, ap, ◌∙◌, arith}
use Rattle.std.specs.Prelude.{All, nat_le, nat_lt, slice_index}
use Rattle.std.specs.Io.BufRead.{ends_with_byte}
use Rattle.std.proofs.lemmas.Bool.{and_parts, true≢false}
use Rattle.std.proofs.lemmas.Bool.Decides.{nat_tests}
use Rattle.std.proofs.lemmas.List.Elements.{All-nil, All-cons}
use Rattle.std.proofs.lemmas.List.Folds.{list_all_at}
use Rattle.byte_edge.specs.Lines.{capped, lines}
use Rattle.object_index.specs.Objects.{Objects}
use Rattle.rule_types.specs.declared.rules.Rules.{Rules}
use Rattle.report_text.specs.ReadBack.{is_plain, is_one_line, IsLineText, AreLineNames, written_lines}
use Rattle.report_text.specs.WrittenReports.{Texts, Asked, report_lines, report_text}
use Rattle.report_text.proofs.LineParts.{IsLine, AreLines, of_report}
use Rattle.report_text.proofs.LinesCut.{lines_cut}

one_line : (text : List ℕ) → is_plain text ≡ true → is_one_line text ≡ true
one_line [] e = refl
one_line (byte ∷ text) e =
    let parts = and_parts (not (byte == 10) && not (byte == 13)) (is_plain text) e in
    let here = and_parts (not (byte == 10)) (not (byte == 13)) parts.0 in
    ap (λ b. b && is_one_line text) here.0 ∙ one_line text parts.1

-- ---- no carriage return at the end
no_return : (byte : ℕ) → (byte == 13) ≡ true → (not (byte == 10) && not (byte == 13)) ≡ false
no_return byte e = ap (λ b. not (byte == 10) && not b) e ∙ never (not (byte == 10))
  where
    never : (b : Bool) → (b && false) ≡ false
    never true = refl
    never false = refl

same_end : (text : List ℕ) → is_plain text ≡ true → (b : Bool) → ends_with_byte 13 text ≡ b
    → cond b (take (length text - 1) text) text ≡ text
same_end text e false is = refl
same_end text e true is =
    let parts = and_parts (nat_lt 0 (length text)) (slice_index text (length text - 1) == 13) is in
    let past : 0 < length text = grind (arith, nat_tests) in
    absurd
    (true≢false
    (sym e
    ∙ list_all_at (λ byte. not (byte == 10) && not (byte == 13)) text (length text - 1) 0 (omega (arith, past))
    (no_return (get_or text (length text - 1) 0) parts.1)))

line_text : (text : List ℕ) → IsLine text → IsLineText text
line_text text h = record {
  one = one_line text h.plain;
  end = same_end text h.plain (ends_with_byte 13 text) refl;
}

line_texts : (texts : Texts) → AreLines texts → All IsLineText texts
line_texts [] h = All-nil IsLineText
line_texts (text ∷ more) h = All-cons IsLineText text more (line_text text h.0) (line_texts more h.1)

-- ---- none is too long
all_whole : (texts : Texts) → AreLines texts → map (capped 8192) texts ≡ map Some texts
all_whole [] h = refl
all_whole (text ∷ more) h =
    let short = h.0.short in
    let fits : nat_le (length text) 8192 ≡ true = grind (arith, nat_tests) in
    ap (λ b. cond b (Some text) None ∷ map (capped 8192) more) fits ∙ ap (λ l. Some text ∷ l) (all_whole more h.1)

pub report_cut : (x : Rules) (objects : Objects) (entries : List Asked) → AreLineNames objects
    → map (capped 8192) (lines (report_text x objects entries)) ≡ written_lines x objects entries
report_cut x objects entries names =
    let all = of_report objects names x entries in
    ap (map (capped 8192)) (lines_cut (report_lines x objects entries) (line_texts (report_lines x objects entries) all))
    ∙ all_whole (report_lines x objects entries) all

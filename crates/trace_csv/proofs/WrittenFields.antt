-- The text of a moment as the first field of a line.
use Rattle.std.proofs.Common.{◌≡◌, ℕ, ◌-◌, ◌<◌, ◌≤◌, true, false, not, ◌+◌, ◌/◌, ◌%◌, cond, ◌==◌, ◌&&◌, List, [], ◌∷◌, ◌++◌, take, drop, get_or, length, Option, Some, refl, sym, ap, ◌∙◌, arith, ℤ, Result}
use Rattle.std.specs.List.{list_all, onto_first}
use Rattle.std.proofs.lemmas.Bool.Decides.{nat_tests}
use Rattle.std.proofs.lemmas.List.{take-append-drop, take_rest}
use Rattle.inp_text.specs.Items.{is_blank}
use Rattle.num_text.specs.CivilDays.{year_at}
use Rattle.num_text.specs.Clocks.{moment_of}
use Rattle.num_text.specs.Written.{places, written_moment, seconds_after_first}
use Rattle.trace_csv.specs.Fields.{without_front_blanks, without_end_blanks, trimmed}
use Rattle.trace_csv.specs.Records.{comma, cut_at_commas, is_plain, is_plain_line}
use Rattle.trace_csv.specs.Rows.{moment_checked, moment_in}
use Rattle.trace_csv.specs.declared.fault.TraceCause.{TraceCause}

-- bytes that are neither blanks nor commas
abbrev pub ArePast : List ℕ → Type 0
ArePast [] = Unit
ArePast (byte ∷ bytes) = (44 < byte) × ArePast bytes

-- the text of a moment has no blank and no comma
past_all : (m : ℤ) → ArePast (written_moment m)
unfolding written_moment places
past_all m = (
  omega arith,
  (
    omega arith,
    (
      omega arith,
      (
        omega arith,
        (
          omega arith,
          (
            omega arith,
            (
              omega arith,
              (
                omega arith,
                (
                  omega arith,
                  (
                    omega arith,
                    (omega arith, (omega arith, (omega arith, (omega arith, (omega arith, (omega arith, (omega arith, (omega arith, (omega arith, tt))))))))),
                  ),
                ),
              ),
            ),
          ),
        ),
      ),
    ),
  ),
)

-- such a text before a comma is the first field
cut_front : (front rest : List ℕ) → ArePast front → cut_at_commas (front ++ 44 ∷ rest) ≡ front ∷ cut_at_commas rest
cut_front [] rest past = refl
cut_front (byte ∷ bytes) rest past =
    let other : (byte == comma) ≡ false = let above = past.0 in grind (arith, nat_tests) in
    ap (λ test. cond test ([] ∷ cut_at_commas (bytes ++ 44 ∷ rest)) (onto_first byte (cut_at_commas (bytes ++ 44 ∷ rest)))) other
    ∙ ap (onto_first byte) (cut_front bytes rest past.1)

-- such a text has no blanks round it
not_blank : (byte : ℕ) → 44 < byte → is_blank byte ≡ false
not_blank byte past = grind (arith, nat_tests)

no_end : (text : List ℕ) → ArePast text → without_end_blanks text ≡ text
unfolding without_end_blanks
no_end [] past = refl
no_end (byte ∷ bytes) past =
    ap (λ blank. cond (blank && list_all is_blank bytes) [] (byte ∷ without_end_blanks bytes)) (not_blank byte past.0)
    ∙ ap (λ rest. byte ∷ rest) (no_end bytes past.1)

no_front : (text : List ℕ) → ArePast text → without_front_blanks text ≡ text
no_front [] past = refl
no_front (byte ∷ bytes) past = ap (λ blank. cond blank (without_front_blanks bytes) (byte ∷ bytes)) (not_blank byte past.0)

pub trimmed_same : (text : List ℕ) → ArePast text → trimmed text ≡ text
trimmed_same text past = ap without_end_blanks (no_front text past) ∙ no_end text past

-- the moment of a line that begins with the text of a moment
pub moment_read : (m : ℤ) (last start : Option ℤ) (read : Result ℤ TraceCause) → moment_of (written_moment m) ≡ Some m
    → read ≡ moment_checked last start (Some m) → read ≡ moment_in last start (written_moment m)
unfolding moment_in
moment_read m last start read back is =
    is ∙ ap (moment_checked last start) (sym back ∙ ap moment_of (sym (trimmed_same (written_moment m) (past_all m))))

-- a line that begins with the text of a moment and a comma
pub joined_written : (m : ℤ) (line front rest behind : List ℕ) → front ≡ take 19 line → rest ≡ drop 19 line → rest ≡ 44 ∷ behind
    → front ≡ written_moment m → line ≡ written_moment m ++ 44 ∷ behind
joined_written m line front rest behind one two three is =
    sym (take-append-drop 19 line)
    ∙ ap (λ f. f ++ drop 19 line) (sym one ∙ is) ∙ ap (λ r. written_moment m ++ r) (sym two ∙ three)

-- its fields
pub cut_written : (m : ℤ) (line behind : List ℕ) → line ≡ written_moment m ++ 44 ∷ behind
    → cut_at_commas line ≡ written_moment m ∷ cut_at_commas behind
cut_written m line behind is = ap cut_at_commas is ∙ cut_front (written_moment m) behind (past_all m)

-- it is plain where what stands behind is
plain_byte : (byte : ℕ) → 44 < byte → is_plain byte ≡ true
plain_byte byte past = grind (arith, nat_tests)

plain_behind : (front rest : List ℕ) → ArePast front → list_all is_plain rest ≡ true → list_all is_plain (front ++ 44 ∷ rest) ≡ true
plain_behind [] rest past plain = plain
plain_behind (byte ∷ bytes) rest past plain =
    ap (λ test. test && list_all is_plain (bytes ++ 44 ∷ rest)) (plain_byte byte past.0) ∙ plain_behind bytes rest past.1 plain

no_mark : (m : ℤ) (rest : List ℕ) → list_all is_plain (written_moment m ++ 44 ∷ rest) ≡ true → is_plain_line (written_moment m ++ 44 ∷ rest) ≡ true
unfolding written_moment places
no_mark m rest plain =
    let other : (48 + year_at (seconds_after_first m / 86_400) / 10 / 10 / 10 % 10 == 239) ≡ false = grind (arith, nat_tests) in
    ap (λ test. not test && list_all is_plain (written_moment m ++ 44 ∷ rest)) other ∙ plain

pub plain_written : (m : ℤ) (line behind : List ℕ) → line ≡ written_moment m ++ 44 ∷ behind → list_all is_plain behind ≡ true
    → is_plain_line line ≡ true
plain_written m line behind is plain =
    ap is_plain_line is ∙ no_mark m behind (plain_behind (written_moment m) behind (past_all m) plain)

-- a text that begins with a comma
pub headed : (text : List ℕ) → 1 ≤ length text → get_or text 0 0 ≡ 44 → text ≡ 44 ∷ take (length text - 1) (drop 1 text)
headed [] some is = absurd (omega (arith, some))
headed (byte ∷ bytes) some is = ap (λ b. b ∷ bytes) is ∙ ap (λ rest. 44 ∷ rest) (sym (take_rest (byte ∷ bytes) 1))

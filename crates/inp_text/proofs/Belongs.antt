-- The lines kept of a section, line by line, are those that belong to it.
use Rattle.std.proofs.Common.{◌≡◌, ℕ, ◌+◌, ◌<◌, ◌≤◌, nat_lt, Bool, true, false, ◌&&◌, List, [], ◌∷◌, ◌++◌, length, reverse, filter, refl, ap, sym, ◌∙◌, arith, append_assoc}
use Rattle.std.proofs.lemmas.List.{append-nil, reverse-append, length-reverse}
use Rattle.std.proofs.lemmas.List.Elements.{filter-append}
use Rattle.std.proofs.lemmas.Bool.Decides.{nat_tests}
use Rattle.std.proofs.lemmas.Grind.{reverse_onto}
use Rattle.std.specs.Prelude.{if◌then◌else◌, cond, Option, Some, None, find, option_and_then}
use Rattle.inp_text.specs.Headings.{is_heading, is_in}
use Rattle.inp_text.specs.Sections.{Line, is_content, added, adds, section_from, section_after, section_lines}
use Rattle.inp_text.specs.Belonging.{numbered_from, numbered, lines_above, heading_above, opened, belongs}
use Rattle.inp_text.specs.declared.section_kind.SectionKind.{SectionKind}
use Rattle.inp_text.specs.declared.source_line.SourceLine.{SourceLine}

is_below : (number bound : ℕ) → number < bound → nat_lt number bound ≡ true
is_below number bound lt = grind (arith, nat_tests)

is_not_below : (number bound : ℕ) → bound ≤ number → nat_lt number bound ≡ false
is_not_below number bound le = grind (arith, nat_tests)

numbered-append : (number : ℕ) (first later : List Line) → numbered_from number (first ++ later) ≡ numbered_from number first ++ numbered_from (number + length first) later
numbered-append number [] later = ap (λ n. numbered_from n later) (omega arith)
numbered-append number (None ∷ first) later =
    numbered-append (number + 1) first later ∙ ap (λ n. numbered_from (number + 1) first ++ numbered_from n later) (omega arith)
numbered-append number (Some line ∷ first) later =
    ap (λ lines. record { number = number; bytes = line } ∷ lines)
    (numbered-append (number + 1) first later ∙ ap (λ n. numbered_from (number + 1) first ++ numbered_from n later) (omega arith))

-- of lines that all stand above a number, all are above it
above-all : (number bound : ℕ) (lines : List Line) → number + length lines ≤ bound → filter (λ line. nat_lt line.number bound) (numbered_from number lines) ≡ numbered_from number lines
above-all number bound [] le = refl
above-all number bound (None ∷ lines) le = above-all (number + 1) bound lines (omega arith)
above-all number bound (Some line ∷ lines) le =
    let rest = filter (λ (line : SourceLine). nat_lt line.number bound) (numbered_from (number + 1) lines) in
    ap (λ b. cond b (record { number = number; bytes = line } ∷ rest) rest) (is_below number bound (omega arith))
    ∙ ap (λ lines. record { number = number; bytes = line } ∷ lines) (above-all (number + 1) bound lines (omega arith))

above-none : (number bound : ℕ) (lines : List Line) → bound ≤ number → filter (λ line. nat_lt line.number bound) (numbered_from number lines) ≡ []
above-none number bound [] le = refl
above-none number bound (None ∷ lines) le = above-none (number + 1) bound lines (omega arith)
above-none number bound (Some line ∷ lines) le =
    let rest = filter (λ (line : SourceLine). nat_lt line.number bound) (numbered_from (number + 1) lines) in
    ap (λ b. cond b (record { number = number; bytes = line } ∷ rest) rest) (is_not_below number bound le)
    ∙ above-none (number + 1) bound lines (omega arith)

-- above the line after some lines stand these
above-earlier : (first : List Line) (bound : ℕ) (later : List Line) → bound ≡ length first + 1 → lines_above (first ++ later) bound ≡ numbered first
above-earlier first bound later e =
    ap (filter (λ line. nat_lt line.number bound)) (numbered-append 1 first later)
    ∙ filter-append (λ line. nat_lt line.number bound) (numbered first) (numbered_from (1 + length first) later)
    ∙ ap (λ lines. lines ++ filter (λ line. nat_lt line.number bound) (numbered_from (1 + length first) later)) (above-all 1 bound first (omega arith))
    ∙ ap (λ lines. numbered first ++ lines) (above-none (1 + length first) bound later (omega arith))
    ∙ append-nil (numbered first)

-- the read section of the last heading among these lines
abbrev last_opened : List SourceLine → Option SectionKind
last_opened lines = option_and_then opened (find (λ line. is_heading line.bytes) (reverse lines))

opened-case : (heading : Bool) (line : SourceLine) (before : Option SourceLine) → option_and_then opened (cond heading (Some line) before) ≡ (if heading then opened line else option_and_then opened before)
opened-case true line before = refl
opened-case false line before = refl

last_opened-push : (lines : List Line) (line : Line) → last_opened (numbered (lines ++ line ∷ [])) ≡ section_from line (last_opened (numbered lines))
last_opened-push lines None = ap last_opened (numbered-append 1 lines (None ∷ []) ∙ append-nil (numbered lines))
last_opened-push lines (Some line) =
    let here : SourceLine = record { number = 1 + length lines; bytes = line } in
    ap last_opened (numbered-append 1 lines (Some line ∷ []))
    ∙ ap (λ above. option_and_then opened (find (λ line. is_heading line.bytes) above)) (reverse-append (numbered lines) (here ∷ []))
    ∙ opened-case (is_heading line) here (find (λ line. is_heading line.bytes) (reverse (numbered lines)))

last_opened-after : (earlier : List Line) → last_opened (numbered (reverse earlier)) ≡ section_after earlier
last_opened-after [] = refl
last_opened-after (line ∷ earlier) =
    ap (λ lines. last_opened (numbered lines)) (reverse_onto earlier line [])
    ∙ last_opened-push (reverse earlier) line
    ∙ ap (section_from line) (last_opened-after earlier)

-- the section in force before a line is that of the nearest heading above it
section-above : (file earlier : List Line) (line : Line) (rest : List Line) → file ≡ reverse earlier ++ (line ∷ rest) → option_and_then opened (heading_above file (length earlier + 1)) ≡ section_after earlier
section-above file earlier line rest e =
    let long = length-reverse earlier in
    ap last_opened (ap (λ f. lines_above f (length earlier + 1)) e ∙ above-earlier (reverse earlier) (length earlier + 1) (line ∷ rest) (omega arith))
    ∙ last_opened-after earlier

added-case : (belongs : Bool) (line : List ℕ) (number : ℕ) (lines : List SourceLine) → added belongs line number ++ lines ≡ cond belongs (record { number = number; bytes = line } ∷ lines) lines
added-case true line number lines = refl
added-case false line number lines = refl

-- what one line adds, before what the later ones add
added-one : (kind : SectionKind) (file earlier : List Line) (line : Line) (rest : List Line) → file ≡ reverse earlier ++ (line ∷ rest) →
    adds kind (section_after earlier) line (length earlier + 1) ++ filter (belongs kind file) (numbered_from (length (line ∷ earlier) + 1) rest)
    ≡ filter (belongs kind file) (numbered_from (length earlier + 1) (line ∷ rest))
added-one kind file earlier None rest e = ap (λ n. filter (belongs kind file) (numbered_from n rest)) (omega arith)
added-one kind file earlier (Some line) rest e =
    let more = filter (belongs kind file) (numbered_from (length earlier + 1 + 1) rest) in
    ap (λ n. adds kind (section_after earlier) (Some line) (length earlier + 1) ++ filter (belongs kind file) (numbered_from n rest)) (omega arith)
    ∙ added-case (is_content line && is_in kind (section_after earlier)) line (length earlier + 1) more
    ∙ ap (λ section. cond (is_content line && is_in kind section) (record { number = length earlier + 1; bytes = line } ∷ more) more) (sym (section-above file earlier (Some line) rest e))

pub turned : {X : Type 0} (x : X) (some more : List X) → reverse (x ∷ some) ++ more ≡ reverse some ++ (x ∷ more)
turned x some more = ap (λ xs. xs ++ more) (reverse_onto some x []) ∙ append_assoc (reverse some) (x ∷ []) more

kept-from : (kind : SectionKind) (file later earlier : List Line) → file ≡ reverse earlier ++ later →
    section_lines kind (reverse later ++ earlier) ≡ section_lines kind earlier ++ filter (belongs kind file) (numbered_from (length earlier + 1) later)
kept-from kind file [] earlier e = sym (append-nil (section_lines kind earlier))
kept-from kind file (line ∷ rest) earlier e =
    ap (section_lines kind) (turned line rest earlier)
    ∙ kept-from kind file rest (line ∷ earlier) (e ∙ sym (turned line earlier rest))
    ∙ append_assoc (section_lines kind earlier) (adds kind (section_after earlier) line (length earlier + 1)) (filter (belongs kind file) (numbered_from (length (line ∷ earlier) + 1) rest))
    ∙ ap (λ lines. section_lines kind earlier ++ lines) (added-one kind file earlier line rest e)

-- the lines kept of a section are those of the file that belong to it
pub kept-belongs : (file : List Line) (kind : SectionKind) → section_lines kind (reverse file) ≡ filter (belongs kind file) (numbered file)
kept-belongs file kind = ap (section_lines kind) (sym (append-nil (reverse file))) ∙ kept-from kind file file [] refl

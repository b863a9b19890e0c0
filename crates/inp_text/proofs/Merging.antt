-- The lines of several sections are those of each, merged by number.
use Rattle.std.proofs.Common.{◌≡◌, ℕ, ◌+◌, ◌<◌, ◌≤◌, nat_lt, Bool, true, false, ◌&&◌, ◌||◌}
use Rattle.std.proofs.Common.{List, [], ◌∷◌, ◌++◌, reverse, filter, map, refl, ap, sym, ◌∙◌, arith}
use Rattle.std.proofs.Common.{All, AllPairs}
use Rattle.std.proofs.lemmas.List.Elements.{All-nil, All-cons, All-weaker}
use Rattle.std.proofs.lemmas.List.Kept.{AllPairs-cons}
use Rattle.std.proofs.lemmas.Bool.Decides.{nat_tests}
use Rattle.std.specs.Prelude.{if◌then◌else◌, cond, Option, Some, None, option_and_then}
use Rattle.inp_text.specs.Headings.{is_kind, is_in}
use Rattle.inp_text.specs.Sections.{Line, is_content, section_lines}
use Rattle.inp_text.specs.Belonging.{numbered_from, numbered, belongs}
use Rattle.inp_text.specs.Merging.{SectionLine, in_section, section_at, content_in, read_among}
use Rattle.inp_text.specs.Merging.{lines_in, merged_onto, merged}
use Rattle.inp_text.specs.declared.section_kind.SectionKind.{SectionKind}
use Rattle.inp_text.specs.declared.source_line.SourceLine.{SourceLine}
use Rattle.inp_text.proofs.Belongs.{kept-belongs}
use Rattle.inp_text.proofs.Members.{same_kind}

-- the numbers rise from above a bound
abbrev Rises : ℕ → List SectionLine → Type 0
Rises bound [] = Unit {0}
Rises bound (first ∷ later) = (bound < first.line.number) × Rises first.line.number later

Rises-weaker : (low high : ℕ) (lines : List SectionLine) → low ≤ high → Rises high lines → Rises low lines
Rises-weaker low high [] le rises = tt
Rises-weaker low high (first ∷ later) le rises = let above = rises.0 in (omega arith, rises.1)

Rises-case : (b : Bool) (bound : ℕ) (first : SectionLine) (later : List SectionLine)
    → bound < first.line.number → Rises first.line.number later → Rises bound (cond b (first ∷ later) later)
Rises-case true bound first later lt rises = (lt, rises)
Rises-case false bound first later lt rises =
    Rises-weaker bound first.line.number later (omega (arith, lt)) rises

Rises-filter : (p : SectionLine → Bool) (bound : ℕ) (lines : List SectionLine)
    → Rises bound lines → Rises bound (filter p lines)
Rises-filter p bound [] rises = tt
Rises-filter p bound (first ∷ later) rises =
    Rises-case (p first) bound first (filter p later) rises.0
    (Rises-filter p first.line.number later rises.1)

Rises-content : (content : Bool) (section : Option SectionKind) (line : SourceLine) (bound : ℕ)
    (later : List SectionLine) → bound < line.number → Rises line.number later
    → Rises bound (content_in content section line ++ later)
Rises-content true (Some kind) line bound later lt rises = (lt, rises)
Rises-content true None line bound later lt rises =
    Rises-weaker bound line.number later (omega (arith, lt)) rises
Rises-content false section line bound later lt rises =
    Rises-weaker bound line.number later (omega (arith, lt)) rises

Rises-read : (file : List Line) (bound number : ℕ) (lines : List Line) → bound < number
    → Rises bound (read_among file (numbered_from number lines))
Rises-read file bound number [] lt = tt
Rises-read file bound number (None ∷ later) lt =
    Rises-read file bound (number + 1) later (omega (arith, lt))
Rises-read file bound number (Some bytes ∷ later) lt =
    let line : SourceLine = record { number = number; bytes = bytes } in
    Rises-content (is_content bytes) (section_at file line) line bound
    (read_among file (numbered_from (number + 1) later)) lt
    (Rises-read file number (number + 1) later (omega arith))

above : (bound : ℕ) (lines : List SectionLine) → Rises bound lines
    → All (λ found. bound < found.line.number) lines
above bound [] rises = All-nil (λ found. bound < found.line.number)
above bound (first ∷ later) rises =
    let lt = rises.0 in
    All-cons (λ found. bound < found.line.number) first later rises.0
    (All-weaker (λ (found : SectionLine). first.line.number < found.line.number)
    (λ found. bound < found.line.number) (λ found less. omega arith) later
    (above first.line.number later rises.1))

pairs : (bound : ℕ) (lines : List SectionLine) → Rises bound lines
    → AllPairs (λ found later. found.line.number < later.line.number) lines
pairs bound [] rises = λ i j d lt within. absurd (omega arith)
pairs bound (first ∷ later) rises =
    AllPairs-cons (λ found next. found.line.number < next.line.number) first later
    (above first.line.number later rises.1) (pairs first.line.number later rises.1)

-- the first of the one list or of the other comes first
is_later : (number other : ℕ) → number < other → nat_lt other number ≡ false
is_later number other lt = grind (arith, nat_tests)

is_earlier : (number other : ℕ) → other < number → nat_lt other number ≡ true
is_earlier number other lt = grind (arith, nat_tests)

one-first : (first : SectionLine) (later others : List SectionLine)
    → Rises first.line.number others → merged (first ∷ later) others ≡ first ∷ merged later others
one-first first later [] rises = refl
one-first first later (other ∷ others) rises =
    ap (λ b. cond b (other ∷ merged_onto first (merged later) others)
    (first ∷ merged later (other ∷ others)))
    (is_later first.line.number other.line.number rises.0)

other-first : (other : SectionLine) (lines others : List SectionLine)
    → Rises other.line.number lines → merged lines (other ∷ others) ≡ other ∷ merged lines others
other-first other [] others rises = refl
other-first other (first ∷ later) others rises =
    ap (λ b. cond b (other ∷ merged_onto first (merged later) others)
    (first ∷ merged later (other ∷ others)))
    (is_earlier first.line.number other.line.number rises.0)

either-case : (p q : Bool) (first : SectionLine) (ps qs both : List SectionLine)
    → (p && q) ≡ false → Rises first.line.number ps → Rises first.line.number qs
    → merged ps qs ≡ both
    → merged (cond p (first ∷ ps) ps) (cond q (first ∷ qs) qs) ≡ cond (p || q) (first ∷ both) both
either-case true true first ps qs both apart one other same = cc
either-case true false first ps qs both apart one other same =
    one-first first ps qs other ∙ ap (λ lines. first ∷ lines) same
either-case false true first ps qs both apart one other same =
    other-first first ps qs one ∙ ap (λ lines. first ∷ lines) same
either-case false false first ps qs both apart one other same = same

either : (p q : SectionLine → Bool) → ((found : SectionLine) → (p found && q found) ≡ false)
    → (bound : ℕ) (lines : List SectionLine) → Rises bound lines
    → merged (filter p lines) (filter q lines) ≡ filter (λ found. p found || q found) lines
either p q apart bound [] rises = refl
either p q apart bound (first ∷ later) rises =
    either-case (p first) (q first) first (filter p later) (filter q later)
    (filter (λ found. p found || q found) later) (apart first)
    (Rises-filter p first.line.number later rises.1)
    (Rises-filter q first.line.number later rises.1)
    (either p q apart first.line.number later rises.1)

pub merged-either : (file : List Line) (one other : SectionKind → Bool)
    → ((kind : SectionKind) → (one kind && other kind) ≡ false)
    → merged (lines_in one file) (lines_in other file) ≡ lines_in (λ kind. one kind || other kind) file
merged-either file one other apart =
    either (λ found. one found.kind) (λ found. other found.kind) (λ found. apart found.kind) 0
    (read_among file (numbered file)) (Rises-read file 0 1 file (omega arith))

pub lines_in-rise : (file : List Line) (test : SectionKind → Bool)
    → AllPairs (λ found later. found.line.number < later.line.number) (lines_in test file)
lines_in-rise file test =
    pairs 0 (lines_in test file)
    (Rises-filter (λ found. test found.kind) 0 (read_among file (numbered file))
    (Rises-read file 0 1 file (omega arith)))

kind-case : (b : Bool) (kind section : SectionKind) (line : SourceLine) (found : List SectionLine)
    (lines : List SourceLine) → is_kind kind section ≡ b → found ≡ map (in_section kind) lines
    → cond b (in_section section line ∷ found) found
    ≡ map (in_section kind) (cond b (line ∷ lines) lines)
kind-case true kind section line found lines e same =
    ap (λ k. in_section k line ∷ found) (same_kind kind section e)
    ∙ ap (λ rest. in_section kind line ∷ rest) same
kind-case false kind section line found lines e same = same

content-case : (content : Bool) (section : Option SectionKind) (kind : SectionKind)
    (line : SourceLine) (found : List SectionLine) (lines : List SourceLine)
    → filter (λ found. is_kind kind found.kind) found ≡ map (in_section kind) lines
    → filter (λ found. is_kind kind found.kind) (content_in content section line ++ found)
    ≡ map (in_section kind) (cond (content && is_in kind section) (line ∷ lines) lines)
content-case true (Some section) kind line found lines same =
    kind-case (is_kind kind section) kind section line
    (filter (λ found. is_kind kind found.kind) found) lines refl same
content-case true None kind line found lines same = same
content-case false section kind line found lines same = same

one-section : (file : List Line) (kind : SectionKind) (lines : List SourceLine)
    → filter (λ found. is_kind kind found.kind) (read_among file lines)
    ≡ map (in_section kind) (filter (belongs kind file) lines)
one-section file kind [] = refl
one-section file kind (line ∷ later) =
    content-case (is_content line.bytes) (section_at file line) kind line (read_among file later)
    (filter (belongs kind file) later) (one-section file kind later)

pub lines_in-one : (file : List Line) (kind : SectionKind)
    → lines_in (is_kind kind) file ≡ map (in_section kind) (section_lines kind (reverse file))
lines_in-one file kind =
    one-section file kind (numbered file) ∙ ap (map (in_section kind)) (sym (kept-belongs file kind))

-- What one more line does to what sections stand for.
use Rattle.std.proofs.Common.{◌≡◌, ℕ, ◌+◌, ◌==◌, Bool, true, false, not, ◌&&◌, List, [], ◌∷◌, ◌++◌, length, refl, ap, sym, ◌∙◌, arith, true≢false}
use Rattle.std.proofs.lemmas.List.{append-nil}
use Rattle.std.proofs.lemmas.Bool.Decides.{nat_tests}
use Rattle.std.specs.Prelude.{if◌then◌else◌, Option, Some, None, slice_get}
use Rattle.inp_text.specs.Items.{is_blank, begins_blank, onto_first, words, items, before_comment}
use Rattle.inp_text.specs.Headings.{first_of, first_item, opens_bracket, is_heading, section_named, is_kind, is_in}
use Rattle.inp_text.specs.Sections.{Line, has_some, is_content, added, section_after, section_lines}
use Rattle.inp_text.specs.internal.Represents.{kept, Represents}
use Rattle.inp_text.specs.internal.AddsLine.{extended, AddsLine, Unchanged}
use Rattle.inp_text.specs.declared.section_kind.SectionKind.{SectionKind}
use Rattle.inp_text.specs.declared.section_kind.SectionKind.TheVariants.{Options, Gages, Junctions, Outfalls, Dividers, Storage, Conduits, Pumps, Orifices, Weirs, Outlets, Controls, Curves, Series}
use Rattle.inp_text.specs.declared.source_line.SourceLine.{SourceLine}
use Rattle.inp_text.specs.declared.kept_lines.KeptLines.{KeptLines}
use Rattle.inp_text.specs.declared.sections.Sections.{Sections}

-- some bytes
abbrev pub has_byte : List ℕ → Bool
has_byte [] = false
has_byte (byte ∷ rest) = true

some_case : (here next : Bool) (byte : ℕ) (found : List (List ℕ)) → has_some found ≡ has_byte (first_of found) →
    has_some (if here then found else (if next then (byte ∷ []) ∷ found else onto_first byte found))
    ≡ has_byte (first_of (if here then found else (if next then (byte ∷ []) ∷ found else onto_first byte found)))
some_case true next byte found p = p
some_case false true byte found p = refl
some_case false false byte [] p = refl
some_case false false byte (word ∷ later) p = refl

-- there are items exactly where the first of them has a byte
pub has_some-words : (text : List ℕ) → has_some (words text) ≡ has_byte (first_of (words text))
has_some-words [] = refl
has_some-words (byte ∷ rest) = some_case (is_blank byte) (begins_blank rest) byte (words rest) (has_some-words rest)

-- a line without a first item is no content
pub content-none : (line : List ℕ) → first_item line ≡ [] → is_content line ≡ false
content-none line e = ap (λ b. b && not (is_heading line)) (has_some-words (before_comment line) ∙ ap has_byte e)

and_not : (b : Bool) → (b && false) ≡ false
and_not true = refl
and_not false = refl

-- a heading is no content
pub content-heading : (line : List ℕ) → is_heading line ≡ true → is_content line ≡ false
content-heading line e = ap (λ b. has_some (items line) && not b) e ∙ and_not (has_some (items line))

some_byte : (item : List ℕ) → (item ≡ [] → ⊥) → has_byte item ≡ true
some_byte [] p = absurd (p refl)
some_byte (byte ∷ rest) p = refl

-- a line with a first item is content where it is no heading
pub content-some : (line : List ℕ) → (first_item line ≡ [] → ⊥) → is_heading line ≡ false → is_content line ≡ true
content-some line p e = ap (λ b. b && not (is_heading line)) (has_some-words (before_comment line) ∙ some_byte (first_item line) p) ∙ ap not e

-- what is kept of a section after one more line of some section
pub kept-extended : (before after : KeptLines) (kind section : SectionKind) (line : SourceLine) → AddsLine before after section line →
    kept after kind ≡ extended (is_kind kind section) (kept before kind) line
kept-extended before after Options section line g = g.in_options
kept-extended before after Gages section line g = g.in_gages
kept-extended before after Junctions section line g = g.in_junctions
kept-extended before after Outfalls section line g = g.in_outfalls
kept-extended before after Dividers section line g = g.in_dividers
kept-extended before after Storage section line g = g.in_storage
kept-extended before after Conduits section line g = g.in_conduits
kept-extended before after Pumps section line g = g.in_pumps
kept-extended before after Orifices section line g = g.in_orifices
kept-extended before after Weirs section line g = g.in_weirs
kept-extended before after Outlets section line g = g.in_outlets
kept-extended before after Controls section line g = g.in_controls
kept-extended before after Curves section line g = g.in_curves
kept-extended before after Series section line g = g.in_series

pub kept-unchanged : (before after : KeptLines) (kind : SectionKind) → Unchanged before after → kept after kind ≡ kept before kind
kept-unchanged before after Options g = g.in_options
kept-unchanged before after Gages g = g.in_gages
kept-unchanged before after Junctions g = g.in_junctions
kept-unchanged before after Outfalls g = g.in_outfalls
kept-unchanged before after Dividers g = g.in_dividers
kept-unchanged before after Storage g = g.in_storage
kept-unchanged before after Conduits g = g.in_conduits
kept-unchanged before after Pumps g = g.in_pumps
kept-unchanged before after Orifices g = g.in_orifices
kept-unchanged before after Weirs g = g.in_weirs
kept-unchanged before after Outlets g = g.in_outlets
kept-unchanged before after Controls g = g.in_controls
kept-unchanged before after Curves g = g.in_curves
kept-unchanged before after Series g = g.in_series

-- a line that adds nothing
added-none : (content : Bool) (inside : Bool) (line : List ℕ) (number : ℕ) (lines : List SourceLine) → content ≡ false → lines ≡ lines ++ added (content && inside) line number
added-none true inside line number lines e = cc
added-none false inside line number lines e = sym (append-nil lines)

added-unread : (content : Bool) (line : List ℕ) (number : ℕ) (lines : List SourceLine) → lines ≡ lines ++ added (content && false) line number
added-unread true line number lines = sym (append-nil lines)
added-unread false line number lines = sym (append-nil lines)

added-extended : (content inside : Bool) (line : List ℕ) (number : ℕ) (lines : List SourceLine) → content ≡ true →
    extended inside lines (record { number = number; bytes = line }) ≡ lines ++ added (content && inside) line number
added-extended false inside line number lines e = cc
added-extended true true line number lines e = refl
added-extended true false line number lines e = sym (append-nil lines)

-- the section in force, by whether the line is a heading
in_force-heading : (heading : Bool) (named before : Option SectionKind) → heading ≡ true → named ≡ (if heading then named else before)
in_force-heading true named before e = refl
in_force-heading false named before e = cc

in_force-same : (heading : Bool) (named before : Option SectionKind) → heading ≡ false → before ≡ (if heading then named else before)
in_force-same true named before e = cc
in_force-same false named before e = refl

-- after a heading
pub Represents-heading : (old new : Sections) (line : List ℕ) → is_heading line ≡ true → new.count ≡ old.count + 1 → new.section ≡ section_named (first_item line) → new.kept ≡ old.kept → new.first_long ≡ old.first_long →
    (earlier : List Line) → Represents old earlier → Represents new (Some line ∷ earlier)
Represents-heading old new line heading count section same long earlier s = record {
  counted = count ∙ ap (λ n. n + 1) s.counted ∙ (omega arith);
  in_force = section ∙ in_force-heading (is_heading line) (section_named (first_item line)) (section_after earlier) heading;
  lines = λ kind. ap (λ k. kept k kind) same ∙ s.lines kind ∙ added-none (is_content line) (is_in kind (section_after earlier)) line (length earlier + 1) (section_lines kind earlier) (content-heading line heading);
  long = long ∙ s.long;
}

no_heading-none : (line : List ℕ) → first_item line ≡ [] → is_heading line ≡ false
no_heading-none line e = ap opens_bracket e

-- after a line without items
pub Represents-none : (old new : Sections) (line : List ℕ) → first_item line ≡ [] → new.count ≡ old.count + 1 → new.section ≡ old.section → new.kept ≡ old.kept → new.first_long ≡ old.first_long →
    (earlier : List Line) → Represents old earlier → Represents new (Some line ∷ earlier)
Represents-none old new line none count section same long earlier s = record {
  counted = count ∙ ap (λ n. n + 1) s.counted ∙ (omega arith);
  in_force = section ∙ s.in_force ∙ in_force-same (is_heading line) (section_named (first_item line)) (section_after earlier) (no_heading-none line none);
  lines = λ kind. ap (λ k. kept k kind) same ∙ s.lines kind ∙ added-none (is_content line) (is_in kind (section_after earlier)) line (length earlier + 1) (section_lines kind earlier) (content-none line none);
  long = long ∙ s.long;
}

-- after a line of a section that is not read
pub Represents-unread : (old new : Sections) (line : List ℕ) → is_heading line ≡ false → old.section ≡ None → new.count ≡ old.count + 1 → new.section ≡ old.section → new.kept ≡ old.kept → new.first_long ≡ old.first_long →
    (earlier : List Line) → Represents old earlier → Represents new (Some line ∷ earlier)
Represents-unread old new line heading unread count section same long earlier s = record {
  counted = count ∙ ap (λ n. n + 1) s.counted ∙ (omega arith);
  in_force = section ∙ s.in_force ∙ in_force-same (is_heading line) (section_named (first_item line)) (section_after earlier) heading;
  lines = λ kind. ap (λ k. kept k kind) same ∙ s.lines kind
      ∙ added-unread (is_content line) line (length earlier + 1) (section_lines kind earlier)
      ∙ ap (λ section. section_lines kind earlier ++ added (is_content line && is_in kind section) line (length earlier + 1)) (sym unread ∙ s.in_force);
  long = long ∙ s.long;
}

-- after a line that its section keeps
pub Represents-kept : (old new : Sections) (line : List ℕ) (section : SectionKind) → is_heading line ≡ false → (first_item line ≡ [] → ⊥) → old.section ≡ Some section →
    new.count ≡ old.count + 1 → new.section ≡ old.section → AddsLine old.kept new.kept section (record { number = old.count + 1; bytes = line }) → new.first_long ≡ old.first_long →
    (earlier : List Line) → Represents old earlier → Represents new (Some line ∷ earlier)
Represents-kept old new line section heading some read count same gains long earlier s = record {
  counted = count ∙ ap (λ n. n + 1) s.counted ∙ (omega arith);
  in_force = same ∙ s.in_force ∙ in_force-same (is_heading line) (section_named (first_item line)) (section_after earlier) heading;
  lines = λ kind. kept-extended old.kept new.kept kind section _ gains
      ∙ ap (λ lines. extended (is_kind kind section) lines (record { number = old.count + 1; bytes = line })) (s.lines kind)
      ∙ ap (λ n. extended (is_kind kind section) (section_lines kind earlier) (record { number = n + 1; bytes = line })) s.counted
      ∙ added-extended (is_content line) (is_kind kind section) line (length earlier + 1) (section_lines kind earlier) (content-some line some heading)
      ∙ ap (λ inside. section_lines kind earlier ++ added (is_content line && is_in kind inside) line (length earlier + 1)) (sym read ∙ s.in_force);
  long = long ∙ s.long;
}

-- where nothing is taken
pub Represents-same : (old new : Sections) → new.count ≡ old.count → new.section ≡ old.section → Unchanged old.kept new.kept → new.first_long ≡ old.first_long →
    (earlier : List Line) → Represents old earlier → Represents new earlier
Represents-same old new count section stays long earlier s = record {
  counted = count ∙ s.counted;
  in_force = section ∙ s.in_force;
  lines = λ kind. kept-unchanged old.kept new.kept kind stays ∙ s.lines kind;
  long = long ∙ s.long;
}

pub empty-of : (item : List ℕ) → (length item == 0) ≡ true → item ≡ []
empty-of [] e = refl
empty-of (byte ∷ rest) e = grind (arith, nat_tests)

pub some-of : (item : List ℕ) → (length item == 0) ≡ false → item ≡ [] → ⊥
some-of [] e p = cc
some-of (byte ∷ rest) e p = cc

first-none : (found : List (List ℕ)) → has_some found ≡ has_byte (first_of found)
    → first_of found ≡ [] → slice_get found 0 ≡ None
first-none [] same e = refl
first-none (word ∷ later) same e = absurd (true≢false (same ∙ ap has_byte e))

first-some : (found : List (List ℕ)) → (first_of found ≡ [] → ⊥)
    → Some (first_of found) ≡ slice_get found 0
first-some [] p = absurd (p refl)
first-some (word ∷ later) p = refl

-- a line has no first item where the bytes found for it are none
pub no-item : (line item : List ℕ) → item ≡ first_item line → (length item == 0) ≡ true
    → None ≡ slice_get (items line) 0
no-item line item is none =
    sym (first-none (items line) (has_some-words (before_comment line)) (sym is ∙ empty-of item none))

-- else these bytes are its first item
pub one-item : (line item : List ℕ) → item ≡ first_item line → (length item == 0) ≡ false
    → Some item ≡ slice_get (items line) 0
one-item line item is some =
    ap Some is ∙ first-some (items line) (λ e. some-of item some (is ∙ e))

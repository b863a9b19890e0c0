-- A line is kept of a section exactly where it stands under a heading of that section.
use Rattle.std.proofs.Common.{◌≡◌, ◌≢◌, ℕ, zero, suc, ◌+◌, ◌-◌, ◌<◌, ◌≤◌, ◌⊎◌, inl, inr, nat_lt, Bool, true, false, not, ◌&&◌, List, [], ◌∷◌, ◌++◌, length, get_or, reverse, filter, refl, ap, sym, ◌∙◌, subst, arith, All, AllPairs, Contains}
use Rattle.std.proofs.lemmas.List.{append-nil, reverse-reverse}
use Rattle.std.proofs.lemmas.List.Elements.{All-nil, All-cons, All-weaker, All-contains, All-contains_itself, All-filter, filter_passes, Contains-append_right}
use Rattle.std.proofs.lemmas.List.Kept.{AllPairs-cons, AllPairs-filter}
use Rattle.std.proofs.lemmas.List.Sorted.{Contains-permutation, IsPermutation-reverse}
use Rattle.std.proofs.lemmas.Option.{option_and_then_some}
use Rattle.std.proofs.lemmas.Bool.Decides.{nat_tests}
use Rattle.std.proofs.Math.Nat.{eq-or-lt_of_le}
use Rattle.std.specs.Prelude.{cond, Option, Some, None, find, option_and_then, slice_get}
use Rattle.inp_text.specs.Items.{items}
use Rattle.inp_text.specs.Headings.{is_heading, is_kind, is_in}
use Rattle.inp_text.specs.Sections.{Line, has_some, is_content, section_lines}
use Rattle.inp_text.specs.Belonging.{numbered_from, numbered, lines_above, heading_above, opened, belongs, HasLine, IsNearestHeading, IsLineOf}
use Rattle.inp_text.specs.declared.section_kind.SectionKind.{SectionKind}
use Rattle.inp_text.specs.declared.section_kind.SectionKind.TheVariants.{Options, Gages, Junctions, Outfalls, Dividers, Storage, Conduits, Pumps, Orifices, Weirs, Outlets, Controls, Curves, Series}
use Rattle.inp_text.specs.declared.source_line.SourceLine.{SourceLine}
use Rattle.inp_text.proofs.Belongs.{turned, kept-belongs}

-- a filter keeps exactly the elements that pass
passed : (p : SourceLine → Bool) (xs : List SourceLine) (x : SourceLine) → Contains (filter p xs) x → Contains xs x × (p x ≡ true)
passed p xs x h =
    (All-contains (Contains xs) (filter p xs) x (All-filter p (Contains xs) xs (All-contains_itself xs)) h, All-contains (λ y. p y ≡ true) (filter p xs) x (filter_passes p xs) h)

kept-head : (b : Bool) (x : SourceLine) (xs : List SourceLine) → b ≡ true → Contains (cond b (x ∷ xs) xs) x
kept-head true x xs e = (0, omega arith, refl)
kept-head false x xs e = cc

kept-tail : (b : Bool) (x y : SourceLine) (xs : List SourceLine) → Contains xs y → Contains (cond b (x ∷ xs) xs) y
kept-tail true x y xs h = Contains-append_right (x ∷ []) xs y h
kept-tail false x y xs h = h

keeps : (p : SourceLine → Bool) (xs : List SourceLine) → All (λ y. p y ≡ true → Contains (filter p xs) y) xs
keeps p [] = All-nil (λ y. p y ≡ true → Contains (filter p []) y)
keeps p (x ∷ xs) =
    All-cons (λ y. p y ≡ true → Contains (filter p (x ∷ xs)) y) x xs (kept-head (p x) x (filter p xs))
    (All-weaker (λ y. p y ≡ true → Contains (filter p xs) y) (λ y. p y ≡ true → Contains (filter p (x ∷ xs)) y) (λ y h e. kept-tail (p x) x y (filter p xs) (h e)) xs (keeps p xs))

keeps-at : (p : SourceLine → Bool) (xs : List SourceLine) (x : SourceLine) → Contains xs x → p x ≡ true → Contains (filter p xs) x
keeps-at p xs x h = All-contains (λ y. p y ≡ true → Contains (filter p xs) y) xs x (keeps p xs) h

head_or_tail : (y : SourceLine) (rest : List SourceLine) (z : SourceLine) → Contains (y ∷ rest) z → (y ≡ z) ⊎ Contains rest z
head_or_tail y rest z h = at h.0 h.1 h.2
  where
    at : (k : ℕ) → k < length (y ∷ rest) → get_or (y ∷ rest) k z ≡ z → (y ≡ z) ⊎ Contains rest z
    at zero lt e = inl e
    at (suc k) lt e = inr (k, omega arith, e)

-- the numbers fall from below a bound
abbrev Falls : ℕ → List SourceLine → Type 0
Falls bound [] = Unit {0}
Falls bound (line ∷ rest) = (line.number < bound) × Falls line.number rest

Falls-weaker : (low high : ℕ) (lines : List SourceLine) → low ≤ high → Falls low lines → Falls high lines
Falls-weaker low high [] le falls = tt
Falls-weaker low high (line ∷ rest) le falls = let first = falls.0 in (omega arith, falls.1)

below : (bound : ℕ) (lines : List SourceLine) → Falls bound lines → All (λ line. line.number < bound) lines
below bound [] falls = All-nil (λ line. line.number < bound)
below bound (line ∷ rest) falls =
    let first = falls.0 in
    All-cons (λ line. line.number < bound) line rest falls.0
    (All-weaker (λ (other : SourceLine). other.number < line.number) (λ other. other.number < bound) (λ other lt. omega arith) rest (below line.number rest falls.1))

Falls-case : (b : Bool) (line : SourceLine) (some more : List SourceLine) (bound : ℕ) → Falls bound (reverse some ++ (line ∷ more)) → Falls bound (reverse some ++ more) → Falls bound (reverse (cond b (line ∷ some) some) ++ more)
Falls-case true line some more bound whole without = subst (Falls bound) (sym (turned line some more)) whole
Falls-case false line some more bound whole without = without

Falls-numbered : (p : SourceLine → Bool) (number : ℕ) (lines : List Line) (more : List SourceLine) → Falls number more → Falls (number + length lines) (reverse (filter p (numbered_from number lines)) ++ more)
Falls-numbered p number [] more falls = Falls-weaker number (number + 0) more (omega arith) falls
Falls-numbered p number (None ∷ lines) more falls =
    let whole : List Line = None ∷ lines in
    Falls-weaker (number + 1 + length lines) (number + length whole) _ (omega arith) (Falls-numbered p (number + 1) lines more (Falls-weaker number (number + 1) more (omega arith) falls))
Falls-numbered p number (Some line ∷ lines) more falls =
    let here : SourceLine = record { number = number; bytes = line } in
    Falls-weaker (number + 1 + length lines) (number + length (Some line ∷ lines)) _ (omega arith)
    (Falls-case (p here) here (filter p (numbered_from (number + 1) lines)) more (number + 1 + length lines)
    (Falls-numbered p (number + 1) lines (here ∷ more) (omega arith, falls))
    (Falls-numbered p (number + 1) lines more (Falls-weaker number (number + 1) more (omega arith) falls)))

-- of these lines this one passes, and none with a greater number
record IsLast (p : SourceLine → Bool) (lines : List SourceLine) (line : SourceLine) : Type 0 where
  among : Contains lines line
  passes : p line ≡ true
  last : (other : SourceLine) → Contains lines other → line.number < other.number → p other ≡ false

found-case : (p : SourceLine → Bool) (bound : ℕ) (y : SourceLine) (rest : List SourceLine) (line : SourceLine) (b : Bool) → p y ≡ b → Falls bound (y ∷ rest) →
    cond b (Some y) (find p rest) ≡ Some line → (find p rest ≡ Some line → IsLast p rest line) → IsLast p (y ∷ rest) line
found-case p bound y rest line true e falls is again =
    let same : y ≡ line = cc in
    subst (IsLast p (y ∷ rest)) same (record {
      among = (0, omega arith, refl);
      passes = e;
      last = λ other inside lt. elim (head_or_tail y rest other inside) [
        | inl it ↦ absurd (let one = ap (λ (l : SourceLine). l.number) it in omega arith)
        | inr later ↦ absurd (let less = All-contains (λ (l : SourceLine). l.number < y.number) rest other (below y.number rest falls.1) later in omega arith)
      ];
    })
found-case p bound y rest line false e falls is again =
    let before = again is in
    record {
      among = Contains-append_right (y ∷ []) rest line before.among;
      passes = before.passes;
      last = λ other inside lt. elim (head_or_tail y rest other inside) [
        | inl it ↦ ap p (sym it) ∙ e
        | inr later ↦ before.last other later lt
      ];
    }

found : (p : SourceLine → Bool) (bound : ℕ) (lines : List SourceLine) (line : SourceLine) → Falls bound lines → find p lines ≡ Some line → IsLast p lines line
found p bound [] line falls is = cc
found p bound (y ∷ rest) line falls is = found-case p bound y rest line (p y) refl falls is (found p y.number rest line falls.1)

finds : (p : SourceLine → Bool) (bound : ℕ) (lines : List SourceLine) (line : SourceLine) → Falls bound lines → IsLast p lines line → find p lines ≡ Some line
finds p bound [] line falls is = let none = is.among.1 in absurd (omega arith)
finds p bound (y ∷ rest) line falls is = elim (head_or_tail y rest line is.among) [
  | inl it ↦ ap (λ b. cond b (Some y) (find p rest)) (ap p it ∙ is.passes) ∙ ap Some it
  | inr later ↦
      let less = All-contains (λ (l : SourceLine). l.number < y.number) rest line (below y.number rest falls.1) later in
      ap (λ b. cond b (Some y) (find p rest)) (is.last y (0, omega arith, refl) less)
      ∙ finds p y.number rest line falls.1 (record { among = later; passes = is.passes; last = λ other inside. is.last other (Contains-append_right (y ∷ []) rest other inside) })
]

below-is : (number bound : ℕ) → nat_lt number bound ≡ true → number < bound
below-is number bound e = grind (arith, nat_tests)

is-below : (number bound : ℕ) → number < bound → nat_lt number bound ≡ true
is-below number bound lt = grind (arith, nat_tests)

-- the lines above a number, from the last one on
abbrev upwards : List Line → ℕ → List SourceLine
upwards file number = reverse (lines_above file number)

Falls-upwards : (file : List Line) (number : ℕ) → Falls (1 + length file) (upwards file number)
Falls-upwards file number =
    subst (Falls (1 + length file)) (append-nil (upwards file number)) (Falls-numbered (λ line. nat_lt line.number number) 1 file [] tt)

from_upwards : (file : List Line) (number : ℕ) (line : SourceLine) → Contains (upwards file number) line → Contains (numbered file) line × (line.number < number)
from_upwards file number line h =
    let turned_back = Contains-permutation (upwards file number) (reverse (upwards file number)) line (IsPermutation-reverse (upwards file number)) h in
    let there = passed (λ line. nat_lt line.number number) (numbered file) line (subst (λ (lines : List SourceLine). Contains lines line) (reverse-reverse (lines_above file number)) turned_back) in
    (there.0, below-is line.number number there.1)

to_upwards : (file : List Line) (number : ℕ) (line : SourceLine) → Contains (numbered file) line → line.number < number → Contains (upwards file number) line
to_upwards file number line h lt =
    Contains-permutation (lines_above file number) (upwards file number) line (IsPermutation-reverse (lines_above file number))
    (keeps-at (λ line. nat_lt line.number number) (numbered file) line h (is-below line.number number lt))

-- a line stands at its number, where the first of these lines has this one
record IsFrom (number : ℕ) (lines : List Line) (line : SourceLine) : Type 0 where
  low : number ≤ line.number
  there : slice_get lines (line.number - number) ≡ Some (Some line.bytes)

IsFrom-later : (number : ℕ) (first : Line) (lines : List Line) (line : SourceLine) → IsFrom (number + 1) lines line → IsFrom number (first ∷ lines) line
IsFrom-later number first lines line is =
    let low = is.low in
    let next : line.number - number ≡ suc (line.number - (number + 1)) = omega arith in
    record { low = omega arith; there = ap (slice_get (first ∷ lines)) next ∙ is.there }

numbered-from : (number : ℕ) (lines : List Line) → All (IsFrom number lines) (numbered_from number lines)
numbered-from number [] = All-nil (IsFrom number [])
numbered-from number (None ∷ lines) =
    All-weaker (IsFrom (number + 1) lines) (IsFrom number (None ∷ lines)) (IsFrom-later number None lines) (numbered_from (number + 1) lines) (numbered-from (number + 1) lines)
numbered-from number (Some line ∷ lines) =
    let none : number - number ≡ 0 = omega arith in
    All-cons (IsFrom number (Some line ∷ lines)) (record { number = number; bytes = line }) (numbered_from (number + 1) lines)
    (record { low = omega arith; there = ap (slice_get (Some line ∷ lines)) none })
    (All-weaker (IsFrom (number + 1) lines) (IsFrom number (Some line ∷ lines)) (IsFrom-later number (Some line) lines) (numbered_from (number + 1) lines) (numbered-from (number + 1) lines))

numbered-first : (number : ℕ) (first : Line) (lines : List Line) (line : SourceLine) → number ≡ line.number → first ≡ Some line.bytes → Contains (numbered_from number (first ∷ lines)) line
numbered-first number None lines line same is = cc
numbered-first number (Some bytes) lines line same is =
    let here : bytes ≡ line.bytes = cc in
    (0, omega arith, ap (λ n. record { number = n; bytes = bytes }) same ∙ ap (λ b. record { number = line.number; bytes = b }) here)

numbered-later : (number : ℕ) (first : Line) (lines : List Line) (line : SourceLine) → Contains (numbered_from (number + 1) lines) line → Contains (numbered_from number (first ∷ lines)) line
numbered-later number None lines line h = h
numbered-later number (Some bytes) lines line h = Contains-append_right (record { number = number; bytes = bytes } ∷ []) (numbered_from (number + 1) lines) line h

from-numbered : (number : ℕ) (lines : List Line) (line : SourceLine) → IsFrom number lines line → Contains (numbered_from number lines) line
from-numbered number [] line is = let there = is.there in cc
from-numbered number (first ∷ lines) line is = elim (eq-or-lt_of_le is.low) [
  | inl same ↦
      let none : line.number - number ≡ 0 = omega arith in
      let here : Some first ≡ Some (Some line.bytes) = sym (ap (slice_get (first ∷ lines)) none) ∙ is.there in
      numbered-first number first lines line same (cc)
  | inr more ↦
      let next : line.number - number ≡ suc (line.number - (number + 1)) = omega arith in
      numbered-later number first lines line
      (from-numbered (number + 1) lines line (record { low = omega arith; there = sym (ap (slice_get (first ∷ lines)) next) ∙ is.there }))
]

-- the numbered lines of a file are the lines that it has
has_line : (file : List Line) (line : SourceLine) → Contains (numbered file) line → HasLine file line
has_line file line h = let is = All-contains (IsFrom 1 file) (numbered file) line (numbered-from 1 file) h in let low = is.low in record { from_1 = omega arith; there = is.there }

numbered-has : (file : List Line) (line : SourceLine) → HasLine file line → Contains (numbered file) line
numbered-has file line is = let some = is.from_1 in from-numbered 1 file line (record { low = omega arith; there = is.there })

-- the heading that is found upwards is the nearest one
nearest-found : (file : List Line) (number : ℕ) (heading : SourceLine) → heading_above file number ≡ Some heading → IsNearestHeading file number heading
nearest-found file number heading e =
    let is = found (λ line. is_heading line.bytes) (1 + length file) (upwards file number) heading (Falls-upwards file number) e in
    let there = from_upwards file number heading is.among in
    record {
      in_file = has_line file heading there.0;
      opens_section = is.passes;
      above = there.1;
      nearest = λ line inside past lt. is.last line (to_upwards file number line (numbered-has file line inside) lt) past;
    }

found-nearest : (file : List Line) (number : ℕ) (heading : SourceLine) → IsNearestHeading file number heading → heading_above file number ≡ Some heading
found-nearest file number heading is =
    finds (λ line. is_heading line.bytes) (1 + length file) (upwards file number) heading (Falls-upwards file number) (record {
      among = to_upwards file number heading (numbered-has file heading is.in_file) is.above;
      passes = is.opens_section;
      last = λ line inside past. let there = from_upwards file number line inside in is.nearest line (has_line file line there.0) past there.1;
    })

both : (a b : Bool) → (a && b) ≡ true → (a ≡ true) × (b ≡ true)
both true b e = (refl, e)
both false b e = cc

pub same_kind : (kind other : SectionKind) → is_kind kind other ≡ true → other ≡ kind
same_kind Options Options e = refl
same_kind Gages Gages e = refl
same_kind Junctions Junctions e = refl
same_kind Outfalls Outfalls e = refl
same_kind Dividers Dividers e = refl
same_kind Storage Storage e = refl
same_kind Conduits Conduits e = refl
same_kind Pumps Pumps e = refl
same_kind Orifices Orifices e = refl
same_kind Weirs Weirs e = refl
same_kind Outlets Outlets e = refl
same_kind Controls Controls e = refl
same_kind Curves Curves e = refl
same_kind Series Series e = refl
same_kind kind other e = cc

itself : (kind : SectionKind) → is_kind kind kind ≡ true
itself Options = refl
itself Gages = refl
itself Junctions = refl
itself Outfalls = refl
itself Dividers = refl
itself Storage = refl
itself Conduits = refl
itself Pumps = refl
itself Orifices = refl
itself Weirs = refl
itself Outlets = refl
itself Controls = refl
itself Curves = refl
itself Series = refl

in_section : (kind : SectionKind) (section : Option SectionKind) → is_in kind section ≡ true → section ≡ Some kind
in_section kind None e = cc
in_section kind (Some section) e = ap Some (same_kind kind section e)

some-items : (found : List (List ℕ)) → has_some found ≡ true → found ≢ []
some-items [] e none = cc
some-items (item ∷ later) e none = cc

items-some : (found : List (List ℕ)) → found ≢ [] → has_some found ≡ true
items-some [] some = absurd (some refl)
items-some (item ∷ later) some = refl

not-true : (b : Bool) → not b ≡ true → b ≡ false
not-true true e = cc
not-true false e = refl

pub kept-is : (file : List Line) (kind : SectionKind) (line : SourceLine) → Contains (section_lines kind (reverse file)) line → IsLineOf kind file line
kept-is file kind line h =
    let there = passed (belongs kind file) (numbered file) line (subst (λ (lines : List SourceLine). Contains lines line) (kept-belongs file kind) h) in
    let parts = both (is_content line.bytes) _ there.1 in
    let content = both (has_some (items line.bytes)) _ parts.0 in
    option_and_then_some opened (heading_above file line.number) kind (in_section kind _ parts.1) (λ heading is opens. record {
      in_file = has_line file line there.0;
      has_items = some-items (items line.bytes) content.0;
      no_heading = not-true (is_heading line.bytes) content.1;
      heading = heading;
      under = nearest-found file line.number heading is;
      opens = opens;
    })

pub is-kept : (file : List Line) (kind : SectionKind) (line : SourceLine) → IsLineOf kind file line → Contains (section_lines kind (reverse file)) line
is-kept file kind line is =
    let some = items-some (items line.bytes) is.has_items in
    let content : is_content line.bytes ≡ true = ap (λ b. b && not (is_heading line.bytes)) some ∙ ap not is.no_heading in
    let section = ap (option_and_then opened) (found-nearest file line.number is.heading is.under) ∙ is.opens in
    let test : belongs kind file line ≡ true = ap (λ b. b && is_in kind (option_and_then opened (heading_above file line.number))) content ∙ ap (is_in kind) section ∙ itself kind in
    subst (λ (lines : List SourceLine). Contains lines line) (sym (kept-belongs file kind)) (keeps-at (belongs kind file) (numbered file) line (numbered-has file line is.in_file) test)

-- the numbers of the lines of a file rise
at_least : (number : ℕ) (lines : List Line) → All (λ line. number ≤ line.number) (numbered_from number lines)
at_least number [] = All-nil (λ line. number ≤ line.number)
at_least number (None ∷ lines) = All-weaker (λ (line : SourceLine). number + 1 ≤ line.number) (λ line. number ≤ line.number) (λ line le. omega arith) (numbered_from (number + 1) lines) (at_least (number + 1) lines)
at_least number (Some line ∷ lines) =
    All-cons (λ line. number ≤ line.number) (record { number = number; bytes = line }) (numbered_from (number + 1) lines) (omega arith)
    (All-weaker (λ (line : SourceLine). number + 1 ≤ line.number) (λ line. number ≤ line.number) (λ line le. omega arith) (numbered_from (number + 1) lines) (at_least (number + 1) lines))

rising : (number : ℕ) (lines : List Line) → AllPairs (λ line later. line.number < later.number) (numbered_from number lines)
rising number [] = λ i j d lt within. absurd (omega arith)
rising number (None ∷ lines) = rising (number + 1) lines
rising number (Some line ∷ lines) =
    AllPairs-cons (λ line later. line.number < later.number) (record { number = number; bytes = line }) (numbered_from (number + 1) lines)
    (All-weaker (λ (line : SourceLine). number + 1 ≤ line.number) (λ later. number < later.number) (λ later le. omega arith) (numbered_from (number + 1) lines) (at_least (number + 1) lines))
    (rising (number + 1) lines)

pub kept-rising : (file : List Line) (kind : SectionKind) → AllPairs (λ line later. line.number < later.number) (section_lines kind (reverse file))
kept-rising file kind =
    subst (AllPairs (λ line later. line.number < later.number)) (sym (kept-belongs file kind))
    (AllPairs-filter (λ line later. line.number < later.number) (belongs kind file) (numbered file) (rising 1 file))

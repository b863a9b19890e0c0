-- What one more byte of a text does to its words.
use Rattle.std.proofs.Common.{◌≡◌, ℕ, ◌+◌, ◌-◌, ◌<◌, ◌≤◌, inl, inr, Bool, true, false, List, [], ◌∷◌, ◌++◌, length, get_or, take, drop, All, refl, ap, sym, ◌∙◌, arith, append_assoc, not, length-drop, length-take, ◌&&◌}
use Rattle.std.proofs.lemmas.List.{drop_more, take_more, drop_all, map-append, get_or-drop, append-nil, drop-take, take-take}
use Rattle.std.proofs.lemmas.List.Folds.{drop_split, list_all-append}
use Rattle.std.proofs.lemmas.List.Elements.{All-head, All-tail}
use Rattle.std.proofs.Math.Nat.{eq-or-lt_of_le}
use Rattle.std.proofs.lemmas.Bool.Decides.{nat_tests}
use Rattle.std.proofs.lemmas.Grind.{common_steps}
use Rattle.std.specs.Prelude.{slice_range, if◌then◌else◌, ◌==◌}
use Rattle.std.specs.List.{list_all}
use Rattle.inp_text.specs.Items.{is_blank, before_comment, begins_blank, onto_first, words, text_at, texts_at, place_between, IsPlace}
use Rattle.inp_text.specs.declared.line.Span.{Span}

-- a byte of a word
abbrev pub is_solid : ℕ → Bool
is_solid byte = not (is_blank byte)

-- the words of a text up to an index: those at the places are found, and a run from `start` on is
-- going on
pub record IsCut (text : List ℕ) (places : List Span) (start index : ℕ) : Type 0 where
  pub found : texts_at text places ++ words (drop start text) ≡ words text
  pub solid : list_all is_solid (slice_range text start index) ≡ true
  pub begun : start ≤ index

both_true : (b c : Bool) → (not b && c) ≡ true → (b ≡ false) × (c ≡ true)
both_true true c p = cc
both_true false true p = (refl, refl)
both_true false false p = cc

picked : (b c : Bool) (x y z : List (List ℕ)) → b ≡ false → c ≡ true → (if b then x else (if c then y else z)) ≡ y
picked true c x y z p q = cc
picked false true x y z p q = refl
picked false false x y z p q = cc

passed : (b : Bool) (x y : List (List ℕ)) → b ≡ true → (if b then x else y) ≡ x
passed true x y p = refl
passed false x y p = cc

joined : (b c : Bool) (x y z : List (List ℕ)) → b ≡ false → c ≡ false → (if b then x else (if c then y else z)) ≡ z
joined true c x y z p q = cc
joined false true x y z p q = cc
joined false false x y z p q = refl

-- a run of bytes that are no blanks, up to a blank or the end, is a word
words-run : (byte : ℕ) (run rest : List ℕ) → list_all is_solid (byte ∷ run) ≡ true → begins_blank rest ≡ true → words ((byte ∷ run) ++ rest) ≡ (byte ∷ run) ∷ words rest
words-run byte [] rest solid blank =
    picked (is_blank byte) (begins_blank rest) _ _ _ (both_true (is_blank byte) true solid).0 blank
words-run byte (next ∷ run) rest solid blank =
    let here = both_true (is_blank byte) (list_all is_solid (next ∷ run)) solid in
    let there = both_true (is_blank next) (list_all is_solid run) here.1 in
    joined (is_blank byte) (is_blank next) _ _ _ here.0 there.0 ∙ ap (onto_first byte) (words-run next run rest here.1 blank)

-- the same of a run that is some list
words-word : (run rest : List ℕ) → 0 < length run → list_all is_solid run ≡ true → begins_blank rest ≡ true → words (run ++ rest) ≡ run ∷ words rest
words-word [] rest some solid blank = absurd (omega arith)
words-word (byte ∷ run) rest some solid blank = words-run byte run rest solid blank

words-blank : (byte : ℕ) (rest : List ℕ) → is_blank byte ≡ true → words (byte ∷ rest) ≡ words rest
words-blank byte rest blank = passed (is_blank byte) _ _ blank

length-slice_range : (text : List ℕ) (start index : ℕ) → start ≤ index → index ≤ length text → length (slice_range text start index) ≡ index - start
length-slice_range text start index le lt = grind (arith, common_steps)

pub place_between-some : (start index : ℕ) → start < index → place_between start index ≡ record { start = start; end = index } ∷ []
place_between-some start index lt = grind (arith, nat_tests)

pub place_between-none : (start index : ℕ) → index ≤ start → place_between start index ≡ []
place_between-none start index le = grind (arith, nat_tests)

slice_range-more : (text : List ℕ) (start index : ℕ) → start ≤ index → index < length text → slice_range text start (index + 1) ≡ slice_range text start index ++ get_or text index 0 ∷ []
slice_range-more text start index le lt =
    let one : index + 1 - start ≡ (index - start) + 1 = omega arith in
    let at : start + (index - start) ≡ index = omega arith in
    let inside : index - start < length (drop start text) = omega (arith, length-drop start text) in
    ap (λ n. take n (drop start text)) one
    ∙ take_more (drop start text) (index - start) 0 inside
    ∙ ap (λ x. take (index - start) (drop start text) ++ x ∷ []) (get_or-drop start text (index - start) 0 ∙ ap (λ n. get_or text n 0) at)

slice_range-none : (text : List ℕ) (start : ℕ) → slice_range text start start ≡ []
slice_range-none text start = grind (arith, common_steps)

solid-more : (run : List ℕ) (byte : ℕ) → list_all is_solid run ≡ true → is_blank byte ≡ false → list_all is_solid (run ++ byte ∷ []) ≡ true
solid-more run byte solid here =
    list_all-append is_solid run (byte ∷ [])
    ∙ ap (λ b. b && (not (is_blank byte) && true)) solid
    ∙ ap (λ b. true && (not b && true)) here

-- at the front nothing is cut
pub IsCut-none : (text : List ℕ) → IsCut text [] 0 0
IsCut-none text = record {
  found = refl;
  solid = ap (list_all is_solid) (slice_range-none text 0);
  begun = omega arith;
}

pub IsCut-solid : (text : List ℕ) (places : List Span) (start index : ℕ) → IsCut text places start index → index < length text → is_blank (get_or text index 0) ≡ false → IsCut text places start (index + 1)
IsCut-solid text places start index cut lt here = record {
  found = cut.found;
  solid = ap (list_all is_solid) (slice_range-more text start index cut.begun lt) ∙ solid-more (slice_range text start index) (get_or text index 0) cut.solid here;
  begun = omega arith;
}

words-place_between : (text : List ℕ) (start index : ℕ) → start ≤ index → index ≤ length text → list_all is_solid (slice_range text start index) ≡ true → begins_blank (drop index text) ≡ true → words (drop start text) ≡ texts_at text (place_between start index) ++ words (drop index text)
words-place_between text start index le lt solid blank = elim (eq-or-lt_of_le le) [
  | inl same ↦ ap (λ n. words (drop n text)) same ∙ ap (λ w. texts_at text w ++ words (drop index text)) (sym (place_between-none start index (omega arith)))
  | inr more ↦
      ap words (drop_split text start index le)
      ∙ words-word (slice_range text start index) (drop index text) (omega (arith, length-slice_range text start index le lt)) solid blank
      ∙ ap (λ w. texts_at text w ++ words (drop index text)) (sym (place_between-some start index more))
]

found-append : (text : List ℕ) (places more : List Span) (start : ℕ) (rest : List (List ℕ)) → texts_at text places ++ words (drop start text) ≡ words text → words (drop start text) ≡ texts_at text more ++ rest → texts_at text (places ++ more) ++ rest ≡ words text
found-append text places more start rest found next =
    ap (λ x. x ++ rest) (map-append (text_at text) places more)
    ∙ append_assoc (texts_at text places) (texts_at text more) rest
    ∙ ap (λ x. texts_at text places ++ x) (sym next)
    ∙ found

pub IsCut-blank : (text : List ℕ) (places : List Span) (start index : ℕ) → IsCut text places start index → index < length text → is_blank (get_or text index 0) ≡ true → IsCut text (places ++ place_between start index) (index + 1) (index + 1)
IsCut-blank text places start index cut lt blank =
    let here = drop_more text index 0 lt in
    let run = words-place_between text start index cut.begun (omega arith) cut.solid (ap begins_blank here ∙ blank) in
    let next = run ∙ ap (λ w. texts_at text (place_between start index) ++ w) (ap words here ∙ words-blank (get_or text index 0) (drop (index + 1) text) blank) in
    record {
      found = found-append text places (place_between start index) start _ cut.found next;
      solid = ap (list_all is_solid) (slice_range-none text (index + 1));
      begun = omega arith;
    }

pub texts_at-IsCut : (text : List ℕ) (places : List Span) (start : ℕ) → IsCut text places start (length text) → texts_at text (places ++ place_between start (length text)) ≡ words text
texts_at-IsCut text places start cut =
    let over = drop_all (length text) text (omega arith) in
    let next = words-place_between text start (length text) cut.begun (omega arith) cut.solid (ap begins_blank over) ∙ ap (λ w. texts_at text (place_between start (length text)) ++ words w) over in
    sym (append-nil (texts_at text (places ++ place_between start (length text))))
    ∙ found-append text places (place_between start (length text)) start [] cut.found next

-- what is kept of a list that begins with a byte, as the byte ends the text or not
kept : (b : Bool) (byte : ℕ) (rest text : List ℕ) → text ≡ take (length text) rest → (if b then [] else byte ∷ text) ≡ take (length (if b then [] else byte ∷ text)) (byte ∷ rest)
kept true byte rest text e = refl
kept false byte rest text e = ap (λ t. byte ∷ t) e

before_comment-take : (line : List ℕ) → before_comment line ≡ take (length (before_comment line)) line
before_comment-take [] = refl
before_comment-take (byte ∷ rest) = kept (byte == 59) byte rest (before_comment rest) (before_comment-take rest)

length-before_comment : (line : List ℕ) → length (before_comment line) ≤ length line
length-before_comment line = omega (arith, ap length (before_comment-take line), length-take (length (before_comment line)) line)

text_at-take : (line : List ℕ) (n : ℕ) (place : Span) → IsPlace n place → text_at (take n line) place ≡ text_at line place
text_at-take line n place is =
    let whole : n ≡ place.start + (n - place.start) = omega (arith, is.some, is.within) in
    ap (λ m. take (place.end - place.start) (drop place.start (take m line))) whole
    ∙ ap (take (place.end - place.start)) (drop-take place.start (n - place.start) line)
    ∙ take-take (place.end - place.start) (n - place.start) (drop place.start line) (omega (arith, is.some, is.within))

texts_at-take : (line : List ℕ) (n : ℕ) (places : List Span) → All (IsPlace n) places → texts_at (take n line) places ≡ texts_at line places
texts_at-take line n [] within = refl
texts_at-take line n (place ∷ places) within =
    ap (λ t. t ∷ texts_at (take n line) places) (text_at-take line n place (All-head (IsPlace n) place places within))
    ∙ ap (λ t. text_at line place ∷ t) (texts_at-take line n places (All-tail (IsPlace n) place places within))

IsPlace-longer : (n m : ℕ) (places : List Span) → n ≤ m → All (IsPlace n) places → All (IsPlace m) places
IsPlace-longer n m places le within k d h = let here = within k d h in record { some = here.some; within = omega arith }

-- the places in what stands before the comment are places of the line
pub texts_at-before_comment : (line : List ℕ) (places : List Span) → All (IsPlace (length (before_comment line))) places → texts_at (before_comment line) places ≡ texts_at line places
texts_at-before_comment line places within =
    ap (λ t. texts_at t places) (before_comment-take line) ∙ texts_at-take line (length (before_comment line)) places within

pub IsPlace-before_comment : (line : List ℕ) (places : List Span) → All (IsPlace (length (before_comment line))) places → All (IsPlace (length line)) places
IsPlace-before_comment line places within = IsPlace-longer _ _ places (length-before_comment line) within

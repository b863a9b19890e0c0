-- The places of the items of a line are its longest runs of bytes that are no blanks, and the texts
-- there are its items.
use Rattle.std.proofs.Common.{◌≡◌, ℕ, ◌+◌, ◌-◌, ◌<◌, ◌≤◌, inl, inr, Bool, true, false, List, [], ◌∷◌, ◌++◌, length, get_or, drop, All, AllPairs, Contains, refl, ap, sym, ◌∙◌, subst, arith, append_assoc}
use Rattle.std.proofs.lemmas.List.{drop_more}
use Rattle.std.proofs.lemmas.List.Elements.{All-append, All-cons, All-nil, All-weaker, All-contains, Contains-append_left, Contains-append_right}
use Rattle.std.proofs.lemmas.List.Kept.{AllPairs-cons}
use Rattle.std.proofs.Math.Nat.{eq-or-lt_of_le}
use Rattle.std.proofs.Math.Decide.{dec_lt}
use Rattle.std.specs.Prelude.{if◌then◌else◌}
use Rattle.inp_text.specs.Items.{is_blank, before_comment, begins_blank, words, items, texts_at, place_between, places_from, item_places, is_gap, IsLongestRun, IsPlace}
use Rattle.inp_text.specs.declared.line.Span.{Span}
use Rattle.inp_text.proofs.WordLemmas.{IsCut, IsCut-none, IsCut-blank, IsCut-solid, texts_at-IsCut, texts_at-before_comment, IsPlace-before_comment, place_between-some, place_between-none}

chosen : (P : List Span → Type 0) (b : Bool) (x y : List Span) → (b ≡ true → P x) → (b ≡ false → P y) → P (if b then x else y)
chosen P true x y p q = p refl
chosen P false x y p q = q refl

-- the byte at an index, and what follows it
cut_at : (text : List ℕ) (at byte : ℕ) (rest : List ℕ) → at < length text → byte ∷ rest ≡ drop at text → (byte ≡ get_or text at 0) × (rest ≡ drop (at + 1) text)
cut_at text at byte rest lt e =
    let whole = e ∙ drop_more text at 0 lt in
    (ap (λ l. get_or l 0 0) whole, ap (drop 1) whole)

texts-places_from : (text rest : List ℕ) (places : List Span) (start at : ℕ) → at + length rest ≡ length text → rest ≡ drop at text → IsCut text places start at → texts_at text (places ++ places_from start at rest) ≡ words text
texts-places_from text [] places start at long e cut =
    let over : at ≡ length text = omega (arith, long) in
    ap (λ n. texts_at text (places ++ place_between start n)) over ∙ texts_at-IsCut text places start (subst (IsCut text places start) over cut)
texts-places_from text (byte ∷ rest) places start at long e cut =
    let inside : at < length text = omega (arith, long) in
    let here = cut_at text at byte rest inside e in
    chosen (λ more. texts_at text (places ++ more) ≡ words text) (is_blank byte) (place_between start at ++ places_from (at + 1) (at + 1) rest) (places_from start (at + 1) rest)
    (λ blank. ap (texts_at text) (sym (append_assoc places (place_between start at) (places_from (at + 1) (at + 1) rest)))
    ∙ texts-places_from text rest (places ++ place_between start at) (at + 1) (at + 1) (omega (arith, long)) here.1 (IsCut-blank text places start at cut inside (ap is_blank (sym here.0) ∙ blank)))
    (λ solid. texts-places_from text rest places start (at + 1) (omega (arith, long)) here.1 (IsCut-solid text places start at cut inside (ap is_blank (sym here.0) ∙ solid)))

-- a run of bytes that are no blanks goes from `start` up to an index, and no word goes over the
-- index before it
record IsGoingOn (text : List ℕ) (start at : ℕ) : Type 0 where
  begun : start ≤ at
  solid : (k : ℕ) → start ≤ k → k < at → is_gap text k ≡ false
  gap_before : (k : ℕ) → k + 1 ≡ start → is_gap text k ≡ true

IsGoingOn-none : (text : List ℕ) → IsGoingOn text 0 0
IsGoingOn-none text = record {
  begun = omega arith;
  solid = λ k le lt. absurd (omega (arith, lt));
  gap_before = λ k e. absurd (omega (arith, e));
}

IsGoingOn-blank : (text : List ℕ) (at : ℕ) → is_gap text at ≡ true → IsGoingOn text (at + 1) (at + 1)
IsGoingOn-blank text at gap = record {
  begun = omega arith;
  solid = λ k le lt. absurd (omega (arith, le, lt));
  gap_before = λ k e. let same : k ≡ at = omega (arith, e) in ap (is_gap text) same ∙ gap;
}

IsGoingOn-solid : (text : List ℕ) (start at : ℕ) → IsGoingOn text start at → is_gap text at ≡ false → IsGoingOn text start (at + 1)
IsGoingOn-solid text start at going here = record {
  begun = omega (arith, going.begun);
  solid = λ k le lt. let upto : k ≤ at = omega (arith, lt) in elim (eq-or-lt_of_le upto) [
    | inl same ↦ ap (is_gap text) same ∙ here
    | inr less ↦ going.solid k le less
  ];
  gap_before = going.gap_before;
}

-- the index after what is read stands outside of all words where a blank or the end comes next
gap-rest : (text rest : List ℕ) (at : ℕ) (b : Bool) → rest ≡ drop at text → begins_blank rest ≡ b → is_gap text at ≡ b
gap-rest text rest at b e is = ap begins_blank (sym e) ∙ is

runs-between : (text : List ℕ) (start at : ℕ) → IsGoingOn text start at → at ≤ length text → is_gap text at ≡ true → All (IsLongestRun text) (place_between start at)
runs-between text start at going le gap = elim (dec_lt start at) [
  | yes lt ↦
      let run : IsLongestRun text (record { start = start; end = at }) = record { some = lt; within = le; solid = going.solid; gap_before = going.gap_before; gap_after = gap } in
      subst (All (IsLongestRun text)) (sym (place_between-some start at lt)) (All-cons (IsLongestRun text) _ [] run (All-nil (IsLongestRun text)))
  | no ge ↦ subst (All (IsLongestRun text)) (sym (place_between-none start at (omega arith))) (All-nil (IsLongestRun text))
]

runs-places_from : (text rest : List ℕ) (start at : ℕ) → at + length rest ≡ length text → rest ≡ drop at text → IsGoingOn text start at → All (IsLongestRun text) (places_from start at rest)
runs-places_from text [] start at long e going = runs-between text start at going (omega (arith, long)) (gap-rest text [] at true e refl)
runs-places_from text (byte ∷ rest) start at long e going =
    let inside : at < length text = omega (arith, long) in
    let next = (cut_at text at byte rest inside e).1 in
    chosen (All (IsLongestRun text)) (is_blank byte) (place_between start at ++ places_from (at + 1) (at + 1) rest) (places_from start (at + 1) rest)
    (λ blank. let gap = gap-rest text (byte ∷ rest) at true e blank in
    All-append (IsLongestRun text) (place_between start at) (places_from (at + 1) (at + 1) rest) (runs-between text start at going (omega (arith, long)) gap)
    (runs-places_from text rest (at + 1) (at + 1) (omega (arith, long)) next (IsGoingOn-blank text at gap)))
    (λ solid. runs-places_from text rest start (at + 1) (omega (arith, long)) next (IsGoingOn-solid text start at going (gap-rest text (byte ∷ rest) at false e solid)))

same_place : (place : Span) (start end : ℕ) → place.start ≡ start → place.end ≡ end → record { start = start; end = end } ≡ place
same_place place start end p q = sym (ap (λ s. record { start = s; end = place.end }) p ∙ ap (λ n. record { start = start; end = n }) q)

both : (b : Bool) → b ≡ true → b ≡ false → ⊥
both true p q = cc
both false p q = cc

-- a longest run that begins in the one at hand is the one at hand, where that one ends
starts_alike : (text : List ℕ) (start at : ℕ) (place : Span) → IsGoingOn text start at → IsLongestRun text place → start ≤ place.start → place.start < at → place.start ≡ start
starts_alike text start at place going run le lt = elim (eq-or-lt_of_le le) [
  | inl same ↦ sym same
  | inr more ↦ absurd (both (is_gap text (place.start - 1)) (run.gap_before (place.start - 1) (omega (arith, more))) (going.solid (place.start - 1) (omega (arith, more)) (omega (arith, lt))))
]

ends_alike : (text : List ℕ) (start at : ℕ) (place : Span) → IsGoingOn text start at → is_gap text at ≡ true → IsLongestRun text place → start ≤ place.start → place.start < at → place.end ≡ at
ends_alike text start at place going gap run le lt = elim (dec_lt at place.end) [
  | yes longer ↦ absurd (both (is_gap text at) gap (run.solid at (omega (arith, lt)) longer))
  | no upto ↦ elim (dec_lt place.end at) [
    | yes shorter ↦ absurd (both (is_gap text place.end) run.gap_after (going.solid place.end (omega (arith, le, run.some)) shorter))
    | no same ↦ omega arith
  ]
]

between-holds : (text : List ℕ) (start at : ℕ) (place : Span) → IsGoingOn text start at → is_gap text at ≡ true → IsLongestRun text place → start ≤ place.start → place.start < at → Contains (place_between start at) place
between-holds text start at place going gap run le lt =
    let one = same_place place start at (starts_alike text start at place going run le lt) (ends_alike text start at place going gap run le lt) in
    subst (λ places. Contains places place) (sym (place_between-some start at (omega (arith, le, lt)))) (0, omega arith, one)

-- a longest run that begins at an index or later begins after it, where no word goes over it
begins_later : (text : List ℕ) (at : ℕ) (place : Span) → is_gap text at ≡ true → IsLongestRun text place → at ≤ place.start → at + 1 ≤ place.start
begins_later text at place gap run le = elim (eq-or-lt_of_le le) [
  | inl same ↦ absurd (both (is_gap text at) gap (run.solid at (omega (arith, same)) (omega (arith, same, run.some))))
  | inr more ↦ omega (arith, more)
]

places_from-holds : (text rest : List ℕ) (start at : ℕ) (place : Span) → at + length rest ≡ length text → rest ≡ drop at text → IsGoingOn text start at → IsLongestRun text place → start ≤ place.start → Contains (places_from start at rest) place
places_from-holds text [] start at place long e going run le =
    between-holds text start at place going (gap-rest text [] at true e refl) run le (omega (arith, long, run.some, run.within))
places_from-holds text (byte ∷ rest) start at place long e going run le =
    let inside : at < length text = omega (arith, long) in
    let next = (cut_at text at byte rest inside e).1 in
    chosen (λ places. Contains places place) (is_blank byte) (place_between start at ++ places_from (at + 1) (at + 1) rest) (places_from start (at + 1) rest)
    (λ blank. let gap = gap-rest text (byte ∷ rest) at true e blank in elim (dec_lt place.start at) [
      | yes lt ↦ Contains-append_left (place_between start at) (places_from (at + 1) (at + 1) rest) place (between-holds text start at place going gap run le lt)
      | no ge ↦
          let later = begins_later text at place gap run (omega arith) in
          Contains-append_right (place_between start at) (places_from (at + 1) (at + 1) rest) place
          (places_from-holds text rest (at + 1) (at + 1) place (omega (arith, long)) next (IsGoingOn-blank text at gap) run later)
    ])
    (λ solid. places_from-holds text rest start (at + 1) place (omega (arith, long)) next (IsGoingOn-solid text start at going (gap-rest text (byte ∷ rest) at false e solid)) run le)

between-begins : (start at : ℕ) → All (λ (place : Span). start ≤ place.start) (place_between start at)
between-begins start at = elim (dec_lt start at) [
  | yes lt ↦ subst (All (λ (place : Span). start ≤ place.start)) (sym (place_between-some start at lt)) (All-cons (λ (place : Span). start ≤ place.start) _ [] (omega arith) (All-nil (λ (place : Span). start ≤ place.start)))
  | no ge ↦ subst (All (λ (place : Span). start ≤ place.start)) (sym (place_between-none start at (omega arith))) (All-nil (λ (place : Span). start ≤ place.start))
]

places_from-begin : (rest : List ℕ) (start at : ℕ) → start ≤ at → All (λ (place : Span). start ≤ place.start) (places_from start at rest)
places_from-begin [] start at le = between-begins start at
places_from-begin (byte ∷ rest) start at le =
    chosen (All (λ (place : Span). start ≤ place.start)) (is_blank byte) (place_between start at ++ places_from (at + 1) (at + 1) rest) (places_from start (at + 1) rest)
    (λ blank. All-append (λ (place : Span). start ≤ place.start) (place_between start at) (places_from (at + 1) (at + 1) rest) (between-begins start at)
    (All-weaker (λ (place : Span). at + 1 ≤ place.start) (λ place. start ≤ place.start) (λ place more. omega (arith, le, more)) (places_from (at + 1) (at + 1) rest) (places_from-begin rest (at + 1) (at + 1) (omega arith))))
    (λ solid. places_from-begin rest start (at + 1) (omega (arith, le)))

-- a place ends before a later one begins, and a byte or more stands between them
abbrev pub IsBefore : Span → Span → Type 0
IsBefore place later = place.end < later.start

after-between : (start at : ℕ) (later : List Span) → All (λ (place : Span). at + 1 ≤ place.start) later → AllPairs IsBefore later → AllPairs IsBefore (place_between start at ++ later)
after-between start at later above rising = elim (dec_lt start at) [
  | yes lt ↦
      let here : Span = record { start = start; end = at } in
      subst (λ first. AllPairs IsBefore (first ++ later)) (sym (place_between-some start at lt))
      (AllPairs-cons IsBefore here later (All-weaker (λ (place : Span). at + 1 ≤ place.start) (IsBefore here) (λ place more. omega (arith, more)) later above) rising)
  | no ge ↦ subst (λ first. AllPairs IsBefore (first ++ later)) (sym (place_between-none start at (omega arith))) rising
]

places_from-rise : (rest : List ℕ) (start at : ℕ) → AllPairs IsBefore (places_from start at rest)
places_from-rise [] start at = elim (dec_lt start at) [
  | yes lt ↦ subst (AllPairs IsBefore) (sym (place_between-some start at lt)) (λ i j d less within. absurd (omega arith))
  | no ge ↦ subst (AllPairs IsBefore) (sym (place_between-none start at (omega arith))) (λ i j d less within. absurd (omega arith))
]
places_from-rise (byte ∷ rest) start at =
    chosen (AllPairs IsBefore) (is_blank byte) (place_between start at ++ places_from (at + 1) (at + 1) rest) (places_from start (at + 1) rest)
    (λ blank. after-between start at (places_from (at + 1) (at + 1) rest) (places_from-begin rest (at + 1) (at + 1) (omega arith)) (places_from-rise rest (at + 1) (at + 1)))
    (λ solid. places_from-rise rest start (at + 1))

pub item_places-runs : (line : List ℕ) → All (IsLongestRun (before_comment line)) (item_places line)
unfolding item_places
item_places-runs line = runs-places_from (before_comment line) (before_comment line) 0 0 (omega arith) refl (IsGoingOn-none (before_comment line))

pub is-item_place : (line : List ℕ) (place : Span) → Contains (item_places line) place → IsLongestRun (before_comment line) place
is-item_place line place h = All-contains (IsLongestRun (before_comment line)) (item_places line) place (item_places-runs line) h

pub item_place-is : (line : List ℕ) (place : Span) → IsLongestRun (before_comment line) place → Contains (item_places line) place
unfolding item_places
item_place-is line place run = places_from-holds (before_comment line) (before_comment line) 0 0 place (omega arith) refl (IsGoingOn-none (before_comment line)) run (omega arith)

pub item_places-rise : (line : List ℕ) → AllPairs (λ (place : Span) (later : Span). place.end < later.start) (item_places line)
unfolding item_places
item_places-rise line = places_from-rise (before_comment line) 0 0

within-item_places : (line : List ℕ) → All (IsPlace (length (before_comment line))) (item_places line)
within-item_places line =
    All-weaker (IsLongestRun (before_comment line)) (IsPlace (length (before_comment line))) (λ place run. record { some = run.some; within = run.within }) (item_places line) (item_places-runs line)

pub IsPlace-item_places : (line : List ℕ) → All (IsPlace (length line)) (item_places line)
IsPlace-item_places line = IsPlace-before_comment line (item_places line) (within-item_places line)

pub texts-before_comment : (line : List ℕ) → texts_at (before_comment line) (item_places line) ≡ items line
unfolding item_places
texts-before_comment line = texts-places_from (before_comment line) (before_comment line) [] 0 0 (omega arith) refl (IsCut-none (before_comment line))

pub texts_at-item_places : (line : List ℕ) → texts_at line (item_places line) ≡ items line
texts_at-item_places line = sym (texts_at-before_comment line (item_places line) (within-item_places line)) ∙ texts-before_comment line

-- what was found before the comment are the places of the items
pub item_places-of : (line text : List ℕ) (places : List Span) → text ≡ before_comment line → places ≡ places_from 0 0 text → places ≡ item_places line
unfolding item_places
item_places-of line text places is found = found ∙ ap (places_from 0 0) is

-- the texts that were found before the comment are the items
pub texts-of : (line text : List ℕ) (texts : List (List ℕ)) → text ≡ before_comment line
    → texts ≡ texts_at text (places_from 0 0 text) → texts ≡ items line
unfolding item_places
texts-of line text texts is found =
    found ∙ ap (λ t. texts_at t (places_from 0 0 t)) is ∙ texts-before_comment line

-- Trees that are judged node by node, with what is told of their parts.
use Rattle.std.proofs.Common.{◌≡◌, ℕ, ◌+◌, ◌<◌, ◌≤◌, Bool, true, false, not, ◌&&◌, Option, Some, None, Result, Ok, Err, refl, sym, ap, ◌∙◌, subst, ℤ, pos, ◌-ℤ◌, arith}
use Rattle.std.specs.Prelude.{if◌then◌else◌, int_le, nat_lt}
use Rattle.exact_fraction.specs.Number.{Rational}
use Rattle.std.proofs.lemmas.Bool.Decides.{nat_tests}
use Rattle.interval_sets.specs.declared.interval.Interval.{Interval}
use Rattle.interval_sets.specs.Intervals.{has_member, lies_in, point_of}
use Rattle.rule_types.specs.declared.key.Key.{Key}
use Rattle.rule_meaning.specs.CheckedSteps.{◌>>=◌}
use Rattle.verdict_meaning.specs.declared.cell.Cell.{Cell}
use Rattle.verdict_meaning.specs.declared.cert.Cert.{Cert}
use Rattle.verdict_meaning.specs.declared.cert.Cert.TheOpen.{Cert-F}
use Rattle.verdict_meaning.specs.declared.cert.Cert.TheViews.{roll-Cert}
use Rattle.verdict_meaning.specs.declared.cert.Cert.TheFolds.{fold-Cert, fold-roll-Cert, ind-Cert, map-Cert}
use Rattle.verdict_meaning.specs.declared.cert.Cert.TheVariants.{Leaf, Split, Before, rolls-Leaf, rolls-Split, rolls-Before}
use Rattle.verdict_meaning.specs.declared.cert.CertEnd.{CertEnd}
use Rattle.verdict_meaning.specs.declared.cert.CertEnd.TheVariants as certificate
use Rattle.verdict_meaning.specs.declared.cert.Reason.{Reason}
use Rattle.verdict_meaning.specs.Certificates.{Judge, Judged, NodeFault, above_of, before_in, below_of}
use Rattle.verdict_meaning.specs.Certificates.{can_split, cert_judged, leaf_judged, node_judged}
use Rattle.verdict_meaning.specs.Certificates.{part_at, part_through, part_with, shape_at, split_in}
use Rattle.verdict_meaning.specs.Certificates.{three_judged, two_judged, with_piece}
use Rattle.verdict_meaning.specs.Reaches.{piece_in}
use Rattle.verdict_meaning.specs.Verdicts.{written_count}
use Rattle.cert_checker.specs.Answers.{Tells}
use Rattle.cert_checker.specs.internal.Narrowing.{Judges}

-- ---- one tree after another
stops : (end : CertEnd) (judged : Result ℕ NodeFault) (f : ℕ → Result ℕ NodeFault)
    → Tells (Err end) judged → Tells (Err end) (judged >>= f)
stops (certificate.Fault place cause) (Ok n) f h = absurd h
stops (certificate.Fault place cause) (Err fault) f h = h
stops certificate.NoMemory judged f h = tt

goes : (n : ℕ) (result : Result ℕ CertEnd) (judged : Result ℕ NodeFault)
    (f : ℕ → Result ℕ NodeFault) → Tells (Ok n) judged
    → ((m : ℕ) → n ≡ written_count m → Tells result (f m)) → Tells result (judged >>= f)
goes n result (Ok m) f h k = k m h
goes n result (Err fault) f h k = absurd h

-- the place after another
pub record IsNext (place next : ℕ) : Type 0 where
  pub each : (at : ℕ) → place ≡ written_count at → next ≡ written_count (at + 1)

pub judges_as : (place : ℕ) (result : Result ℕ CertEnd) (f g : ℕ → Result ℕ NodeFault)
    → ((at : ℕ) → g at ≡ f at) → Judges place result f → Judges place result g
judges_as place result f g same h = record {
  each = λ at is. subst (Tells result) (sym (same at)) (h.each at is);
}

pub three_go : (place next n m : ℕ) (result : Result ℕ CertEnd)
    (below at above : ℕ → Result ℕ NodeFault) → IsNext place next → Judges next (Ok n) below
    → Judges n (Ok m) at → Judges m result above
    → Judges place result (λ k. below (k + 1) >>= λ second. at second >>= λ third. above third)
three_go place next n m result below at above step f g h = record {
  each = λ k is.
      goes n result (below (k + 1)) (λ second. at second >>= λ third. above third)
      (f.each (k + 1) (step.each k is))
      (λ second e.
      goes m result (at second) (λ third. above third) (g.each second e)
      (λ third u. h.each third u));
}

pub first_stops : (place next : ℕ) (end : CertEnd) (first : ℕ → Result ℕ NodeFault)
    (later : ℕ → Result ℕ NodeFault) → IsNext place next → Judges next (Err end) first
    → Judges place (Err end) (λ k. first (k + 1) >>= later)
first_stops place next end first later step f = record {
  each = λ k is. stops end (first (k + 1)) later (f.each (k + 1) (step.each k is));
}

pub second_stops : (place next n : ℕ) (end : CertEnd) (first second : ℕ → Result ℕ NodeFault)
    (later : ℕ → Result ℕ NodeFault) → IsNext place next → Judges next (Ok n) first
    → Judges n (Err end) second
    → Judges place (Err end) (λ k. first (k + 1) >>= λ m. second m >>= later)
second_stops place next n end first second later step f g = record {
  each = λ k is.
      goes n (Err end) (first (k + 1)) (λ m. second m >>= later) (f.each (k + 1) (step.each k is))
      (λ m e. stops end (second m) later (g.each m e));
}

pub two_go : (place next n : ℕ) (result : Result ℕ CertEnd) (before from : ℕ → Result ℕ NodeFault)
    → IsNext place next → Judges next (Ok n) before → Judges n result from
    → Judges place result (λ k. before (k + 1) >>= λ m. from m)
two_go place next n result before from step f g = record {
  each = λ k is.
      goes n result (before (k + 1)) (λ m. from m) (f.each (k + 1) (step.each k is))
      (λ m e. g.each m e);
}

-- ---- nodes
shallow : {A : Type 0} (b : Bool) (x y : A) → b ≡ false → (if b then x else y) ≡ y
shallow true x y e = absurd (grind arith)
shallow false x y e = refl

holds_so : {A : Type 0} (b : Bool) (x y : A) → b ≡ true → (if b then x else y) ≡ x
holds_so true x y e = refl
holds_so false x y e = absurd (grind arith)

deep_node : (judge : Judge) (node : Cert-F Judged) (depth : ℕ) (o : Option Cell) (at : ℕ)
    → nat_lt 1024 depth ≡ true → node_judged judge node depth o at ≡ shape_at at
unfolding node_judged
deep_node judge (Cert-F.Leaf reason) depth o at e = holds_so (nat_lt 1024 depth) _ _ e
deep_node judge (Cert-F.Split key q b a c) depth o at e = holds_so (nat_lt 1024 depth) _ _ e
deep_node judge (Cert-F.Before m b f) depth o at e = holds_so (nat_lt 1024 depth) _ _ e

leaf_is : (judge : Judge) (reason : Reason)
    → cert_judged judge (Leaf reason) ≡ node_judged judge (Cert-F.Leaf reason)
unfolding cert_judged
leaf_is judge reason =
    ap (fold-Cert Judged (node_judged judge)) (sym (rolls-Leaf reason))
    ∙ fold-roll-Cert Judged (node_judged judge) (Cert-F.Leaf reason)

split_is : (judge : Judge) (key : Key) (q : Rational) (b a c : Cert)
    → cert_judged judge (Split key q b a c)
    ≡ node_judged judge
    (Cert-F.Split key q (cert_judged judge b) (cert_judged judge a) (cert_judged judge c))
unfolding cert_judged
split_is judge key q b a c =
    ap (fold-Cert Judged (node_judged judge)) (sym (rolls-Split key q b a c))
    ∙ fold-roll-Cert Judged (node_judged judge) (Cert-F.Split key q b a c)

before_is : (judge : Judge) (m : ℤ) (b f : Cert)
    → cert_judged judge (Before m b f)
    ≡ node_judged judge (Cert-F.Before m (cert_judged judge b) (cert_judged judge f))
unfolding cert_judged
before_is judge m b f =
    ap (fold-Cert Judged (node_judged judge)) (sym (rolls-Before m b f))
    ∙ fold-roll-Cert Judged (node_judged judge) (Cert-F.Before m b f)

-- a node that is too deep
abbrev IsDeep : Judge → Cert → Type 0
IsDeep judge cert =
    (depth : ℕ) (o : Option Cell) (at : ℕ) → nat_lt 1024 depth ≡ true
    → cert_judged judge cert depth o at ≡ shape_at at

pub deep : (judge : Judge) (cert : Cert) → IsDeep judge cert
unfolding cert_judged
deep judge =
    ind-Cert (IsDeep judge)
    (λ z y is.
    subst (λ w. IsDeep judge (roll-Cert w)) is
    (λ depth o at e.
    ap (λ f. f depth o at)
    (fold-roll-Cert Judged (node_judged judge)
    (map-Cert ((cert : Cert) × IsDeep judge cert) Cert (λ one. one.0) y))
    ∙ deep_node judge
    (map-Cert Cert Judged (fold-Cert Judged (node_judged judge))
    (map-Cert ((cert : Cert) × IsDeep judge cert) Cert (λ one. one.0) y)) depth o at e))

pub leaf_at : (judge : Judge) (cert : Cert) (reason : Reason) (depth : ℕ) (o : Option Cell)
    (at : ℕ) → cert ≡ Leaf reason → nat_lt 1024 depth ≡ false
    → cert_judged judge cert depth o at ≡ leaf_judged judge reason o at
unfolding node_judged
leaf_at judge cert reason depth o at is e =
    ap (λ one. cert_judged judge one depth o at) is
    ∙ ap (λ f. f depth o at) (leaf_is judge reason) ∙ shallow (nat_lt 1024 depth) _ _ e

split_none : (judge : Judge) (cert : Cert) (key : Key) (q : Rational) (b a c : Cert) (depth : ℕ)
    (cell : Cell) (at : ℕ) → cert ≡ Split key q b a c → nat_lt 1024 depth ≡ false
    → cert_judged judge cert depth (Some cell) at
    ≡ split_in key q (cert_judged judge b) (cert_judged judge a) (cert_judged judge c) depth cell
    at (piece_in key cell.keys)
unfolding node_judged
split_none judge cert key q b a c depth cell at is e =
    ap (λ one. cert_judged judge one depth (Some cell) at) is
    ∙ ap (λ f. f depth (Some cell) at) (split_is judge key q b a c)
    ∙ shallow (nat_lt 1024 depth) _ _ e

pub split_without : (judge : Judge) (cert : Cert) (key : Key) (q : Rational) (b a c : Cert)
    (depth : ℕ) (cell : Cell) (at : ℕ) → cert ≡ Split key q b a c → nat_lt 1024 depth ≡ false
    → piece_in key cell.keys ≡ None
    → cert_judged judge cert depth (Some cell) at ≡ shape_at at
split_without judge cert key q b a c depth cell at is e none =
    split_none judge cert key q b a c depth cell at is e
    ∙ ap
    (split_in key q (cert_judged judge b) (cert_judged judge a) (cert_judged judge c) depth cell at)
    none

pub split_refused : (judge : Judge) (cert : Cert) (key : Key) (q : Rational) (b a c : Cert)
    (depth : ℕ) (cell : Cell) (piece : Interval) (at : ℕ) → cert ≡ Split key q b a c
    → nat_lt 1024 depth ≡ false → piece_in key cell.keys ≡ Some piece
    → can_split piece q ≡ false → cert_judged judge cert depth (Some cell) at ≡ shape_at at
split_refused judge cert key q b a c depth cell piece at is e found off =
    split_none judge cert key q b a c depth cell at is e
    ∙ ap
    (split_in key q (cert_judged judge b) (cert_judged judge a) (cert_judged judge c) depth cell at)
    found
    ∙ shallow (can_split piece q) _ _ off

pub split_goes : (judge : Judge) (cert : Cert) (key : Key) (q : Rational) (b a c : Cert)
    (depth : ℕ) (cell : Cell) (piece : Interval) (at : ℕ) → cert ≡ Split key q b a c
    → nat_lt 1024 depth ≡ false → piece_in key cell.keys ≡ Some piece
    → can_split piece q ≡ true
    → cert_judged judge cert depth (Some cell) at
    ≡ three_judged (cert_judged judge b) (cert_judged judge a) (cert_judged judge c) (depth + 1)
    (part_with key (below_of piece q) cell) (part_at key piece q cell)
    (part_with key (above_of piece q) cell) (at + 1)
split_goes judge cert key q b a c depth cell piece at is e found on =
    split_none judge cert key q b a c depth cell at is e
    ∙ ap
    (split_in key q (cert_judged judge b) (cert_judged judge a) (cert_judged judge c) depth cell at)
    found
    ∙ holds_so (can_split piece q) _ _ on

before_none : (judge : Judge) (cert : Cert) (m : ℤ) (b f : Cert) (depth : ℕ) (cell : Cell)
    (at : ℕ) → cert ≡ Before m b f → nat_lt 1024 depth ≡ false
    → cert_judged judge cert depth (Some cell) at
    ≡ before_in m (cert_judged judge b) (cert_judged judge f) depth cell at cell.moments
unfolding node_judged
before_none judge cert m b f depth cell at is e =
    ap (λ one. cert_judged judge one depth (Some cell) at) is
    ∙ ap (λ g. g depth (Some cell) at) (before_is judge m b f)
    ∙ shallow (nat_lt 1024 depth) _ _ e

pub before_without : (judge : Judge) (cert : Cert) (m : ℤ) (b f : Cert) (depth : ℕ)
    (cell : Cell) (at : ℕ) → cert ≡ Before m b f → nat_lt 1024 depth ≡ false
    → cell.moments ≡ None → cert_judged judge cert depth (Some cell) at ≡ shape_at at
before_without judge cert m b f depth cell at is e none =
    before_none judge cert m b f depth cell at is e
    ∙ ap (before_in m (cert_judged judge b) (cert_judged judge f) depth cell at) none

pub before_refused : (judge : Judge) (cert : Cert) (m : ℤ) (b f : Cert) (depth : ℕ)
    (cell : Cell) (first last : ℤ) (at : ℕ) → cert ≡ Before m b f → nat_lt 1024 depth ≡ false
    → cell.moments ≡ Some (first, last) → (int_le first m && int_le m last) ≡ false
    → cert_judged judge cert depth (Some cell) at ≡ shape_at at
before_refused judge cert m b f depth cell first last at is e found off =
    before_none judge cert m b f depth cell at is e
    ∙ ap (before_in m (cert_judged judge b) (cert_judged judge f) depth cell at) found
    ∙ shallow (int_le first m && int_le m last) _ _ off

pub before_goes : (judge : Judge) (cert : Cert) (m : ℤ) (b f : Cert) (depth : ℕ) (cell : Cell)
    (first last : ℤ) (at : ℕ) → cert ≡ Before m b f → nat_lt 1024 depth ≡ false
    → cell.moments ≡ Some (first, last) → (int_le first m && int_le m last) ≡ true
    → cert_judged judge cert depth (Some cell) at
    ≡ two_judged (cert_judged judge b) (cert_judged judge f) (depth + 1)
    (part_through first (m -ℤ pos 1) cell) (part_through m last cell) (at + 1)
before_goes judge cert m b f depth cell first last at is e found on =
    before_none judge cert m b f depth cell at is e
    ∙ ap (before_in m (cert_judged judge b) (cert_judged judge f) depth cell at) found
    ∙ holds_so (int_le first m && int_le m last) _ _ on

-- ---- empty parts
pub split_empty : (judge : Judge) (cert : Cert) (key : Key) (q : Rational) (b a c : Cert)
    (depth at : ℕ) → cert ≡ Split key q b a c → nat_lt 1024 depth ≡ false
    → cert_judged judge cert depth None at ≡ shape_at at
unfolding node_judged
split_empty judge cert key q b a c depth at is e =
    ap (λ one. cert_judged judge one depth None at) is
    ∙ ap (λ f. f depth None at) (split_is judge key q b a c) ∙ shallow (nat_lt 1024 depth) _ _ e

pub before_empty : (judge : Judge) (cert : Cert) (m : ℤ) (b f : Cert) (depth at : ℕ)
    → cert ≡ Before m b f → nat_lt 1024 depth ≡ false
    → cert_judged judge cert depth None at ≡ shape_at at
unfolding node_judged
before_empty judge cert m b f depth at is e =
    ap (λ one. cert_judged judge one depth None at) is
    ∙ ap (λ g. g depth None at) (before_is judge m b f) ∙ shallow (nat_lt 1024 depth) _ _ e

-- ---- parts of a box
pub in_none : (judge : Judge) (cert : Cert) (depth place : ℕ) (result : Result ℕ CertEnd)
    (o : Option Cell) → o ≡ None → Judges place result (cert_judged judge cert depth None)
    → Judges place result (cert_judged judge cert depth o)
in_none judge cert depth place result o none h =
    subst (λ part. Judges place result (cert_judged judge cert depth part)) (sym none) h

pub in_some : (judge : Judge) (cert : Cert) (depth place : ℕ) (result : Result ℕ CertEnd)
    (o : Option Cell) (cell : Cell) → o ≡ Some cell
    → Judges place result (cert_judged judge cert depth (Some cell))
    → Judges place result (cert_judged judge cert depth o)
in_some judge cert depth place result o cell is h =
    subst (λ part. Judges place result (cert_judged judge cert depth part)) (sym is) h

not_true : (b : Bool) → not b ≡ true → b ≡ false
not_true true e = sym e
not_true false e = refl

not_false : (b : Bool) → not b ≡ false → b ≡ true
not_false true e = refl
not_false false e = sym e

pub part_empty : (key : Key) (piece : Interval) (cell : Cell)
    → not (has_member piece.low piece.high) ≡ true → part_with key piece cell ≡ None
unfolding part_with
part_empty key piece cell e =
    shallow (has_member piece.low piece.high) _ _ (not_true (has_member piece.low piece.high) e)

pub part_narrowed : (key : Key) (piece : Interval) (cell narrow : Cell)
    → not (has_member piece.low piece.high) ≡ false
    → narrow ≡ record { keys = with_piece key piece cell.keys; moments = cell.moments }
    → part_with key piece cell ≡ Some narrow
unfolding part_with
part_narrowed key piece cell narrow e is =
    holds_so (has_member piece.low piece.high) _ _
    (not_false (has_member piece.low piece.high) e)
    ∙ ap (λ one. Some one) (sym is)

pub point_empty : (key : Key) (piece : Interval) (q : Rational) (cell : Cell)
    → lies_in piece q ≡ false → part_at key piece q cell ≡ None
unfolding part_at
point_empty key piece q cell e = shallow (lies_in piece q) _ _ e

pub point_part : (key : Key) (piece : Interval) (q : Rational) (cell : Cell)
    → lies_in piece q ≡ true → part_at key piece q cell ≡ part_with key (point_of q) cell
unfolding part_at
point_part key piece q cell e = holds_so (lies_in piece q) _ _ e

pub span_empty : (first last : ℤ) (cell : Cell) → int_le first last ≡ false
    → part_through first last cell ≡ None
unfolding part_through
span_empty first last cell e = shallow (int_le first last) _ _ e

pub span_narrowed : (first last : ℤ) (cell narrow : Cell) → int_le first last ≡ true
    → narrow ≡ record { keys = cell.keys; moments = Some (first, last) }
    → part_through first last cell ≡ Some narrow
unfolding part_through
span_narrowed first last cell narrow e is =
    holds_so (int_le first last) _ _ e ∙ ap (λ one. Some one) (sym is)

-- a tree in an empty part
pub empty_goes : (judge : Judge) (cert other : Cert) (depth place : ℕ)
    (result : Result ℕ CertEnd) (o : Option Cell) → o ≡ None → other ≡ cert
    → ((any : Judge) → Judges place result (cert_judged any other depth None))
    → Judges place result (cert_judged judge cert depth o)
empty_goes judge cert other depth place result o none is h =
    in_none judge cert depth place result o none
    (subst (λ one. Judges place result (cert_judged judge one depth None)) is (h judge))

-- a tree in a box that is narrowed
pub some_goes : (judge : Judge) (cert other : Cert) (depth place : ℕ)
    (result : Result ℕ CertEnd) (o : Option Cell) (cell : Cell) → o ≡ Some cell → other ≡ cert
    → Judges place result (cert_judged judge other depth (Some cell))
    → Judges place result (cert_judged judge cert depth o)
some_goes judge cert other depth place result o cell narrowed is h =
    in_some judge cert depth place result o cell narrowed
    (subst (λ one. Judges place result (cert_judged judge one depth (Some cell))) is h)

-- ---- the depth of a node
pub is_deep : (depth : ℕ) → 1024 < depth → nat_lt 1024 depth ≡ true
is_deep depth h = grind (arith, nat_tests)

pub not_deep : (depth : ℕ) → depth ≤ 1024 → nat_lt 1024 depth ≡ false
not_deep depth h = grind (arith, nat_tests)

-- ---- a split at a number, as the walk finds it
pub record IsSplit (judge : Judge) (cert : Cert) (key : Key) (q : Rational) (b a c : Cert)
    (depth : ℕ) (cell : Cell) (piece : Interval) : Type 0 where
  pub node : cert ≡ Split key q b a c
  pub depth_is : nat_lt 1024 depth ≡ false
  pub found : piece_in key cell.keys ≡ Some piece
  pub splits : can_split piece q ≡ true

pub below_stops : (judge : Judge) (cert : Cert) (key : Key) (q : Rational) (b a c : Cert)
    (depth : ℕ) (cell : Cell) (piece lower : Interval) (place next : ℕ) (end : CertEnd)
    (result : Result ℕ CertEnd) → IsSplit judge cert key q b a c depth cell piece
    → IsNext place next → lower ≡ below_of piece q → result ≡ Err end
    → Judges next result (cert_judged judge b (depth + 1) (part_with key lower cell))
    → Judges place (Err end) (cert_judged judge cert depth (Some cell))
below_stops judge cert key q b a c depth cell piece lower place next end result h step low is f =
    judges_as place (Err end)
    (λ k.
    cert_judged judge b (depth + 1) (part_with key (below_of piece q) cell) (k + 1)
    >>= λ second. cert_judged judge a (depth + 1) (part_at key piece q cell) second
    >>= λ third. cert_judged judge c (depth + 1) (part_with key (above_of piece q) cell) third)
    (cert_judged judge cert depth (Some cell))
    (λ at.
    split_goes judge cert key q b a c depth cell piece at h.node h.depth_is h.found h.splits)
    (first_stops place next end
    (cert_judged judge b (depth + 1) (part_with key (below_of piece q) cell))
    (λ second. cert_judged judge a (depth + 1) (part_at key piece q cell) second
    >>= λ third. cert_judged judge c (depth + 1) (part_with key (above_of piece q) cell) third)
    step
    (subst (λ r. Judges next r
    (cert_judged judge b (depth + 1) (part_with key (below_of piece q) cell))) is
    (subst (λ p. Judges next result (cert_judged judge b (depth + 1) (part_with key p cell)))
    low f)))

pub point_stops : (judge : Judge) (cert : Cert) (key : Key) (q : Rational) (b a c : Cert)
    (depth : ℕ) (cell after : Cell) (piece lower : Interval) (place next n : ℕ) (end : CertEnd)
    (first second : Result ℕ CertEnd) → IsSplit judge cert key q b a c depth cell piece
    → IsNext place next → lower ≡ below_of piece q → after ≡ cell → first ≡ Ok n
    → Judges next first (cert_judged judge b (depth + 1) (part_with key lower cell))
    → second ≡ Err end
    → Judges n second (cert_judged judge a (depth + 1) (part_at key piece q after))
    → Judges place (Err end) (cert_judged judge cert depth (Some cell))
point_stops judge cert key q b a c depth cell after piece lower place next n end first second h
    step low kept is f ends g =
    judges_as place (Err end)
    (λ k.
    cert_judged judge b (depth + 1) (part_with key (below_of piece q) cell) (k + 1)
    >>= λ second. cert_judged judge a (depth + 1) (part_at key piece q cell) second
    >>= λ third. cert_judged judge c (depth + 1) (part_with key (above_of piece q) cell) third)
    (cert_judged judge cert depth (Some cell))
    (λ at.
    split_goes judge cert key q b a c depth cell piece at h.node h.depth_is h.found h.splits)
    (second_stops place next n end
    (cert_judged judge b (depth + 1) (part_with key (below_of piece q) cell))
    (cert_judged judge a (depth + 1) (part_at key piece q cell))
    (λ third. cert_judged judge c (depth + 1) (part_with key (above_of piece q) cell) third)
    step
    (subst (λ r. Judges next r
    (cert_judged judge b (depth + 1) (part_with key (below_of piece q) cell))) is
    (subst (λ p. Judges next first (cert_judged judge b (depth + 1) (part_with key p cell)))
    low f))
    (subst (λ r. Judges n r (cert_judged judge a (depth + 1) (part_at key piece q cell))) ends
    (subst (λ w. Judges n second (cert_judged judge a (depth + 1) (part_at key piece q w)))
    kept g)))

pub split_ends : (judge : Judge) (cert : Cert) (key : Key) (q : Rational) (b a c : Cert)
    (depth : ℕ) (cell after last : Cell) (piece lower upper : Interval) (place next n m : ℕ)
    (first second third : Result ℕ CertEnd) → IsSplit judge cert key q b a c depth cell piece
    → IsNext place next → lower ≡ below_of piece q → upper ≡ above_of piece q → after ≡ cell
    → last ≡ cell → first ≡ Ok n
    → Judges next first (cert_judged judge b (depth + 1) (part_with key lower cell))
    → second ≡ Ok m
    → Judges n second (cert_judged judge a (depth + 1) (part_at key piece q after))
    → Judges m third (cert_judged judge c (depth + 1) (part_with key upper last))
    → Judges place third (cert_judged judge cert depth (Some cell))
split_ends judge cert key q b a c depth cell after last piece lower upper place next n m first
    second third h step low high kept stays is f ends g t =
    judges_as place third
    (λ k.
    cert_judged judge b (depth + 1) (part_with key (below_of piece q) cell) (k + 1)
    >>= λ one. cert_judged judge a (depth + 1) (part_at key piece q cell) one
    >>= λ two. cert_judged judge c (depth + 1) (part_with key (above_of piece q) cell) two)
    (cert_judged judge cert depth (Some cell))
    (λ at.
    split_goes judge cert key q b a c depth cell piece at h.node h.depth_is h.found h.splits)
    (three_go place next n m third
    (cert_judged judge b (depth + 1) (part_with key (below_of piece q) cell))
    (cert_judged judge a (depth + 1) (part_at key piece q cell))
    (cert_judged judge c (depth + 1) (part_with key (above_of piece q) cell)) step
    (subst (λ r. Judges next r
    (cert_judged judge b (depth + 1) (part_with key (below_of piece q) cell))) is
    (subst (λ p. Judges next first (cert_judged judge b (depth + 1) (part_with key p cell)))
    low f))
    (subst (λ r. Judges n r (cert_judged judge a (depth + 1) (part_at key piece q cell))) ends
    (subst (λ w. Judges n second (cert_judged judge a (depth + 1) (part_at key piece q w)))
    kept g))
    (subst (λ p. Judges m third (cert_judged judge c (depth + 1) (part_with key p cell))) high
    (subst (λ w. Judges m third (cert_judged judge c (depth + 1) (part_with key upper w)))
    stays t)))

-- ---- a split at a moment
pub record IsCut (judge : Judge) (cert : Cert) (m : ℤ) (b f : Cert) (depth : ℕ) (cell : Cell)
    (first last : ℤ) : Type 0 where
  pub node : cert ≡ Before m b f
  pub depth_is : nat_lt 1024 depth ≡ false
  pub found : cell.moments ≡ Some (first, last)
  pub splits : (int_le first m && int_le m last) ≡ true

pub before_stops : (judge : Judge) (cert : Cert) (m : ℤ) (b f : Cert) (depth : ℕ) (cell : Cell)
    (first last : ℤ) (place next : ℕ) (end : CertEnd) (result : Result ℕ CertEnd)
    → IsCut judge cert m b f depth cell first last → IsNext place next → result ≡ Err end
    → Judges next result
    (cert_judged judge b (depth + 1) (part_through first (m -ℤ pos 1) cell))
    → Judges place (Err end) (cert_judged judge cert depth (Some cell))
before_stops judge cert m b f depth cell first last place next end result h step is g =
    judges_as place (Err end)
    (λ k.
    cert_judged judge b (depth + 1) (part_through first (m -ℤ pos 1) cell) (k + 1)
    >>= λ two. cert_judged judge f (depth + 1) (part_through m last cell) two)
    (cert_judged judge cert depth (Some cell))
    (λ at.
    before_goes judge cert m b f depth cell first last at h.node h.depth_is h.found h.splits)
    (first_stops place next end
    (cert_judged judge b (depth + 1) (part_through first (m -ℤ pos 1) cell))
    (λ two. cert_judged judge f (depth + 1) (part_through m last cell) two) step
    (subst (λ r. Judges next r
    (cert_judged judge b (depth + 1) (part_through first (m -ℤ pos 1) cell))) is g))

pub cut_ends : (judge : Judge) (cert : Cert) (m : ℤ) (b f : Cert) (depth : ℕ)
    (cell after : Cell) (first last : ℤ) (place next n : ℕ) (one two : Result ℕ CertEnd)
    → IsCut judge cert m b f depth cell first last → IsNext place next → after ≡ cell
    → one ≡ Ok n
    → Judges next one (cert_judged judge b (depth + 1) (part_through first (m -ℤ pos 1) cell))
    → Judges n two (cert_judged judge f (depth + 1) (part_through m last after))
    → Judges place two (cert_judged judge cert depth (Some cell))
cut_ends judge cert m b f depth cell after first last place next n one two h step kept is g t =
    judges_as place two
    (λ k.
    cert_judged judge b (depth + 1) (part_through first (m -ℤ pos 1) cell) (k + 1)
    >>= λ next. cert_judged judge f (depth + 1) (part_through m last cell) next)
    (cert_judged judge cert depth (Some cell))
    (λ at.
    before_goes judge cert m b f depth cell first last at h.node h.depth_is h.found h.splits)
    (two_go place next n two
    (cert_judged judge b (depth + 1) (part_through first (m -ℤ pos 1) cell))
    (cert_judged judge f (depth + 1) (part_through m last cell)) step
    (subst (λ r. Judges next r
    (cert_judged judge b (depth + 1) (part_through first (m -ℤ pos 1) cell))) is g)
    (subst (λ w. Judges n two (cert_judged judge f (depth + 1) (part_through m last w))) kept t))

-- Where a certificate is accepted, its judge accepts a leaf in whose box a state of the box is.
use Rattle.std.proofs.Common.{◌≡◌, ℕ, ◌+◌, Bool, true, false, not, ◌&&◌, Option, Some, None, Result}
use Rattle.std.proofs.Common.{Ok, Err, ◌⊎◌, inl, inr, refl, sym, ap, subst, ◌∙◌, arith, nat_lt, pos}
use Rattle.std.specs.Prelude.{IfSome, if◌then◌else◌, ℤ, ◌-ℤ◌, ◌≤ℤ◌, int_le}
use Rattle.std.proofs.lemmas.Bool.{and_parts, true≢false}
use Rattle.std.proofs.lemmas.Int.{ints}
use Rattle.exact_fraction.specs.Number.{Rational}
use Rattle.interval_sets.specs.declared.interval.Interval.{Interval}
use Rattle.rule_types.specs.declared.key.Key.{Key}
use Rattle.rule_types.specs.declared.rules.Rules.{Rules}
use Rattle.rule_types.specs.declared.state.State.{State}
use Rattle.rule_meaning.specs.CheckedSteps.{◌>>=◌}
use Rattle.verdict_meaning.specs.declared.cell.Cell.{Cell}
use Rattle.verdict_meaning.specs.declared.cert.Cert.{Cert}
use Rattle.verdict_meaning.specs.declared.cert.Cert.TheOpen.{Cert-F}
use Rattle.verdict_meaning.specs.declared.cert.Cert.TheFolds.{fold-roll-Cert, ind-Cert, map-Cert}
use Rattle.verdict_meaning.specs.declared.cert.Cert.TheViews.{roll-Cert}
use Rattle.verdict_meaning.specs.declared.cert.CertCause.{CertCause}
use Rattle.verdict_meaning.specs.declared.cert.Reason.{Reason}
use Rattle.verdict_meaning.specs.Boxes.{IsMomentIn, IsStateIn}
use Rattle.verdict_meaning.specs.Certificates.{above_of, before_in, below_of, can_split}
use Rattle.verdict_meaning.specs.Certificates.{cert_judged, is_end, Judge, Judged, leaf_end}
use Rattle.verdict_meaning.specs.Certificates.{node_judged, NodeFault, part_at, part_through}
use Rattle.verdict_meaning.specs.Certificates.{part_with, RefusesState, shape_at, split_in}
use Rattle.verdict_meaning.specs.Certificates.{three_judged, two_judged}
use Rattle.verdict_meaning.specs.Premises.{start_of}
use Rattle.verdict_meaning.specs.Reaches.{piece_in}
use Rattle.verdict_meaning.proofs.Parts.{IsPart, Where, Below, At, Above, where_is}

-- a tree that, where it gives no fault, has no state in its box
abbrev pub Refused : Rules → State → Judged → Type 0
Refused x s judged =
    (depth : ℕ) (cell : Cell) (place n : ℕ) → judged depth (Some cell) place ≡ Ok n
    → IsStateIn x cell s → ⊥

no_fault : (fault : NodeFault) (n : ℕ) → Err fault ≡ Ok n → ⊥
no_fault fault n e = true≢false (sym (ap is_end e))

-- ---- leaves
accepted_leaf : (o : Option CertCause) (place n : ℕ) → leaf_end o place ≡ Ok n → o ≡ None
accepted_leaf None place n e = refl
accepted_leaf (Some why) place n e = absurd (no_fault (record { place = place; cause = why }) n e)

leaf_by : (x : Rules) (s : State) (judge : Judge) → RefusesState x s judge → (reason : Reason)
    (cell : Cell) (place n : ℕ) (b : Bool)
    → (if b then shape_at place else leaf_end (judge cell reason) place) ≡ Ok n
    → IsStateIn x cell s → ⊥
leaf_by x s judge refuses reason cell place n true e h = no_fault _ n e
leaf_by x s judge refuses reason cell place n false e h =
    refuses.each cell reason (accepted_leaf (judge cell reason) place n e) h

-- ---- one tree after another
pub record Chain (first : Result ℕ NodeFault) (next : ℕ → Result ℕ NodeFault) (n : ℕ) : Type 0 where
  pub middle : ℕ
  pub first_is : first ≡ Ok middle
  pub next_is : next middle ≡ Ok n

then_by : (first : Result ℕ NodeFault) (next : ℕ → Result ℕ NodeFault) (n : ℕ)
    → (first >>= next) ≡ Ok n → Chain first next n
then_by (Ok middle) next n e = record { middle = middle; first_is = refl; next_is = e }
then_by (Err fault) next n e = absurd (no_fault fault n e)

in_box : (x : Rules) (s : State) (judged : Judged) → Refused x s judged → (depth : ℕ)
    (o : Option Cell) (place n : ℕ) → judged depth o place ≡ Ok n → IsPart x s o → ⊥
in_box x s judged refused depth o place n e one =
    refused depth one.part place n
    (subst (λ part. judged depth part place ≡ Ok n) one.is e) one.inside

three_by : (x : Rules) (s : State) (below at above : Judged) → Refused x s below
    → Refused x s at → Refused x s above → (depth : ℕ) (first second third : Option Cell)
    (place n : ℕ) → three_judged below at above depth first second third place ≡ Ok n
    → Where x s first second third → ⊥
three_by x s below at above f g h depth first second third place n e (Below one) =
    let start = then_by (below depth first place)
    (λ next. at depth second next >>= λ last. above depth third last) n e in
    in_box x s below f depth first place start.middle start.first_is one
three_by x s below at above f g h depth first second third place n e (At one) =
    let start = then_by (below depth first place)
    (λ next. at depth second next >>= λ last. above depth third last) n e in
    let more = then_by (at depth second start.middle) (λ last. above depth third last) n
    start.next_is in
    in_box x s at g depth second start.middle more.middle more.first_is one
three_by x s below at above f g h depth first second third place n e (Above one) =
    let start = then_by (below depth first place)
    (λ next. at depth second next >>= λ last. above depth third last) n e in
    let more = then_by (at depth second start.middle) (λ last. above depth third last) n
    start.next_is in
    in_box x s above h depth third more.middle n more.next_is one

-- ---- splits at a number
split_at : (x : Rules) (s : State) (key : Key) (q : Rational) (below at above : Judged)
    → Refused x s below → Refused x s at → Refused x s above → (depth : ℕ) (cell : Cell)
    (place n : ℕ) (piece : Interval) → piece_in key cell.keys ≡ Some piece → (b : Bool)
    → can_split piece q ≡ b
    → (if b
    then three_judged below at above (depth + 1) (part_with key (below_of piece q) cell)
    (part_at key piece q cell) (part_with key (above_of piece q) cell) (place + 1)
    else shape_at place) ≡ Ok n
    → IsStateIn x cell s → ⊥
split_at x s key q below at above f g h depth cell place n piece is false split e inside =
    no_fault _ n e
split_at x s key q below at above f g h depth cell place n piece is true split e inside =
    three_by x s below at above f g h (depth + 1) (part_with key (below_of piece q) cell)
    (part_at key piece q cell) (part_with key (above_of piece q) cell) (place + 1) n e
    (where_is x s key piece q cell inside is split)

split_by : (x : Rules) (s : State) (key : Key) (q : Rational) (below at above : Judged)
    → Refused x s below → Refused x s at → Refused x s above → (depth : ℕ) (cell : Cell)
    (place n : ℕ) (o : Option Interval) → piece_in key cell.keys ≡ o
    → split_in key q below at above depth cell place o ≡ Ok n → IsStateIn x cell s → ⊥
split_by x s key q below at above f g h depth cell place n None is e inside = no_fault _ n e
split_by x s key q below at above f g h depth cell place n (Some piece) is e inside =
    split_at x s key q below at above f g h depth cell place n piece is (can_split piece q) refl e
    inside

split_node : (x : Rules) (s : State) (key : Key) (q : Rational) (below at above : Judged)
    → Refused x s below → Refused x s at → Refused x s above → (depth : ℕ) (cell : Cell)
    (place n : ℕ) (b : Bool)
    → (if b then shape_at place
    else split_in key q below at above depth cell place (piece_in key cell.keys)) ≡ Ok n
    → IsStateIn x cell s → ⊥
split_node x s key q below at above f g h depth cell place n true e inside = no_fault _ n e
split_node x s key q below at above f g h depth cell place n false e inside =
    split_by x s key q below at above f g h depth cell place n (piece_in key cell.keys) refl e
    inside

-- ---- splits at a moment
-- a state whose moment lies in a span lies in the part of these moments
moment_part : (x : Rules) (s : State) (first last : ℤ) (cell : Cell) (b : Bool)
    → int_le first last ≡ b → first ≤ℤ s.moment → s.moment ≤ℤ last
    → IsStateIn x cell s → s.start ≡ start_of x → IsPart x s (part_through first last cell)
unfolding part_through
moment_part x s first last cell true e early late h start = record {
  part = record { keys = cell.keys; moments = Some (first, last) };
  is = rw e refl;
  inside = record {
    state = record {
      fits = h.state.fits;
      step = h.state.step;
      present = h.state.present;
      start = start;
    };
    inside = record {
      keys = h.inside.keys;
      moment = record { from_first = early; to_last = late };
    };
  };
}
moment_part x s first last cell false e early late h start =
    absurd (omega (arith, ints, e, early, late))

two_by : (x : Rules) (s : State) (before from : Judged) → Refused x s before → Refused x s from
    → (depth : ℕ) (first second : Option Cell) (place n : ℕ)
    → two_judged before from depth first second place ≡ Ok n
    → IsPart x s first ⊎ IsPart x s second → ⊥
two_by x s before from f g depth first second place n e (inl one) =
    let start =
    then_by (before depth first place) (λ next. from depth second next) n e in
    in_box x s before f depth first place start.middle start.first_is one
two_by x s before from f g depth first second place n e (inr one) =
    let start =
    then_by (before depth first place) (λ next. from depth second next) n e in
    in_box x s from g depth second start.middle n start.next_is one

-- the moment lies before a cut or from it on
moment_where : (x : Rules) (s : State) (m first last : ℤ) (cell : Cell) (b : Bool)
    → int_le m s.moment ≡ b → first ≤ℤ s.moment → s.moment ≤ℤ last → IsStateIn x cell s
    → s.start ≡ start_of x
    → IsPart x s (part_through first (m -ℤ pos 1) cell) ⊎ IsPart x s (part_through m last cell)
moment_where x s m first last cell true e early late h start =
    let from : m ≤ℤ s.moment = omega (arith, ints, e) in
    inr (moment_part x s m last cell (int_le m last) refl from late h start)
moment_where x s m first last cell false e early late h start =
    let before : s.moment ≤ℤ (m -ℤ pos 1) = omega (arith, ints, e) in
    inl
    (moment_part x s first (m -ℤ pos 1) cell (int_le first (m -ℤ pos 1)) refl early before h start)

before_at : (x : Rules) (s : State) (m : ℤ) (before from : Judged) → Refused x s before
    → Refused x s from → (depth : ℕ) (cell : Cell) (place n : ℕ) (span : ℤ × ℤ)
    → cell.moments ≡ Some span → (b : Bool)
    → (if b
    then two_judged before from (depth + 1) (part_through span.0 (m -ℤ pos 1) cell)
    (part_through m span.1 cell) (place + 1)
    else shape_at place) ≡ Ok n
    → IsStateIn x cell s → ⊥
before_at x s m before from f g depth cell place n span is false e h = no_fault _ n e
before_at x s m before from f g depth cell place n span is true e h =
    let within : IsMomentIn span s.moment =
    subst (λ o. IfSome o (λ one. IsMomentIn one s.moment)) is h.inside.moment in
    let start : s.start ≡ start_of x =
    subst (λ o. IfSome o (λ one. s.start ≡ start_of x)) is h.state.start in
    two_by x s before from f g (depth + 1) (part_through span.0 (m -ℤ pos 1) cell)
    (part_through m span.1 cell) (place + 1) n e
    (moment_where x s m span.0 span.1 cell (int_le m s.moment) refl within.from_first
    within.to_last h start)

before_by : (x : Rules) (s : State) (m : ℤ) (before from : Judged) → Refused x s before
    → Refused x s from → (depth : ℕ) (cell : Cell) (place n : ℕ) (o : Option (ℤ × ℤ))
    → cell.moments ≡ o → before_in m before from depth cell place o ≡ Ok n
    → IsStateIn x cell s → ⊥
before_by x s m before from f g depth cell place n None is e h = no_fault _ n e
before_by x s m before from f g depth cell place n (Some span) is e h =
    before_at x s m before from f g depth cell place n span is
    (int_le span.0 m && int_le m span.1) e h

before_node : (x : Rules) (s : State) (m : ℤ) (before from : Judged) → Refused x s before
    → Refused x s from → (depth : ℕ) (cell : Cell) (place n : ℕ) (b : Bool)
    → (if b then shape_at place
    else before_in m before from depth cell place cell.moments) ≡ Ok n
    → IsStateIn x cell s → ⊥
before_node x s m before from f g depth cell place n true e h = no_fault _ n e
before_node x s m before from f g depth cell place n false e h =
    before_by x s m before from f g depth cell place n cell.moments refl e h

-- ---- all nodes
abbrev Kept : Rules → State → Judge → Cert → Type 0
Kept x s judge cert = Refused x s (cert_judged judge cert)

refused_node : (x : Rules) (s : State) (judge : Judge) → RefusesState x s judge
    → (y : Cert-F ((cert : Cert) × Kept x s judge cert))
    → Refused x s
    (node_judged judge
    (map-Cert Cert Judged (cert_judged judge)
    (map-Cert ((cert : Cert) × Kept x s judge cert) Cert (λ e. e.0) y)))
unfolding node_judged
refused_node x s judge refuses (Cert-F.Leaf reason) depth cell place n e h =
    leaf_by x s judge refuses reason cell place n (nat_lt 1024 depth) e h
refused_node x s judge refuses (Cert-F.Split key q a b c) depth cell place n e h =
    split_node x s key q (cert_judged judge a.0) (cert_judged judge b.0) (cert_judged judge c.0)
    a.1 b.1 c.1 depth cell place n (nat_lt 1024 depth) e h
refused_node x s judge refuses (Cert-F.Before m a b) depth cell place n e h =
    before_node x s m (cert_judged judge a.0) (cert_judged judge b.0) a.1 b.1 depth cell place n
    (nat_lt 1024 depth) e h

pub tree_refused : (x : Rules) (s : State) (judge : Judge) → RefusesState x s judge
    → (cert : Cert) → Kept x s judge cert
unfolding cert_judged
tree_refused x s judge refuses =
    ind-Cert (Kept x s judge)
    (λ z y is.
    subst (λ w. Kept x s judge (roll-Cert w)) is
    (subst (Refused x s)
    (sym
    (fold-roll-Cert Judged (node_judged judge)
    (map-Cert ((cert : Cert) × Kept x s judge cert) Cert (λ e. e.0) y)))
    (refused_node x s judge refuses y)))

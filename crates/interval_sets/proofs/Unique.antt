-- Normal form is unique: sets that have the same members have the same edges, and so the same pieces.
use Rattle.std.proofs.Common.{◌≡◌, Bool, true, false, List, [], ◌∷◌, refl, sym, ap, ap₂, ◌∙◌}
use Rattle.std.proofs.lemmas.Bool.{false≢true, true≢false}
use Rattle.exact_fraction.specs.Number.{Rational}
use Rattle.interval_sets.specs.declared.interval.Bound.{Bound}
use Rattle.interval_sets.specs.declared.interval.Bound.TheVariants as end
use Rattle.interval_sets.specs.declared.interval.Interval.{Interval}
use Rattle.interval_sets.specs.declared.edge.Edge.{Edge}
use Rattle.interval_sets.specs.Sets.{members, IsNormal}
use Rattle.interval_sets.specs.internal.Edges.{is_past, stands_before, low_edge, high_edge, low_end, high_end, edges_of, Rises, AreHeldEdges, differs, oddly_many}
use Rattle.interval_sets.proofs.Bools.{differs_cancel}
use Rattle.interval_sets.proofs.EdgeOrder.{past_before, before_from_past, room, same_edge}
use Rattle.interval_sets.proofs.Merging.{none_after}
use Rattle.interval_sets.proofs.PieceEdges.{is_downward, normal_rises, held_edges, even_edges, members_edges}

-- a fraction past an edge, and short of two that it stands before
pub record Between (a b c : Edge) : Type 0 where
  pub at : Rational
  pub past : is_past at a ≡ true
  pub short : is_past at b ≡ false
  pub short_too : is_past at c ≡ false

short_of_later : (q : Rational) (c b : Edge) → stands_before c b ≡ true → is_past q c ≡ false → is_past q b ≡ false
short_of_later q c b h short = by_test (is_past q b) refl
  where
    by_test : (t : Bool) → is_past q b ≡ t → t ≡ false
    by_test true p = absurd (false≢true (sym short ∙ past_before q c b h p))
    by_test false p = refl

short_of_other : (q : Rational) (c b : Edge) → stands_before c b ≡ false → is_past q b ≡ false → is_past q c ≡ false
short_of_other q c b h short = by_test (is_past q c) refl
  where
    by_test : (t : Bool) → is_past q c ≡ t → t ≡ false
    by_test true p = absurd (false≢true (sym h ∙ before_from_past q c b p short))
    by_test false p = refl

pub between : (a b c : Edge) → stands_before a b ≡ true → stands_before a c ≡ true → Between a b c
between a b c h k = by_test (stands_before c b) refl
  where
    by_test : (t : Bool) → stands_before c b ≡ t → Between a b c
    by_test true p =
        let r = room a c k in
        record { at = r.at; past = r.past; short = short_of_later r.at c b p r.short; short_too = r.short }
    by_test false p =
        let r = room a b h in
        record { at = r.at; past = r.past; short = r.short; short_too = short_of_other r.at c b p r.short }

-- a fraction that is short of the first edge is past none
none_past : (q : Rational) (e : Edge) (edges : List Edge) → Rises (e ∷ edges) → is_past q e ≡ false → oddly_many (is_past q) (e ∷ edges) ≡ false
none_past q e edges rises p = ap (λ t. differs t (oddly_many (is_past q) edges)) p ∙ none_after (is_past q) (is_downward q) e edges rises.0 rises.1 p

-- one that is past the first edge alone is past an odd number
one_past : (q : Rational) (e : Edge) (edges : List Edge) → is_past q e ≡ true → oddly_many (is_past q) edges ≡ false → oddly_many (is_past q) (e ∷ edges) ≡ true
one_past q e edges p none = ap₂ differs p none

-- lists of which the first begins sooner tell a fraction apart
begins_sooner : (a : Edge) (left : List Edge) (b : Edge) (right : List Edge) → Rises (a ∷ left) → Rises (b ∷ right) → stands_before a b ≡ true → ((q : Rational) → oddly_many (is_past q) (a ∷ left) ≡ oddly_many (is_past q) (b ∷ right)) → ⊥
begins_sooner a [] b right ra rb h same =
    let r = room a b h in
    true≢false (sym (one_past r.at a [] r.past refl) ∙ same r.at ∙ none_past r.at b right rb r.short)
begins_sooner a (c ∷ left) b right ra rb h same =
    let r = between a b c h ra.0 in
    true≢false (sym (one_past r.at a (c ∷ left) r.past (none_past r.at c left ra.1 r.short_too)) ∙ same r.at ∙ none_past r.at b right rb r.short)

-- a list of two edges or more tells a fraction apart from none
some_past : (b c : Edge) (right : List Edge) → Rises (b ∷ c ∷ right) → ((q : Rational) → oddly_many (is_past q) (b ∷ c ∷ right) ≡ false) → ⊥
some_past b c right rises none =
    let r = room b c rises.0 in
    true≢false (sym (one_past r.at b (c ∷ right) r.past (none_past r.at c right rises.1 r.short)) ∙ none r.at)

pub same_edges : (left right : List Edge) → Rises left → Rises right → AreHeldEdges left → AreHeldEdges right → oddly_many (λ e. true) left ≡ oddly_many (λ e. true) right → ((q : Rational) → oddly_many (is_past q) left ≡ oddly_many (is_past q) right) → left ≡ right
same_edges [] [] ra rb ha hb number same = refl
same_edges [] (b ∷ []) ra rb ha hb number same = absurd (false≢true number)
same_edges [] (b ∷ c ∷ right) ra rb ha hb number same = absurd (some_past b c right rb (λ q. sym (same q)))
same_edges (a ∷ []) [] ra rb ha hb number same = absurd (true≢false number)
same_edges (a ∷ c ∷ left) [] ra rb ha hb number same = absurd (some_past a c left ra same)
same_edges (a ∷ left) (b ∷ right) ra rb ha hb number same =
    by_tests (stands_before a b) (stands_before b a) refl refl
    (λ rest. same_edges left right ra.1 rb.1 ha.1 hb.1 (differs_cancel true (oddly_many (λ e. true) left) (oddly_many (λ e. true) right) number) rest)
  where
    rest_same : a ≡ b → (q : Rational) → oddly_many (is_past q) left ≡ oddly_many (is_past q) right
    rest_same is q = differs_cancel (is_past q b) (oddly_many (is_past q) left) (oddly_many (is_past q) right) (sym (ap (λ e. differs (is_past q e) (oddly_many (is_past q) left)) is) ∙ same q)

    by_tests : (s t : Bool) → stands_before a b ≡ s → stands_before b a ≡ t → (((q : Rational) → oddly_many (is_past q) left ≡ oddly_many (is_past q) right) → left ≡ right) → a ∷ left ≡ b ∷ right
    by_tests true t p q rest = absurd (begins_sooner a left b right ra rb p same)
    by_tests false true p q rest = absurd (begins_sooner b right a left rb ra q (λ x. sym (same x)))
    by_tests false false p q rest =
        let is = same_edge a b ha.0 hb.0 p q in
        ap₂ (λ e edges. e ∷ edges) is (rest (rest_same is))

-- ---- pieces
low_again : (low : Bound) → low_end (low_edge low) ≡ low
low_again end.NoBound = refl
low_again (end.Bound p true) = refl
low_again (end.Bound p false) = refl

high_again : (high : Bound) → high_end (high_edge high) ≡ high
high_again end.NoBound = refl
high_again (end.Bound p true) = refl
high_again (end.Bound p false) = refl

pub same_pieces : (a b : List Interval) → edges_of a ≡ edges_of b → a ≡ b
same_pieces [] [] e = refl
same_pieces [] (r ∷ b) e = cc
same_pieces (p ∷ a) [] e = cc
same_pieces (p ∷ a) (r ∷ b) e =
    let low : low_edge p.low ≡ low_edge r.low = cc in
    let high : high_edge p.high ≡ high_edge r.high = cc in
    let later : edges_of a ≡ edges_of b = cc in
    let make : Bound → Bound → Interval = λ l h. record { low = l; high = h } in
    let one : p ≡ r = ap₂ make (sym (low_again p.low) ∙ ap low_end low ∙ low_again r.low) (sym (high_again p.high) ∙ ap high_end high ∙ high_again r.high) in
    ap₂ (λ x y. x ∷ y) one (same_pieces a b later)

-- sets in normal form that have the same members are one
pub unique_pieces : (a b : List Interval) → IsNormal a → IsNormal b → ((q : Rational) → members a q ≡ members b q) → a ≡ b
unique_pieces a b na nb same =
    let ra = normal_rises a na.rising in
    let rb = normal_rises b nb.rising in
    same_pieces a b (same_edges (edges_of a) (edges_of b) ra rb (held_edges a na.held) (held_edges b nb.held)
    (even_edges a ∙ sym (even_edges b))
    (λ q. sym (members_edges a q ra) ∙ same q ∙ members_edges b q rb))

-- a set in normal form that has no member has no piece
pub no_pieces : (a : List Interval) → IsNormal a → ((q : Rational) → members a q ≡ false) → a ≡ []
no_pieces a na none = unique_pieces a [] na (record { rising = refl; held = tt }) none

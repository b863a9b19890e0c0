-- What the tests of sets tell.
use Rattle.std.proofs.Common.{◌≡◌, ◌==◌, Bool, false, List, [], ◌∷◌, length, refl, sym, ap, subst, ◌∙◌, arith}
use Rattle.std.specs.Bool.{Decides}
use Rattle.std.specs.Cmp.Lexicographic.{pointwise}
use Rattle.std.proofs.lemmas.Bool.{eqb-true}
use Rattle.std.proofs.lemmas.Slice.Eq.{slice_eq-Decides}
use Rattle.exact_fraction.specs.Number.{Rational}
use Rattle.interval_sets.specs.declared.interval.Interval.{Interval}
use Rattle.interval_sets.specs.contracts.interval.IntervalPartialEq.TheImpl as IntervalEq
use Rattle.interval_sets.proofs.EndEquality.{Interval-sames}
use Rattle.interval_sets.specs.Sets.{members, IsNormal}
use Rattle.interval_sets.proofs.Unique.{unique_pieces, no_pieces}

-- equal pieces are those of equal sets
pub equal_pieces : (x y a b : List Interval) (r : Bool) → x ≡ a → y ≡ b → r ≡ pointwise IntervalEq.eq-value.it x y → Decides r (a ≡ b)
equal_pieces x y a b r p q so =
    let same = slice_eq-Decides Interval-sames x y r so in
    (λ h. sym p ∙ same.0 h ∙ q, λ e. same.1 (p ∙ e ∙ sym q))

pub equal_members : (x y a b : List Interval) (r : Bool) → x ≡ a → y ≡ b → IsNormal x → IsNormal y → r ≡ pointwise IntervalEq.eq-value.it x y → Decides r ((q : Rational) → members a q ≡ members b q)
equal_members x y a b r p s nx ny so =
    let same = equal_pieces x y a b r p s so in
    let P : List Interval → Type 0 = λ l. IsNormal l in
    (λ h q. ap (λ l. members l q) (same.0 h), λ e. same.1 (unique_pieces a b (subst P p nx) (subst P s ny) e))

-- no piece is left exactly where there is no member
length_none : (a : List Interval) → length a ≡ 0 → a ≡ []
length_none [] h = refl
length_none (piece ∷ a) h = absurd (omega arith)

pub empty_members : (x a : List Interval) (r : Bool) → x ≡ a → IsNormal a → r ≡ (length x == 0) → Decides r ((q : Rational) → members a q ≡ false)
empty_members x a r p na so = (
  λ h q. ap (λ l. members l q) (sym p ∙ length_none x (eqb-true (length x) 0 (sym so ∙ h))),
  λ none. so ∙ ap (λ l. length l == 0) (p ∙ no_pieces a na none),
)

-- Rules and pairs precede one another in a strict weak order.
use Rattle.std.proofs.Common.{◌≡◌, ℕ, nat_lt, Bool, true, false, not, ◌&&◌, ◌||◌, Option}
use Rattle.std.proofs.Common.{List, refl, sym, ◌∙◌, arith, true≢false}
use Rattle.std.proofs.lemmas.Bool.Decides.{nat_tests}
use Rattle.exact_fraction.specs.Number.{Rational}
use Rattle.rule_types.specs.declared.action.ActionAt.{ActionAt}
use Rattle.rule_types.specs.declared.rule.Rule.{Rule}
use Rattle.rule_types.specs.Ranks.{outranks, precedes}
use Rattle.rule_meaning.specs.Settled.{beats}
use Rattle.rule_meaning.proofs.Settling.{outranks_asym, outranks_through, beats_asym, beats_through}

-- the test of `precedes`, of two answers on ranks and two places
abbrev ranked : Bool → Bool → ℕ → ℕ → Bool
ranked a b m n = a || ((not a && not b) && nat_lt m n)

ranked_asym : (a b : Bool) (m n : ℕ) → (a ≡ true → b ≡ false) → ranked a b m n ≡ true
    → ranked b a n m ≡ false
ranked_asym true true m n asym h = absurd (true≢false (asym refl))
ranked_asym true false m n asym h = refl
ranked_asym false true m n asym h = grind arith
ranked_asym false false m n asym h = grind (arith, nat_tests)

ranked_ties : (a b : Bool) (m n : ℕ) → ranked a b m n ≡ false → ranked b a n m ≡ false → m ≡ n
ranked_ties true b m n h g = absurd (true≢false h)
ranked_ties false true m n h g = absurd (true≢false g)
ranked_ties false false m n h g = grind (arith, nat_tests)

places_through : (m n k : ℕ) → nat_lt m n ≡ false → nat_lt n k ≡ false → nat_lt m k ≡ false
places_through m n k h g = grind (arith, nat_tests)

ranked_through : (a a' b b' c c' : Bool) (m n k : ℕ) → (a ≡ false → b ≡ false → c ≡ false)
    → (b ≡ false → c' ≡ false → a' ≡ false) → (c' ≡ false → a ≡ false → b' ≡ false)
    → ranked a a' m n ≡ false → ranked b b' n k ≡ false → ranked c c' m k ≡ false
ranked_through true a' b b' c c' m n k p u t h g = absurd (true≢false h)
ranked_through false a' true b' c c' m n k p u t h g = absurd (true≢false g)
ranked_through false a' false b' true c' m n k p u t h g = absurd (true≢false (p refl refl))
ranked_through false a' false b' false true m n k p u t h g = refl
ranked_through false true false b' false false m n k p u t h g = absurd (true≢false (u refl refl))
ranked_through false false false true false false m n k p u t h g =
    absurd (true≢false (t refl refl))
ranked_through false false false false false false m n k p u t h g = places_through m n k h g

-- what does not precede, and comes before what does not precede, is not preceded
follows_by : (pr qp rq : Bool) → (pr ≡ false → rq ≡ false → qp ≡ false) → qp ≡ true → rq ≡ false
    → pr ≡ true
follows_by true qp rq through h g = refl
follows_by false qp rq through h g = absurd (true≢false (sym h ∙ through refl g))

-- ---- rules
pub precedes_asym : (p q : Option Rational) (m n : ℕ) → precedes p m q n ≡ true
    → precedes q n p m ≡ false
precedes_asym p q m n h = ranked_asym (outranks p q) (outranks q p) m n (outranks_asym p q) h

pub precedes_through : (p q r : Option Rational) (m n k : ℕ) → precedes p m q n ≡ false
    → precedes q n r k ≡ false
    → precedes p m r k ≡ false
precedes_through p q r m n k h g =
    ranked_through (outranks p q) (outranks q p) (outranks q r) (outranks r q) (outranks p r)
    (outranks r p) m n k
    (outranks_through p q r) (outranks_through q r p) (outranks_through r p q) h g

pub precedes_ties : (p q : Option Rational) (m n : ℕ) → precedes p m q n ≡ false
    → precedes q n p m ≡ false → m ≡ n
precedes_ties p q m n h g = ranked_ties (outranks p q) (outranks q p) m n h g

pub precedes_on : (p q r : Option Rational) (m n k : ℕ) → precedes p m q n ≡ true
    → precedes q n r k ≡ true
    → precedes p m r k ≡ true
precedes_on p q r m n k h g =
    follows_by (precedes p m r k) (precedes p m q n) (precedes r k q n)
    (precedes_through p r q m k n) h
    (precedes_asym q r n k g)

-- ---- pairs
pub beats_on : (rules : List Rule) (p q r : ActionAt) → beats rules p q ≡ true
    → beats rules q r ≡ true → beats rules p r ≡ true
beats_on rules p q r h g =
    follows_by (beats rules p r) (beats rules p q) (beats rules r q) (beats_through rules p r q) h
    (beats_asym rules q r g)

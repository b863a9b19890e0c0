-- Facts on rules of a question that are what is known in a box, also without one of them.
use Rattle.std.specs.Prelude.{◌≡◌, ℕ, Bool, true, false, ◌&&◌, List, [], ◌∷◌, ◌++◌, nat_lt, length}
use Rattle.std.specs.Prelude.{refl}
use Rattle.std.specs.List.{list_all}
use Rattle.std.proofs.Common.{sym}
use Rattle.std.proofs.Math.Nat.{lt_trans}
use Rattle.std.proofs.lemmas.Bool.{and_parts, and_from, lt-ltb, ltb-true, true≢false}
use Rattle.rule_types.specs.declared.rules.Rules.{Rules}
use Rattle.verdict_meaning.specs.declared.cell.Cell.{Cell}
use Rattle.verdict_meaning.specs.declared.question.Question.{Question}
use Rattle.verdict_meaning.specs.Certificates.{facts_fit, facts_hold, is_before_facts, is_fact}
use Rattle.verdict_meaning.specs.Premises.{rule_truth}
use Rattle.verdict_meaning.specs.Questions.{is_asked}

-- facts that fit a question and hold in a box
pub record AreFacts (x : Rules) (question : Question) (cell : Cell) (facts : List (ℕ × Bool)) :
    Type 0 where
  pub fit : facts_fit x question facts ≡ true
  pub hold : facts_hold x cell facts ≡ true

-- ---- what the first of some facts says of all
pub record FitFirst (a b c d : Bool) : Type 0 where
  pub inside : a ≡ true
  pub asked : b ≡ true
  pub before : c ≡ true
  pub later : d ≡ true

fit_by : (a b c d : Bool) → ((a && b) && c && d) ≡ true → FitFirst a b c d
fit_by true true true d e = record { inside = refl; asked = refl; before = refl; later = e }
fit_by true true false d e = absurd (true≢false (sym e))
fit_by true false c d e = absurd (true≢false (sym e))
fit_by false b c d e = absurd (true≢false (sym e))

fit_from : (a b c d : Bool) → FitFirst a b c d → ((a && b) && c && d) ≡ true
fit_from true true true d h = h.later
fit_from true true false d h = h.before
fit_from true false c d h = h.asked
fit_from false b c d h = h.inside

pub fit_first : (x : Rules) (question : Question) (fact : ℕ × Bool) (more : List (ℕ × Bool))
    → facts_fit x question (fact ∷ more) ≡ true
    → FitFirst (nat_lt fact.0 (length x.rules)) (is_asked x question fact.0)
    (is_before_facts fact.0 more) (facts_fit x question more)
unfolding facts_fit
fit_first x question fact more e =
    fit_by (nat_lt fact.0 (length x.rules)) (is_asked x question fact.0)
    (is_before_facts fact.0 more) (facts_fit x question more) e

pub fit_with : (x : Rules) (question : Question) (fact : ℕ × Bool) (more : List (ℕ × Bool))
    → FitFirst (nat_lt fact.0 (length x.rules)) (is_asked x question fact.0)
    (is_before_facts fact.0 more) (facts_fit x question more)
    → facts_fit x question (fact ∷ more) ≡ true
unfolding facts_fit
fit_with x question fact more h =
    fit_from (nat_lt fact.0 (length x.rules)) (is_asked x question fact.0)
    (is_before_facts fact.0 more) (facts_fit x question more) h

-- ---- without one of them
before_next : (number next : ℕ) (facts : List (ℕ × Bool)) → nat_lt number next ≡ true
    → is_before_facts next facts ≡ true → is_before_facts number facts ≡ true
before_next number next [] e f = refl
before_next number next (fact ∷ more) e f =
    lt-ltb number fact.0 (lt_trans (ltb-true number next e) (ltb-true next fact.0 f))

before_without : (x : Rules) (question : Question) (number : ℕ) (xs ys : List (ℕ × Bool))
    (fact : ℕ × Bool) → is_before_facts number (xs ++ fact ∷ ys) ≡ true
    → facts_fit x question (xs ++ fact ∷ ys) ≡ true
    → is_before_facts number (xs ++ ys) ≡ true
before_without x question number [] ys fact e fit =
    before_next number fact.0 ys e (fit_first x question fact ys fit).before
before_without x question number (one ∷ xs) ys fact e fit = e

fit_without : (x : Rules) (question : Question) (xs ys : List (ℕ × Bool)) (fact : ℕ × Bool)
    → facts_fit x question (xs ++ fact ∷ ys) ≡ true → facts_fit x question (xs ++ ys) ≡ true
fit_without x question [] ys fact fit = (fit_first x question fact ys fit).later
fit_without x question (one ∷ xs) ys fact fit =
    let first = fit_first x question one (xs ++ fact ∷ ys) fit in
    fit_with x question one (xs ++ ys)
    (record {
      inside = first.inside;
      asked = first.asked;
      before = before_without x question one.0 xs ys fact first.before first.later;
      later = fit_without x question xs ys fact first.later;
    })

all_without : {A : Type 0} (p : A → Bool) (xs ys : List A) (y : A)
    → list_all p (xs ++ y ∷ ys) ≡ true → list_all p (xs ++ ys) ≡ true
all_without p [] ys y h = (and_parts (p y) (list_all p ys) h).1
all_without p (x ∷ xs) ys y h =
    let parts = and_parts (p x) (list_all p (xs ++ y ∷ ys)) h in
    and_from (p x) (list_all p (xs ++ ys)) parts.0 (all_without p xs ys y parts.1)

hold_without : (x : Rules) (cell : Cell) (xs ys : List (ℕ × Bool)) (fact : ℕ × Bool)
    → facts_hold x cell (xs ++ fact ∷ ys) ≡ true → facts_hold x cell (xs ++ ys) ≡ true
unfolding facts_hold
hold_without x cell xs ys fact h =
    all_without (λ one. is_fact one.1 (rule_truth x cell one.0)) xs ys fact h

pub facts_without : (x : Rules) (question : Question) (cell : Cell) (xs ys : List (ℕ × Bool))
    (fact : ℕ × Bool) → AreFacts x question cell (xs ++ fact ∷ ys)
    → AreFacts x question cell (xs ++ ys)
facts_without x question cell xs ys fact h = record {
  fit = fit_without x question xs ys fact h.fit;
  hold = hold_without x cell xs ys fact h.hold;
}

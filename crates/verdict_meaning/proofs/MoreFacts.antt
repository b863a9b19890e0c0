-- With one more fact more is known.
use Rattle.std.proofs.Common.{◌≡◌, ℕ, Bool, true, not, ◌&&◌, ◌||◌, ◌==◌, List, ◌∷◌, ◌++◌, sym}
use Rattle.std.proofs.Common.{◌∙◌}
use Rattle.std.specs.List.{list_any}
use Rattle.std.proofs.lemmas.List.Folds.{list_any-append}
use Rattle.rule_types.specs.declared.rules.Rules.{Rules}
use Rattle.rule_types.specs.Tables.{TableSet}
use Rattle.verdict_meaning.specs.declared.cell.Cell.{Cell}
use Rattle.verdict_meaning.specs.declared.question.Question.{Question}
use Rattle.verdict_meaning.specs.Shown.{IsMoreKnown, known_by, shown_by}
use Rattle.verdict_meaning.proofs.MoreKnown.{shown_stays}
use Rattle.verdict_meaning.proofs.Tests.{or_right, or_stays}

any_more : {A : Type 0} (p : A → Bool) (xs ys : List A) (x : A) → list_any p (xs ++ ys) ≡ true
    → list_any p (xs ++ (x ∷ ys)) ≡ true
any_more p xs ys x h =
    list_any-append p xs (x ∷ ys)
    ∙ or_stays (list_any p xs) (list_any p ys) (list_any p xs) (list_any p (x ∷ ys)) (λ e. e)
    (λ e. or_right (p x) (list_any p ys) e) (sym (list_any-append p xs ys) ∙ h)

facts_more : (xs ys : List (ℕ × Bool)) (fact : ℕ × Bool)
    → IsMoreKnown (known_by (xs ++ ys)) (known_by (xs ++ (fact ∷ ys)))
unfolding known_by
facts_more xs ys fact = record {
  holds = λ number h. any_more (λ one. one.0 == number && one.1) xs ys fact h;
  fails = λ number h. any_more (λ one. one.0 == number && not one.1) xs ys fact h;
}

pub shown_by_more : (x : Rules) (tables : TableSet) (question : Question) (cell : Cell)
    (xs ys : List (ℕ × Bool)) (fact : ℕ × Bool)
    → shown_by x tables question cell (xs ++ ys) ≡ true
    → shown_by x tables question cell (xs ++ (fact ∷ ys)) ≡ true
unfolding shown_by
shown_by_more x tables question cell xs ys fact h =
    shown_stays x tables cell (known_by (xs ++ ys)) (known_by (xs ++ (fact ∷ ys))) question
    (facts_more xs ys fact) h

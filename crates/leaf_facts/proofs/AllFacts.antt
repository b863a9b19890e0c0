-- All facts that a box tells: they fit the question and hold in the box, and of each rule of the
-- question that is there they tell what the box tells.
use Rattle.std.proofs.Common.{◌≡◌, ℕ, zero, suc, ◌+◌, ◌<◌, ◌≤◌, Bool, true, false, ◌||◌, ◌==◌}
use Rattle.std.proofs.Common.{List, [], ◌∷◌, ◌++◌, length, map, refl, sym, ap, ◌∙◌, arith}
use Rattle.std.specs.Prelude.{if◌then◌else◌}
use Rattle.std.specs.List.{flat_map, list_all, list_any, range_with_len}
use Rattle.std.proofs.lemmas.Bool.{and_from, lt-ltb, or_right, true≢false}
use Rattle.std.proofs.lemmas.Bool.Decides.{nat_tests}
use Rattle.std.proofs.lemmas.List.Folds.{flat_map-map, list_any-append}
use Rattle.std.proofs.lemmas.List.{flat_map_more}
use Rattle.std.proofs.lemmas.List.FromFn.{map-range_with_len_more}
use Rattle.rule_types.specs.declared.rules.Rules.{Rules}
use Rattle.verdict_meaning.specs.declared.cell.Cell.{Cell}
use Rattle.verdict_meaning.specs.declared.question.Question.{Question}
use Rattle.verdict_meaning.specs.declared.truth.Truth.{Truth}
use Rattle.verdict_meaning.specs.declared.truth.Truth.TheVariants.{Yes, No, Open}
use Rattle.verdict_meaning.specs.Certificates.{facts_fit, facts_hold, is_before_facts, is_fact}
use Rattle.verdict_meaning.specs.Premises.{rule_truth}
use Rattle.verdict_meaning.specs.Questions.{is_asked}
use Rattle.leaf_facts.specs.internal.BoxFacts.{fact_on, facts_in, told_fact}
use Rattle.leaf_facts.specs.internal.FewerFacts.{AreFacts, fit_with}

abbrev Facts : Type 0
Facts = List (ℕ × Bool)

-- the facts on so many rules from one on
abbrev facts_from : Rules → Question → Cell → ℕ → ℕ → Facts
facts_from x question cell at count = flat_map (fact_on x question cell) (range_with_len at count)

-- ---- the loop that gathers them
pub facts_more : (x : Rules) (question : Question) (cell : Cell) (n : ℕ) (before after : Facts)
    → before ≡ flat_map (fact_on x question cell) (range_with_len 0 n)
    → after ≡ before ++ fact_on x question cell n
    → after ≡ flat_map (fact_on x question cell) (range_with_len 0 (n + 1))
facts_more x question cell n before after e f =
    let on = fact_on x question cell in
    let same = λ (k : ℕ). k in
    f ∙ ap (λ l. l ++ on n) (e ∙ sym (flat_map-map on same (range_with_len 0 n)))
    ∙ flat_map_more on [] (map same (range_with_len 0 n)) n
    ∙ ap (flat_map on) (sym (map-range_with_len_more same 0 n n (omega arith)))
    ∙ flat_map-map on same (range_with_len 0 (n + 1))

-- ---- they fit the question
before_by : (asked : Bool) (truth : Truth) (number at : ℕ) (later : Facts) → number < at
    → is_before_facts number later ≡ true
    → is_before_facts number ((if asked then told_fact at truth else []) ++ later) ≡ true
before_by true Yes number at later less h = lt-ltb number at less
before_by true No number at later less h = lt-ltb number at less
before_by true Open number at later less h = h
before_by false truth number at later less h = h

before_all : (x : Rules) (question : Question) (cell : Cell) (number at count : ℕ) → number < at
    → is_before_facts number (facts_from x question cell at count) ≡ true
unfolding fact_on
before_all x question cell number at zero less = refl
before_all x question cell number at (suc count) less =
    before_by (is_asked x question at) (rule_truth x cell at) number at
    (facts_from x question cell (at + 1) count) less
    (before_all x question cell number (at + 1) count (omega (arith, less)))

fit_by : (x : Rules) (question : Question) (asked : Bool) (truth : Truth) (at : ℕ)
    (later : Facts) → is_asked x question at ≡ asked → at < length x.rules
    → is_before_facts at later ≡ true → facts_fit x question later ≡ true
    → facts_fit x question ((if asked then told_fact at truth else []) ++ later) ≡ true
fit_by x question true Yes at later e within before h =
    fit_with x question (at, true) later
    (record {
      inside = lt-ltb at (length x.rules) within;
      asked = e;
      before = before;
      later = h;
    })
fit_by x question true No at later e within before h =
    fit_with x question (at, false) later
    (record {
      inside = lt-ltb at (length x.rules) within;
      asked = e;
      before = before;
      later = h;
    })
fit_by x question true Open at later e within before h = h
fit_by x question false truth at later e within before h = h

fit_none : (x : Rules) (question : Question) → facts_fit x question [] ≡ true
unfolding facts_fit
fit_none x question = refl

fit_all : (x : Rules) (question : Question) (cell : Cell) (at count : ℕ)
    → at + count ≤ length x.rules
    → facts_fit x question (facts_from x question cell at count) ≡ true
unfolding fact_on
fit_all x question cell at zero within = fit_none x question
fit_all x question cell at (suc count) within =
    fit_by x question (is_asked x question at) (rule_truth x cell at) at
    (facts_from x question cell (at + 1) count) refl (omega (arith, within))
    (before_all x question cell at (at + 1) count (omega arith))
    (fit_all x question cell (at + 1) count (omega (arith, within)))

-- ---- they hold in the box
hold_by : (p : ℕ × Bool → Bool) (asked : Bool) (truth : Truth) (at : ℕ) (later : Facts)
    → ((holds : Bool) → is_fact holds truth ≡ true → p (at, holds) ≡ true)
    → list_all p later ≡ true
    → list_all p ((if asked then told_fact at truth else []) ++ later) ≡ true
hold_by p true Yes at later each h = and_from (p (at, true)) (list_all p later) (each true refl) h
hold_by p true No at later each h = and_from (p (at, false)) (list_all p later) (each false refl) h
hold_by p true Open at later each h = h
hold_by p false truth at later each h = h

hold_all : (x : Rules) (question : Question) (cell : Cell) (at count : ℕ)
    → facts_hold x cell (facts_from x question cell at count) ≡ true
unfolding facts_hold fact_on
hold_all x question cell at zero = refl
hold_all x question cell at (suc count) =
    hold_by (λ fact. is_fact fact.1 (rule_truth x cell fact.0)) (is_asked x question at)
    (rule_truth x cell at) at (facts_from x question cell (at + 1) count) (λ holds e. e)
    (hold_all x question cell (at + 1) count)

pub all_are_facts : (x : Rules) (question : Question) (cell : Cell)
    → AreFacts x question cell (facts_in x question cell)
unfolding facts_in
all_are_facts x question cell = record {
  fit = fit_all x question cell 0 (length x.rules) (omega arith);
  hold = hold_all x question cell 0 (length x.rules);
}

-- ---- they tell what the box tells
told_is : (number : ℕ) (holds : Bool) (truth : Truth) → is_fact holds truth ≡ true
    → told_fact number truth ≡ (number, holds) ∷ []
told_is number true Yes e = refl
told_is number true No e = absurd (true≢false (sym e))
told_is number true Open e = absurd (true≢false (sym e))
told_is number false Yes e = absurd (true≢false (sym e))
told_is number false No e = refl
told_is number false Open e = absurd (true≢false (sym e))

on_is : (x : Rules) (question : Question) (cell : Cell) (number : ℕ) (holds : Bool)
    → is_asked x question number ≡ true → is_fact holds (rule_truth x cell number) ≡ true
    → fact_on x question cell number ≡ (number, holds) ∷ []
unfolding fact_on
on_is x question cell number holds asked e =
    ap (λ b. if b then told_fact number (rule_truth x cell number) else []) asked
    ∙ told_is number holds (rule_truth x cell number) e

or_first : (a b : Bool) → a ≡ true → (a || b) ≡ true
or_first true b e = refl
or_first false b e = absurd (true≢false (sym e))

here_by : (p : ℕ × Bool → Bool) (fact : ℕ × Bool) (told later : Facts) → told ≡ fact ∷ []
    → p fact ≡ true → list_any p (told ++ later) ≡ true
here_by p fact told later e h =
    ap (λ l. list_any p (l ++ later)) e ∙ or_first (p fact) (list_any p later) h

later_by : (p : ℕ × Bool → Bool) (told later : Facts) → list_any p later ≡ true
    → list_any p (told ++ later) ≡ true
later_by p told later h =
    list_any-append p told later ∙ or_right (list_any p told) (list_any p later) h

told_by : (x : Rules) (question : Question) (cell : Cell) (number : ℕ) (holds : Bool)
    (p : ℕ × Bool → Bool) → p (number, holds) ≡ true → is_asked x question number ≡ true
    → is_fact holds (rule_truth x cell number) ≡ true → (at count : ℕ) (same : Bool)
    → (at == number) ≡ same → at ≤ number
    → (at + 1 ≤ number → list_any p (facts_from x question cell (at + 1) count) ≡ true)
    → list_any p (facts_from x question cell at (suc count)) ≡ true
told_by x question cell number holds p h asked e at count true same low later =
    let is : number ≡ at = grind (arith, nat_tests) in
    here_by p (number, holds) (fact_on x question cell at)
    (facts_from x question cell (at + 1) count)
    (ap (fact_on x question cell) (sym is) ∙ on_is x question cell number holds asked e) h
told_by x question cell number holds p h asked e at count false same low later =
    let other : at + 1 ≤ number = grind (arith, nat_tests) in
    later_by p (fact_on x question cell at) (facts_from x question cell (at + 1) count)
    (later other)

told_from : (x : Rules) (question : Question) (cell : Cell) (number : ℕ) (holds : Bool)
    (p : ℕ × Bool → Bool) → p (number, holds) ≡ true → is_asked x question number ≡ true
    → is_fact holds (rule_truth x cell number) ≡ true → (at count : ℕ) → at ≤ number
    → number < at + count → list_any p (facts_from x question cell at count) ≡ true
told_from x question cell number holds p h asked e at zero low high =
    absurd (omega (arith, low, high))
told_from x question cell number holds p h asked e at (suc count) low high =
    told_by x question cell number holds p h asked e at count (at == number) refl low
    (λ other.
    told_from x question cell number holds p h asked e (at + 1) count other
    (omega (arith, high)))

pub told_in : (x : Rules) (question : Question) (cell : Cell) (number : ℕ) (holds : Bool)
    (p : ℕ × Bool → Bool) → p (number, holds) ≡ true → number < length x.rules
    → is_asked x question number ≡ true → is_fact holds (rule_truth x cell number) ≡ true
    → list_any p (facts_in x question cell) ≡ true
unfolding facts_in
told_in x question cell number holds p h within asked e =
    told_from x question cell number holds p h asked e 0 (length x.rules) (omega arith)
    (omega (arith, within))

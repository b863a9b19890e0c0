-- Lists of truths, and what facts tell.
use Rattle.std.proofs.Common.{◌≡◌, ◌≢◌, ℕ, ◌+◌, ◌<◌, ◌≤◌, Bool, true, false, not, ◌&&◌, ◌||◌, ◌==◌, cond, List, [], ◌∷◌, length, map, replicate, get_or, set, drop, refl, sym, ap, ◌∙◌, arith, subst}
use Rattle.std.specs.List.{list_any, range_with_len}
use Rattle.std.specs.Prelude.{nat_lt}
use Rattle.std.proofs.lemmas.Bool.{true≢false}
use Rattle.std.proofs.lemmas.Bool.Decides.{nat_tests}
use Rattle.std.proofs.lemmas.List.{get_or-replicate, get_or-set_same, get_or-set_other, get_or_past, length-set, drop_more, drop_all}
use Rattle.std.proofs.lemmas.List.FromFn.{get_or-map-range_with_len}
use Rattle.std.proofs.lemmas.Option.{unwrap_or-slice_get}
use Rattle.rule_types.specs.declared.rules.Rules.{Rules}
use Rattle.verdict_meaning.specs.declared.question.Question.{Question}
use Rattle.verdict_meaning.specs.declared.truth.Truth.{Truth}
use Rattle.verdict_meaning.specs.declared.truth.Truth.TheVariants.{Open}
use Rattle.verdict_meaning.specs.Certificates.{facts_fit, is_before_facts}
use Rattle.verdict_meaning.specs.Questions.{is_asked}
use Rattle.verdict_meaning.specs.Shown.{is_no, is_yes}
use Rattle.box_eval.specs.internal.Known.{AreToldWith, AreTruthsBy, told, told_by, truth_of_fact}

told_is : (truths : List Truth) (k : ℕ) → told truths k ≡ get_or truths k Open
unfolding told
told_is truths k = unwrap_or-slice_get truths k Open

pub told_past : (truths : List Truth) (k : ℕ) → length truths ≤ k → told truths k ≡ Open
told_past truths k past = told_is truths k ∙ get_or_past truths k Open past

pub told_mapped : (f : ℕ → Truth) (n k : ℕ) → k < n
    → told (map f (range_with_len 0 n)) k ≡ f k
told_mapped f n k within =
    told_is (map f (range_with_len 0 n)) k
    ∙ get_or-map-range_with_len f 0 n k k Open within (omega arith)

pub told_none : (n k : ℕ) → k < n → told (replicate n Open) k ≡ Open
told_none n k within = told_is (replicate n Open) k ∙ get_or-replicate n k Open Open within

set_by : (truths : List Truth) (i k : ℕ) (t : Truth) (b : Bool) → (i == k) ≡ b → i < length truths
    → told (set truths i t) k ≡ cond b t (told truths k)
set_by truths i k t true e within =
    let same : i ≡ k = grind (arith, nat_tests) in
    told_is (set truths i t) k
    ∙ ap (λ n. get_or (set truths i t) n Open) (sym same)
    ∙ get_or-set_same truths i t Open within
set_by truths i k t false e within =
    let other : k ≢ i = grind (arith, nat_tests) in
    told_is (set truths i t) k ∙ get_or-set_other truths i k t Open other ∙ sym (told_is truths k)

pub told_set : (truths : List Truth) (fact : ℕ × Bool) (t : Truth) → t ≡ truth_of_fact fact.1
    → fact.0 < length truths → AreToldWith fact truths (set truths fact.0 t)
told_set truths fact t is within = record {
  counted = length-set truths fact.0 t;
  each = λ number before.
      set_by truths fact.0 number t (fact.0 == number) refl within
      ∙ ap (λ s. cond (fact.0 == number) s (told truths number)) is;
}

past_by : (b : Bool) (t u : Truth) → b ≡ false → u ≡ cond b t u
past_by true t u e = absurd (grind arith)
past_by false t u e = refl

pub told_out : (truths : List Truth) (fact : ℕ × Bool) → length truths ≤ fact.0
    → AreToldWith fact truths truths
told_out truths fact past = record {
  counted = refl;
  each = λ number before.
      let other : (fact.0 == number) ≡ false = grind (arith, nat_tests) in
      past_by (fact.0 == number) (truth_of_fact fact.1) (told truths number) other;
}

-- ---- the facts from the last one back
pub back_begins : (facts : List (ℕ × Bool)) (truths : List Truth) (k : ℕ)
    → truths ≡ replicate (length truths) Open → length facts ≤ k
    → AreTruthsBy (drop k facts) (length truths) truths
unfolding told_by
back_begins facts truths k open_all past = record {
  counted = refl;
  each = λ number within.
      ap (λ list. told list number) open_all
      ∙ told_none (length truths) number within
      ∙ ap (λ list. told_by list number) (sym (drop_all k facts past));
}

pub back_goes : (facts : List (ℕ × Bool)) (k count : ℕ) (d : ℕ × Bool)
    (before after : List Truth) → k < length facts
    → AreTruthsBy (drop (k + 1) facts) count before → AreToldWith (get_or facts k d) before after
    → AreTruthsBy (drop k facts) count after
unfolding told_by
back_goes facts k count d before after within h one = record {
  counted = one.counted ∙ h.counted;
  each = λ number inside.
      one.each number (subst (λ n. number < n) (sym h.counted) inside)
      ∙ ap (cond ((get_or facts k d).0 == number) (truth_of_fact (get_or facts k d).1))
      (h.each number inside)
      ∙ ap (λ list. told_by list number) (sym (drop_more facts k d within));
}

-- ---- what facts tell, where they rise

record FitParts (a b c d : Bool) : Type 0 where
  pub inside : a ≡ true
  pub asked : b ≡ true
  pub before : c ≡ true
  pub later : d ≡ true

fit_by : (a b c d : Bool) → ((a && b) && c && d) ≡ true → FitParts a b c d
fit_by true true true d e = record { inside = refl; asked = refl; before = refl; later = e }
fit_by true true false d e = absurd (true≢false (sym e))
fit_by true false c d e = absurd (true≢false (sym e))
fit_by false b c d e = absurd (true≢false (sym e))

fit_parts : (x : Rules) (question : Question) (fact : ℕ × Bool) (more : List (ℕ × Bool))
    → facts_fit x question (fact ∷ more) ≡ true
    → FitParts (nat_lt fact.0 (length x.rules)) (is_asked x question fact.0)
    (is_before_facts fact.0 more) (facts_fit x question more)
unfolding facts_fit
fit_parts x question fact more fit =
    fit_by (nat_lt fact.0 (length x.rules)) (is_asked x question fact.0)
    (is_before_facts fact.0 more) (facts_fit x question more) fit

skip_by : (a b c : Bool) → a ≡ false → c ≡ false → ((a && b) || c) ≡ false
skip_by true b c e f = absurd (true≢false e)
skip_by false b c e f = f

-- the rules of later facts come later
none_later : (x : Rules) (question : Question) (test : Bool → Bool) (number n : ℕ)
    (facts : List (ℕ × Bool)) → n ≤ number → is_before_facts number facts ≡ true
    → facts_fit x question facts ≡ true
    → list_any (λ fact. fact.0 == n && test fact.1) facts ≡ false
none_later x question test number n [] least before fit = refl
none_later x question test number n (fact ∷ more) least before fit =
    let parts = fit_parts x question fact more fit in
    let above : number < fact.0 = grind (arith, nat_tests) in
    let other : (fact.0 == n) ≡ false = grind (arith, nat_tests) in
    skip_by (fact.0 == n) (test fact.1)
    (list_any (λ one. one.0 == n && test one.1) more) other
    (none_later x question test fact.0 n more (omega (arith, above, least)) parts.before
    parts.later)

first_by : (b t u : Bool) (told_first told_later : Truth) (test : Truth → Bool)
    → t ≡ test told_first → u ≡ test told_later → (b ≡ true → u ≡ false)
    → ((b && t) || u) ≡ test (cond b told_first told_later)
first_by true t u told_first told_later test e f later =
    ap (λ w. t || w) (later refl) ∙ or_none t ∙ e
  where
    or_none : (a : Bool) → (a || false) ≡ a
    or_none true = refl
    or_none false = refl
first_by false t u told_first told_later test e f later = f

-- what some facts say of a rule is what the first one tells
any_is : (x : Rules) (question : Question) (holds : Bool → Bool) (test : Truth → Bool)
    → ((b : Bool) → holds b ≡ test (truth_of_fact b)) → test Open ≡ false
    → (facts : List (ℕ × Bool)) → facts_fit x question facts ≡ true → (n : ℕ)
    → list_any (λ fact. fact.0 == n && holds fact.1) facts ≡ test (told_by facts n)
unfolding told_by
any_is x question holds test each none [] fit n = sym none
any_is x question holds test each none (fact ∷ more) fit n =
    let parts = fit_parts x question fact more fit in
    first_by (fact.0 == n) (holds fact.1)
    (list_any (λ one. one.0 == n && holds one.1) more) (truth_of_fact fact.1) (told_by more n)
    test (each fact.1) (any_is x question holds test each none more parts.later n)
    (λ same.
    let least : n ≤ fact.0 = grind (arith, nat_tests) in
    none_later x question holds fact.0 n more least parts.before parts.later)

holds_alike : (b : Bool) → b ≡ is_yes (truth_of_fact b)
holds_alike true = refl
holds_alike false = refl

fails_alike : (b : Bool) → not b ≡ is_no (truth_of_fact b)
fails_alike true = refl
fails_alike false = refl

pub holds_by : (x : Rules) (question : Question) (facts : List (ℕ × Bool))
    → facts_fit x question facts ≡ true → (n : ℕ)
    → list_any (λ fact. fact.0 == n && fact.1) facts ≡ is_yes (told_by facts n)
holds_by x question facts fit n =
    any_is x question (λ b. b) is_yes holds_alike refl facts fit n

pub fails_by : (x : Rules) (question : Question) (facts : List (ℕ × Bool))
    → facts_fit x question facts ≡ true → (n : ℕ)
    → list_any (λ fact. fact.0 == n && not fact.1) facts ≡ is_no (told_by facts n)
fails_by x question facts fit n = any_is x question not is_no fails_alike refl facts fit n

-- facts are on rules that are there
pub none_past : (x : Rules) (question : Question) (test : Bool → Bool)
    (facts : List (ℕ × Bool)) → facts_fit x question facts ≡ true → (n : ℕ)
    → length x.rules ≤ n → list_any (λ fact. fact.0 == n && test fact.1) facts ≡ false
none_past x question test [] fit n past = refl
none_past x question test (fact ∷ more) fit n past =
    let parts = fit_parts x question fact more fit in
    let inside : fact.0 < length x.rules = grind (arith, nat_tests) in
    let other : (fact.0 == n) ≡ false = grind (arith, nat_tests) in
    skip_by (fact.0 == n) (test fact.1)
    (list_any (λ one. one.0 == n && test one.1) more) other
    (none_past x question test more parts.later n past)

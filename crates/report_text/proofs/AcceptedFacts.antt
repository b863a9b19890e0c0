-- Facts that a certificate may have rise and are on rules of the question.
use Rattle.std.proofs.Common.{◌≡◌, ℕ, ◌+◌, ◌-◌, ◌<◌, Bool, true, ◌&&◌, List, [], ◌∷◌, ◌++◌, length, Some, refl, ap, ◌∙◌, arith, length-append}
use Rattle.std.specs.Prelude.{slice_get, nat_lt, option_map}
use Rattle.std.specs.List.{range_with_len}
use Rattle.std.proofs.lemmas.Bool.{and_parts}
use Rattle.std.proofs.lemmas.Bool.Decides.{nat_tests}
use Rattle.std.proofs.lemmas.List.FromFn.{get_or-range_with_len, length-range_with_len}
use Rattle.std.proofs.lemmas.Option.{slice_get-get_or, slice_get-map}
use Rattle.std.proofs.Math.Seq.{get_or-append_seam}
use Rattle.rule_types.specs.declared.rules.Rules.{Rules}
use Rattle.verdict_meaning.specs.Certificates.{facts_fit, is_before_facts}
use Rattle.verdict_meaning.specs.Questions.{all_numbers, is_asked}
use Rattle.verdict_meaning.specs.declared.question.Question.{Question}
use Rattle.report_lines.specs.Reports.{grid_of}
use Rattle.report_lines.specs.TreeLines.{asked_by, is_asked_at, is_below, comes_behind}
use Rattle.report_text.specs.Readable.{facts_rise}

last_of : {A : Type 0} (items : List A) (item : A) → slice_get (items ++ (item ∷ [])) (length (items ++ (item ∷ [])) - 1) ≡ Some item
last_of items item =
    let whole = items ++ (item ∷ []) in
    let long : length whole ≡ length items + 1 = length-append items (item ∷ []) in
    let at : length whole - 1 ≡ length items = omega (arith, long) in
    ap (slice_get whole) at ∙ slice_get-get_or whole (length items) item (omega (arith, long))
    ∙ ap (λ b. Some b) (get_or-append_seam items item [] item)

number_at : (n i : ℕ) → i < n → slice_get (range_with_len 0 n) i ≡ Some i
number_at n i within =
    let long = length-range_with_len 0 n in
    let none : 0 + i ≡ i = omega arith in
    slice_get-get_or (range_with_len 0 n) i 0 (omega (arith, long))
    ∙ ap (λ k. Some k) (get_or-range_with_len 0 n i 0 within ∙ none)

asked_there : (x : Rules) (question : Question) (rule : ℕ) → rule < length x.rules
    → is_asked_at (grid_of x question).asked rule ≡ is_asked x question rule
asked_there x question rule within =
    ap asked_by
    (slice_get-map (is_asked x question) (all_numbers x) rule
    ∙ ap (option_map (is_asked x question)) (number_at (length x.rules) rule within))

both : (a b : Bool) → a ≡ true → b ≡ true → (a && b) ≡ true
both a b e f = ap (λ t. t && b) e ∙ f

-- the first of some facts comes behind others
abbrev FirstBehind : List (ℕ × Bool) → List (ℕ × Bool) → Type 0
FirstBehind [] before = Unit {0}
FirstBehind (fact ∷ more) before = comes_behind fact.0 before ≡ true

first_behind : (before : List (ℕ × Bool)) (fact : ℕ × Bool) (more : List (ℕ × Bool)) → is_before_facts fact.0 more ≡ true
    → FirstBehind more (before ++ fact ∷ [])
first_behind before fact [] e = tt
first_behind before fact (next ∷ later) e = ap (is_below next.0) (last_of before fact) ∙ e

rise_by : (x : Rules) (question : Question) (facts before : List (ℕ × Bool)) → facts_fit x question facts ≡ true
    → FirstBehind facts before → facts_rise (grid_of x question) facts before ≡ true
unfolding facts_fit
rise_by x question [] before fit first = refl
rise_by x question (fact ∷ more) before fit first =
    let whole = and_parts ((nat_lt fact.0 (length x.rules) && is_asked x question fact.0) && is_before_facts fact.0 more) (facts_fit x question more) fit in
    let front = and_parts (nat_lt fact.0 (length x.rules) && is_asked x question fact.0) (is_before_facts fact.0 more) whole.0 in
    let own = and_parts (nat_lt fact.0 (length x.rules)) (is_asked x question fact.0) front.0 in
    let within : fact.0 < length x.rules = grind (arith, nat_tests) in
    both (is_asked_at (grid_of x question).asked fact.0 && comes_behind fact.0 before)
    (facts_rise (grid_of x question) more (before ++ fact ∷ []))
    (both (is_asked_at (grid_of x question).asked fact.0) (comes_behind fact.0 before) (asked_there x question fact.0 within ∙ own.1) first)
    (rise_by x question more (before ++ fact ∷ []) whole.1 (first_behind before fact more front.1))

pub facts_rising : (x : Rules) (question : Question) (facts : List (ℕ × Bool)) → facts_fit x question facts ≡ true
    → facts_rise (grid_of x question) facts [] ≡ true
facts_rising x question [] fit = refl
facts_rising x question (fact ∷ more) fit = rise_by x question (fact ∷ more) [] fit refl

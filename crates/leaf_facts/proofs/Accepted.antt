-- Facts that show a box alone, with those that a leaf is accepted with.
use Rattle.std.proofs.Common.{◌≡◌, ℕ, Bool, true, false, not, ◌&&◌, List, [], ◌∷◌, ◌++◌, Some}
use Rattle.std.proofs.Common.{None, refl, sym, ap}
use Rattle.std.specs.Prelude.{if◌then◌else◌}
use Rattle.std.proofs.lemmas.Bool.{and_from, and_parts, true≢false}
use Rattle.rule_types.specs.declared.rules.Rules.{Rules}
use Rattle.rule_types.specs.Tables.{TableSet}
use Rattle.verdict_meaning.specs.declared.cell.Cell.{Cell}
use Rattle.verdict_meaning.specs.declared.cert.CertCause.TheVariants as cause
use Rattle.verdict_meaning.specs.declared.question.Question.{Question}
use Rattle.verdict_meaning.specs.Certificates.{facts_fit, facts_hold, leaf_cause}
use Rattle.verdict_meaning.specs.Shown.{shown_by}
use Rattle.verdict_meaning.specs.Verdicts.{is_leaf, is_no_cause, none_spare}
use Rattle.lean_facts.specs.Lean.{none_spare as none_left_out}
use Rattle.leaf_facts.specs.internal.FewerFacts.{AreFacts}

-- ---- one leaf
leaf_by : (fit hold by : Bool) → fit ≡ true → hold ≡ true → by ≡ true
    → is_no_cause
    (if fit then (if hold && by then None else Some cause.NotShown) else Some cause.Shape) ≡ true
leaf_by true true true e f g = refl
leaf_by true true false e f g = absurd (true≢false (sym g))
leaf_by true false by e f g = absurd (true≢false (sym f))
leaf_by false hold by e f g = absurd (true≢false (sym e))

pub leaf_is : (x : Rules) (tables : TableSet) (question : Question) (cell : Cell)
    (facts : List (ℕ × Bool)) → AreFacts x question cell facts
    → shown_by x tables question cell facts ≡ true → is_leaf x tables question cell facts ≡ true
unfolding leaf_cause
leaf_is x tables question cell facts h e =
    leaf_by (facts_fit x question facts) (facts_hold x cell facts)
    (shown_by x tables question cell facts) h.fit h.hold e

refused_by : (fit hold by : Bool) → by ≡ false
    → is_no_cause
    (if fit then (if hold && by then None else Some cause.NotShown) else Some cause.Shape) ≡ false
refused_by true true true e = absurd (true≢false e)
refused_by true true false e = refl
refused_by true false by e = refl
refused_by false hold by e = refl

no_leaf : (x : Rules) (tables : TableSet) (question : Question) (cell : Cell)
    (facts : List (ℕ × Bool)) → shown_by x tables question cell facts ≡ false
    → is_leaf x tables question cell facts ≡ false
unfolding leaf_cause
no_leaf x tables question cell facts e =
    refused_by (facts_fit x question facts) (facts_hold x cell facts)
    (shown_by x tables question cell facts) e

-- ---- none that can be left out
not_true : (b : Bool) → not b ≡ true → b ≡ false
not_true true e = absurd (true≢false (sym e))
not_true false e = refl

pub none_spare_as : (p q : List (ℕ × Bool) → Bool)
    → ((facts : List (ℕ × Bool)) → p facts ≡ false → q facts ≡ false)
    → (before facts : List (ℕ × Bool)) → none_left_out p before facts ≡ true
    → none_spare q before facts ≡ true
unfolding none_left_out none_spare
none_spare_as p q each before [] h = refl
none_spare_as p q each before (fact ∷ more) h =
    let parts =
    and_parts (not (p (before ++ more))) (none_left_out p (before ++ (fact ∷ [])) more) h in
    and_from (not (q (before ++ more))) (none_spare q (before ++ (fact ∷ [])) more)
    (ap not (each (before ++ more) (not_true (p (before ++ more)) parts.0)))
    (none_spare_as p q each (before ++ (fact ∷ [])) more parts.1)

pub leaf_lean : (x : Rules) (tables : TableSet) (question : Question) (cell : Cell)
    (facts : List (ℕ × Bool)) → none_left_out (shown_by x tables question cell) [] facts ≡ true
    → none_spare (is_leaf x tables question cell) [] facts ≡ true
leaf_lean x tables question cell facts h =
    none_spare_as (shown_by x tables question cell) (is_leaf x tables question cell)
    (no_leaf x tables question cell) [] facts h

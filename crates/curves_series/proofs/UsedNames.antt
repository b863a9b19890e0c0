-- The last three items of a line, and the tables that lines use.
use Rattle.std.proofs.Common.{◌≡◌, ℕ, ◌+◌, ◌-◌, Bool, true, false, List, [], ◌∷◌, length, drop, take, refl, sym, ap, ◌∙◌}
use Rattle.std.specs.Prelude.{◌||◌}
use Rattle.std.specs.Borrow.{Bor}
use Rattle.std.proofs.lemmas.List.{length-map, take_rest}
use Rattle.inp_text.specs.declared.source_line.SourceLine.{SourceLine}
use Rattle.curves_series.specs.Names.{line_uses, is_used}
use Rattle.curves_series.specs.internal.Views.{texts}
use Rattle.curves_series.proofs.EntrySteps.{texts_drop}

pub last_texts : (found : List (Bor (List ℕ))) → texts (take (length found - (length found - 3)) (drop (length found - 3) found)) ≡ drop (length (texts found) - 3) (texts found)
last_texts found =
    ap texts (take_rest found (length found - 3)) ∙ texts_drop found (length found - 3) ∙ ap (λ n. drop (n - 3) (texts found)) (sym (length-map found (λ item. item.now)))

pub none_more : (b u : Bool) → false ≡ u → b ≡ (b || u)
none_more true u none = refl
none_more false u none = none

either_more : (a b c : Bool) → ((a || b) || c) ≡ (a || (b || c))
either_more true b c = refl
either_more false b c = refl

-- a table is marked, or used by one line or by a later one
pub used_step : (word : List ℕ) (controls : List SourceLine) (names : List (List ℕ)) (k i : ℕ) (line : SourceLine) (old new whole : Bool) → drop i controls ≡ line ∷ drop (i + 1) controls → new ≡ (old || line_uses word names k line) → (old || is_used word (drop i controls) names k) ≡ whole → (new || is_used word (drop (i + 1) controls) names k) ≡ whole
unfolding is_used
used_step word controls names k i line old new whole here marked so_far =
    ap (λ b. b || is_used word (drop (i + 1) controls) names k) marked
    ∙ either_more old (line_uses word names k line) (is_used word (drop (i + 1) controls) names k)
    ∙ sym (ap (λ lines. old || is_used word lines names k) here)
    ∙ so_far

pub none_later : (word : List ℕ) (names : List (List ℕ)) (k : ℕ) (b : Bool) → (b || is_used word [] names k) ≡ b
unfolding is_used
none_later word names k true = refl
none_later word names k false = refl

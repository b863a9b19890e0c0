-- The facts of a leaf are read back from their lines.
use Rattle.std.proofs.Common.{◌≡◌, ℕ, zero, suc, ◌+◌, ◌^◌, ◌<◌, ◌≤◌, Bool, true, false, cond, ◌&&◌, List, [], ◌∷◌, ◌++◌, codes, length, map, Option, Some, None, Ok, refl, ap, sym, subst, ◌∙◌, arith, append_assoc, append-nil}
use Rattle.std.specs.Prelude.{slice_get}
use Rattle.std.proofs.lemmas.Bool.{and_parts, true≢false}
use Rattle.std.proofs.lemmas.Option.{slice_get_within}
use Rattle.inp_text.specs.Sections.{Line}
use Rattle.num_text.specs.Fields.{◌>>=◌}
use Rattle.report_lines.specs.TreeLines.{is_fact_line, first_is, fact_text, holds_by, asked_by, is_asked_at, comes_behind, fact_with, fact_by, fact_line, facts_after, facts_from}
use Rattle.report_lines.specs.Words.{read_to, words_of, line_at}
use Rattle.report_lines.specs.declared.grid.Grid.{Grid}
use Rattle.report_text.specs.Readable.{StandAt, facts_rise}
use Rattle.report_text.specs.WrittenLines.{written_rule, written_holds, written_fact}
use Rattle.report_text.proofs.NumbersBack.{rule_back}
use Rattle.report_text.proofs.SpacedWords.{word_first, of_number}

abbrev word_of : Bool → List ℕ
word_of true = codes "yes"
word_of false = codes "no"

fact_front : (rest : List ℕ) → words_of (codes "fact " ++ rest) ≡ codes "fact" ∷ words_of rest
unfolding words_of
fact_front rest = refl

last_word : (holds : Bool) → words_of (word_of holds) ≡ word_of holds ∷ []
unfolding words_of
last_word true = refl
last_word false = refl

holds_back : (holds : Bool) → holds_by (word_of holds) ≡ Some holds
holds_back true = refl
holds_back false = refl

spaced : (holds : Bool) → written_holds holds ≡ 32 ∷ word_of holds
spaced true = refl
spaced false = refl

fact_words : (fact : ℕ × Bool)
    → words_of (written_fact fact) ≡ codes "fact" ∷ written_rule fact.0 ∷ word_of fact.1 ∷ []
unfolding written_fact
fact_words fact =
    let rule = written_rule fact.0 in
    ap words_of (append_assoc (codes "fact ") rule (written_holds fact.1))
    ∙ ap (λ t. words_of (codes "fact " ++ (rule ++ t))) (spaced fact.1)
    ∙ fact_front (rule ++ (32 ∷ word_of fact.1))
    ∙ ap (λ l. codes "fact" ∷ l) (word_first rule (word_of fact.1) (of_number (fact.0 + 1)))
    ∙ ap (λ l. codes "fact" ∷ rule ∷ l) (last_word fact.1)

asked_within : (asked : List Bool) (rule : ℕ) (o : Option Bool) → slice_get asked rule ≡ o → asked_by o ≡ true
    → rule < length asked
asked_within asked rule None e is = absurd (true≢false (sym is))
asked_within asked rule (Some b) e is = slice_get_within asked rule b e

fact_read : (grid : Grid) (before : List (ℕ × Bool)) (fact : ℕ × Bool) → length grid.asked < 2 ^ 64
    → (is_asked_at grid.asked fact.0 && comes_behind fact.0 before) ≡ true
    → fact_line grid before (Some (written_fact fact)) ≡ Some fact
unfolding fact_line
fact_read grid before fact few fits =
    let asked = (and_parts (is_asked_at grid.asked fact.0) (comes_behind fact.0 before) fits).0 in
    let within : fact.0 < length grid.asked = asked_within grid.asked fact.0 (slice_get grid.asked fact.0) refl asked in
    ap (fact_by grid before) (fact_words fact)
    ∙ ap (λ o. o >>= λ place. fact_with grid before place (holds_by (word_of fact.1)))
    (rule_back (length grid.asked) fact.0 (omega arith) within)
    ∙ ap (fact_with grid before fact.0) (holds_back fact.1)
    ∙ ap (λ b. cond b (Some fact) None) fits

is_fact : (fact : ℕ × Bool) → is_fact_line (Some (written_fact fact)) ≡ true
is_fact fact = ap (first_is fact_text) (fact_words fact)

stop : (lines : List Line) (grid : Grid) (most at : ℕ) (facts : List (ℕ × Bool))
    → is_fact_line (line_at lines at) ≡ false → facts_from lines grid most at facts ≡ Ok (read_to facts at)
unfolding facts_from
stop lines grid zero at facts is = refl
stop lines grid (suc most) at facts is =
    ap (λ b. cond b (facts_after facts at (fact_line grid facts (line_at lines at)) (facts_from lines grid most (suc at))) (Ok (read_to facts at))) is

one_more : (lines : List Line) (grid : Grid) (most at : ℕ) (before : List (ℕ × Bool)) (fact : ℕ × Bool)
    → length grid.asked < 2 ^ 64
    → (is_asked_at grid.asked fact.0 && comes_behind fact.0 before) ≡ true
    → line_at lines at ≡ Some (written_fact fact)
    → facts_from lines grid (suc most) at before ≡ facts_from lines grid most (suc at) (before ++ fact ∷ [])
unfolding facts_from
one_more lines grid most at before fact few fits there =
    let asked = (and_parts (is_asked_at grid.asked fact.0) (comes_behind fact.0 before) fits).0 in
    let within : fact.0 < length grid.asked = asked_within grid.asked fact.0 (slice_get grid.asked fact.0) refl asked in
    let later = facts_from lines grid most (suc at) in
    ap (λ line. cond (is_fact_line line) (facts_after before at (fact_line grid before line) later) (Ok (read_to before at))) there
    ∙ ap (λ b. cond b (facts_after before at (fact_line grid before (Some (written_fact fact))) later) (Ok (read_to before at)))
    (is_fact fact)
    ∙ ap (λ o. facts_after before at o later) (fact_read grid before fact few fits)

pub facts_back : (lines : List Line) (grid : Grid) (facts : List (ℕ × Bool)) (most at : ℕ) (before : List (ℕ × Bool))
    → length grid.asked < 2 ^ 64 → facts_rise grid facts before ≡ true → length facts ≤ most
    → StandAt lines at (map written_fact facts)
    → is_fact_line (line_at lines (at + length (map written_fact facts))) ≡ false
    → facts_from lines grid most at before
    ≡ Ok (read_to (before ++ facts) (at + length (map written_fact facts)))
facts_back lines grid [] most at before few fits room there last =
    let here : at + 0 ≡ at = omega arith in
    stop lines grid most at before (subst (λ n. is_fact_line (line_at lines n) ≡ false) here last)
    ∙ ap (λ l. Ok (read_to l at)) (sym (append-nil before))
    ∙ ap (λ n. Ok (read_to (before ++ []) n)) (sym here)
facts_back lines grid (fact ∷ more) zero at before few fits room there last = absurd (omega (arith, room))
facts_back lines grid (fact ∷ more) (suc most) at before few fits room there last =
    let parts = and_parts (is_asked_at grid.asked fact.0 && comes_behind fact.0 before) (facts_rise grid more (before ++ fact ∷ [])) fits in
    let rest = length (map written_fact more) in
    let next : suc at + rest ≡ at + suc rest = omega arith in
    one_more lines grid most at before fact few parts.0 there.0
    ∙ facts_back lines grid more most (suc at) (before ++ fact ∷ []) few parts.1 (omega (arith, room)) there.1
    (subst (λ n. is_fact_line (line_at lines n) ≡ false) (sym next) last)
    ∙ ap (λ l. Ok (read_to l (suc at + rest))) (append_assoc before (fact ∷ []) more)
    ∙ ap (λ n. Ok (read_to (before ++ (fact ∷ more)) n)) next

-- The counts of entries are those of their verdicts, and tell how a run ends.
use Rattle.std.proofs.Common.{◌≡◌, ℕ, suc, ◌+◌, Bool, true, false, ◌||◌, nat_lt, cond, List, []}
use Rattle.std.proofs.Common.{◌∷◌, length, map, refl, sym, ap, ◌∙◌, arith}
use Rattle.std.proofs.lemmas.Bool.Decides.{nat_tests}
use Rattle.std.specs.List.{filter, list_any}
use Rattle.report_lines.specs.Reports.{Entry}
use Rattle.verdict_meaning.specs.declared.verdict.Verdict.{Verdict}
use Rattle.verdict_meaning.specs.declared.verdict.Verdict.TheVariants as verdict
use Rattle.report_checker.specs.Accepted.{counted_from, no_counts, with_verdict}
use Rattle.report_checker.specs.declared.counts.Counts.{Counts}
use Rattle.verdict_commands.specs.Proves.{completion_by, is_refuted, is_undecided}
use Rattle.verdict_commands.specs.Proves.{verdicts_completion}
use Rattle.verdict_commands.specs.Verifies.{completion_of}
use Rattle.report_round_trips.specs.VerdictCounts.{counts_of, says_holds}

-- ---- counts
counts : ℕ → ℕ → ℕ → Counts
counts h r u = record { holds = h; refuted = r; undecided = u }

sum : Counts → Counts → Counts
sum a b = counts (a.holds + b.holds) (a.refuted + b.refuted) (a.undecided + b.undecided)

same_counts : (h i r s u v : ℕ) → h ≡ i → r ≡ s → u ≡ v → counts h r u ≡ counts i s v
same_counts h i r s u v e f g =
    ap (λ n. counts n r u) e ∙ ap (λ n. counts i n u) f ∙ ap (λ n. counts i s n) g

one_more : (c : Counts) (answer : Verdict) (more : List Verdict)
    → sum (with_verdict c answer) (counts_of more) ≡ sum c (counts_of (answer ∷ more))
unfolding counts sum counts_of
one_more c (verdict.Holds tree) more = same_counts _ _ _ _ _ _ (omega arith) refl refl
one_more c (verdict.Refuted s) more = same_counts _ _ _ _ _ _ refl (omega arith) refl
one_more c (verdict.Undecided why) more = same_counts _ _ _ _ _ _ refl refl (omega arith)

abbrev verdict_of : Entry → Verdict
verdict_of entry = entry.verdict

none_more : (c : Counts) → c ≡ sum c (counts_of [])
unfolding sum counts counts_of
none_more c = same_counts _ _ _ _ _ _ (omega arith) (omega arith) (omega arith)

counted : (c : Counts) (entries : List Entry)
    → counted_from c entries ≡ sum c (counts_of (map verdict_of entries))
unfolding counted_from
counted c [] = none_more c
counted c (entry ∷ more) =
    counted (with_verdict c entry.verdict) more ∙ one_more c entry.verdict (map verdict_of more)

from_none : (c : Counts) → sum no_counts c ≡ c
unfolding sum counts
from_none c = same_counts _ _ _ _ _ _ (omega arith) (omega arith) (omega arith)

pub entries_counted : (entries : List Entry)
    → counted_from no_counts entries ≡ counts_of (map (λ entry. entry.verdict) entries)
entries_counted entries =
    counted no_counts entries ∙ from_none (counts_of (map verdict_of entries))

-- ---- how a run ends
some_by : {A : Type 0} (p : A → Bool) (b : Bool) (item : A) (more : List A)
    → nat_lt 0 (length (filter p more)) ≡ list_any p more
    → nat_lt 0 (length (cond b (item ∷ filter p more) (filter p more))) ≡ (b || list_any p more)
some_by p true item more ih = grind (arith, nat_tests)
some_by p false item more ih = ih

some_counted : {A : Type 0} (p : A → Bool) (items : List A)
    → nat_lt 0 (length (filter p items)) ≡ list_any p items
some_counted p [] = refl
some_counted p (item ∷ more) = some_by p (p item) item more (some_counted p more)

pub same_completion : (verdicts : List Verdict)
    → completion_of (counts_of verdicts) ≡ verdicts_completion verdicts
unfolding counts_of
same_completion verdicts =
    ap (λ b. completion_by b (nat_lt 0 (length (filter is_undecided verdicts))))
    (some_counted is_refuted verdicts)
    ∙ ap (completion_by (list_any is_refuted verdicts)) (some_counted is_undecided verdicts)

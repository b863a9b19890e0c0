-- Within a run of moments a condition of the clock is decided by its seconds.
use Rattle.std.proofs.Common.{◌≡◌, ℕ, zero, suc, ◌≤◌, Bool, true, false, ◌||◌, cond}
use Rattle.std.proofs.Common.{Some, refl, sym, subst, ap, ◌∙◌, arith}
use Rattle.std.proofs.Common.{ℤ, pos, ◌+ℤ◌, ◌-ℤ◌, ◌≤ℤ◌, ◌<ℤ◌}
use Rattle.std.specs.List.{list_any}
use Rattle.std.specs.Prelude.{int_lt, unsigned_abs}
use Rattle.std.specs.Int.{int_rem_euclid}
use Rattle.std.specs.Ordering.{int_eq}
use Rattle.std.proofs.lemmas.Bool.{true≢false}
use Rattle.std.proofs.lemmas.Bool.Decides.{Decides-int_eq}
use Rattle.std.proofs.lemmas.Int.{ints}
use Rattle.exact_fraction.specs.Number.{Rational}
use Rattle.rule_types.specs.declared.condition.Condition.{Condition}
use Rattle.rule_types.specs.declared.condition.Right.TheVariants as right
use Rattle.rule_types.specs.declared.condition.Side.TheVariants as side
use Rattle.rule_types.specs.declared.key.ClockAttr.{ClockAttr}
use Rattle.rule_types.specs.declared.key.Key.TheVariants.{Clock}
use Rattle.rule_types.specs.declared.rule.Rule.{Rule}
use Rattle.rule_types.specs.declared.rules.Rules.{Rules}
use Rattle.rule_meaning.specs.Clock.{day_of}
use Rattle.rule_meaning.specs.Condition.{second_truth}
use Rattle.rule_meaning.proofs.PublicLaws.{day_seconds-bounds, day_seconds-whole}
use Rattle.clock_values.specs.Seconds.{passes_nowhere, passes_throughout}
use Rattle.clock_values.specs.Windows.{differs}
use Rattle.clock_values.proofs.PublicLaws.{runs_of_seconds-nowhere, runs_of_seconds-throughout}
use Rattle.moment_pieces.specs.Pieces.{begins_piece, condition_changes, is_midnight, rule_changes}
use Rattle.moment_pieces.specs.Pieces.{sides_change, truth_changes}
use Rattle.moment_pieces.specs.Sides.{side_of}
use Rattle.verdict_meaning.specs.declared.question.Question.{Question}
use Rattle.verdict_meaning.specs.declared.truth.Truth.{Truth}
use Rattle.verdict_meaning.specs.declared.truth.Truth.TheVariants.{No}
use Rattle.verdict_meaning.specs.ClockHulls.{in_one_day}
use Rattle.verdict_meaning.specs.Premises.{start_of}
use Rattle.verdict_meaning.specs.Questions.{asked_rules}
use Rattle.verdict_meaning.specs.Truths.{by_moments, by_tests, seconds_truth}
use Rattle.cell_truths.proofs.CellPieces.{begins_for}
use Rattle.cell_truths.proofs.Lists.{Among, neither_left, neither_right, none_among, or_left}
use Rattle.cell_truths.proofs.Lists.{or_right}
use Rattle.cell_truths.proofs.MomentRuns.{IsRun}
use Rattle.cell_truths.proofs.PieceTruths.{IsDecided, tests_decided}

-- ---- what does not change from one second to the next is the same at all
-- it does not change at the seconds after a first one, up to a last one
abbrev pub IsSteady : {A : Type 0} → (ℤ → A) → ℤ → ℤ → Type 0
IsSteady f first last = (m : ℤ) → first <ℤ m → m ≤ℤ last → f m ≡ f (m -ℤ pos 1)

steady : {A : Type 0} (f : ℤ → A) (first last : ℤ) → IsSteady f first last → (k : ℕ)
    → (first +ℤ pos k) ≤ℤ last → f (first +ℤ pos k) ≡ f first
steady f first last h zero within = ap f (omega (arith, ints))
steady f first last h (suc k) within =
    let before : (first +ℤ pos (suc k)) -ℤ pos 1 ≡ first +ℤ pos k = omega (arith, ints) in
    h (first +ℤ pos (suc k)) (omega (arith, ints)) within
    ∙ ap f before
    ∙ steady f first last h k (omega (arith, ints, within))

steady_at : {A : Type 0} (f : ℤ → A) (first last : ℤ) → first ≤ℤ last → IsSteady f first last
    → (k : ℕ) → k ≤ unsigned_abs (last -ℤ first) → f (first +ℤ pos k) ≡ f first
steady_at f first last rises h k within =
    steady f first last h k (omega (arith, ints, rises, within))

tests_by : (test : ℤ → Bool) (first last : ℤ) → first ≤ℤ last → IsSteady test first last
    → (b : Bool) → test first ≡ b
    → (passes_nowhere test first (unsigned_abs (last -ℤ first))
    || passes_throughout test first (unsigned_abs (last -ℤ first))) ≡ true
tests_by test first last rises h true e =
    let n = unsigned_abs (last -ℤ first) in
    or_right (passes_nowhere test first n) (passes_throughout test first n)
    ((runs_of_seconds-throughout test first n).1
    (λ k within. steady_at test first last rises h k within ∙ e))
tests_by test first last rises h false e =
    let n = unsigned_abs (last -ℤ first) in
    or_left (passes_nowhere test first n) (passes_throughout test first n)
    ((runs_of_seconds-nowhere test first n).1
    (λ k within. steady_at test first last rises h k within ∙ e))

seconds_by : (test : ℤ → Bool) (first last : ℤ) → first ≤ℤ last → IsSteady test first last
    → (b : Bool)
    → IsDecided
    (cond b No
    (by_tests (passes_nowhere test first (unsigned_abs (last -ℤ first)))
    (passes_throughout test first (unsigned_abs (last -ℤ first))) true))
seconds_by test first last rises h true = refl
seconds_by test first last rises h false =
    tests_decided (passes_nowhere test first (unsigned_abs (last -ℤ first)))
    (passes_throughout test first (unsigned_abs (last -ℤ first)))
    (tests_by test first last rises h (test first) refl)

seconds_decided : (test : ℤ → Bool) (first last : ℤ) → first ≤ℤ last
    → IsSteady test first last → IsDecided (seconds_truth test first last)
unfolding seconds_truth
seconds_decided test first last rises h = seconds_by test first last rises h (int_lt last first)

-- ---- days
rest_above : (rest : ℤ) → pos 0 ≤ℤ rest → int_eq rest (pos 0) ≡ false → (b : Bool)
    → int_lt (pos 0) rest ≡ b → pos 0 <ℤ rest
rest_above rest low h true e = omega (arith, ints, e)
rest_above rest low h false e =
    let none : rest ≡ pos 0 = omega (arith, ints, low, e) in
    absurd (true≢false (sym ((Decides-int_eq rest (pos 0)).1 none) ∙ h))

same_day : (m : ℤ) → is_midnight m ≡ false → day_of m ≡ day_of (m -ℤ pos 1)
unfolding is_midnight
same_day m h =
    let here = day_seconds-whole m in
    let bounds = day_seconds-bounds m in
    let there = day_seconds-whole (m -ℤ pos 1) in
    let others = day_seconds-bounds (m -ℤ pos 1) in
    let rest = int_rem_euclid m (pos 86400) in
    let above = rest_above rest bounds.0 h (int_lt (pos 0) rest) refl in
    omega (arith, ints, here, bounds.1, above, there, others.0, others.1)

equal_days : (m n : ℤ) → m ≡ n → int_eq n m ≡ true
equal_days m n e = (Decides-int_eq n m).1 (sym e)

one_day : (first last : ℤ) → first ≤ℤ last → IsSteady day_of first last
    → in_one_day first last ≡ true
unfolding in_one_day
one_day first last rises h =
    let same : first +ℤ pos (unsigned_abs (last -ℤ first)) ≡ last = omega (arith, ints, rises) in
    let within : (first +ℤ pos (unsigned_abs (last -ℤ first))) ≤ℤ last =
    omega (arith, ints, rises) in
    equal_days (day_of last) (day_of first)
    (ap day_of (sym same)
    ∙ steady day_of first last h (unsigned_abs (last -ℤ first)) within)

-- ---- runs
alike : (a b : Bool) → differs a b ≡ false → a ≡ b
alike true true h = refl
alike true false h = absurd (true≢false h)
alike false true h = absurd (true≢false h)
alike false false h = refl

condition_alike : (x : Rules) (c : Condition) (attribute : ClockAttr) (q : Rational)
    (step : Rational) (start m : ℤ) → side_of x.names c.left ≡ side.Key (Clock attribute)
    → c.right ≡ right.Value q → condition_changes x.names step start m c ≡ false
    → second_truth c step attribute q start m
    ≡ second_truth c step attribute q start (m -ℤ pos 1)
unfolding condition_changes truth_changes
condition_alike x c attribute q step start m left other h =
    let here =
    subst (λ one. sides_change c step start m one c.right ≡ false) left h in
    alike (second_truth c step attribute q start m)
    (second_truth c step attribute q start (m -ℤ pos 1))
    (subst
    (λ one. sides_change c step start m (side.Key (Clock attribute)) one ≡ false) other here)

truth_alike : (x : Rules) (question : Question) (rule : Rule) (c : Condition)
    (attribute : ClockAttr) (q : Rational) (m : ℤ) → Among (asked_rules x question) rule
    → Among rule.conditions c → side_of x.names c.left ≡ side.Key (Clock attribute)
    → c.right ≡ right.Value q → begins_for x question m ≡ false
    → second_truth c x.routing_step attribute q (start_of x) m
    ≡ second_truth c x.routing_step attribute q (start_of x) (m -ℤ pos 1)
unfolding begins_piece
truth_alike x question rule c attribute q m at own left other h =
    let step = x.routing_step in
    let start = start_of x in
    let changes = rule_changes x.names step start m in
    let none = neither_right (is_midnight m) (list_any changes (asked_rules x question)) h in
    condition_alike x c attribute q step start m left other
    (none_among (condition_changes x.names step start m) rule.conditions c
    (none_among changes (asked_rules x question) rule none at) own)

day_alike : (x : Rules) (question : Question) (m : ℤ) → begins_for x question m ≡ false
    → day_of m ≡ day_of (m -ℤ pos 1)
unfolding begins_piece
day_alike x question m h =
    same_day m
    (neither_left (is_midnight m)
    (list_any (rule_changes x.names x.routing_step (start_of x) m) (asked_rules x question)) h)

moments_by : (test : ℤ → Bool) (other : Truth) (span : ℤ × ℤ) (b : Bool) → b ≡ true
    → IsDecided (seconds_truth test span.0 span.1)
    → IsDecided (cond b (seconds_truth test span.0 span.1) other)
moments_by test other span true e h = h
moments_by test other span false e h = absurd (true≢false (sym e))

pub clock_decided : (x : Rules) (question : Question) (rule : Rule) (c : Condition)
    (attribute : ClockAttr) (q : Rational) (span : ℤ × ℤ) (other : Truth)
    → Among (asked_rules x question) rule → Among rule.conditions c
    → side_of x.names c.left ≡ side.Key (Clock attribute) → c.right ≡ right.Value q
    → IsRun (begins_for x question) span
    → IsDecided
    (by_moments (Some span) (second_truth c x.routing_step attribute q (start_of x)) other)
clock_decided x question rule c attribute q span other at own left value run =
    let test = second_truth c x.routing_step attribute q (start_of x) in
    moments_by test other span (in_one_day span.0 span.1)
    (one_day span.0 span.1 run.some
    (λ m after before. day_alike x question m (run.quiet m after before)))
    (seconds_decided test span.0 span.1 run.some
    (λ m after before.
    truth_alike x question rule c attribute q m at own left value (run.quiet m after before)))

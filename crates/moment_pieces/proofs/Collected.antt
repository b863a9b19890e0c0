-- The collected numbers at which pieces begin, and the cuts that they give.
use Rattle.std.proofs.Common.{◌≡◌, ℕ, ◌+◌, ◌-◌, ◌*◌, ◌%◌, ◌<◌, ◌≤◌, Bool, true, false, not}
use Rattle.std.proofs.Common.{List, [], length, pos, ◌+ℤ◌, ℤ, refl, sym, ap, subst, ◌∙◌, arith}
use Rattle.std.specs.Prelude.{◌==◌, ◌&&◌, ◌||◌, nat_le}
use Rattle.std.specs.List.{filter}
use Rattle.std.specs.Ordering.{nat_cmp}
use Rattle.std.proofs.lemmas.Bool.{true≢false}
use Rattle.std.proofs.lemmas.Bool.Decides.{nat_tests}
use Rattle.std.proofs.lemmas.List.Kept.{IsStrictlySortedBy-filter}
use Rattle.exact_fraction.specs.Number.{Rational}
use Rattle.rule_types.specs.declared.rules.Rules.{Rules}
use Rattle.moment_pieces.specs.Pieces.{later_firsts, IsCuts}
use Rattle.moment_pieces.specs.declared.spans.Span.{Span}
use Rattle.moment_pieces.specs.declared.starts.Starts.{Starts}
use Rattle.moment_pieces.specs.internal.Turns.{stands_in, Adds, used_turn}
use Rattle.moment_pieces.specs.internal.Starts.{Rises, IsNext, IsNextUpTo, IsLastUpTo, IsDaily, AreSingle}
use Rattle.moment_pieces.specs.internal.Starts.{starts_up_to}
use Rattle.moment_pieces.specs.internal.Spans.{IsSpan, day_scale, run_scale, AreDaily, AreStarts, begins_at}
use Rattle.moment_pieces.specs.internal.Spans.{firsts_from}
use Rattle.moment_pieces.proofs.Counting.{later_count, starts_bound}
use Rattle.moment_pieces.proofs.Ranks.{rank_most}
use Rattle.moment_pieces.proofs.Gathers.{stands_filtered}

-- ---- the seconds of each day
within_by : (s : ℕ) (u : Bool) → (s == 0 || (u && nat_le s 86399)) ≡ true → s < 86400
within_by s true e = grind (arith, nat_tests)
within_by s false e = grind (arith, nat_tests)

pub daily_are : (x : Rules) (used : List ℕ) (hours : Rational) (first all : List ℕ)
    → Adds [] first (λ m. m == 0)
    → Adds first all (λ m. used_turn x used (day_scale hours) m && nat_le m 86399) → Rises all
    → AreDaily x used hours all
daily_are x used hours first all h k rising =
    let is : (s : ℕ) → stands_in all s ≡ (s == 0 || (used_turn x used (day_scale hours) s && nat_le s 86399)) =
    λ s. k.is s ∙ ap (λ b. b || (used_turn x used (day_scale hours) s && nat_le s 86399)) (h.is s) in
    record {
      fits = record {
        rising = rising;
        midnight = is 0;
        within = λ s e. within_by s (used_turn x used (day_scale hours) s) (sym (is s) ∙ e);
      };
      is = is;
    }

-- ---- both lists
off_by : (a d : Bool) → (a && not d) ≡ true → d ≡ false
off_by true true e = absurd (true≢false (sym e))
off_by true false e = refl
off_by false d e = absurd (true≢false (sym e))

pub starts_are : (x : Rules) (used : List ℕ) (hours : Rational) (span : Span) (all : List ℕ) (starts : Starts)
    → AreDaily x used hours starts.daily.items
    → Adds [] all (λ m. used_turn x used (run_scale hours span) m && nat_le m span.last) → Rises all
    → starts.singles.items ≡ filter (λ m. not (stands_in starts.daily.items (m % 86400))) all
    → AreStarts x used hours span starts
starts_are x used hours span all starts daily h rising e =
    let kept : (m : ℕ) → stands_in starts.singles.items m ≡ (stands_in all m && not (stands_in starts.daily.items (m % 86400))) =
    λ m. ap (λ list. stands_in list m) e ∙ stands_filtered (λ n. not (stands_in starts.daily.items (n % 86400))) all m in
    record {
      daily = daily;
      singles = record {
        rising = subst Rises (sym e) (IsStrictlySortedBy-filter nat_cmp (λ n. not (stands_in starts.daily.items (n % 86400))) all rising);
        apart = λ m on. off_by (stands_in all m) (stands_in starts.daily.items (m % 86400)) (sym (kept m) ∙ on);
      };
      is = λ m. kept m ∙ ap (λ b. b && not (stands_in starts.daily.items (m % 86400))) (h.is m);
    }

-- ---- the next one up to a last one
pub next_within_last : (test : ℕ → Bool) (at last next : ℕ) → IsNext test at next → next ≤ last → IsNextUpTo test at last next
next_within_last test at last next h l = record { next_is = h; within = l }

pub none_up_to_last : (test : ℕ → Bool) (at last next : ℕ) → IsNext test at next → last < next → IsLastUpTo test at last
none_up_to_last test at last next h l = record { none = λ m a b. h.none m a (omega arith) }

-- ---- how many
pub starts_few : (daily singles : List ℕ) (m : ℕ) → IsDaily daily → AreSingle daily singles
    → starts_up_to daily singles m ≤ 2 * m + 86401
unfolding starts_up_to
starts_few daily singles m d s =
    omega (arith, starts_bound daily singles m d.rising s.rising, rank_most daily (m % 86400) d.rising, rank_most singles m s.rising)

pub starts_rise : (daily singles : List ℕ) (first last : ℕ) → IsDaily daily → AreSingle daily singles → first ≤ last
    → starts_up_to daily singles first ≤ starts_up_to daily singles last
starts_rise daily singles first last d s l =
    let sum : first + (last - first) ≡ last = omega arith in
    omega (arith, later_count daily singles (pos 0) first (last - first) d s, ap (starts_up_to daily singles) sum)

pub counted : (daily singles : List ℕ) (span : Span) (number : ℕ) → IsDaily daily → AreSingle daily singles → IsSpan span
    → number + starts_up_to daily singles span.first ≡ starts_up_to daily singles span.last
    → number + 1 ≡ length (firsts_from daily singles span)
unfolding firsts_from
counted daily singles span number d s h e =
    let order = h.order in
    let sum : span.first + (span.last - span.first) ≡ span.last = omega (arith, order) in
    let all = later_count daily singles span.midnight span.first (span.last - span.first) d s in
    let from : length (later_firsts (begins_at daily singles span.midnight) span.from (span.last - span.first))
    ≡ length (later_firsts (begins_at daily singles span.midnight) (span.midnight +ℤ pos span.first) (span.last - span.first)) =
    ap (λ t. length (later_firsts (begins_at daily singles span.midnight) t (span.last - span.first))) h.from_is in
    omega (arith, all, ap (starts_up_to daily singles) sum, from, e)

pub cuts_listed : (firsts : List ℤ) (most count : ℕ) → count ≡ length firsts → count ≤ most
    → IsCuts firsts most (record { count = count; firsts = firsts })
cuts_listed firsts most count e l = record { number = e; all = λ h. refl; none = λ h. absurd (omega arith) }

pub cuts_unlisted : (firsts : List ℤ) (most count : ℕ) → count ≡ length firsts → most < count
    → IsCuts firsts most (record { count = count; firsts = [] })
cuts_unlisted firsts most count e l = record { number = e; all = λ h. absurd (omega arith); none = λ h. refl }

pub no_cuts : (most : ℕ) → IsCuts [] most (record { count = 0; firsts = [] })
no_cuts most = record { number = refl; all = λ h. refl; none = λ h. refl }

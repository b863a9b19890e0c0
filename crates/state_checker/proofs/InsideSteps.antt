-- The tests of a box are the definition of the states of ranges.
use Rattle.std.proofs.Common.{◌≡◌, Bool, true, false, Option, Some, None, List, [], ◌∷◌, ℤ, ◌≤ℤ◌, refl, sym, ◌∙◌, arith}
use Rattle.std.proofs.lemmas.Int.{ints}
use Rattle.std.proofs.lemmas.List.Elements.{All-nil, All-cons, All-head, All-tail}
use Rattle.std.proofs.lemmas.Option.{none-some}
use Rattle.std.specs.Prelude.{◌&&◌, IsTrue, IfSome, All, int_le}
use Rattle.std.specs.List.{list_all}
use Rattle.exact_fraction.specs.Number.{Rational}
use Rattle.interval_sets.specs.declared.interval.Interval.{Interval}
use Rattle.interval_sets.specs.Intervals.{lies_in}
use Rattle.rule_types.specs.declared.key.Attr.{Attr}
use Rattle.rule_types.specs.declared.key.Attr.TheVariants as attr
use Rattle.rule_types.specs.declared.key.Key.{Key}
use Rattle.rule_types.specs.declared.key.Key.TheVariants.{Object, Clock}
use Rattle.rule_types.specs.declared.object.ObjectNo.{ObjectNo}
use Rattle.rule_types.specs.declared.rules.Rules.{Rules}
use Rattle.rule_types.specs.declared.state.LinkState.{LinkState}
use Rattle.rule_types.specs.declared.state.State.{State}
use Rattle.rule_types.specs.Fitting.{FitsRules}
use Rattle.rule_meaning.specs.Pid.{fresh, IsKept}
use Rattle.rule_meaning.specs.State.{link_state, value}
use Rattle.verdict_meaning.specs.declared.cell.Cell.{Cell}
use Rattle.verdict_meaning.specs.declared.question.Question.{Question}
use Rattle.verdict_meaning.specs.declared.ranges.Ranges.{Ranges}
use Rattle.verdict_meaning.specs.Boxes.{HasKey, IsEntryOf, IsInRanges, IsMomentIn, IsTargetIn, IsTimer, first_box}
use Rattle.verdict_meaning.specs.Grids.{sample_memory}
use Rattle.verdict_meaning.specs.Premises.{start_of}
use Rattle.state_checker.proofs.FitSteps.{both, first_of, second_of}
use Rattle.state_checker.specs.Inside.{LiesInside, entry_fits, is_at, is_in_moments, is_target_in, is_timer, target_fits, value_fits}

-- ---- tests of all

all_by : {A : Type 0} (p : A → Bool) (P : A → Type 0) → ((a : A) → p a ≡ true → P a)
    → (xs : List A) → list_all p xs ≡ true → All P xs
all_by p P h [] e = All-nil P
all_by p P h (x ∷ xs) e =
    All-cons P x xs (h x (first_of (p x) (list_all p xs) e))
    (all_by p P h xs (second_of (p x) (list_all p xs) e))

all_of : {A : Type 0} (p : A → Bool) (P Q R : A → Type 0)
    → ((a : A) → P a → Q a → R a → p a ≡ true)
    → (xs : List A) → All P xs → All Q xs → All R xs → list_all p xs ≡ true
all_of p P Q R h [] e f g = refl
all_of p P Q R h (x ∷ xs) e f g =
    both (p x) (list_all p xs)
    (h x (All-head P x xs e) (All-head Q x xs f) (All-head R x xs g))
    (all_of p P Q R h xs (All-tail P x xs e) (All-tail Q x xs f) (All-tail R x xs g))

-- ---- timers and targets

Both : Bool → Type 0 → Type 0
Both test holds = (test ≡ true → holds) × (holds → test ≡ true)

never : (test : Bool) → test ≡ false → Both test ⊥
unfolding Both
never test e = ((λ f. let g : true ≡ false = sym f ∙ e in absurd (grind arith)), λ h. absurd h)

always : (test : Bool) → test ≡ true → Both test (Unit {0})
unfolding Both
always test e = ((λ f. tt), λ h. e)

timer_attr : (object : ObjectNo) (attribute : Attr)
    → Both (is_timer (Object object attribute)) (IsTimer (Object object attribute))
timer_attr object attr.Intensity = never false refl
timer_attr object (attr.HourDepth hours) = never false refl
timer_attr object attr.Depth = never false refl
timer_attr object attr.MaxDepth = never false refl
timer_attr object attr.FullDepth = never false refl
timer_attr object attr.Head = never false refl
timer_attr object attr.Volume = never false refl
timer_attr object attr.Inflow = never false refl
timer_attr object attr.Flow = never false refl
timer_attr object attr.FullFlow = never false refl
timer_attr object attr.Velocity = never false refl
timer_attr object attr.Length = never false refl
timer_attr object attr.Slope = never false refl
timer_attr object attr.Setting = never false refl
timer_attr object attr.Status = never false refl
timer_attr object attr.TimeOpen = always true refl
timer_attr object attr.TimeClosed = always true refl

timer_both : (key : Key) → Both (is_timer key) (IsTimer key)
timer_both (Object object attribute) = timer_attr object attribute
timer_both (Clock attribute) = never false refl

target_some : (range : Interval) (o : Option LinkState)
    → Both (target_fits range o) (IfSome o (λ link. IsTrue (lies_in range link.target)))
unfolding Both
target_some range None = ((λ e. tt), λ h. refl)
target_some range (Some link) = ((λ e. e), λ h. h)

target_attr : (x : Rules) (s : State) (range : Interval) (object : ObjectNo) (attribute : Attr)
    → Both (is_target_in x s range (Object object attribute))
    (IsTargetIn x s range (Object object attribute))
target_attr x s range object attr.Intensity = always true refl
target_attr x s range object (attr.HourDepth hours) = always true refl
target_attr x s range object attr.Depth = always true refl
target_attr x s range object attr.MaxDepth = always true refl
target_attr x s range object attr.FullDepth = always true refl
target_attr x s range object attr.Head = always true refl
target_attr x s range object attr.Volume = always true refl
target_attr x s range object attr.Inflow = always true refl
target_attr x s range object attr.Flow = always true refl
target_attr x s range object attr.FullFlow = always true refl
target_attr x s range object attr.Velocity = always true refl
target_attr x s range object attr.Length = always true refl
target_attr x s range object attr.Slope = always true refl
target_attr x s range object attr.Setting = target_some range (link_state x s object.index)
target_attr x s range object attr.Status = always true refl
target_attr x s range object attr.TimeOpen = always true refl
target_attr x s range object attr.TimeClosed = always true refl

target_both : (x : Rules) (s : State) (range : Interval) (key : Key)
    → Both (is_target_in x s range key) (IsTargetIn x s range key)
target_both x s range (Object object attribute) = target_attr x s range object attribute
target_both x s range (Clock attribute) = always true refl

-- ---- entries

inside_by : (optional : Bool) (range : Interval) (o : Option Rational)
    → value_fits optional range o ≡ true → IfSome o (λ q. IsTrue (lies_in range q))
inside_by optional range None e = tt
inside_by optional range (Some q) e = e

optional_by : (optional : Bool) (range : Interval) (o : Option Rational)
    → value_fits optional range o ≡ true → o ≡ None → optional ≡ true
optional_by optional range None e none = e
optional_by optional range (Some q) e none = absurd (none-some q (sym none))

fits_by : (optional : Bool) (range : Interval) (o : Option Rational)
    → (o ≡ None → optional ≡ true) → IfSome o (λ q. IsTrue (lies_in range q))
    → value_fits optional range o ≡ true
fits_by optional range None missing h = missing refl
fits_by optional range (Some q) missing h = h

value_part : (x : Rules) (s : State) (entry : Key × Interval) → entry_fits x s entry ≡ true
    → value_fits (is_timer entry.0) entry.1 (value x s entry.0) ≡ true
unfolding entry_fits
value_part x s entry e =
    first_of (value_fits (is_timer entry.0) entry.1 (value x s entry.0))
    (is_target_in x s entry.1 entry.0) e

target_part : (x : Rules) (s : State) (entry : Key × Interval) → entry_fits x s entry ≡ true
    → is_target_in x s entry.1 entry.0 ≡ true
unfolding entry_fits
target_part x s entry e =
    second_of (value_fits (is_timer entry.0) entry.1 (value x s entry.0))
    (is_target_in x s entry.1 entry.0) e

entry_has : (x : Rules) (s : State) (entry : Key × Interval) → entry_fits x s entry ≡ true
    → HasKey x s entry.0
unfolding Both
entry_has x s entry e none =
    (timer_both entry.0).0
    (optional_by (is_timer entry.0) entry.1 (value x s entry.0) (value_part x s entry e) none)

entry_inside : (x : Rules) (s : State) (entry : Key × Interval) → entry_fits x s entry ≡ true
    → IsEntryOf x s entry
entry_inside x s entry e =
    inside_by (is_timer entry.0) entry.1 (value x s entry.0) (value_part x s entry e)

entry_target : (x : Rules) (s : State) (entry : Key × Interval) → entry_fits x s entry ≡ true
    → IsTargetIn x s entry.1 entry.0
unfolding Both
entry_target x s entry e = (target_both x s entry.1 entry.0).0 (target_part x s entry e)

entry_by : (x : Rules) (s : State) (entry : Key × Interval) → HasKey x s entry.0
    → IsEntryOf x s entry → IsTargetIn x s entry.1 entry.0 → entry_fits x s entry ≡ true
unfolding entry_fits Both
entry_by x s entry has inside target =
    both (value_fits (is_timer entry.0) entry.1 (value x s entry.0))
    (is_target_in x s entry.1 entry.0)
    (fits_by (is_timer entry.0) entry.1 (value x s entry.0)
    (λ none. (timer_both entry.0).1 (has none)) inside)
    ((target_both x s entry.1 entry.0).1 target)

-- ---- moments

le_true : (a b : ℤ) → a ≤ℤ b → int_le a b ≡ true
le_true a b h = by_test (int_le a b) refl
  where
    by_test : (t : Bool) → int_le a b ≡ t → t ≡ true
    by_test true e = refl
    by_test false e = absurd (omega (arith, ints, e, h))

true_le : (a b : ℤ) → int_le a b ≡ true → a ≤ℤ b
true_le a b e = omega (arith, ints, e)

at_is : (a b : ℤ) → is_at a b ≡ true → a ≡ b
at_is a b e =
    let below = true_le a b (first_of (int_le a b) (int_le b a) e) in
    let above = true_le b a (second_of (int_le a b) (int_le b a) e) in
    omega (arith, ints, below, above)

is_at_by : (a b : ℤ) → a ≡ b → is_at a b ≡ true
is_at_by a b e =
    both (int_le a b) (int_le b a) (le_true a b (omega (arith, ints, e)))
    (le_true b a (omega (arith, ints, e)))

moment_by : (start : ℤ) (o : Option (ℤ × ℤ)) (s : State) → is_in_moments start o s ≡ true
    → IfSome o (λ span. IsMomentIn span s.moment)
unfolding is_in_moments
moment_by start None s e = tt
moment_by start (Some span) s e =
    let inner = first_of (int_le span.0 s.moment && int_le s.moment span.1) (is_at s.start start) e in
    record {
      from_first = true_le span.0 s.moment (first_of (int_le span.0 s.moment) (int_le s.moment span.1) inner);
      to_last = true_le s.moment span.1 (second_of (int_le span.0 s.moment) (int_le s.moment span.1) inner);
    }

start_by : (start : ℤ) (o : Option (ℤ × ℤ)) (s : State) → is_in_moments start o s ≡ true
    → IfSome o (λ span. s.start ≡ start)
unfolding is_in_moments
start_by start None s e = tt
start_by start (Some span) s e =
    at_is s.start start
    (second_of (int_le span.0 s.moment && int_le s.moment span.1) (is_at s.start start) e)

in_moments_by : (start : ℤ) (o : Option (ℤ × ℤ)) (s : State)
    → IfSome o (λ span. IsMomentIn span s.moment) → IfSome o (λ span. s.start ≡ start)
    → is_in_moments start o s ≡ true
unfolding is_in_moments
in_moments_by start None s h g = refl
in_moments_by start (Some span) s h g =
    both (int_le span.0 s.moment && int_le s.moment span.1) (is_at s.start start)
    (both (int_le span.0 s.moment) (int_le s.moment span.1) (le_true span.0 s.moment h.from_first)
    (le_true s.moment span.1 h.to_last))
    (is_at_by s.start start g)

-- ---- states of ranges

pub in_ranges : (x : Rules) (question : Question) (ranges : Ranges) (s : State) → FitsRules x s
    → IsKept fresh → LiesInside x (first_box x question ranges) s
    → IsInRanges x question ranges sample_memory s
in_ranges x question ranges s fits kept h =
    let cell : Cell = first_box x question ranges in
    record {
      state = record {
        fits = fits;
        step = h.step;
        present = all_by (entry_fits x s) (λ entry. HasKey x s entry.0) (entry_has x s) cell.keys h.entries;
        start = start_by (start_of x) cell.moments s h.moments;
      };
      inside = record {
        keys = all_by (entry_fits x s) (IsEntryOf x s) (entry_inside x s) cell.keys h.entries;
        moment = moment_by (start_of x) cell.moments s h.moments;
      };
      targets = all_by (entry_fits x s) (λ entry. IsTargetIn x s entry.1 entry.0) (entry_target x s) cell.keys h.entries;
      memories = λ number. kept;
    }

pub lies_inside : (x : Rules) (question : Question) (ranges : Ranges) (s : State)
    → IsInRanges x question ranges sample_memory s → LiesInside x (first_box x question ranges) s
lies_inside x question ranges s h =
    let cell : Cell = first_box x question ranges in
    record {
      step = h.state.step;
      moments = in_moments_by (start_of x) cell.moments s h.inside.moment h.state.start;
      entries =
          all_of (entry_fits x s) (λ entry. HasKey x s entry.0) (IsEntryOf x s)
          (λ entry. IsTargetIn x s entry.1 entry.0) (entry_by x s) cell.keys h.state.present
          h.inside.keys h.targets;
    }

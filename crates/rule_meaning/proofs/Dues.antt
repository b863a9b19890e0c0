-- Rows that are due, and what rows that are not due leave.
use Rattle.std.proofs.Common.{◌≡◌, ℕ, Bool, true, false, not, Option, Some, None, Ok, Err, List, []}
use Rattle.std.proofs.Common.{◌∷◌, refl, sym, ap, ◌∙◌, arith, ℤ, ◌-ℤ◌, ◌≤ℤ◌, cond}
use Rattle.std.proofs.Common.{Contains}
use Rattle.std.proofs.lemmas.Int.{ints}
use Rattle.exact_fraction.specs.Number.{Rational, den, whole, zero}
use Rattle.exact_fraction.specs.Order.{◌≤ℚ◌}
use Rattle.exact_fraction.proofs.PublicLaws.{tests-not_less}
use Rattle.rule_types.specs.declared.stop.Stop.{Stop}
use Rattle.rule_types.specs.declared.rules.Rules.{Rules}
use Rattle.rule_types.specs.declared.state.State.{State}
use Rattle.rule_types.specs.Tables.{TableSet}
use Rattle.rule_meaning.proofs.Members.{at_first, at_later}
use Rattle.rule_meaning.specs.Reading.{read}
use Rattle.rule_meaning.specs.History.{is_due_after, last_due, is_due, memory_read, memory, reading}

whole_at_least_zero : (a b : ℤ) → a ≤ℤ b → zero ≤ℚ whole (b -ℤ a)
unfolding whole den
whole_at_least_zero a b h = record { le = omega (arith, ints) }

due_by : (last : Option ℤ) (moment : ℤ) → ((m : ℤ) → last ≡ Some m → m ≤ℤ moment)
    → is_due_after zero last moment ≡ true
due_by None moment h = refl
due_by (Some m) moment h =
    ap not ((tests-not_less (whole (moment -ℤ m)) zero).1 (whole_at_least_zero m moment (h m refl)))

last_by : (s : State) (older : List State) (step : Rational) (m moment : ℤ) (b : Bool)
    → ((t : State) → Contains (s ∷ older) t → t.moment ≤ℤ moment)
    → (last_due step older ≡ Some m → m ≤ℤ moment)
    → cond b (Some s.moment) (last_due step older) ≡ Some m → m ≤ℤ moment
last_by s older step m moment true all older_says h =
    let e : s.moment ≡ m = grind arith in rw (sym e) (all s (at_first s older s refl))
last_by s older step m moment false all older_says h = older_says h

last_at_most : (step : Rational) (older : List State) (m moment : ℤ)
    → ((t : State) → Contains older t → t.moment ≤ℤ moment) → last_due step older ≡ Some m
    → m ≤ℤ moment
last_at_most step [] m moment all h = grind arith
last_at_most step (s ∷ older) m moment all h =
    last_by s older step m moment (is_due_after step (last_due step older) s.moment) all
    (λ g. last_at_most step older m moment (λ t t_in. all t (at_later s older t t_in)) g) h

pub every_row_due : (older : List State) (s : State)
    → ((t : State) → Contains older t → t.moment ≤ℤ s.moment) → is_due zero older s ≡ true
every_row_due older s all =
    due_by (last_due zero older) s.moment (λ m h. last_at_most zero older m s.moment all h)

pub not_due_reads_nothing : (x : Rules) (tables : TableSet) (older : List State) (s : State)
    → is_due x.rule_step older s ≡ false → reading x tables older s ≡ Ok []
not_due_reads_nothing x tables older s h = rw h refl

pub not_due_keeps : (x : Rules) (tables : TableSet) (older : List State) (s : State) (number : ℕ)
    → is_due x.rule_step older s ≡ false → memory x tables (s ∷ older) number
    ≡ memory x tables older number
not_due_keeps x tables older s number h = rw h refl

pub due_reads : (x : Rules) (tables : TableSet) (older : List State) (s : State)
    → is_due x.rule_step older s ≡ true → reading x tables older s
    ≡ read x tables s (memory x tables older)
due_reads x tables older s h = rw h refl

stop_keeps_by : (x : Rules) (tables : TableSet) (older : List State) (s : State) (number : ℕ)
    (stop : Stop) (b : Bool) → is_due x.rule_step older s ≡ b → reading x tables older s ≡ Err stop
    → memory x tables (s ∷ older) number ≡ memory x tables older number
stop_keeps_by x tables older s number stop false is h = not_due_keeps x tables older s number is
stop_keeps_by x tables older s number stop true is h =
    let e : read x tables s (memory x tables older) ≡ Err stop =
    sym (due_reads x tables older s is) ∙ h in
    rw is (ap (memory_read x s (memory x tables older) number) e)

pub stop_keeps : (x : Rules) (tables : TableSet) (older : List State) (s : State) (number : ℕ)
    (stop : Stop) → reading x tables older s ≡ Err stop
    → memory x tables (s ∷ older) number ≡ memory x tables older number
stop_keeps x tables older s number stop h =
    stop_keeps_by x tables older s number stop (is_due x.rule_step older s) refl h

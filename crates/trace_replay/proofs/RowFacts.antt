-- What holds at a row that a replay can take.
use Rattle.std.proofs.Common.{◌≡◌, ℕ, zero as nothing, suc, ◌*◌, ◌<◌, ◌==◌, Bool, true, false, cond, Option, Some, Result, Ok, Err, List, [], ◌∷◌, length, take, ◌++◌, refl, sym, ap, subst, ◌∙◌, arith, ℤ, pos, ◌-ℤ◌, ◌*ℤ◌, ◌≤ℤ◌, ◌<ℤ◌}
use Rattle.std.proofs.lemmas.Int.{ints}
use Rattle.std.proofs.lemmas.List.{take_at}
use Rattle.std.proofs.lemmas.List.Elements.{All-head, All-tail}
use Rattle.std.proofs.lemmas.Option.{none-some, same_Some, slice_get_within, get_or_from_slice_get}
use Rattle.std.proofs.lemmas.Bool.Decides.{nat_tests}
use Rattle.std.specs.Prelude.{slice_get, IsTrue, IfOk, OnOk, All}
use Rattle.std.specs.Result.{result_err}
use Rattle.std.specs.List.{AllZip}
use Rattle.std.specs.List.Sorted.{IsStrictlyIncreasing}
use Rattle.exact_fraction.specs.Number.{Rational, ratio, gcd, last_remainder, cancelled, whole, den, zero, one}
use Rattle.exact_fraction.specs.Order.{◌≤ℚ◌, ◌<ℚ◌}
use Rattle.exact_fraction.specs.Operations.{quotient_of, quotient_parts}
use Rattle.exact_fraction.proofs.PublicLaws.{ratios-at_most}
use Rattle.rule_types.specs.declared.action.Order.{Order}
use Rattle.rule_types.specs.declared.action.PidMemory.{PidMemory}
use Rattle.rule_types.specs.declared.row.Row.{Row}
use Rattle.rule_types.specs.declared.rules.Rules.{Rules}
use Rattle.rule_types.specs.declared.state.LinkState.{LinkState}
use Rattle.rule_types.specs.declared.state.State.{State}
use Rattle.rule_types.specs.declared.stop.Stop.{Stop}
use Rattle.rule_types.specs.Fitting.{FitsRules, LinkFits, MemoriesFit}
use Rattle.rule_types.specs.Tables.{TableSet}
use Rattle.rule_types.specs.WellFormed.{WellFormed, IsRate, has_rate}
use Rattle.rule_types.proofs.PublicLaws.{opened-times}
use Rattle.rule_meaning.specs.Clock.{hours_of}
use Rattle.rule_meaning.specs.History.{memory_read, reading_by, new_target}
use Rattle.rule_meaning.specs.Memories.{memory_of, memories_after}
use Rattle.rule_meaning.specs.Reading.{Choice, OrderFits, read_by}
use Rattle.rule_meaning.specs.Replay.{RowsFit, IsWithinOne, replayed_by, state_after_by, last_moment, start_or, step_since, links_at, stop_of}
use Rattle.rule_meaning.specs.Worth.{rate_of}
use Rattle.rule_meaning.proofs.PublicLaws.{replay-fit, replay-within_one, orders-values, orders-rise, links_by_place-rate, memories-list, memories-as_many}
use Rattle.replay_meaning.specs.Kept.{Kept, state_of, reading_of, gap_since, due_at}
use Rattle.replay_meaning.specs.Standing.{CanFollow}
use Rattle.replay_meaning.proofs.PublicLaws.{standing-state, standing-reading}
use Rattle.trace_replay.specs.Readings.{given}
use Rattle.trace_replay.specs.internal.Moving.{CanMove}
use Rattle.trace_replay.specs.internal.Rows.{orders_when, reading_when, memories_when, state_at}
use Rattle.trace_replay.proofs.LinkSteps.{links_of}

-- ---- the state
pub state_fits : (choice : Choice) (x : Rules) (tables : TableSet) (k : Kept) (row : Row) → CanFollow choice x tables k row → FitsRules x (state_of x k row)
state_fits choice x tables k row h =
    let s : State = state_after_by choice x tables (replayed_by choice x tables h.rows) row in
    subst (FitsRules x) (sym (standing-state choice x tables k h.rows row h.stands))
    (All-head (FitsRules x) s (replayed_by choice x tables h.rows) (replay-fit choice x tables (row ∷ h.rows) h.rules.formed h.rules.acts h.fits))

pub links_within : (choice : Choice) (x : Rules) (tables : TableSet) (k : Kept) (row : Row) → CanFollow choice x tables k row → AllZip IsWithinOne x.rates (state_of x k row).links
links_within choice x tables k row h =
    let s : State = state_after_by choice x tables (replayed_by choice x tables h.rows) row in
    subst (λ (t : State). AllZip IsWithinOne x.rates t.links) (sym (standing-state choice x tables k h.rows row h.stands))
    (All-head (λ (t : State). AllZip IsWithinOne x.rates t.links) s (replayed_by choice x tables h.rows) (replay-within_one choice x tables (row ∷ h.rows) h.rules.formed h.rules.acts h.fits))

-- ---- the orders
pub orders_fit : (choice : Choice) (x : Rules) (tables : TableSet) (k : Kept) (row : Row) (orders : List Order) → CanFollow choice x tables k row
    → reading_of choice x tables k row ≡ Ok orders → All (OrderFits x) orders
orders_fit choice x tables k row orders h read =
    let states : List State = replayed_by choice x tables h.rows in
    let s : State = state_after_by choice x tables states row in
    let fits : FitsRules x s = All-head (FitsRules x) s states (replay-fit choice x tables (row ∷ h.rows) h.rules.formed h.rules.acts h.fits) in
    let is : reading_by choice x tables states s ≡ Ok orders = sym (standing-reading choice x tables k h.rows row h.stands) ∙ read in
    subst (λ (r : Result (List Order) Stop). IfOk r (All (OrderFits x))) is (orders-values choice x tables states s h.rules.formed h.rules.acts fits)

none_rise : IsStrictlyIncreasing (links_of [])
none_rise = λ k below. absurd (omega (arith, below))

rise_by : (due : Bool) (read : Result (List Order) Stop) → IfOk read (λ orders. IsStrictlyIncreasing (links_of orders))
    → IfOk (cond due read (Ok [])) (λ orders. IsStrictlyIncreasing (links_of orders))
rise_by true read h = h
rise_by false read h = none_rise

pub orders_rise : (choice : Choice) (x : Rules) (tables : TableSet) (k : Kept) (row : Row) (orders : List Order) → CanFollow choice x tables k row
    → reading_of choice x tables k row ≡ Ok orders → IsStrictlyIncreasing (links_of orders)
orders_rise choice x tables k row orders h read =
    subst (λ (r : Result (List Order) Stop). IfOk r (λ orders. IsStrictlyIncreasing (links_of orders))) read
    (rise_by (due_at x k row) (read_by choice x tables (state_of x k row) (memory_of k.memories))
    (orders-rise choice x tables (state_of x k row) (memory_of k.memories) h.rules.formed.orders))

-- ---- links can move
abbrev IsTarget : Rational → Rational → Type 0
IsTarget rate t = (zero ≤ℚ t) × (IsTrue (has_rate rate) → t ≤ℚ one)

target_either : (rate : Rational) (b : Bool) (u v : Rational) → (b ≡ true → IsTarget rate u) → IsTarget rate v → IsTarget rate (cond b u v)
target_either rate true u v h g = h refl
target_either rate false u v h g = g

target_fits : (x : Rules) (orders : List Order) (link : ℕ) (rate old : Rational) → rate_of x link ≡ rate → All (OrderFits x) orders
    → IsTarget rate old → IsTarget rate (new_target orders link old)
unfolding new_target
target_fits x [] link rate old own fits h = h
target_fits x (first ∷ more) link rate old own fits h =
    target_either rate (first.link == link) first.value (new_target more link old)
    (λ is.
    (let same : first.link ≡ link = grind (arith, nat_tests) in
    let fit : OrderFits x first = All-head (OrderFits x) first more fits in
    (fit.least, λ rated. fit.most (subst (λ (r : Rational). IsTrue (has_rate r)) (sym (ap (rate_of x) same ∙ own)) rated))))
    (target_fits x more link rate old own (All-tail (OrderFits x) first more fits) h)

zipped_at : {A B : Type 0} (R : A → B → Type 0) (xs : List A) (ys : List B) (j : ℕ) (x : A) (y : B) → AllZip R xs ys → slice_get xs j ≡ Some x → slice_get ys j ≡ Some y → R x y
zipped_at R [] ys j x y all at there = absurd (none-some x at)
zipped_at R (u ∷ xs) [] j x y all at there = absurd (none-some y there)
zipped_at R (u ∷ xs) (v ∷ ys) nothing x y all at there = subst (λ w. R w y) (same_Some u x at) (subst (λ w. R u w) (same_Some v y there) all.0)
zipped_at R (u ∷ xs) (v ∷ ys) (suc j) x y all at there = zipped_at R xs ys j x y all.1 at there

item_of : {A : Type 0} (P : A → Type 0) (xs : List A) (j : ℕ) (x : A) → All P xs → slice_get xs j ≡ Some x → P x
item_of P xs j x all at = subst P (get_or_from_slice_get xs j x x at) (all j x (slice_get_within xs j x at))

pub can_move : (choice : Choice) (x : Rules) (tables : TableSet) (k : Kept) (row : Row) (orders : List Order) → CanFollow choice x tables k row
    → reading_of choice x tables k row ≡ Ok orders → CanMove orders x.tracked x.rates (state_of x k row).links
can_move choice x tables k row orders h read =
    let formed : WellFormed x = h.rules.formed in
    let fits : FitsRules x (state_of x k row) = state_fits choice x tables k row h in
    let within : AllZip IsWithinOne x.rates (state_of x k row).links = links_within choice x tables k row h in
    let ordered : All (OrderFits x) orders = orders_fit choice x tables k row orders h read in
    λ at link rate old at_link at_rate at_old.
    (let own : rate_of x link ≡ rate = links_by_place-rate x at link rate formed.orders formed.rates at_link at_rate in
    let fine : LinkFits old = item_of LinkFits (state_of x k row).links at old fits.link_values at_old in
    let one_most : IsWithinOne rate old = zipped_at IsWithinOne x.rates (state_of x k row).links at rate old within at_rate at_old in
    let target : IsTarget rate (new_target orders link old.target) = target_fits x orders link rate old.target own ordered (fine.target, one_most.target) in (
      item_of IsRate x.rates at rate (opened-times x formed.bounds).rates at_rate,
      record { setting_least = fine.setting; target_least = target.0; setting_most = one_most.setting; target_most = target.1 },
    ))

-- ---- the gap
zero_is : ratio (pos 0) 1 ≡ zero
unfolding ratio gcd last_remainder cancelled whole
zero_is = refl

ratio_least : (n : ℤ) (d : ℕ) → 0 < d → pos 0 ≤ℤ n → zero ≤ℚ ratio n d
ratio_least n d p h = subst (λ q. q ≤ℚ ratio n d) zero_is (ratios-at_most (pos 0) n 1 d (omega arith) p (product_least n d h))
  where
    product_least : (n : ℤ) (d : ℕ) → pos 0 ≤ℤ n → (pos 0 *ℤ pos d) ≤ℤ (n *ℤ pos 1)
    product_least n d h = omega (arith, ints, h)

routing_gap : (q : Rational) → zero <ℚ q → zero ≤ℚ quotient_of q (whole (pos 3600))
unfolding quotient_of quotient_parts whole den
routing_gap q h = ratio_least (q.num *ℤ pos 1) (suc q.below * 3600) (omega arith) (omega (arith, ints, h.lt))

hours_gap : (moment last : ℤ) → last <ℤ moment → zero ≤ℚ hours_of (moment -ℤ last)
unfolding hours_of
hours_gap moment last h = ratio_least (moment -ℤ last) 3600 (omega arith) (omega (arith, ints, h))

gap_by : (choice : Choice) (x : Rules) (tables : TableSet) (rows : List Row) (row : Row) → WellFormed x → RowsFit x (row ∷ rows)
    → zero ≤ℚ gap_since x.routing_step (last_moment (replayed_by choice x tables rows)) row.moment
gap_by choice x tables [] row formed fits = routing_gap x.routing_step (opened-times x formed.bounds).routing_step.positive
gap_by choice x tables (last ∷ rows) row formed fits = hours_gap row.moment last.moment (fits.0.rising last refl)

pub gap_least : (choice : Choice) (x : Rules) (tables : TableSet) (k : Kept) (row : Row) → CanFollow choice x tables k row → zero ≤ℚ gap_since x.routing_step k.last row.moment
gap_least choice x tables k row h =
    subst (λ m. zero ≤ℚ gap_since x.routing_step m row.moment) (sym h.stands.last) (gap_by choice x tables h.rows row h.rules.formed h.fits)

-- ---- memories
pub memories_fit : (choice : Choice) (x : Rules) (tables : TableSet) (k : Kept) (row : Row) → CanFollow choice x tables k row → MemoriesFit x.rules k.memories
memories_fit choice x tables k row h = record { count = h.stands.memories_long }

pub memories_same : (x : Rules) (s : State) (before after : List PidMemory) (read : Result (List Order) Stop) → WellFormed x → MemoriesFit x.rules before
    → length after ≡ length before → ((number : ℕ) → memory_of after number ≡ memory_read x s (memory_of before) number read)
    → after ≡ memories_after x s before read
memories_same x s before after read formed fits long each =
    all_same after (memories_after x s before read) (long ∙ fits.count ∙ sym (memories-as_many x s before read))
    (λ number. each number ∙ sym (memories-list x s before number read formed fits))
  where
    all_same : (ms ns : List PidMemory) → length ms ≡ length ns → ((number : ℕ) → memory_of ms number ≡ memory_of ns number) → ms ≡ ns
    all_same [] [] long each = refl
    all_same [] (n ∷ ns) long each = absurd (omega (arith, long))
    all_same (m ∷ ms) [] long each = absurd (omega (arith, long))
    all_same (m ∷ ms) (n ∷ ns) long each =
        let first : m ≡ n = each 0 in
        let later : ms ≡ ns = all_same ms ns (omega (arith, long)) (λ number. each (suc number)) in
        λ i. first i ∷ later i

pub memories_due : (x : Rules) (s : State) (due : Bool) (before after : List PidMemory) (result : Result (Unit {0}) Stop) (orders : List Order)
    (read : Result (List Order) Stop) → WellFormed x → MemoriesFit x.rules before → due ≡ true
    → length after ≡ length before → given result orders ≡ read
    → ((number : ℕ) → memory_of after number ≡ memory_read x s (memory_of before) number read)
    → after ≡ memories_when due x s before (given result (orders_when due orders))
memories_due x s true before after result orders read formed fits is long same each =
    memories_same x s before after (given result orders) formed fits long (λ number. each number ∙ ap (memory_read x s (memory_of before) number) (sym same))
memories_due x s false before after result orders read formed fits is long same each = absurd (grind arith)

-- ---- the parts of a row in the code
pub state_same : (x : Rules) (k : Kept) (row : Row) (len : ℕ) (start : ℤ) (step : Rational) (inputs : List (Option Rational)) (timed rest : List LinkState)
    → start ≡ start_or k.start row.moment → step ≡ step_since x.routing_step k.due row.moment → inputs ≡ row.inputs
    → length timed ≡ len → timed ≡ links_at start row.moment k.standings k.switches
    → state_at row.moment start step inputs (take len (timed ++ rest)) ≡ state_of x k row
state_same x k row len start step inputs timed rest start_is step_is inputs_are long timed_is =
    let links : take len (timed ++ rest) ≡ links_at (start_or k.start row.moment) row.moment k.standings k.switches =
    take_at timed rest len long ∙ timed_is ∙ ap (λ s. links_at s row.moment k.standings k.switches) start_is in
    λ i. record {
      moment = row.moment;
      start = start_is i;
      step = step_is i;
      inputs = inputs_are i;
      links = links i;
    }

pub reading_same : (choice : Choice) (x : Rules) (tables : TableSet) (k : Kept) (row : Row) (due : Bool) (result : Result (Unit {0}) Stop)
    (orders lent : List Order) (s : State) (memories : List PidMemory)
    → due ≡ due_at x k row → s ≡ state_of x k row → memories ≡ k.memories → orders ≡ lent
    → given result lent ≡ reading_when due (read_by choice x tables s (memory_of memories))
    → given result orders ≡ reading_of choice x tables k row
reading_same choice x tables k row due result orders lent s memories due_is state_is memories_are orders_are is =
    ap (given result) orders_are ∙ is
    ∙ (λ i. reading_when (due_is i) (read_by choice x tables (state_is i) (memory_of (memories_are i))))

pub when_read : (P : List Order → Type 0) (result : Result (Unit {0}) Stop) (orders : List Order) (read : Result (List Order) Stop)
    → given result orders ≡ read → ((found : List Order) → read ≡ Ok found → P found) → OnOk result (P orders)
when_read P (Ok done) orders read is each = each orders (sym is)
when_read P (Err stop) orders read is each = tt

pub stop_same : (result : Result (Unit {0}) Stop) (orders : List Order) → result_err result ≡ stop_of (given result orders)
stop_same (Ok done) orders = refl
stop_same (Err stop) orders = refl

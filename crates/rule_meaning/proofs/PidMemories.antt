-- Readings use the memories of the PID actions of the rules, and of no other number.
use Rattle.std.proofs.Common.{◌≡◌, ℕ, zero as nothing, suc, ◌+◌, ◌<◌, ◌≤◌, ◌==◌, nat_lt, Bool, true}
use Rattle.std.proofs.Common.{false, Option, Some, None, Result, Ok, Err}
use Rattle.std.proofs.Common.{List, [], ◌∷◌, ◌++◌, length, get_or, refl, sym, ap, ◌∙◌}
use Rattle.std.proofs.Common.{arith, cond}
use Rattle.std.proofs.lemmas.Bool.Decides.{nat_tests}
use Rattle.std.proofs.lemmas.List.FromFn.{get_or-map-range_with_len, length-map-range_with_len}
use Rattle.std.proofs.lemmas.List.{get_or_past}
use Rattle.std.proofs.lemmas.Grind.{get_or_default_zero}
use Rattle.std.specs.Prelude.{IfSome, slice_get, slice_index, flat_map}
use Rattle.std.specs.List.{All, AllByRecursion}
use Rattle.rule_types.specs.declared.action.Action.{Action}
use Rattle.rule_types.specs.declared.action.ActionAt.{ActionAt}
use Rattle.rule_types.specs.declared.action.Branch.{Branch}
use Rattle.rule_types.specs.declared.action.Branch.TheVariants.{Then, Otherwise}
use Rattle.rule_types.specs.declared.action.Order.{Order}
use Rattle.rule_types.specs.declared.action.PidMemory.{PidMemory}
use Rattle.rule_types.specs.declared.action.What.{What}
use Rattle.rule_types.specs.declared.action.What.TheVariants.{Constant, Curve, Series, Pid}
use Rattle.rule_types.specs.declared.condition.Condition.{Condition}
use Rattle.rule_types.specs.declared.rule.Rule.{Rule}
use Rattle.rule_types.specs.declared.rules.Rules.{Rules}
use Rattle.rule_types.specs.declared.state.State.{State}
use Rattle.rule_types.specs.declared.stop.Stop.{Stop}
use Rattle.rule_types.specs.Fitting.{MemoriesFit}
use Rattle.rule_types.specs.Reading.{rule_actions, branch_actions, pid_of, pid_numbers, pid_count}
use Rattle.rule_types.specs.Tables.{TableSet}
use Rattle.rule_types.specs.WellFormed.{PidsNumbered, WellFormed}
use Rattle.rule_meaning.specs.CheckedSteps.{◌>>=◌}
use Rattle.rule_meaning.specs.Formula.{names_stop}
use Rattle.rule_meaning.specs.History.{is_pid_what, is_pid_action, memory_left, memory_listed}
use Rattle.rule_meaning.specs.History.{memory_read}
use Rattle.rule_meaning.specs.Memories.{memory_of, memories_after, SamePidMemories}
use Rattle.rule_meaning.specs.Pid.{fresh}
use Rattle.rule_meaning.specs.Premise.{listed}
use Rattle.rule_meaning.specs.Reading.{Choice, conditions_at, pid_what, pid_action, pid_at}
use Rattle.rule_meaning.specs.Reading.{overflow_or, pids_stop, ordered}
use Rattle.rule_meaning.specs.Reading.{action_worth, order_of, order_then, orders_on}
use Rattle.rule_meaning.specs.Reading.{unless_stopped, read_by}
use Rattle.rule_meaning.specs.Settled.{branch_action, action_at}
use Rattle.rule_meaning.specs.Worth.{controller_of, set_point_of, old_target, is_pump, pid_worth}
use Rattle.rule_meaning.specs.Worth.{rule_pid, value_stepped, what_worth, capped, worth, rate_of}
use Rattle.rule_meaning.proofs.OrderValues.{each}

-- ---- the PID numbers of rules
pub first_part : {A : Type 0} (P : A → Type 0) (xs ys : List A) → AllByRecursion P (xs ++ ys)
    → AllByRecursion P xs
first_part P [] ys h = tt
first_part P (x ∷ xs) ys h = (h.0, first_part P xs ys h.1)

pub later_part : {A : Type 0} (P : A → Type 0) (xs ys : List A) → AllByRecursion P (xs ++ ys)
    → AllByRecursion P ys
later_part P [] ys h = h
later_part P (x ∷ xs) ys h = later_part P xs ys h.1

pub each_part : {A B : Type 0} (P : B → Type 0) (f : A → List B) (xs : List A)
    → AllByRecursion P (flat_map f xs) → AllByRecursion (λ x. AllByRecursion P (f x)) xs
each_part P f [] h = tt
each_part P f (x ∷ xs) h =
    (first_part P (f x) (flat_map f xs) h, each_part P f xs (later_part P (f x) (flat_map f xs) h))

pub got_one : {A : Type 0} (P : A → Type 0) (xs : List A) (k : ℕ) → AllByRecursion P xs
    → IfSome (slice_get xs k) P
got_one P [] k h = tt
got_one P (x ∷ xs) nothing h = h.0
got_one P (x ∷ xs) (suc k) h = got_one P xs k h.1

abbrev PidsOf : (ℕ → Type 0) → Action → Type 0
PidsOf P action = AllByRecursion P (pid_of action.what)

branch_pids : (P : ℕ → Type 0) (rule : Rule) (branch : Branch) (k : ℕ)
    → AllByRecursion P (flat_map (λ action. pid_of action.what) (rule_actions rule))
    → IfSome (slice_get (branch_actions rule branch) k) (PidsOf P)
branch_pids P rule Then k h =
    got_one (PidsOf P) rule.then_actions k
    (first_part (PidsOf P) rule.then_actions rule.else_actions
    (each_part P (λ action. pid_of action.what) (rule_actions rule) h))
branch_pids P rule Otherwise k h =
    got_one (PidsOf P) rule.else_actions k
    (later_part (PidsOf P) rule.then_actions rule.else_actions
    (each_part P (λ action. pid_of action.what) (rule_actions rule) h))

place_pids : (P : ℕ → Type 0) (at : ActionAt) (o : Option Rule)
    → IfSome o
    (λ rule. AllByRecursion P (flat_map (λ action. pid_of action.what) (rule_actions rule)))
    → IfSome (branch_action at o) (PidsOf P)
place_pids P at None h = tt
place_pids P at (Some rule) h = branch_pids P rule at.branch at.action h

pids_at : (P : ℕ → Type 0) (rules : List Rule) (at : ActionAt) → All P (pid_numbers rules)
    → IfSome (action_at rules at) (PidsOf P)
unfolding action_at pid_numbers
pids_at P rules at h =
    let of_rule : Rule → List ℕ =
    λ rule. flat_map (λ action. pid_of action.what) (rule_actions rule) in
    place_pids P at (slice_get rules at.rule)
    (got_one (λ rule. AllByRecursion P (of_rule rule)) rules at.rule
    (each_part P of_rule rules (each P (flat_map of_rule rules) h)))

-- ---- memories that agree there
abbrev Agree : (ℕ → PidMemory) → (ℕ → PidMemory) → ℕ → Type 0
Agree memory other number = memory number ≡ other number

same_pid_what : (x : Rules) (s : State) (memory other : ℕ → PidMemory) (conditions : List Condition)
    (link : ℕ) (what : What)
    → AllByRecursion (Agree memory other) (pid_of what)
    → pid_what x s memory conditions link what ≡ pid_what x s other conditions link what
unfolding rule_pid
same_pid_what x s memory other conditions link (Constant q) h = refl
same_pid_what x s memory other conditions link (Curve curve) h = refl
same_pid_what x s memory other conditions link (Series series) h = refl
same_pid_what x s memory other conditions link (Pid set number) h =
    ap (λ m. Some
    (pid_worth set (controller_of x s conditions) (set_point_of x s conditions)
    (old_target x s link) s.step (is_pump x link) m)) h.0

same_pid_action : (x : Rules) (s : State) (memory other : ℕ → PidMemory)
    (conditions : List Condition) (o : Option Action)
    → IfSome o (PidsOf (Agree memory other))
    → pid_action x s memory conditions o ≡ pid_action x s other conditions o
same_pid_action x s memory other conditions None h = refl
same_pid_action x s memory other conditions (Some action) h =
    same_pid_what x s memory other conditions action.link action.what h

same_pid_at : (x : Rules) (s : State) (memory other : ℕ → PidMemory) (at : ActionAt)
    → SamePidMemories x memory other
    → pid_at x s memory at ≡ pid_at x s other at
unfolding pid_at
same_pid_at x s memory other at h =
    same_pid_action x s memory other (conditions_at x.rules at) (action_at x.rules at)
    (pids_at (Agree memory other) x.rules at h)

same_pids_stop : (x : Rules) (s : State) (memory other : ℕ → PidMemory) (pairs : List ActionAt)
    → SamePidMemories x memory other → pids_stop x s memory pairs ≡ pids_stop x s other pairs
unfolding pids_stop
same_pids_stop x s memory other [] h = refl
same_pids_stop x s memory other (at ∷ more) h =
    let first = same_pid_at x s memory other at h in
    let later = same_pids_stop x s memory other more h in
    λ i. overflow_or at (first i) (later i)

same_what_worth : (x : Rules) (tables : TableSet) (s : State) (memory other : ℕ → PidMemory)
    (conditions : List Condition) (link : ℕ) (what : What)
    → AllByRecursion (Agree memory other) (pid_of what)
    → what_worth x tables s memory conditions link what
    ≡ what_worth x tables s other conditions link what
unfolding what_worth rule_pid
same_what_worth x tables s memory other conditions link (Constant q) h = refl
same_what_worth x tables s memory other conditions link (Curve curve) h = refl
same_what_worth x tables s memory other conditions link (Series series) h = refl
same_what_worth x tables s memory other conditions link (Pid set number) h =
    ap (λ m. value_stepped
    (pid_worth set (controller_of x s conditions) (set_point_of x s conditions)
    (old_target x s link) s.step (is_pump x link) m)) h.0

same_action_worth : (x : Rules) (tables : TableSet) (s : State) (memory other : ℕ → PidMemory)
    (conditions : List Condition) (o : Option Action)
    → IfSome o (PidsOf (Agree memory other))
    → action_worth x tables s memory conditions o ≡ action_worth x tables s other conditions o
unfolding worth
same_action_worth x tables s memory other conditions None h = refl
same_action_worth x tables s memory other conditions (Some action) h =
    ap (capped (rate_of x action.link))
    (same_what_worth x tables s memory other conditions action.link action.what h)

same_order : (x : Rules) (tables : TableSet) (s : State) (memory other : ℕ → PidMemory) (link : ℕ)
    (at : ActionAt)
    → SamePidMemories x memory other → order_of x tables s memory link at
    ≡ order_of x tables s other link at
unfolding order_of
same_order x tables s memory other link at h =
    ap (ordered link at)
    (same_action_worth x tables s memory other (conditions_at x.rules at) (action_at x.rules at)
    (pids_at (Agree memory other) x.rules at h))

same_order_then : (x : Rules) (tables : TableSet) (s : State) (memory other : ℕ → PidMemory)
    (link : ℕ) (o : Option ActionAt) (later more : Result (List Order) Stop)
    → SamePidMemories x memory other → later ≡ more
    → order_then x tables s memory link o later ≡ order_then x tables s other link o more
same_order_then x tables s memory other link None later more h e = e
same_order_then x tables s memory other link (Some at) later more h e =
    let first = same_order x tables s memory other link at h in
    λ i. (first i >>= (λ one. e i >>= (λ rest. Ok (one ∷ rest))))

same_orders : (choice : Choice) (x : Rules) (tables : TableSet) (s : State)
    (memory other : ℕ → PidMemory) (links : List ℕ)
    → SamePidMemories x memory other → orders_on choice x tables s memory links
    ≡ orders_on choice x tables s other links
unfolding orders_on
same_orders choice x tables s memory other [] h = refl
same_orders choice x tables s memory other (link ∷ links) h =
    same_order_then x tables s memory other link (choice s link)
    (orders_on choice x tables s memory links) (orders_on choice x tables s other links) h
    (same_orders choice x tables s memory other links h)

pub same_reading_of : (choice : Choice) (x : Rules) (tables : TableSet) (s : State)
    (memory other : ℕ → PidMemory)
    → SamePidMemories x memory other → read_by choice x tables s memory
    ≡ read_by choice x tables s other
same_reading_of choice x tables s memory other h =
    let stop = same_pids_stop x s memory other (listed x s) h in
    let orders = same_orders choice x tables s memory other x.controlled h in
    λ i. unless_stopped (names_stop x s) (unless_stopped (stop i) (orders i))

-- ---- what a reading leaves
same_listed_memory : (x : Rules) (s : State) (memory other : ℕ → PidMemory) (number : ℕ)
    (pairs : List ActionAt)
    → SamePidMemories x memory other → memory number ≡ other number
    → memory_listed x s memory number pairs ≡ memory_listed x s other number pairs
unfolding memory_listed
same_listed_memory x s memory other number [] h e = e
same_listed_memory x s memory other number (at ∷ more) h e =
    let left = same_pid_at x s memory other at h in
    let later = same_listed_memory x s memory other number more h e in
    λ i. cond (is_pid_action number (action_at x.rules at)) (memory_left (e i) (left i)) (later i)

same_left : (x : Rules) (s : State) (memory other : ℕ → PidMemory) (number : ℕ)
    (r : Result (List Order) Stop)
    → SamePidMemories x memory other → memory number ≡ other number
    → memory_read x s memory number r ≡ memory_read x s other number r
same_left x s memory other number (Ok orders) h e =
    same_listed_memory x s memory other number (listed x s) h e
same_left x s memory other number (Err stop) h e = e

pub same_memories_left : (x : Rules) (s : State) (memory other : ℕ → PidMemory)
    (r : Result (List Order) Stop)
    → SamePidMemories x memory other
    → SamePidMemories x (λ number. memory_read x s memory number r)
    (λ number. memory_read x s other number r)
same_memories_left x s memory other r h = λ k d below.
    same_left x s memory other (get_or (pid_numbers x.rules) k d) r h (h k d below)

-- ---- memories as a list
pids_below : (rules : List Rule) → PidsNumbered rules
    → All (λ number. number < pid_count rules) (pid_numbers rules)
unfolding PidsNumbered pid_count
pids_below rules h = λ k d below.
    (let same : get_or (pid_numbers rules) k d ≡ get_or (pid_numbers rules) k 0 =
    get_or_default_zero (pid_numbers rules) k d below in
    let at : slice_index (pid_numbers rules) k ≡ k = h k below in
    omega (arith, same, at, below))

other_what : (count number : ℕ) (what : What) → AllByRecursion (λ n. n < count) (pid_of what)
    → count ≤ number → is_pid_what number what ≡ false
other_what count number (Constant q) h past = refl
other_what count number (Curve curve) h past = refl
other_what count number (Series series) h past = refl
other_what count number (Pid set one) h past =
    let below : one < count = h.0 in
    let apart : (number == one) ≡ false = grind (arith, nat_tests) in
    apart

other_action : (count number : ℕ) (o : Option Action) → IfSome o (PidsOf (λ n. n < count))
    → count ≤ number → is_pid_action number o ≡ false
other_action count number None h past = refl
other_action count number (Some action) h past = other_what count number action.what h past

second_of : {A : Type 0} (b : Bool) (u v : A) → b ≡ false → cond b u v ≡ v
second_of b u v h = rw h refl

untouched : (x : Rules) (s : State) (memory : ℕ → PidMemory) (number : ℕ) (pairs : List ActionAt)
    → PidsNumbered x.rules → pid_count x.rules ≤ number
    → memory_listed x s memory number pairs ≡ memory number
unfolding memory_listed
untouched x s memory number [] h past = refl
untouched x s memory number (at ∷ more) h past =
    let count = pid_count x.rules in
    let other =
    other_action count number (action_at x.rules at)
    (pids_at (λ n. n < count) x.rules at (pids_below x.rules h)) past in
    second_of (is_pid_action number (action_at x.rules at))
    (memory_left (memory number) (pid_at x s memory at))
    (memory_listed x s memory number more) other
    ∙ untouched x s memory number more h past

untouched_by : (x : Rules) (s : State) (memory : ℕ → PidMemory) (number : ℕ)
    (r : Result (List Order) Stop) → PidsNumbered x.rules → pid_count x.rules ≤ number
    → memory_read x s memory number r ≡ memory number
untouched_by x s memory number (Ok orders) h past = untouched x s memory number (listed x s) h past
untouched_by x s memory number (Err stop) h past = refl

pub as_many_memories : (x : Rules) (s : State) (before : List PidMemory)
    (r : Result (List Order) Stop)
    → length (memories_after x s before r) ≡ pid_count x.rules
unfolding memories_after
as_many_memories x s before r =
    length-map-range_with_len (λ number. memory_read x s (memory_of before) number r) 0
    (pid_count x.rules)

left_by : (x : Rules) (s : State) (before : List PidMemory) (number : ℕ)
    (r : Result (List Order) Stop) (b : Bool)
    → WellFormed x → MemoriesFit x.rules before → nat_lt number (pid_count x.rules) ≡ b
    → memory_of (memories_after x s before r) number ≡ memory_read x s (memory_of before) number r
unfolding memories_after
left_by x s before number r true rules fits is =
    let within : number < pid_count x.rules = grind (arith, nat_tests) in
    let place : 0 + number ≡ number = omega arith in
    get_or-map-range_with_len (λ n. memory_read x s (memory_of before) n r) 0
    (pid_count x.rules) number number fresh within place
left_by x s before number r false rules fits is =
    let past : pid_count x.rules ≤ number = grind (arith, nat_tests) in
    let long : length (memories_after x s before r) ≡ pid_count x.rules =
    as_many_memories x s before r in
    let count = fits.count in
    get_or_past (memories_after x s before r) number fresh (omega (arith, past, long))
    ∙ sym (get_or_past before number fresh (omega (arith, past, count)))
    ∙ sym (untouched_by x s (memory_of before) number r rules.pids past)

pub memories_left : (x : Rules) (s : State) (before : List PidMemory) (number : ℕ)
    (r : Result (List Order) Stop)
    → WellFormed x → MemoriesFit x.rules before
    → memory_of (memories_after x s before r) number ≡ memory_read x s (memory_of before) number r
memories_left x s before number r rules fits =
    left_by x s before number r (nat_lt number (pid_count x.rules)) rules fits refl

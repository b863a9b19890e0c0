-- Listed pairs of PID actions.
use Rattle.std.proofs.Common.{◌≡◌, ℕ, zero as nothing, suc, ◌+◌, ◌<◌, ◌≤◌, Bool, true, false, ◌||◌, cond, Option, Some, None, List, [], ◌∷◌, ◌++◌, length, filter, flat_map, refl, sym, ap, ◌∙◌, arith, true≢false}
use Rattle.std.proofs.lemmas.List.Elements.{filter-append}
use Rattle.std.proofs.lemmas.List.{length-append}
use Rattle.std.proofs.lemmas.Option.{none-some}
use Rattle.std.specs.Prelude.{slice_get}
use Rattle.rule_types.specs.declared.action.Action.{Action}
use Rattle.rule_types.specs.declared.action.ActionAt.{ActionAt}
use Rattle.rule_types.specs.declared.action.Branch.{Branch}
use Rattle.rule_types.specs.declared.action.Branch.TheVariants.{Then, Otherwise}
use Rattle.rule_types.specs.declared.action.PidMemory.{PidMemory}
use Rattle.rule_types.specs.declared.action.What.{What}
use Rattle.rule_types.specs.declared.action.What.TheVariants.{Constant, Curve, Series, Pid}
use Rattle.rule_types.specs.declared.condition.Condition.{Condition}
use Rattle.rule_types.specs.declared.rule.Rule.{Rule}
use Rattle.rule_types.specs.declared.rules.Rules.{Rules}
use Rattle.rule_types.specs.declared.state.State.{State}
use Rattle.rule_types.specs.Reading.{branch_actions, branch_action, action_at, pid_of, pid_numbers, pid_count, rule_actions}
use Rattle.rule_meaning.specs.History.{is_pid_action, memory_left, memory_listed}
use Rattle.rule_meaning.specs.Premise.{listed, listed_by, listed_branch, places_of}
use Rattle.rule_meaning.specs.Reading.{conditions_at, overflow_or, pid_what, pid_action, pid_at, pids_stop}
use Rattle.table_run.specs.Pids.{is_pid_what, is_pid, is_pid_at, listed_pids}
use Rattle.table_run.specs.internal.PidRules.{have_pid, has_pid, pid_rules, pid_alone, pids_from, rule_pids, pids_of}

-- ---- pairs of other actions stop nothing and leave no memory
no_pid_what : (x : Rules) (s : State) (m : ℕ → PidMemory) (cs : List Condition) (link : ℕ) (what : What)
    → is_pid_what what ≡ false → pid_what x s m cs link what ≡ None
no_pid_what x s m cs link (Constant q) h = refl
no_pid_what x s m cs link (Curve curve) h = refl
no_pid_what x s m cs link (Series series) h = refl
no_pid_what x s m cs link (Pid set number) h = absurd (true≢false h)

no_pid_action : (x : Rules) (s : State) (m : ℕ → PidMemory) (cs : List Condition) (o : Option Action)
    → is_pid o ≡ false → pid_action x s m cs o ≡ None
no_pid_action x s m cs None h = refl
no_pid_action x s m cs (Some action) h = no_pid_what x s m cs action.link action.what h

no_pid_at : (x : Rules) (s : State) (m : ℕ → PidMemory) (at : ActionAt)
    → is_pid_at x.rules at ≡ false → pid_at x s m at ≡ None
unfolding is_pid_at pid_at
no_pid_at x s m at h = no_pid_action x s m (conditions_at x.rules at) (action_at x.rules at) h

stop_by : (x : Rules) (s : State) (m : ℕ → PidMemory) (at : ActionAt) (pairs kept : List ActionAt) (b : Bool)
    → is_pid_at x.rules at ≡ b → pids_stop x s m kept ≡ pids_stop x s m pairs
    → pids_stop x s m (cond b (at ∷ kept) kept) ≡ pids_stop x s m (at ∷ pairs)
unfolding pids_stop
stop_by x s m at pairs kept true is same = ap (overflow_or at (pid_at x s m at)) same
stop_by x s m at pairs kept false is same =
    same ∙ sym (ap (λ o. overflow_or at o (pids_stop x s m pairs)) (no_pid_at x s m at is))

pub pids_stop_alone : (x : Rules) (s : State) (m : ℕ → PidMemory) (pairs : List ActionAt)
    → pids_stop x s m (filter (is_pid_at x.rules) pairs) ≡ pids_stop x s m pairs
pids_stop_alone x s m [] = refl
pids_stop_alone x s m (at ∷ pairs) =
    stop_by x s m at pairs (filter (is_pid_at x.rules) pairs) (is_pid_at x.rules at) refl (pids_stop_alone x s m pairs)

no_number : (number : ℕ) (o : Option Action) → is_pid o ≡ false → is_pid_action number o ≡ false
no_number number None h = refl
no_number number (Some action) h = no_number_what number action.what h
  where
    no_number_what : (number : ℕ) (what : What) → is_pid_what what ≡ false → is_pid_action number (Some (record { link = 0; what = what })) ≡ false
    no_number_what number (Constant q) h = refl
    no_number_what number (Curve curve) h = refl
    no_number_what number (Series series) h = refl
    no_number_what number (Pid set other) h = absurd (true≢false h)

no_number_at : (rules : List Rule) (number : ℕ) (at : ActionAt)
    → is_pid_at rules at ≡ false → is_pid_action number (action_at rules at) ≡ false
unfolding is_pid_at
no_number_at rules number at h = no_number number (action_at rules at) h

memory_by : (x : Rules) (s : State) (m : ℕ → PidMemory) (number : ℕ) (at : ActionAt) (pairs kept : List ActionAt) (b : Bool)
    → is_pid_at x.rules at ≡ b
    → memory_listed x s m number kept ≡ memory_listed x s m number pairs
    → memory_listed x s m number (cond b (at ∷ kept) kept) ≡ memory_listed x s m number (at ∷ pairs)
unfolding memory_listed
memory_by x s m number at pairs kept true is same =
    ap (λ later. cond (is_pid_action number (action_at x.rules at)) (memory_left (m number) (pid_at x s m at)) later) same
memory_by x s m number at pairs kept false is same =
    same
    ∙ sym (ap (λ b. cond b (memory_left (m number) (pid_at x s m at)) (memory_listed x s m number pairs)) (no_number_at x.rules number at is))

pub memory_listed_alone : (x : Rules) (s : State) (m : ℕ → PidMemory) (number : ℕ) (pairs : List ActionAt)
    → memory_listed x s m number (filter (is_pid_at x.rules) pairs) ≡ memory_listed x s m number pairs
memory_listed_alone x s m number [] = refl
memory_listed_alone x s m number (at ∷ pairs) =
    memory_by x s m number at pairs (filter (is_pid_at x.rules) pairs) (is_pid_at x.rules at) refl (memory_listed_alone x s m number pairs)

pub stop_of_pids : (x : Rules) (s : State) (m : ℕ → PidMemory)
    → pids_stop x s m (listed_pids x s) ≡ pids_stop x s m (listed x s)
unfolding listed_pids
stop_of_pids x s m = pids_stop_alone x s m (listed x s)

pub memory_of_pids : (x : Rules) (s : State) (m : ℕ → PidMemory) (number : ℕ)
    → memory_listed x s m number (listed_pids x s) ≡ memory_listed x s m number (listed x s)
unfolding listed_pids
memory_of_pids x s m number = memory_listed_alone x s m number (listed x s)

-- ---- the pairs of the rules that have a PID action
alone_what : (what : What) (at : ActionAt) → cond (is_pid_what what) (at ∷ []) [] ≡ pid_alone what at
alone_what (Constant q) at = refl
alone_what (Curve curve) at = refl
alone_what (Series series) at = refl
alone_what (Pid set number) at = refl

pub cond_front : {A : Type 0} (b : Bool) (one : A) (later : List A)
    → cond b (one ∷ later) later ≡ cond b (one ∷ []) [] ++ later
cond_front true one later = refl
cond_front false one later = refl

-- the actions from a place on stand in the branch of a rule
abbrev StandsFrom : {A : Type 0} → List A → ℕ → List A → Type 0
StandsFrom all at rest = (j : ℕ) → slice_get all (at + j) ≡ slice_get rest j

from_start : {A : Type 0} (all : List A) → StandsFrom all 0 all
from_start all j = let same : 0 + j ≡ j = omega arith in ap (slice_get all) same

first_of : {A : Type 0} (all : List A) (at : ℕ) (one : A) (more : List A)
    → StandsFrom all at (one ∷ more) → slice_get all at ≡ Some one
first_of all at one more h =
    let same : at + 0 ≡ at = omega arith in
    ap (slice_get all) (sym same) ∙ h 0

rest_of : {A : Type 0} (all : List A) (at : ℕ) (one : A) (more : List A)
    → StandsFrom all at (one ∷ more) → StandsFrom all (suc at) more
rest_of all at one more h = λ j.
    let same : suc at + j ≡ at + suc j = omega arith in
    ap (slice_get all) same ∙ h (suc j)

pid_here : (rules : List Rule) (number : ℕ) (branch : Branch) (action : ℕ) (row : Rule) (one : Action)
    → slice_get rules number ≡ Some row → slice_get (branch_actions row branch) action ≡ Some one
    → is_pid_at rules (record { rule = number; branch = branch; action = action }) ≡ is_pid_what one.what
unfolding is_pid_at action_at
pid_here rules number branch action row one has is =
    let at : ActionAt = record { rule = number; branch = branch; action = action } in
    ap (λ o. is_pid (branch_action at o)) has ∙ ap is_pid is

pids_of_branch : (rules : List Rule) (number : ℕ) (branch : Branch) (row : Rule) (action : ℕ) (actions : List Action)
    → slice_get rules number ≡ Some row → StandsFrom (branch_actions row branch) action actions
    → filter (is_pid_at rules) (places_of number branch action actions) ≡ pids_from number branch action actions
unfolding places_of pids_from
pids_of_branch rules number branch row action [] has stands = refl
pids_of_branch rules number branch row action (one ∷ more) has stands =
    let at : ActionAt = record { rule = number; branch = branch; action = action } in
    let later : List ActionAt = filter (is_pid_at rules) (places_of number branch (suc action) more) in
    cond_front (is_pid_at rules at) at later
    ∙ ap (λ b. cond b (at ∷ []) [] ++ later)
    (pid_here rules number branch action row one has (first_of (branch_actions row branch) action one more stands))
    ∙ ap (λ l. l ++ later) (alone_what one.what at)
    ∙ ap (λ l. pid_alone one.what at ++ l)
    (pids_of_branch rules number branch row (suc action) more has (rest_of (branch_actions row branch) action one more stands))

none_alone : (what : What) (at : ActionAt) → is_pid_what what ≡ false → pid_alone what at ≡ []
none_alone (Constant q) at h = refl
none_alone (Curve curve) at h = refl
none_alone (Series series) at h = refl
none_alone (Pid set number) at h = absurd (true≢false h)

left_false : (a b : Bool) → (a || b) ≡ false → a ≡ false
left_false true b h = absurd (true≢false h)
left_false false b h = refl

right_false : (a b : Bool) → (a || b) ≡ false → b ≡ false
right_false true b h = absurd (true≢false h)
right_false false b h = h

no_pids_from : (number : ℕ) (branch : Branch) (action : ℕ) (actions : List Action)
    → have_pid actions ≡ false → pids_from number branch action actions ≡ []
unfolding pids_from
no_pids_from number branch action [] h = refl
no_pids_from number branch action (one ∷ more) h =
    let at : ActionAt = record { rule = number; branch = branch; action = action } in
    ap (λ l. l ++ pids_from number branch (suc action) more)
    (none_alone one.what at (left_false (is_pid_what one.what) (have_pid more) h))
    ∙ no_pids_from number branch (suc action) more (right_false (is_pid_what one.what) (have_pid more) h)

none_in_branch : (rule : Rule) (branch : Branch) → has_pid rule ≡ false → have_pid (branch_actions rule branch) ≡ false
none_in_branch rule Then h = left_false (have_pid rule.then_actions) (have_pid rule.else_actions) h
none_in_branch rule Otherwise h = right_false (have_pid rule.then_actions) (have_pid rule.else_actions) h

step_by : (x : Rules) (s : State) (number : ℕ) (rule : Rule) (more : List Rule) (b : Bool)
    → has_pid rule ≡ b → slice_get x.rules number ≡ Some rule
    → pids_of x s (cond b (number ∷ pid_rules (suc number) more) (pid_rules (suc number) more))
    ≡ rule_pids x s number (Some rule) ++ pids_of x s (pid_rules (suc number) more)
unfolding pids_of
step_by x s number rule more true has is =
    ap (λ o. rule_pids x s number o ++ pids_of x s (pid_rules (suc number) more)) is
step_by x s number rule more false has is =
    let branch : Branch = listed_branch x s rule in
    sym (ap (λ l. l ++ pids_of x s (pid_rules (suc number) more))
    (no_pids_from number branch 0 (branch_actions rule branch) (none_in_branch rule branch has)))

pids_from_rules : (x : Rules) (s : State) (number : ℕ) (rules : List Rule)
    → StandsFrom x.rules number rules
    → pids_of x s (pid_rules number rules)
    ≡ filter (is_pid_at x.rules) (listed_by (λ place rule. listed_branch x s rule) number rules)
unfolding pid_rules pids_of listed_by
pids_from_rules x s number [] stands = refl
pids_from_rules x s number (rule ∷ more) stands =
    let branch : Branch = listed_branch x s rule in
    let later : List ActionAt = listed_by (λ (place : ℕ) (one : Rule). listed_branch x s one) (suc number) more in
    let is : slice_get x.rules number ≡ Some rule = first_of x.rules number rule more stands in
    step_by x s number rule more (has_pid rule) refl is
    ∙ ap (λ l. rule_pids x s number (Some rule) ++ l) (pids_from_rules x s (suc number) more (rest_of x.rules number rule more stands))
    ∙ ap (λ l. l ++ filter (is_pid_at x.rules) later)
    (sym (pids_of_branch x.rules number branch rule 0 (branch_actions rule branch) is (from_start (branch_actions rule branch))))
    ∙ sym (filter-append (is_pid_at x.rules) (places_of number branch 0 (branch_actions rule branch)) later)

pub pids_of_rules : (x : Rules) (s : State) → pids_of x s (pid_rules 0 x.rules) ≡ listed_pids x s
unfolding listed_pids listed
pids_of_rules x s = pids_from_rules x s 0 x.rules (from_start x.rules)

-- ---- their numbers are those of rules
pub pid_rules_within : (number : ℕ) (rules : List Rule) (at : ℕ) (one : ℕ)
    → slice_get (pid_rules number rules) at ≡ Some one → one < number + length rules
unfolding pid_rules
pid_rules_within number [] at one is = absurd (none-some one is)
pid_rules_within number (rule ∷ more) at one is = within_by number rule more at one (has_pid rule) (pid_rules_within (suc number) more) is
  where
    within_by : (number : ℕ) (rule : Rule) (more : List Rule) (at one : ℕ) (b : Bool)
        → ((at one : ℕ) → slice_get (pid_rules (suc number) more) at ≡ Some one → one < suc number + length more)
        → slice_get (cond b (number ∷ pid_rules (suc number) more) (pid_rules (suc number) more)) at ≡ Some one
        → one < number + suc (length more)
    within_by number rule more nothing one true rest is = let same : number ≡ one = grind arith in omega (arith, same)
    within_by number rule more (suc at) one true rest is = let h = rest at one is in omega (arith, h)
    within_by number rule more at one false rest is = let h = rest at one is in omega (arith, h)

-- ---- a reading lists no more of them than rules have
alone_counted : (what : What) (at : ActionAt) → length (pid_alone what at) ≡ length (pid_of what)
alone_counted (Constant q) at = refl
alone_counted (Curve curve) at = refl
alone_counted (Series series) at = refl
alone_counted (Pid set number) at = refl

from_counted : (number : ℕ) (branch : Branch) (action : ℕ) (actions : List Action)
    → length (pids_from number branch action actions) ≡ length (flat_map (λ (one : Action). pid_of one.what) actions)
unfolding pids_from
from_counted number branch action [] = refl
from_counted number branch action (one ∷ more) =
    let at : ActionAt = record { rule = number; branch = branch; action = action } in
    let first = length-append (pid_alone one.what at) (pids_from number branch (suc action) more) in
    let second = length-append (pid_of one.what) (flat_map (λ (one : Action). pid_of one.what) more) in
    let here = alone_counted one.what at in
    let later = from_counted number branch (suc action) more in
    omega (arith, first, second, here, later)

flat_length : (xs ys : List Action) → length (flat_map (λ (one : Action). pid_of one.what) (xs ++ ys)) ≡ length (flat_map (λ (one : Action). pid_of one.what) xs) + length (flat_map (λ (one : Action). pid_of one.what) ys)
flat_length [] ys = omega arith
flat_length (a ∷ xs) ys =
    let first = length-append (pid_of a.what) (flat_map (λ (one : Action). pid_of one.what) (xs ++ ys)) in
    let second = length-append (pid_of a.what) (flat_map (λ (one : Action). pid_of one.what) xs) in
    let later = flat_length xs ys in
    omega (arith, first, second, later)

branch_counted : (rule : Rule) (branch : Branch)
    → length (flat_map (λ (one : Action). pid_of one.what) (branch_actions rule branch))
    ≤ length (flat_map (λ (one : Action). pid_of one.what) (rule_actions rule))
branch_counted rule Then = let e = flat_length rule.then_actions rule.else_actions in omega (arith, e)
branch_counted rule Otherwise = let e = flat_length rule.then_actions rule.else_actions in omega (arith, e)

count_by : (x : Rules) (s : State) (number : ℕ) (rule : Rule) (more : List Rule)
    → length (pids_from number (listed_branch x s rule) 0 (branch_actions rule (listed_branch x s rule)))
    ≤ length (flat_map (λ (one : Action). pid_of one.what) (rule_actions rule))
count_by x s number rule more =
    let counted = from_counted number (listed_branch x s rule) 0 (branch_actions rule (listed_branch x s rule)) in
    let few = branch_counted rule (listed_branch x s rule) in
    omega (arith, counted, few)

count_from : (x : Rules) (s : State) (number : ℕ) (rules : List Rule)
    → StandsFrom x.rules number rules
    → length (filter (is_pid_at x.rules) (listed_by (λ place rule. listed_branch x s rule) number rules))
    ≤ pid_count rules
unfolding listed_by pid_count pid_numbers
count_from x s number [] stands = omega arith
count_from x s number (rule ∷ more) stands =
    let branch : Branch = listed_branch x s rule in
    let later : List ActionAt = listed_by (λ (place : ℕ) (one : Rule). listed_branch x s one) (suc number) more in
    let is : slice_get x.rules number ≡ Some rule = first_of x.rules number rule more stands in
    let split = ap (λ (l : List ActionAt). length l) (filter-append (is_pid_at x.rules) (places_of number branch 0 (branch_actions rule branch)) later) in
    let sum = length-append (filter (is_pid_at x.rules) (places_of number branch 0 (branch_actions rule branch))) (filter (is_pid_at x.rules) later) in
    let front = ap (λ (l : List ActionAt). length l) (pids_of_branch x.rules number branch rule 0 (branch_actions rule branch) is (from_start (branch_actions rule branch))) in
    let few = count_by x s number rule more in
    let rest = count_from x s (suc number) more (rest_of x.rules number rule more stands) in
    let total = length-append (flat_map (λ (one : Action). pid_of one.what) (rule_actions rule)) (flat_map (λ (row : Rule). flat_map (λ (one : Action). pid_of one.what) (rule_actions row)) more) in
    omega (arith, split, sum, front, few, rest, total)

pub pids_counted : (x : Rules) (s : State) → length (listed_pids x s) ≤ pid_count x.rules
unfolding listed_pids listed
pids_counted x s = count_from x s 0 x.rules (from_start x.rules)

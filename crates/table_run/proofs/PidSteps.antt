-- The loops that list PID actions.
use Rattle.std.proofs.Common.{◌≡◌, ℕ, suc, ◌+◌, ◌<◌, ◌≤◌, cond, Some, List, [], ◌∷◌, ◌++◌, length, get_or, drop, sym, ap, ◌∙◌, arith, append_assoc, add-one}
use Rattle.std.proofs.lemmas.List.{drop_more, drop_all, append-nil, length-append}
use Rattle.std.proofs.lemmas.Option.{slice_get-get_or, get_or_from_slice_get}
use Rattle.std.specs.Prelude.{slice_get}
use Rattle.rule_types.specs.declared.action.Action.{Action}
use Rattle.rule_types.specs.declared.action.ActionAt.{ActionAt}
use Rattle.rule_types.specs.declared.action.Branch.{Branch}
use Rattle.rule_types.specs.declared.rule.Rule.{Rule}
use Rattle.rule_types.specs.declared.rules.Rules.{Rules}
use Rattle.rule_types.specs.declared.state.State.{State}
use Rattle.rule_types.specs.Reading.{branch_actions}
use Rattle.rule_meaning.specs.Premise.{listed_branch}
use Rattle.table_run.specs.Pids.{listed_pids}
use Rattle.table_run.specs.internal.PidRules.{has_pid, pid_rules, pid_alone, pids_from, rule_pids, pids_of}
use Rattle.table_run.proofs.PidPairs.{cond_front, pids_of_rules, pid_rules_within}

drop_item : {A : Type 0} (xs : List A) (k : ℕ) (one : A) → k < length xs → one ≡ get_or xs k one
    → drop k xs ≡ one ∷ drop (k + 1) xs
drop_item xs k one within is = drop_more xs k one within ∙ ap (λ d. d ∷ drop (k + 1) xs) (sym is)

-- ---- the rules that have a PID action
rules_cons : (k : ℕ) (rule : Rule) (more : List Rule)
    → pid_rules k (rule ∷ more) ≡ cond (has_pid rule) (k ∷ []) [] ++ pid_rules (k + 1) more
unfolding pid_rules
rules_cons k rule more =
    cond_front (has_pid rule) k (pid_rules (suc k) more)
    ∙ ap (λ n. cond (has_pid rule) (k ∷ []) [] ++ pid_rules n more) (sym (add-one k))

pub rules_step : (rules : List Rule) (k : ℕ) (row : Rule) (start now new : List ℕ)
    → k < length rules → row ≡ get_or rules k row
    → now ++ pid_rules k (drop k rules) ≡ start
    → new ≡ now ++ cond (has_pid row) (k ∷ []) []
    → new ++ pid_rules (k + 1) (drop (k + 1) rules) ≡ start
rules_step rules k row start now new within is goes pushed =
    ap (λ l. l ++ pid_rules (k + 1) (drop (k + 1) rules)) pushed
    ∙ append_assoc now (cond (has_pid row) (k ∷ []) []) (pid_rules (k + 1) (drop (k + 1) rules))
    ∙ ap (λ l. now ++ l) (sym (rules_cons k row (drop (k + 1) rules)))
    ∙ ap (λ l. now ++ pid_rules k l) (sym (drop_item rules k row within is))
    ∙ goes

pub rules_end : (rules : List Rule) (k : ℕ) (start now : List ℕ) → length rules ≤ k
    → now ++ pid_rules k (drop k rules) ≡ start → now ≡ start
unfolding pid_rules
rules_end rules k start now past goes =
    sym (append-nil now) ∙ ap (λ l. now ++ pid_rules k l) (sym (drop_all k rules past)) ∙ goes

-- ---- the PID actions of a branch
from_cons : (rule : ℕ) (branch : Branch) (action : ℕ) (one : Action) (more : List Action)
    → pids_from rule branch action (one ∷ more)
    ≡ pid_alone one.what (record { rule = rule; branch = branch; action = action }) ++ pids_from rule branch (action + 1) more
unfolding pids_from
from_cons rule branch action one more =
    ap (λ n. pid_alone one.what (record { rule = rule; branch = branch; action = action }) ++ pids_from rule branch n more)
    (sym (add-one action))

from_drop : (rule : ℕ) (branch : Branch) (actions : List Action) (k : ℕ) (one : Action)
    → k < length actions → one ≡ get_or actions k one
    → pids_from rule branch k (drop k actions)
    ≡ pid_alone one.what (record { rule = rule; branch = branch; action = k }) ++ pids_from rule branch (k + 1) (drop (k + 1) actions)
from_drop rule branch actions k one within is =
    ap (pids_from rule branch k) (drop_item actions k one within is) ∙ from_cons rule branch k one (drop (k + 1) actions)

pub branch_step : (rule : ℕ) (branch : Branch) (actions : List Action) (k : ℕ) (one : Action)
    (start now new : List ActionAt)
    → k < length actions → one ≡ get_or actions k one
    → now ++ pids_from rule branch k (drop k actions) ≡ start
    → new ≡ now ++ pid_alone one.what (record { rule = rule; branch = branch; action = k })
    → new ++ pids_from rule branch (k + 1) (drop (k + 1) actions) ≡ start
branch_step rule branch actions k one start now new within is goes pushed =
    ap (λ l. l ++ pids_from rule branch (k + 1) (drop (k + 1) actions)) pushed
    ∙ append_assoc now (pid_alone one.what (record { rule = rule; branch = branch; action = k })) (pids_from rule branch (k + 1) (drop (k + 1) actions))
    ∙ ap (λ l. now ++ l) (sym (from_drop rule branch actions k one within is))
    ∙ goes

pub branch_room : (rule : ℕ) (branch : Branch) (actions : List Action) (k : ℕ) (one : Action)
    (before now : List ActionAt) (cap : ℕ)
    → k < length actions → one ≡ get_or actions k one
    → now ++ pids_from rule branch k (drop k actions) ≡ before ++ pids_from rule branch 0 actions
    → length before + length (pids_from rule branch 0 actions) ≤ cap
    → length now + length (pid_alone one.what (record { rule = rule; branch = branch; action = k })) ≤ cap
branch_room rule branch actions k one before now cap within is goes room =
    let at : ActionAt = record { rule = rule; branch = branch; action = k } in
    let left = length-append now (pids_from rule branch k (drop k actions)) in
    let right = length-append before (pids_from rule branch 0 actions) in
    let same = ap (λ (l : List ActionAt). length l) goes in
    let split = ap (λ (l : List ActionAt). length l) (from_drop rule branch actions k one within is) in
    let sum = length-append (pid_alone one.what at) (pids_from rule branch (k + 1) (drop (k + 1) actions)) in
    omega (arith, left, right, same, split, sum, room)

pub branch_end : (rule : ℕ) (branch : Branch) (actions : List Action) (k : ℕ) (start now : List ActionAt)
    → length actions ≤ k → now ++ pids_from rule branch k (drop k actions) ≡ start → now ≡ start
unfolding pids_from
branch_end rule branch actions k start now past goes =
    sym (append-nil now) ∙ ap (λ l. now ++ pids_from rule branch k l) (sym (drop_all k actions past)) ∙ goes

-- ---- the PID actions of a rule
pub one_rule : (x : Rules) (s : State) (number : ℕ) (row : Rule) (branch : Branch)
    (now new : List ActionAt)
    → number < length x.rules → row ≡ get_or x.rules number row
    → ((one : Rule) → slice_get x.rules number ≡ Some one → branch ≡ listed_branch x s one)
    → new ≡ now ++ pids_from number branch 0 (branch_actions row branch)
    → new ≡ now ++ rule_pids x s number (slice_get x.rules number)
one_rule x s number row branch now new within is lists pushed =
    let here : slice_get x.rules number ≡ Some row = slice_get-get_or x.rules number row within ∙ ap Some (sym is) in
    pushed
    ∙ ap (λ b. now ++ pids_from number b 0 (branch_actions row b)) (lists row here)
    ∙ ap (λ o. now ++ rule_pids x s number o) (sym here)

pub rule_room : (x : Rules) (s : State) (number : ℕ) (row : Rule) (branch : Branch) (len cap : ℕ)
    → number < length x.rules → row ≡ get_or x.rules number row
    → ((one : Rule) → slice_get x.rules number ≡ Some one → branch ≡ listed_branch x s one)
    → len + length (rule_pids x s number (slice_get x.rules number)) ≤ cap
    → len + length (pids_from number branch 0 (branch_actions row branch)) ≤ cap
rule_room x s number row branch len cap within is lists room =
    let here : slice_get x.rules number ≡ Some row = slice_get-get_or x.rules number row within ∙ ap Some (sym is) in
    let same : length (rule_pids x s number (slice_get x.rules number)) ≡ length (pids_from number branch 0 (branch_actions row branch)) =
    ap (λ o. length (rule_pids x s number o)) here
    ∙ ap (λ b. length (pids_from number b 0 (branch_actions row b))) (sym (lists row here)) in
    omega (arith, same, room)

-- ---- the PID actions of the rules of some numbers
pids_drop : (x : Rules) (s : State) (numbers : List ℕ) (k : ℕ) (number : ℕ)
    → k < length numbers → number ≡ get_or numbers k number
    → pids_of x s (drop k numbers)
    ≡ rule_pids x s number (slice_get x.rules number) ++ pids_of x s (drop (k + 1) numbers)
unfolding pids_of
pids_drop x s numbers k number within is = ap (pids_of x s) (drop_item numbers k number within is)

pub pids_step : (x : Rules) (s : State) (numbers : List ℕ) (k : ℕ) (number : ℕ) (start now new : List ActionAt)
    → k < length numbers → number ≡ get_or numbers k number
    → now ++ pids_of x s (drop k numbers) ≡ start
    → new ≡ now ++ rule_pids x s number (slice_get x.rules number)
    → new ++ pids_of x s (drop (k + 1) numbers) ≡ start
pids_step x s numbers k number start now new within is goes pushed =
    ap (λ l. l ++ pids_of x s (drop (k + 1) numbers)) pushed
    ∙ append_assoc now (rule_pids x s number (slice_get x.rules number)) (pids_of x s (drop (k + 1) numbers))
    ∙ ap (λ l. now ++ l) (sym (pids_drop x s numbers k number within is))
    ∙ goes

pub pids_room : (x : Rules) (s : State) (numbers : List ℕ) (k : ℕ) (number : ℕ) (now : List ActionAt) (least cap : ℕ)
    → k < length numbers → number ≡ get_or numbers k number
    → now ++ pids_of x s (drop k numbers) ≡ listed_pids x s
    → length (listed_pids x s) ≤ least → least ≤ cap
    → length now + length (rule_pids x s number (slice_get x.rules number)) ≤ cap
pids_room x s numbers k number now least cap within is goes few room =
    let left = length-append now (pids_of x s (drop k numbers)) in
    let same = ap (λ (l : List ActionAt). length l) goes in
    let split = ap (λ (l : List ActionAt). length l) (pids_drop x s numbers k number within is) in
    let sum = length-append (rule_pids x s number (slice_get x.rules number)) (pids_of x s (drop (k + 1) numbers)) in
    omega (arith, left, same, split, sum, few, room)

pub pids_end : (x : Rules) (s : State) (numbers : List ℕ) (k : ℕ) (start now : List ActionAt)
    → length numbers ≤ k → now ++ pids_of x s (drop k numbers) ≡ start → now ≡ start
unfolding pids_of
pids_end x s numbers k start now past goes =
    sym (append-nil now) ∙ ap (λ l. now ++ pids_of x s l) (sym (drop_all k numbers past)) ∙ goes

pub pids_start : (x : Rules) (s : State) (numbers : List ℕ) → numbers ≡ pid_rules 0 x.rules
    → pids_of x s numbers ≡ listed_pids x s
pids_start x s numbers is = ap (pids_of x s) is ∙ pids_of_rules x s

pub number_within : (x : Rules) (numbers : List ℕ) (k : ℕ) (number : ℕ) → numbers ≡ pid_rules 0 x.rules
    → k < length numbers → number ≡ get_or numbers k number → number < length x.rules
number_within x numbers k number same within is =
    let here : slice_get numbers k ≡ Some number = slice_get-get_or numbers k number within ∙ ap Some (sym is) in
    let h = pid_rules_within 0 x.rules k number (ap (λ l. slice_get l k) (sym same) ∙ here) in
    omega (arith, h)

-- ---- items by their places
pub same_item : {A : Type 0} (xs : List A) (k : ℕ) (d e : A) → k < length xs → get_or xs k d ≡ get_or xs k e
same_item xs k d e within =
    get_or_from_slice_get xs k (get_or xs k e) d (slice_get-get_or xs k e within)

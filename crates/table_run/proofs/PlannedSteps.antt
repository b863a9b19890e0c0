-- One reading by planned tables.
use Rattle.std.proofs.Common.{◌≡◌, ℕ, ◌≤◌, Bool, Option, Result, List, ◌++◌, length, take, map, sym, ap, subst, ◌∙◌, arith}
use Rattle.std.proofs.lemmas.List.{take-append-le, take_all}
use Rattle.std.specs.Prelude.{slice_get}
use Rattle.rule_types.specs.declared.action.ActionAt.{ActionAt}
use Rattle.rule_types.specs.declared.action.PidMemory.{PidMemory}
use Rattle.rule_types.specs.declared.rules.Rules.{Rules}
use Rattle.rule_types.specs.declared.state.State.{State}
use Rattle.rule_types.specs.declared.stop.Stop.{Stop}
use Rattle.rule_types.specs.Reading.{pid_count}
use Rattle.rule_types.specs.WellFormed.{WellFormed}
use Rattle.rule_meaning.specs.History.{memory_listed}
use Rattle.rule_meaning.specs.Premise.{listed}
use Rattle.rule_meaning.specs.Reading.{conditions_at, pids_stop, unless_stopped}
use Rattle.premise_eval.specs.declared.column.Column.{Column}
use Rattle.table_compiler.specs.Meaning.{condition_holds}
use Rattle.table_plan.specs.Plan.{Plan, pieces_of}
use Rattle.table_plan.specs.Told.{told_at}
use Rattle.table_run.specs.Kits.{PlannedKit, IsPlanned, HasPidRoom}
use Rattle.table_run.specs.Pids.{listed_pids}
use Rattle.table_run.specs.Planned.{value_read, planned, AreFirsts}
use Rattle.table_run.specs.internal.Truths.{StateOfRules}
use Rattle.table_run.proofs.PidPairs.{stop_of_pids, memory_of_pids, pids_counted}
use Rattle.table_run.proofs.PlannedChoices.{firsts_planned}

-- ---- a list that was lent
pub taken : {A : Type 0} (n : ℕ) (xs ys : List A) → length xs ≡ n → take n (xs ++ ys) ≡ xs
taken n xs ys long = take-append-le n xs ys (omega (arith, long)) ∙ take_all n xs (omega (arith, long))

-- ---- the pairs of a reading
abbrev pub truth_of : StateOfRules → ActionAt → ℕ → Bool
truth_of truths at place =
    condition_holds truths.rules truths.state (slice_get (conditions_at truths.rules.rules at) place)

same_truth : (x : Rules) (s : State) (truths : StateOfRules) → truths.rules ≡ x → truths.state ≡ s
    → truth_of truths ≡ (told_at x s).truth
same_truth x s truths rules state =
    λ i at place. condition_holds (rules i) (state i) (slice_get (conditions_at (rules i).rules at) place)

pub next_is : (x : Rules) (s : State) (among : List Column) (kit : PlannedKit) (plan : Plan) (pieces fresh : List (Option ℕ))
    (firsts next : List (Option ActionAt)) (truths : StateOfRules)
    → WellFormed x → IsPlanned x among kit
    → plan ≡ kit.plan → pieces ≡ kit.pieces → firsts ≡ kit.firsts
    → fresh ≡ pieces_of plan.columns (value_read x s)
    → truths.rules ≡ x → truths.state ≡ s
    → length next ≡ length firsts
    → ((other : ActionAt → ℕ → Bool) → AreFirsts plan pieces other firsts → AreFirsts plan fresh (truth_of truths) next)
    → next ≡ map (planned x kit.plan s) x.controlled
next_is x s among kit plan pieces fresh firsts next truths formed serves same_plan same_pieces same_firsts read rules state long orders =
    let truth = serves.kept.truth in
    let one : AreFirsts plan kit.pieces truth kit.firsts = subst (λ (p : Plan). AreFirsts p kit.pieces truth kit.firsts) (sym same_plan) serves.kept.are in
    let two : AreFirsts plan pieces truth kit.firsts = subst (λ (l : List (Option ℕ)). AreFirsts plan l truth kit.firsts) (sym same_pieces) one in
    let three : AreFirsts plan pieces truth firsts = subst (λ (l : List (Option ActionAt)). AreFirsts plan pieces truth l) (sym same_firsts) two in
    let now : AreFirsts plan fresh (truth_of truths) next = orders truth three in
    let there : AreFirsts plan (pieces_of plan.columns (value_read x s)) (truth_of truths) next =
    subst (λ (l : List (Option ℕ)). AreFirsts plan l (truth_of truths) next) read now in
    let many : length next ≡ length x.controlled = long ∙ ap (λ (l : List (Option ActionAt)). length l) same_firsts ∙ serves.firsts in
    firsts_planned x plan s (truth_of truths) next formed (same_truth x s truths rules state) many there
    ∙ ap (λ (p : Plan). map (planned x p s) x.controlled) same_plan

-- ---- the listed PID actions
pub stop_whole : {A : Type 0} (x : Rules) (s : State) (m : ℕ → PidMemory) (pairs : List ActionAt) (rest : Result A Stop)
    → pairs ≡ listed_pids x s
    → unless_stopped (pids_stop x s m pairs) rest ≡ unless_stopped (pids_stop x s m (listed x s)) rest
stop_whole x s m pairs rest are =
    ap (λ o. unless_stopped o rest) (ap (pids_stop x s m) are ∙ stop_of_pids x s m)

pub memory_whole : (x : Rules) (s : State) (m : ℕ → PidMemory) (number : ℕ) (pairs : List ActionAt)
    → pairs ≡ listed_pids x s
    → memory_listed x s m number pairs ≡ memory_listed x s m number (listed x s)
memory_whole x s m number pairs are =
    ap (memory_listed x s m number) are ∙ memory_of_pids x s m number

pub room_open : (x : Rules) (room : ℕ) → HasPidRoom x room → (s : State) → length (listed_pids x s) ≤ room
unfolding HasPidRoom
room_open x room has = has

pub room_grown : (x : Rules) (room more : ℕ) → HasPidRoom x room → room ≤ more → HasPidRoom x more
unfolding HasPidRoom
room_grown x room more has least = λ s. let h = has s in omega (arith, h, least)

pub room_made : (x : Rules) (count room : ℕ) → count ≡ pid_count x.rules → count ≤ room → HasPidRoom x room
unfolding HasPidRoom
room_made x count room is least = λ s. let h = pids_counted x s in omega (arith, h, is, least)

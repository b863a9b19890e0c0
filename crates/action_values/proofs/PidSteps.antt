-- The pass over listed pairs, from the last to the first.
use Rattle.std.proofs.Common.{◌≡◌, ◌≢◌, ℕ, ◌+◌, ◌<◌, ◌≤◌, ◌==◌, eqb, Bool, true, false, cond, Option, Some, None, List, length, get_or, set, drop, refl, sym, ap, subst, ◌∙◌, arith}
use Rattle.std.proofs.lemmas.Bool.Decides.{nat_tests}
use Rattle.std.proofs.lemmas.List.{get_or-set_same, get_or-set_other, drop_more, drop_all}
use Rattle.std.specs.Prelude.{IfSome}
use Rattle.rule_types.specs.declared.rule.Rule.{Rule}
use Rattle.rule_types.specs.Tables.{TableSet}
use Rattle.rule_types.specs.Fitting.{PidFits, PairCounted, ActionReady, PairReady}
use Rattle.rule_types.specs.declared.action.Action.{Action}
use Rattle.rule_types.specs.declared.action.ActionAt.{ActionAt}
use Rattle.rule_types.specs.declared.action.PidMemory.{PidMemory}
use Rattle.rule_types.specs.declared.action.PidSet.{PidSet}
use Rattle.rule_types.specs.declared.action.What.{What}
use Rattle.rule_types.specs.declared.action.What.TheVariants.{Constant, Curve, Series, Pid}
use Rattle.rule_types.specs.declared.rules.Rules.{Rules}
use Rattle.rule_types.specs.declared.state.State.{State}
use Rattle.rule_types.specs.declared.stop.Stop.{Stop}
use Rattle.rule_meaning.specs.History.{is_pid_what, is_pid_action, memory_left, memory_listed}
use Rattle.rule_meaning.specs.Memories.{memory_of}
use Rattle.rule_meaning.specs.Pid.{fresh}
use Rattle.rule_meaning.specs.Reading.{conditions_at, overflow_at, overflow_or, pid_what, pid_action, pid_at, pids_stop}
use Rattle.rule_meaning.specs.Settled.{action_at}
use Rattle.rule_meaning.specs.Worth.{rule_pid}

-- another action than a PID
abbrev pub IsQuiet : What → Type 0
IsQuiet (Constant q) = Unit {0}
IsQuiet (Curve curve) = Unit {0}
IsQuiet (Series series) = Unit {0}
IsQuiet (Pid set number) = ⊥

quiet_what : (x : Rules) (s : State) (m : ℕ → PidMemory) (at : ActionAt) (link : ℕ) (w : What)
    → IsQuiet w → pid_what x s m (conditions_at x.rules at) link w ≡ None
quiet_what x s m at link (Constant q) h = refl
quiet_what x s m at link (Curve curve) h = refl
quiet_what x s m at link (Series series) h = refl
quiet_what x s m at link (Pid set number) h = absurd h

quiet_number : (number : ℕ) (w : What) → IsQuiet w → is_pid_what number w ≡ false
quiet_number number (Constant q) h = refl
quiet_number number (Curve curve) h = refl
quiet_number number (Series series) h = refl
quiet_number number (Pid set other) h = absurd h

pub quiet_over : (x : Rules) (s : State) (m : ℕ → PidMemory) (at : ActionAt) (action : Action)
    (w : What) (later : Option Stop)
    → action_at x.rules at ≡ Some action → action.what ≡ w → IsQuiet w
    → overflow_or at (pid_at x s m at) later ≡ later
unfolding pid_at
quiet_over x s m at action w later is what quiet =
    ap (λ o. overflow_or at (pid_action x s m (conditions_at x.rules at) o) later) is
    ∙ ap (λ o. overflow_or at o later)
    (ap (pid_what x s m (conditions_at x.rules at) action.link) what ∙ quiet_what x s m at action.link w quiet)

pub quiet_memory : (x : Rules) (s : State) (m : ℕ → PidMemory) (at : ActionAt) (action : Action)
    (w : What) (number : ℕ) (left stays : PidMemory)
    → action_at x.rules at ≡ Some action → action.what ≡ w → IsQuiet w
    → stays ≡ cond (is_pid_action number (action_at x.rules at)) left stays
quiet_memory x s m at action w number left stays is what quiet =
    sym (ap (λ t. cond t left stays)
    (ap (is_pid_action number) is ∙ ap (is_pid_what number) what ∙ quiet_number number w quiet))

pub none_over : (x : Rules) (s : State) (m : ℕ → PidMemory) (at : ActionAt) (later : Option Stop)
    → action_at x.rules at ≡ None → overflow_or at (pid_at x s m at) later ≡ later
unfolding pid_at
none_over x s m at later is =
    ap (λ o. overflow_or at (pid_action x s m (conditions_at x.rules at) o) later) is

pub none_memory : (x : Rules) (at : ActionAt) (number : ℕ) (left stays : PidMemory)
    → action_at x.rules at ≡ None
    → stays ≡ cond (is_pid_action number (action_at x.rules at)) left stays
none_memory x at number left stays is = sym (ap (λ o. cond (is_pid_action number o) left stays) is)

pub pid_is : (x : Rules) (s : State) (m : ℕ → PidMemory) (at : ActionAt) (action : Action)
    (set' : PidSet) (number : ℕ)
    → action_at x.rules at ≡ Some action → action.what ≡ Pid set' number
    → pid_at x s m at ≡ Some (rule_pid x s m (conditions_at x.rules at) action.link set' number)
unfolding pid_at
pid_is x s m at action set' number is what =
    ap (pid_action x s m (conditions_at x.rules at)) is
    ∙ ap (pid_what x s m (conditions_at x.rules at) action.link) what

pub pid_over : (x : Rules) (s : State) (m : ℕ → PidMemory) (at : ActionAt) (action : Action)
    (set' : PidSet) (number : ℕ) (later : Option Stop) (over : Bool)
    → action_at x.rules at ≡ Some action → action.what ≡ Pid set' number
    → overflow_or at (Some (rule_pid x s m (conditions_at x.rules at) action.link set' number)) later
    ≡ cond over (Some (overflow_at at)) later
    → overflow_or at (pid_at x s m at) later ≡ cond over (Some (overflow_at at)) later
pid_over x s m at action set' number later over is what told =
    ap (λ o. overflow_or at o later) (pid_is x s m at action set' number is what) ∙ told

pub pid_memory : (x : Rules) (s : State) (before after : List PidMemory) (at : ActionAt)
    (action : Action) (set' : PidSet) (n number : ℕ) (new : List PidMemory)
    → action_at x.rules at ≡ Some action → action.what ≡ Pid set' n → n < length after
    → new ≡ set after n (memory_left (memory_of before n)
    (Some (rule_pid x s (memory_of before) (conditions_at x.rules at) action.link set' n)))
    → memory_of new number
    ≡ cond (is_pid_action number (action_at x.rules at))
    (memory_left (memory_of before number) (pid_at x s (memory_of before) at))
    (memory_of after number)
pid_memory x s before after at action set' n number new is what within written =
    by_test (eqb number n) refl
  where
    asked : is_pid_action number (action_at x.rules at) ≡ (number == n)
    asked = ap (is_pid_action number) is ∙ ap (is_pid_what number) what

    by_test : (t : Bool) → eqb number n ≡ t → memory_of new number ≡ cond (is_pid_action number (action_at x.rules at)) (memory_left (memory_of before number) (pid_at x s (memory_of before) at)) (memory_of after number)
    by_test true e =
        let same : number ≡ n = grind (arith, nat_tests) in
        ap (λ l. memory_of l number) written
        ∙ ap (λ k. memory_of (set after n (memory_left (memory_of before n) (Some (rule_pid x s (memory_of before) (conditions_at x.rules at) action.link set' n)))) k) same
        ∙ get_or-set_same after n (memory_left (memory_of before n) (Some (rule_pid x s (memory_of before) (conditions_at x.rules at) action.link set' n))) fresh within
        ∙ ap (λ o. memory_left (memory_of before n) o) (sym (pid_is x s (memory_of before) at action set' n is what))
        ∙ ap (λ k. memory_left (memory_of before k) (pid_at x s (memory_of before) at)) (sym same)
        ∙ sym (ap (λ t. cond t (memory_left (memory_of before number) (pid_at x s (memory_of before) at)) (memory_of after number)) (asked ∙ e))
    by_test false e =
        let apart : number ≢ n = grind (arith, nat_tests) in
        ap (λ l. memory_of l number) written
        ∙ get_or-set_other after n number (memory_left (memory_of before n) (Some (rule_pid x s (memory_of before) (conditions_at x.rules at) action.link set' n))) fresh apart
        ∙ sym (ap (λ t. cond t (memory_left (memory_of before number) (pid_at x s (memory_of before) at)) (memory_of after number)) (asked ∙ e))

-- ---- one more pair at the front
pub stop_step : (x : Rules) (s : State) (m : ℕ → PidMemory) (pairs : List ActionAt) (k : ℕ)
    (d : ActionAt) (over : Bool) (later now : Option Stop)
    → k < length pairs
    → ((l : Option Stop) → overflow_or (get_or pairs k d) (pid_at x s m (get_or pairs k d)) l
    ≡ cond over (Some (overflow_at (get_or pairs k d))) l)
    → later ≡ pids_stop x s m (drop (k + 1) pairs)
    → now ≡ cond over (Some (overflow_at (get_or pairs k d))) later
    → now ≡ pids_stop x s m (drop k pairs)
unfolding pids_stop
stop_step x s m pairs k d over later now within told is step =
    step ∙ sym (told later)
    ∙ ap (overflow_or (get_or pairs k d) (pid_at x s m (get_or pairs k d))) is
    ∙ ap (pids_stop x s m) (sym (drop_more pairs k d within))

pub memory_step : (x : Rules) (s : State) (m : ℕ → PidMemory) (pairs : List ActionAt) (k : ℕ)
    (d : ActionAt) (number : ℕ) (old new : PidMemory)
    → k < length pairs
    → new ≡ cond (is_pid_action number (action_at x.rules (get_or pairs k d)))
    (memory_left (m number) (pid_at x s m (get_or pairs k d))) old
    → old ≡ memory_listed x s m number (drop (k + 1) pairs)
    → new ≡ memory_listed x s m number (drop k pairs)
unfolding memory_listed
memory_step x s m pairs k d number old new within step is =
    step
    ∙ ap (λ y. cond (is_pid_action number (action_at x.rules (get_or pairs k d))) (memory_left (m number) (pid_at x s m (get_or pairs k d))) y) is
    ∙ ap (memory_listed x s m number) (sym (drop_more pairs k d within))

pub stop_end : (x : Rules) (s : State) (m : ℕ → PidMemory) (pairs : List ActionAt) (k : ℕ)
    → length pairs ≤ k → None ≡ pids_stop x s m (drop k pairs)
unfolding pids_stop
stop_end x s m pairs k past = ap (pids_stop x s m) (sym (drop_all k pairs past))

pub memory_end : (x : Rules) (s : State) (before after : List PidMemory) (pairs : List ActionAt)
    (k number : ℕ)
    → length pairs ≤ k → after ≡ before
    → memory_of after number ≡ memory_listed x s (memory_of before) number (drop k pairs)
unfolding memory_listed
memory_end x s before after pairs k number past same =
    ap (λ l. memory_of l number) same
    ∙ ap (memory_listed x s (memory_of before) number) (sym (drop_all k pairs past))

pub counted_is : (rules : List Rule) (count : ℕ) (at : ActionAt) (action : Action)
    → PairCounted rules count at → Some action ≡ action_at rules at → PidFits count action.what
unfolding PairCounted
counted_is rules count at action counted is =
    subst (λ o. IfSome o (λ (one : Action). PidFits count one.what)) (sym is) counted

pub ready_is : (rules : List Rule) (tables : TableSet) (count : ℕ) (at : ActionAt) (action : Action)
    → PairReady rules tables count at → Some action ≡ action_at rules at
    → ActionReady tables count action
unfolding PairReady
ready_is rules tables count at action ready is =
    subst (λ o. IfSome o (ActionReady tables count)) (sym is) ready

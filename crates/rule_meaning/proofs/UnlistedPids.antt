-- A PID action that is not listed keeps its memory.
use Rattle.std.proofs.Common.{◌≡◌, ℕ, suc, Bool, true, false, Result, Ok, Err, List, [], ◌∷◌}
use Rattle.std.proofs.Common.{refl, arith, cond}
use Rattle.std.specs.List.{All}
use Rattle.rule_types.specs.declared.action.ActionAt.{ActionAt}
use Rattle.rule_types.specs.declared.action.Order.{Order}
use Rattle.rule_types.specs.declared.action.PidMemory.{PidMemory}
use Rattle.rule_types.specs.declared.rules.Rules.{Rules}
use Rattle.rule_types.specs.declared.state.State.{State}
use Rattle.rule_types.specs.declared.stop.Stop.{Stop}
use Rattle.rule_types.specs.Tables.{TableSet}
use Rattle.rule_meaning.specs.History.{is_due, is_pid_action, memory_listed, memory_read, memory}
use Rattle.rule_meaning.specs.Premise.{listed}
use Rattle.rule_meaning.specs.Reading.{read}
use Rattle.rule_meaning.specs.Settled.{action_at}

-- no pair is the PID action of a number
abbrev NoneIs : Rules → ℕ → List ActionAt → Type 0
NoneIs x number = All (λ at. is_pid_action number (action_at x.rules at) ≡ false)

unlisted_stays : (x : Rules) (s : State) (before : ℕ → PidMemory) (number : ℕ)
    (pairs : List ActionAt) → NoneIs x number pairs
    → memory_listed x s before number pairs ≡ before number
unfolding memory_listed
unlisted_stays x s before number [] h = refl
unlisted_stays x s before number (at ∷ more) h =
    rw (h 0 at (omega arith))
    (unlisted_stays x s before number more (λ k d k_in. h (suc k) d (omega (arith, k_in))))

unlisted_read : (x : Rules) (s : State) (before : ℕ → PidMemory) (number : ℕ)
    (answer : Result (List Order) Stop) → NoneIs x number (listed x s)
    → memory_read x s before number answer ≡ before number
unlisted_read x s before number (Ok orders) h = unlisted_stays x s before number (listed x s) h
unlisted_read x s before number (Err stop) h = refl

either_way : {A : Type 0} (b : Bool) (left right : A) → left ≡ right → cond b left right ≡ right
either_way true left right e = e
either_way false left right e = refl

pub unlisted_keeps : (x : Rules) (tables : TableSet) (older : List State) (s : State) (number : ℕ)
    → NoneIs x number (listed x s)
    → memory x tables (s ∷ older) number ≡ memory x tables older number
unlisted_keeps x tables older s number h =
    either_way (is_due x.rule_step older s) _ _
    (unlisted_read x s (memory x tables older) number (read x tables s (memory x tables older)) h)

-- The errors that a PID action keeps.
use Rattle.std.proofs.Common.{ℕ, Bool, true, false, Option, Some, None, Result, Ok, Err, List, [], ◌∷◌, pos, inl, inr, refl, sym, subst, cond}
use Rattle.std.specs.Prelude.{IfOk}
use Rattle.std.proofs.lemmas.Nat.Gcd.{mod-eq-zero_of_dvd}
use Rattle.exact_fraction.specs.Number.{Rational, den, whole, fits, zero, one}
use Rattle.exact_fraction.specs.Order.{same}
use Rattle.exact_fraction.specs.Operations.{sum_of, difference_of, quotient_of, negation_of, round9_of}
use Rattle.exact_fraction.specs.Checked.{checked, is_zero}
use Rattle.exact_fraction.specs.declared.error.Overflow.{Overflow}
use Rattle.exact_fraction.proofs.PublicLaws.{lowest_terms-of_whole, lowest_terms-of_sign, lowest_terms-of_rounding, rounding-divides, tells-checked}
use Rattle.rule_types.specs.declared.action.Action.{Action}
use Rattle.rule_types.specs.declared.action.ActionAt.{ActionAt}
use Rattle.rule_types.specs.declared.action.Order.{Order}
use Rattle.rule_types.specs.declared.action.PidMemory.{PidMemory}
use Rattle.rule_types.specs.declared.action.PidSet.{PidSet}
use Rattle.rule_types.specs.declared.action.What.{What}
use Rattle.rule_types.specs.declared.action.What.TheVariants.{Constant, Curve, Series, Pid}
use Rattle.rule_types.specs.declared.condition.Condition.{Condition}
use Rattle.rule_types.specs.declared.rules.Rules.{Rules}
use Rattle.rule_types.specs.declared.state.State.{State}
use Rattle.rule_types.specs.declared.stop.Stop.{Stop}
use Rattle.rule_types.specs.Tables.{TableSet}
use Rattle.rule_meaning.specs.CheckedSteps.{◌>>=◌}
use Rattle.rule_meaning.specs.Settled.{action_at}
use Rattle.rule_meaning.specs.Premise.{listed}
use Rattle.rule_meaning.specs.Worth.{controller_of, set_point_of, old_target, is_pump, minutes_of, pid_worth, rule_pid}
use Rattle.rule_meaning.specs.Reading.{Choice, conditions_at, pid_what, pid_action, pid_at, read_by}
use Rattle.rule_meaning.specs.History.{is_due, is_pid_action, memory_left, memory_listed, memory_read, memory_by}
use Rattle.rule_meaning.specs.Pid.{fresh, is_tiny, relative_error, error_of, unstuck, change_of, Stepped, IsKeptError, IsKept, pid_step}

-- a chain of steps of which each gives what the next one needs
pub chain : {A B E : Type 0} (P : A → Type 0) (Q : B → Type 0) (r : Result A E) (next : A → Result B E) → IfOk r P → ((a : A) → P a → IfOk (next a) Q) → IfOk (r >>= next) Q
chain P Q (Ok a) next h g = g a h
chain P Q (Err why) next h g = tt

any_step : {A B E : Type 0} (Q : B → Type 0) (r : Result A E) (next : A → Result B E) → ((a : A) → IfOk (next a) Q) → IfOk (r >>= next) Q
any_step Q (Ok a) next g = g a
any_step Q (Err why) next g = tt

pub either : {A E : Type 0} (P : A → Type 0) (b : Bool) (u v : Result A E) → IfOk u P → IfOk v P → IfOk (cond b u v) P
either P true u v h g = h
either P false u v h g = g

-- the errors 0 and -1, and those that are rounded
zero_kept : IsKeptError zero
unfolding whole den fits
zero_kept = record { number = record { lowest = lowest_terms-of_whole (pos 0); fitting = refl }; exact = record { divides = refl } }

minus_one_kept : IsKeptError (negation_of one)
unfolding whole den fits negation_of
minus_one_kept = record {
  number = record { lowest = lowest_terms-of_sign one (lowest_terms-of_whole (pos 1)); fitting = refl };
  exact = record { divides = refl };
}

rounded_kept : (q : Rational) → IfOk (checked (round9_of q)) IsKeptError
rounded_kept q = elim (tells-checked (round9_of q)) [
  | inl is ↦
      subst (λ r. IfOk r IsKeptError) (sym is.1) (record {
        number = record { lowest = lowest_terms-of_rounding q; fitting = is.0 };
        exact = record { divides = mod-eq-zero_of_dvd (den (round9_of q)) (rounding-divides q) };
      })
  | inr is ↦ subst (λ r. IfOk r IsKeptError) (sym is.1) tt
]

relative_kept : (set_point x : Rational) → IfOk (relative_error set_point x) IsKeptError
unfolding relative_error
relative_kept set_point x =
    any_step IsKeptError (checked (difference_of set_point x)) _ (λ gap.
    any_step IsKeptError (checked (quotient_of gap set_point)) _ (λ share. rounded_kept share))

error_kept : (set_point x : Rational) → IfOk (error_of set_point x) IsKeptError
unfolding error_of
error_kept set_point x =
    either IsKeptError (same x set_point) (Ok zero) _ zero_kept
    (either IsKeptError (is_zero set_point) (Ok (negation_of one)) (relative_error set_point x) minus_one_kept (relative_kept set_point x))

pub fresh_kept : IsKept fresh
fresh_kept = record { e1 = zero_kept; e2 = zero_kept }

kept_either : (b : Bool) (u v : PidMemory) → IsKept u → IsKept v → IsKept (cond b u v)
kept_either true u v h g = h
kept_either false u v h g = g

unstuck_kept : (e0 : Rational) (memory : PidMemory) → IsKept memory → IfOk (unstuck e0 memory) IsKept
unfolding unstuck
unstuck_kept e0 memory h =
    any_step IsKept (checked (difference_of e0 memory.e1)) _ (λ moved. kept_either (is_tiny moved) fresh memory fresh_kept h)

pub step_kept : (set : PidSet) (set_point x old minutes : Rational) (pump : Bool) (before : PidMemory) → IsKept before → IfOk (pid_step set set_point x old minutes pump before) (λ stepped. IsKept stepped.memory)
unfolding pid_step
step_kept set set_point x old minutes pump before h =
    chain IsKeptError (λ stepped. IsKept stepped.memory) (error_of set_point x) _ (error_kept set_point x) (λ e0 e0_kept.
    chain IsKept (λ stepped. IsKept stepped.memory) (unstuck e0 before) _ (unstuck_kept e0 before h) (λ memory memory_kept.
    any_step (λ stepped. IsKept stepped.memory) (change_of set e0 memory minutes) _ (λ change.
    any_step (λ stepped. IsKept stepped.memory) (checked (sum_of old change)) _ (λ moved.
    any_step (λ stepped. IsKept stepped.memory) (checked (round9_of moved)) _ (λ rounded. record { e1 = e0_kept; e2 = memory_kept.e1 })))))

-- ---- over a list of states
abbrev LeavesKept : Option (Result Stepped Overflow) → Type 0
LeavesKept None = Unit {0}
LeavesKept (Some r) = IfOk r (λ stepped. IsKept stepped.memory)

worth_kept : (set : PidSet) (x set_point : Option Rational) (old seconds : Rational) (pump : Bool) (before : PidMemory) → IsKept before → IfOk (pid_worth set x set_point old seconds pump before) (λ stepped. IsKept stepped.memory)
worth_kept set (Some x) (Some set_point) old seconds pump before h = step_kept set set_point x old (minutes_of seconds) pump before h
worth_kept set (Some x) None old seconds pump before h = h
worth_kept set None set_point old seconds pump before h = h

what_kept : (x : Rules) (s : State) (memory : ℕ → PidMemory) (conditions : List Condition) (link : ℕ) (what : What) → ((number : ℕ) → IsKept (memory number)) → LeavesKept (pid_what x s memory conditions link what)
unfolding rule_pid
what_kept x s memory conditions link (Constant q) h = tt
what_kept x s memory conditions link (Curve curve) h = tt
what_kept x s memory conditions link (Series series) h = tt
what_kept x s memory conditions link (Pid set number) h =
    worth_kept set (controller_of x s conditions) (set_point_of x s conditions) (old_target x s link) s.step (is_pump x link)
    (memory number) (h number)

action_kept : (x : Rules) (s : State) (memory : ℕ → PidMemory) (conditions : List Condition) (action : Option Action) → ((number : ℕ) → IsKept (memory number)) → LeavesKept (pid_action x s memory conditions action)
action_kept x s memory conditions None h = tt
action_kept x s memory conditions (Some action) h = what_kept x s memory conditions action.link action.what h

left_kept : (before : PidMemory) (o : Option (Result Stepped Overflow)) → IsKept before → LeavesKept o → IsKept (memory_left before o)
left_kept before None h g = h
left_kept before (Some (Ok stepped)) h g = g
left_kept before (Some (Err why)) h g = h

listed_kept : (x : Rules) (s : State) (memory : ℕ → PidMemory) (number : ℕ) (pairs : List ActionAt) → ((number : ℕ) → IsKept (memory number)) → IsKept (memory_listed x s memory number pairs)
unfolding memory_listed pid_at
listed_kept x s memory number [] h = h number
listed_kept x s memory number (at ∷ more) h =
    kept_either (is_pid_action number (action_at x.rules at)) (memory_left (memory number) (pid_at x s memory at))
    (memory_listed x s memory number more)
    (left_kept (memory number) (pid_at x s memory at) (h number) (action_kept x s memory (conditions_at x.rules at) (action_at x.rules at) h))
    (listed_kept x s memory number more h)

read_kept : (x : Rules) (s : State) (memory : ℕ → PidMemory) (number : ℕ) (r : Result (List Order) Stop) → ((number : ℕ) → IsKept (memory number)) → IsKept (memory_read x s memory number r)
read_kept x s memory number (Ok orders) h = listed_kept x s memory number (listed x s) h
read_kept x s memory number (Err stop) h = h number

pub memory_kept : (choice : Choice) (x : Rules) (tables : TableSet) (states : List State) (number : ℕ) → IsKept (memory_by choice x tables states number)
memory_kept choice x tables [] number = fresh_kept
memory_kept choice x tables (s ∷ older) number =
    kept_either (is_due x.rule_step older s)
    (memory_read x s (memory_by choice x tables older) number (read_by choice x tables s (memory_by choice x tables older)))
    (memory_by choice x tables older number)
    (read_kept x s (memory_by choice x tables older) number (read_by choice x tables s (memory_by choice x tables older)) (λ n. memory_kept choice x tables older n))
    (memory_kept choice x tables older number)

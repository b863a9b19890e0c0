-- The PID actions among listed pairs.
use Rattle.std.specs.Prelude.{Bool, true, false, Option, Some, None, List, filter}
use Rattle.rule_types.specs.declared.action.Action.{Action}
use Rattle.rule_types.specs.declared.action.ActionAt.{ActionAt}
use Rattle.rule_types.specs.declared.action.What.{What}
use Rattle.rule_types.specs.declared.action.What.TheVariants.{Constant, Curve, Series, Pid}
use Rattle.rule_types.specs.declared.rule.Rule.{Rule}
use Rattle.rule_types.specs.declared.rules.Rules.{Rules}
use Rattle.rule_types.specs.declared.state.State.{State}
use Rattle.rule_meaning.specs.Premise.{listed}
use Rattle.rule_meaning.specs.Settled.{action_at}

-- whether an action takes its value from a PID controller (SWMM 5.2 manual, modulated controls)
abbrev pub is_pid_what : What → Bool
is_pid_what (Constant q) = false
is_pid_what (Curve curve) = false
is_pid_what (Series series) = false
is_pid_what (Pid set number) = true

abbrev pub is_pid : Option Action → Bool
is_pid None = false
is_pid (Some action) = is_pid_what action.what

-- whether the action of a pair is a PID action
unfoldable pub is_pid_at : List Rule → ActionAt → Bool
is_pid_at rules at = is_pid (action_at rules at)

-- the listed pairs of PID actions, in the order of rules and of actions
unfoldable pub listed_pids : Rules → State → List ActionAt
listed_pids x s = filter (is_pid_at x.rules) (listed x s)

-- The rules that have PID actions.
use Rattle.std.specs.Prelude.{ℕ, suc, Bool, ◌||◌, if◌then◌else◌, Option, Some, None, List, [], ◌∷◌}
use Rattle.std.specs.Prelude.{◌++◌, slice_get}
use Rattle.std.specs.List.{list_any}
use Rattle.rule_types.specs.declared.action.Action.{Action}
use Rattle.rule_types.specs.declared.action.ActionAt.{ActionAt}
use Rattle.rule_types.specs.declared.action.Branch.{Branch}
use Rattle.rule_types.specs.declared.action.What.{What}
use Rattle.rule_types.specs.declared.action.What.TheVariants.{Constant, Curve, Series, Pid}
use Rattle.rule_types.specs.declared.rule.Rule.{Rule}
use Rattle.rule_types.specs.declared.rules.Rules.{Rules}
use Rattle.rule_types.specs.declared.state.State.{State}
use Rattle.rule_types.specs.Reading.{branch_actions}
use Rattle.rule_meaning.specs.Premise.{listed_branch}
use Rattle.table_run.specs.Pids.{is_pid_what}

-- whether some action is a PID action
abbrev pub have_pid : List Action → Bool
have_pid actions = list_any (λ action. is_pid_what action.what) actions

abbrev pub has_pid : Rule → Bool
has_pid rule = have_pid rule.then_actions || have_pid rule.else_actions

-- the numbers of the rules from `number` on that have a PID action
unfoldable pub pid_rules : ℕ → List Rule → List ℕ
pid_rules number [] = []
pid_rules number (rule ∷ more) =
    if has_pid rule then number ∷ pid_rules (suc number) more else pid_rules (suc number) more

-- a pair of a PID action, and nothing where there is another action
abbrev pub pid_alone : What → ActionAt → List ActionAt
pid_alone (Constant q) at = []
pid_alone (Curve curve) at = []
pid_alone (Series series) at = []
pid_alone (Pid set number) at = at ∷ []

-- the places of the PID actions of a branch, from `action` on
unfoldable pub pids_from : ℕ → Branch → ℕ → List Action → List ActionAt
pids_from rule branch action [] = []
pids_from rule branch action (one ∷ more) =
    pid_alone one.what (record { rule = rule; branch = branch; action = action })
    ++ pids_from rule branch (suc action) more

-- the pairs of PID actions that a rule lists, and those that rules of some numbers list
abbrev pub rule_pids : Rules → State → ℕ → Option Rule → List ActionAt
rule_pids x s number None = []
rule_pids x s number (Some rule) =
    pids_from number (listed_branch x s rule) 0 (branch_actions rule (listed_branch x s rule))

unfoldable pub pids_of : Rules → State → List ℕ → List ActionAt
pids_of x s [] = []
pids_of x s (number ∷ more) =
    rule_pids x s number (slice_get x.rules number) ++ pids_of x s more

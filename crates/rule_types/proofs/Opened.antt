-- What the closed words of well formed rules and of states say.
use Rattle.std.specs.Prelude.{◌≡◌, List, EachIndex, slice_index}
use Rattle.rule_types.specs.declared.rule.Rule.{Rule}
use Rattle.rule_types.specs.declared.rules.Rules.{Rules}
use Rattle.rule_types.specs.Reading.{pid_numbers}
use Rattle.rule_types.specs.WellFormed.{Orders, Times, CompleteLists, InOrder, InBounds}
use Rattle.rule_types.specs.WellFormed.{HasCompleteLists, PidsNumbered}

-- the lists of well formed rules stand in order
pub orders_of : (x : Rules) → InOrder x → Orders x
unfolding InOrder
orders_of x h = h

-- the settings and times of well formed rules are in their bounds
pub times_of : (x : Rules) → InBounds x → Times x
unfolding InBounds
times_of x h = h

-- what the rules read and act on is listed
pub lists_of : (x : Rules) → HasCompleteLists x → CompleteLists x
unfolding HasCompleteLists
lists_of x h = h

-- the number of a PID action at each place is that place
pub numbers_of : (rules : List Rule) → PidsNumbered rules
    → EachIndex (pid_numbers rules) (λ k. slice_index (pid_numbers rules) k ≡ k)
unfolding PidsNumbered
numbers_of rules h = h

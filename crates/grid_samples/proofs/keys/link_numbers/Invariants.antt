use Rattle.std.proofs.Common.{◌≡◌, ◌++◌, length, not}
use Rattle.std.specs.List.{filter}
use Rattle.rule_types.specs.Keys.{is_input}
use Rattle.grid_samples.proofs.keys.link_numbers.Given as goal

-- the numbers so far and those of the rest are all
abbrev pub invariant-entries : goal.invariant-entries
invariant-entries l =
    l.list.items ++ filter (λ number. not (is_input number.0)) l.rest
    ≡ filter (λ number. not (is_input number.0)) l.fn.numbers

abbrev pub decreases-entries : goal.decreases-entries
decreases-entries l = length l.rest

use Rattle.std.proofs.Common.{◌≡◌, length}
use Rattle.std.specs.Str.{bytes_eq}
use Rattle.rule_meaning.specs.State.{beside}
use Rattle.rule_types.specs.KeyOrder.{key_place}
use Rattle.report_text.proofs.key_values.input_beside.Given as goal

-- what is found in the rest is what is found in all
abbrev pub invariant-keys : goal.invariant-keys
invariant-keys l =
    beside (λ other. bytes_eq (key_place l.key) (key_place other)) l.keys_left l.numbers_left
    ≡ beside (λ other. bytes_eq (key_place l.key) (key_place other)) l.keys l.numbers

abbrev pub decreases-keys : goal.decreases-keys
decreases-keys l = length l.keys_left

use Rattle.std.proofs.Common.{◌≡◌, length}
use Rattle.std.specs.List.{list_any}
use Rattle.verdict_meaning.specs.Questions.{is_clock}
use Rattle.question_boxes.proofs.order.reads_clock.Given as goal

abbrev pub invariant-keys : goal.invariant-keys
invariant-keys l = list_any is_clock l.rest ≡ list_any is_clock l.fn.keys

abbrev pub decreases-keys : goal.decreases-keys
decreases-keys l = length l.rest

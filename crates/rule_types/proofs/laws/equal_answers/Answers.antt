-- The `==` of orders, stops, refusals and faults tells whether two are equal.
use Rattle.rule_types.proofs.PublicLaws.{equal_answers-order, equal_answers-stop_cause, equal_answers-stop_place, equal_answers-stop, equal_answers-reading_end, equal_answers-row_stop, equal_answers-cause, equal_answers-refusal, equal_answers-read_fault, equal_answers-add_fault}
use Rattle.rule_types.proofs.laws.equal_answers.Goals as goal

pub returns : goal.returns
returns c = record { order = equal_answers-order; stop_cause = equal_answers-stop_cause; stop_place = equal_answers-stop_place; stop = equal_answers-stop; reading_end = equal_answers-reading_end; row_stop = equal_answers-row_stop; cause = equal_answers-cause; refusal = equal_answers-refusal; read_fault = equal_answers-read_fault; add_fault = equal_answers-add_fault }

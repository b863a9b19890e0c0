-- The laws of shown boxes.
use Rattle.verdict_meaning.proofs.PublicLaws.{shown_boxes-no_event}
use Rattle.verdict_meaning.proofs.PublicLaws.{shown_boxes-more_known}
use Rattle.verdict_meaning.proofs.PublicLaws.{shown_boxes-one_more_fact}
use Rattle.verdict_meaning.proofs.PublicLaws.{shown_boxes-by_facts}
use Rattle.verdict_meaning.proofs.laws.shown_boxes.Goals as goal

pub returns-clause-no_event : goal.returns-clause-no_event
returns-clause-no_event c = shown_boxes-no_event

pub returns-clause-more_known : goal.returns-clause-more_known
returns-clause-more_known c = shown_boxes-more_known

pub returns-clause-one_more_fact : goal.returns-clause-one_more_fact
returns-clause-one_more_fact c = shown_boxes-one_more_fact

pub returns-clause-by_facts : goal.returns-clause-by_facts
returns-clause-by_facts c = shown_boxes-by_facts

-- Refusals are in order, and of several the lowest is reported.
use Rattle.rule_types.proofs.PublicLaws.{refusals-by_line, refusals-by_cause}
use Rattle.rule_types.proofs.PublicLaws.{refusals-transitive, refusals-irreflexive, refusals-tied}
use Rattle.rule_types.proofs.PublicLaws.{refusals-least}
use Rattle.rule_types.proofs.PublicLaws.{refusals-first, refusals-second, refusals-associative}
use Rattle.rule_types.proofs.PublicLaws.{refusals-none}
use Rattle.rule_types.proofs.PublicLaws.{refusals-alone, refusals-both, refusals-neither}
use Rattle.rule_types.proofs.PublicLaws.{refusals-in_any_order}
use Rattle.rule_types.proofs.laws.refusals.Goals as goal

pub returns : goal.returns
returns c = record {
  by_line = refusals-by_line;
  by_cause = refusals-by_cause;
  transitive = refusals-transitive;
  irreflexive = refusals-irreflexive;
  tied = refusals-tied;
  least = refusals-least;
  first = refusals-first;
  second = refusals-second;
  associative = refusals-associative;
  none = refusals-none;
  alone = refusals-alone;
  both = refusals-both;
  neither = refusals-neither;
  in_any_order = refusals-in_any_order;
}

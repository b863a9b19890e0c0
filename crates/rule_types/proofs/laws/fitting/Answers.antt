-- What well formed rules, and what fits them, say of each rule and of each action.
use Rattle.rule_types.proofs.PublicLaws.{fitting-half_step, fitting-actions, fitting-sizes}
use Rattle.rule_types.proofs.PublicLaws.{fitting-counted, fitting-ready}
use Rattle.rule_types.proofs.laws.fitting.Goals as goal

pub returns : goal.returns
returns c = record {
  half_step = fitting-half_step;
  actions = fitting-actions;
  sizes = fitting-sizes;
  counted = fitting-counted;
  ready = fitting-ready;
}

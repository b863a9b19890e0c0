-- The attributes of objects, and keys in key order.
use Rattle.rule_types.proofs.KeyExamples.{nodes, links, gages, clock, order, not_traced, times}
use Rattle.rule_types.proofs.examples.keys.Goals as goal

pub returns : goal.returns
returns c = record {
  nodes = nodes;
  links = links;
  gages = gages;
  clock = clock;
  order = order;
  not_traced = not_traced;
  times = times;
}

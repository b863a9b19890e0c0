use Rattle.rule_types.specs.Reading.{condition_keys}
use Rattle.rule_parser.proofs.Noting.{names-still}
use Rattle.rule_parser.proofs.noted.Noted.condition.Goals as goal

pub name-requires : goal.name-requires
name-requires c = record {
  seen = names-still c.args.names.now c.args.self.now c.sides.new.self c.args.seen.now.keys
      (condition_keys c.args.condition.now) c.requires.seen c.in_ok-sides.ensures;
}

pub returns-in-Key-clause-seen : goal.returns-in-Key-clause-seen
returns-in-Key-clause-seen c =
    names-still c.args.names.now c.args.self.now c.sides.new.self c.args.seen.now.keys
    (condition_keys c.args.condition.now) c.requires.seen c.in_ok-sides.ensures

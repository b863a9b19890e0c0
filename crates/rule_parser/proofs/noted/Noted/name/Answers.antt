use Rattle.std.proofs.Common.{◌∙◌, sym, subst, List, ℕ}
use Rattle.rule_parser.specs.internal.Noting.{NamesNoted}
use Rattle.rule_parser.proofs.Noting.{names-again, names-more}
use Rattle.rule_parser.proofs.noted.Noted.name.Goals as goal

pub returns-then-contains-clause-reads : goal.returns-then-contains-clause-reads
returns-then-contains-clause-reads c =
    names-again c.args.names.now c.args.self.now c.args.seen.now.keys c.args.name c.requires.seen
    (sym c.contains.ensures ∙ c.if-contains.true)

pub returns-in-Ok-clause-seen : goal.returns-in-Ok-clause-seen
returns-in-Ok-clause-seen c =
    subst (λ (seen : List ℕ). NamesNoted c.args.names.now c.new_name.new.self seen)
    (sym c.in-Ok.ensures.keys)
    (names-more c.args.names.now c.args.self.now c.new_name.new.self c.args.seen.now.keys c.args.name
    c.requires.seen c.in_ok-new_name.ensures)

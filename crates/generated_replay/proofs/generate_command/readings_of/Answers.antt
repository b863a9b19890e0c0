use Rattle.std.proofs.Common.{sym, subst}
use Rattle.table_run.specs.Sides.{ServesRules}
use Rattle.table_run.proofs.PublicLaws.{compiled-serve}
use Rattle.generated_replay.proofs.generate_command.readings_of.Goals as goal

pub new-requires-clause-serves : goal.new-requires-clause-serves
new-requires-clause-serves c =
    subst (ServesRules c.args.project.now.rules) (sym c.in_ok-link_tables.ensures.tables)
    (compiled-serve c.args.project.now.rules)

use Rattle.std.proofs.Common.{List, sym, subst}
use Rattle.rule_types.proofs.PublicLaws.{fitting-counted, fitting-ready}
use Rattle.premise_eval.specs.declared.column.Column.{Column}
use Rattle.table_run.specs.Kits.{TableKit, IsPlanned}
use Rattle.table_run.proofs.table_readings.TableReadings.read.Goals as goal

pub read_planned-requires-clause-planned : goal.read_planned-requires-clause-planned
read_planned-requires-clause-planned c =
    subst (λ (among : List Column). IsPlanned c.args.rules.now among c.self.inside.planned) (sym c.derive.ensures.same_columns)
    (subst (λ (k : TableKit). IsPlanned c.args.rules.now k.kept.columns k.planned) (sym c.self.view_is) c.requires.kit.planned)

pub read_planned-requires-clause-counted : goal.read_planned-requires-clause-counted
read_planned-requires-clause-counted c =
    fitting-counted c.args.rules.now c.args.memories.now c.requires.well_formed c.requires.memories

pub read_planned-requires-clause-ready : goal.read_planned-requires-clause-ready
read_planned-requires-clause-ready c =
    fitting-ready c.args.rules.now c.args.tables.now c.args.memories.now c.requires.well_formed c.requires.tables c.requires.memories

use Rattle.std.proofs.Common.{Option, ℕ}
use Rattle.table_plan.specs.declared.plan_column.PlanColumn.{PlanColumn}
use Rattle.table_run.specs.internal.Sources.{IsSource}
use Rattle.table_run.proofs.SourceSteps.{all_sources}
use Rattle.table_run.proofs.Zips.{zip_more}
use Rattle.std.proofs.Common.{refl}
use Rattle.table_run.proofs.sources.sources.Goals as goal

pub loop-column-preserved : goal.loop-column-preserved
loop-column-preserved c =
    zip_more (λ (column : PlanColumn) (source : Option ℕ). IsSource c.args.rules.now c.args.values.now.columns column.side source) c.args.columns.now c.args.columns.now
    c.loop-column.sources.items c.push.new.self.items c.loop-column.column-index c.column-item.result c.source_of-source.result
    refl c.loop-column-test.true c.column-item.is c.in_ok-push.ensures.items c.loop-column.invariant c.source_of-source.ensures.source

pub returns : goal.returns
returns c = record {
  sources = all_sources c.args.rules.now c.args.values.now.columns c.args.columns.now c.loop-column.sources.items c.loop-column.column-index c.loop-column-test.false c.loop-column.invariant;
}

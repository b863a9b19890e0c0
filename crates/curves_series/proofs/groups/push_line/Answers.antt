use Rattle.curves_series.proofs.GroupPuts.{pushed_list}
use Rattle.curves_series.proofs.groups.push_line.Goals as goal

pub returns-in-Ok : goal.returns-in-Ok
returns-in-Ok c = record {
  tables =
      pushed_list c.args.tables.now.items c.args.place c.index_mut.result.now
      (record { lines = c.push.new.self }) c.args.line c.requires.within c.index_mut.ensures.value
      c.in-Ok.ensures.items;
}

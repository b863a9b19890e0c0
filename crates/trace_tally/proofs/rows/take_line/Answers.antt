use Rattle.std.proofs.Common.{◌≡◌, ◌+◌, Some, None, Ok, List, ap, sym, ◌∙◌, subst}
use Rattle.rule_types.specs.declared.names.NameDef.{NameDef}
use Rattle.rule_types.specs.declared.row.Row.{Row}
use Rattle.rule_types.specs.declared.rules.Rules.{Rules}
use Rattle.rule_meaning.specs.History.{controlled_settings}
use Rattle.trace_csv.specs.Rows.{row_of}
use Rattle.trace_replay.specs.Answers.{row_at}
use Rattle.trace_replay.specs.Progress.{kept_of}
use Rattle.trace_tally.specs.TraceRows.{stop_said, stop_in}
use Rattle.trace_tally.specs.Tallies.{changes}
use Rattle.trace_tally.specs.internal.Starting.{Says}
use Rattle.trace_tally.proofs.Answers.{refuses_said}
use Rattle.trace_tally.proofs.Changes.{as_long}
use Rattle.trace_tally.proofs.TakenRows.{ready_follows, read_by, taken_stop, taken_row, taken_under, stops, goes_on}
use Rattle.trace_tally.proofs.rows.take_line.Goals as goal

pub row-requires-clause-follows : goal.row-requires-clause-follows
row-requires-clause-follows g c =
    let row : Row = row_at c.in-Ok-Some.moment c.read_next_row.new.inputs in
    let read : row_of c.args.header.now (kept_of c.args.replay.now.progress).last c.args.replay.now.rules.now.start c.args.line.now ≡ Ok (Some row) =
    read_by c.args.header.now c.args.line.now c.args.replay.now.rules.now c.rules-rules.result.now
    (kept_of c.args.replay.now.progress).last c.last-last.result (Ok (Some row)) c.rules-rules.ensures.rules c.last-last.ensures.last
    (rw c.in-Ok-Some.field-0-is at c.in-Ok-Some.ensures.answer) in
    ready_follows (g.R.Reads.choice c.args.replay.now.readings) c.args.replay.now.rules.now (g.R.Reads.held c.args.replay.now.readings)
    c.args.header.now (kept_of c.args.replay.now.progress) c.args.line.now row c.requires.ready read c.seconds.ensures.range

pub returns-in-Err-clause-takes : goal.returns-in-Err-clause-takes
returns-in-Err-clause-takes g c = λ switches file due t.
    let row : Row = row_at c.in-Ok-Some.moment c.read_next_row.new.inputs in
    let read : row_of c.args.header.now (kept_of c.args.replay.now.progress).last c.args.replay.now.rules.now.start c.args.line.now ≡ Ok (Some row) =
    read_by c.args.header.now c.args.line.now c.args.replay.now.rules.now c.rules-rules.result.now
    (kept_of c.args.replay.now.progress).last c.last-last.result (Ok (Some row)) c.rules-rules.ensures.rules c.last-last.ensures.last
    (rw c.in-Ok-Some.field-0-is at c.in-Ok-Some.ensures.answer) in
    let stopped : c.row.new.self.progress.stop ≡ Some (stop_in c.in-Err.stop) =
    stops c.args.replay.now.progress.stop c.row.new.self.progress.stop c.in-Err.stop c.requires.ready.going c.in-Err.ensures.answer in
    let names : c.as_slice.result.now ≡ c.args.replay.now.rules.now.names =
    c.as_slice.ensures.value ∙ ap (λ (r : Rules). r.names) c.rules-rules.ensures.rules in
    refuses_said due (stop_said c.args.replay.now.rules.now.names c.args.number (stop_in c.in-Err.stop)) c.row_stop.result
    (taken_stop (g.R.Reads.choice c.args.replay.now.readings) c.args.replay.now.rules.now (g.R.Reads.held c.args.replay.now.readings)
    c.args.header.now (kept_of c.args.replay.now.progress) switches c.args.number c.args.line.now file due t
    (kept_of c.row.new.self.progress) row (stop_in c.in-Err.stop) read c.row.ensures.kept stopped)
    (subst (λ (list : List NameDef). Says (stop_said list c.args.number (stop_in c.in-Err.stop)) c.row_stop.result) names
    c.row_stop.ensures)

pub changes-more-requires : goal.changes-more-requires
changes-more-requires g c = record {
  each = as_long c.args.replay.now.rules.now c.row.new.self.rules.now (kept_of c.args.replay.now.progress).standings
      (kept_of c.row.new.self.progress).standings c.settings.result.now c.args.before.now c.row.ensures.same_rules
      c.settings.ensures.settings c.requires.before;
}

pub copy_from_slice-requires : goal.copy_from_slice-requires
copy_from_slice-requires g c =
    sym (as_long c.args.replay.now.rules.now c.row.new.self.rules.now (kept_of c.args.replay.now.progress).standings
    (kept_of c.row.new.self.progress).standings c.settings-in-Ok-Some.result.now c.args.before.now c.row.ensures.same_rules
    c.settings-in-Ok-Some.ensures.settings c.requires.before)

pub returns-in_default-clause-takes : goal.returns-in_default-clause-takes
returns-in_default-clause-takes g c = λ switches file due t.
    let row : Row = row_at c.in-Ok-Some.moment c.read_next_row.new.inputs in
    let read : row_of c.args.header.now (kept_of c.args.replay.now.progress).last c.args.replay.now.rules.now.start c.args.line.now ≡ Ok (Some row) =
    read_by c.args.header.now c.args.line.now c.args.replay.now.rules.now c.rules-rules.result.now
    (kept_of c.args.replay.now.progress).last c.last-last.result (Ok (Some row)) c.rules-rules.ensures.rules c.last-last.ensures.last
    (rw c.in-Ok-Some.field-0-is at c.in-Ok-Some.ensures.answer) in
    let going : c.row.new.self.progress.stop ≡ None =
    goes_on c.args.replay.now.progress.stop c.row.new.self.progress.stop _ c.requires.ready.going c.in_default.ensures.answer in
    let counts : c.changes-more.result
    ≡ changes (controlled_settings c.args.replay.now.rules.now (kept_of c.args.replay.now.progress).standings)
    (controlled_settings c.args.replay.now.rules.now (kept_of c.row.new.self.progress).standings) =
    c.changes-more.ensures.value
    ∙ (λ i. changes (c.requires.before i) ((c.settings.ensures.settings
    ∙ ap (λ (r : Rules). controlled_settings r (kept_of c.row.new.self.progress).standings) c.row.ensures.same_rules) i)) in
    taken_under (g.R.Reads.choice c.args.replay.now.readings) (g.R.Reads.choice c.row.new.self.readings)
    c.args.replay.now.rules.now c.row.new.self.rules.now
    (g.R.Reads.held c.args.replay.now.readings) (g.R.Reads.held c.row.new.self.readings) c.args.header.now
    (kept_of c.row.new.self.progress) (switches + c.changes-more.result) (c.args.number + 1) file due
    c.row.ensures.same_choice c.row.ensures.same_rules c.row.ensures.same_tables
    (taken_row (g.R.Reads.choice c.args.replay.now.readings) c.args.replay.now.rules.now (g.R.Reads.held c.args.replay.now.readings)
    c.args.header.now (kept_of c.args.replay.now.progress) switches c.args.number c.args.line.now file due t
    (kept_of c.row.new.self.progress) row c.changes-more.result read c.seconds.ensures.range c.row.ensures.kept going counts)

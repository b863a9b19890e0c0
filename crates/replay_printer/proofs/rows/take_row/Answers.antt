use Rattle.std.proofs.Common.{◌≡◌, Some, None, Ok, length}
use Rattle.rule_types.specs.declared.row.Row.{Row}
use Rattle.trace_csv.specs.Rows.{row_of}
use Rattle.trace_replay.specs.Answers.{row_at}
use Rattle.trace_replay.specs.Progress.{kept_of}
use Rattle.replay_printer.specs.internal.Ends.{stop_in}
use Rattle.replay_printer.proofs.ReadingStops.{row_stop}
use Rattle.replay_printer.proofs.Ready.{row_follows, ready_row, goes_on, stops, stopped_by, taken_by, read_by}
use Rattle.replay_printer.proofs.rows.take_row.Goals as goal

pub row-requires-clause-follows : goal.row-requires-clause-follows
row-requires-clause-follows g c =
    let row : Row = row_at c.in-Ok-Some.moment c.read_next_row.new.inputs in
    let read : row_of c.args.header.now (kept_of c.args.replay.now.progress).last c.args.replay.now.rules.now.start c.args.line.now ≡ Ok (Some row) =
    read_by c.args.header.now c.args.line.now c.args.replay.now.rules.now c.rules-rules.result.now
    (kept_of c.args.replay.now.progress).last c.last-last.result (Ok (Some row)) c.rules-rules.ensures.rules c.last-last.ensures.last
    (rw c.in-Ok-Some.field-0-is at c.in-Ok-Some.ensures.answer) in
    row_follows (g.R.Reads.choice c.args.replay.now.readings) c.args.replay.now.rules.now (g.R.Reads.held c.args.replay.now.readings)
    (kept_of c.args.replay.now.progress) (length c.args.inputs.now) c.args.header.now c.args.line.now row c.requires.ready c.seconds.ensures.range read

pub row_end-requires : goal.row_end-requires
row_end-requires g c =
    let row : Row = row_at c.in-Ok-Some.moment c.read_next_row.new.inputs in
    let stopped : c.row.new.self.progress.stop ≡ Some (stop_in c.in-Err.stop) =
    stops c.args.replay.now.progress.stop c.row.new.self.progress.stop c.in-Err.stop c.requires.ready.going c.in-Err.ensures.answer in
    record {
      reading =
          row_stop (g.R.Reads.choice c.args.replay.now.readings) c.args.replay.now.rules.now (g.R.Reads.held c.args.replay.now.readings)
          (kept_of c.args.replay.now.progress) row (stop_in c.in-Err.stop)
          (stopped_by (g.R.Reads.choice c.args.replay.now.readings) c.args.replay.now.rules.now (g.R.Reads.held c.args.replay.now.readings)
          (kept_of c.args.replay.now.progress) (kept_of c.row.new.self.progress) row (stop_in c.in-Err.stop)
          c.requires.ready.going c.row.ensures.kept stopped);
    }

pub returns-in-Ok-write_row_line_at-clause-still_ready :
    goal.returns-in-Ok-write_row_line_at-clause-still_ready
returns-in-Ok-write_row_line_at-clause-still_ready g c =
    let row : Row = row_at c.in-Ok-Some.moment c.read_next_row.new.inputs in
    let read : row_of c.args.header.now (kept_of c.args.replay.now.progress).last c.args.replay.now.rules.now.start c.args.line.now ≡ Ok (Some row) =
    read_by c.args.header.now c.args.line.now c.args.replay.now.rules.now c.rules-rules.result.now
    (kept_of c.args.replay.now.progress).last c.last-last.result (Ok (Some row)) c.rules-rules.ensures.rules c.last-last.ensures.last
    (rw c.in-Ok-Some.field-0-is at c.in-Ok-Some.ensures.answer) in
    let going : c.row.new.self.progress.stop ≡ None =
    goes_on c.args.replay.now.progress.stop c.row.new.self.progress.stop c.requires.ready.going c.in-Ok.ensures.answer in
    taken_by (g.R.Reads.choice c.args.replay.now.readings) (g.R.Reads.choice c.row.new.self.readings)
    c.args.replay.now.rules.now c.row.new.self.rules.now
    (g.R.Reads.held c.args.replay.now.readings) (g.R.Reads.held c.row.new.self.readings) (Some c.args.header.now)
    (kept_of c.row.new.self.progress) (length c.args.inputs.now) c.row.ensures.same_choice c.row.ensures.same_rules c.row.ensures.same_tables
    (ready_row (g.R.Reads.choice c.args.replay.now.readings) c.args.replay.now.rules.now (g.R.Reads.held c.args.replay.now.readings)
    (kept_of c.args.replay.now.progress) (kept_of c.row.new.self.progress) (length c.args.inputs.now) c.args.header.now c.args.line.now row
    c.requires.ready c.seconds.ensures.range read c.row.ensures.kept going)

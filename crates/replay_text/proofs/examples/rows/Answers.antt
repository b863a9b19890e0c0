use Rattle.std.proofs.Common.{refl}
use Rattle.csv.specs.Machine.{next_record}
use Rattle.csv.specs.Reading.{strip_bom}
use Rattle.exact_fraction.specs.Number.{whole}
use Rattle.rule_meaning.specs.Formula.{stop_from, names_stop_for}
use Rattle.rule_meaning.specs.History.{all_moved, controlled_settings}
use Rattle.rule_meaning.specs.Premise.{listed_by, listed}
use Rattle.rule_meaning.specs.Reading.{pids_stop, orders_on, settling}
use Rattle.rule_meaning.specs.Replay.{first_standings, switches_after, unswitched, links_at}
use Rattle.trace_csv.specs.Columns.{header_in, header_of}
use Rattle.trace_csv.specs.Fields.{without_end_blanks}
use Rattle.trace_csv.specs.Records.{record_of}
use Rattle.trace_csv.specs.Rows.{has_bad, inputs_of, moment_in, row_in, row_of}
use Rattle.replay_text.specs.Lines.{header_line, row_line}
use Rattle.replay_text.proofs.June.{june, june_written}
use Rattle.replay_text.proofs.examples.rows.Goals as goal

pub returns-clause-one : goal.returns-clause-one
unfolding header_in header_of without_end_blanks record_of next_record strip_bom has_bad inputs_of moment_in row_in row_of header_line row_line controlled_settings stop_from names_stop_for all_moved listed_by listed pids_stop orders_on settling first_standings switches_after unswitched links_at whole
returns-clause-one c = rw (june, june_written) refl

pub returns-clause-same_moment : goal.returns-clause-same_moment
unfolding header_in header_of without_end_blanks record_of next_record strip_bom has_bad inputs_of moment_in row_in row_of header_line row_line controlled_settings stop_from names_stop_for all_moved listed_by listed pids_stop orders_on settling first_standings switches_after unswitched links_at whole
returns-clause-same_moment c = rw (june, june_written) refl

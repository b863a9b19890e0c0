-- What a replay prints of the lines of a trace, and the line on standard error that it ends with.
use Rattle.std.specs.Prelude.{ℕ, List, Option, option_map}
use Rattle.byte_edge.specs.Lines.{LineEvent}
use Rattle.command_outputs.specs.Messages.{line_of}
use Rattle.object_index.specs.Objects.{Objects}
use Rattle.rule_types.specs.declared.names.NameDef.{NameDef}
use Rattle.rule_types.specs.declared.rules.Rules.{Rules}
use Rattle.rule_types.specs.Tables.{TableSet}
use Rattle.rule_meaning.specs.Reading.{Choice}
use Rattle.replay_text.specs.Ends.{End, end_text}
use Rattle.replay_text.specs.Replays.{replay_text_by}
use Rattle.replay_text.specs.Replays as replay
use Rattle.streamed_lines.specs.Streams.{Printed}

-- the line that says how a replay ended, and nothing where the trace was replayed to its end
abbrev pub end_line : List NameDef → End → Option (List ℕ)
end_line names end = option_map line_of (end_text names end)

-- the text of a replay, with the line that says how it ended
abbrev pub as_printed : List NameDef → replay.Printed → Printed
as_printed names printed =
    record { text = printed.text; message = end_line names printed.end }

-- What a replay of rules, with these tables and objects, prints of the lines of a trace. By this
-- choice each link takes a pair at a reading.
abbrev pub replay_printed : Choice → Rules → TableSet → Objects → List LineEvent → Printed
replay_printed choice x tables objects lines =
    as_printed x.names (replay_text_by choice x tables objects lines)

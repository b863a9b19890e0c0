-- What `gen N` comes to: the generated input file and trace are replayed, and the switches and the
-- last settings of the pumps are written.
use Rattle.std.specs.Prelude.{ℕ, ◌*◌, if◌then◌else◌, nat_lt, List, [], ◌∷◌, ◌++◌, length, codes}
use Rattle.std.specs.Prelude.{Option, None, Some, Result, Ok, Err}
use Rattle.std.specs.Fmt.{decimal}
use Rattle.command_outputs.specs.Messages.{line_of, too_long_line}
use Rattle.command_outputs.specs.Outcomes.{Outcome, written, file_lines, input_file, trace_file}
use Rattle.command_outputs.specs.declared.role.Role.{Role}
use Rattle.command_outputs.specs.declared.role.Role.TheVariants.{Input, Trace}
use Rattle.command_outputs.specs.declared.status.Status.TheVariants.{Done, Refused}
use Rattle.exact_fraction.specs.Number.{Rational}
use Rattle.model_generator.specs.InputFile.{generated_input}
use Rattle.model_generator.specs.Trace.{generated_trace}
use Rattle.num_text.specs.Values.{written_value}
use Rattle.object_index.specs.Objects.{Objects}
use Rattle.input_check.specs.InputRefusals.{project_judged}
use Rattle.replay_text.specs.Lines.{link_name}
use Rattle.rule_meaning.specs.Reading.{settling}
use Rattle.rule_parser.specs.declared.project.Project.{Project}
use Rattle.trace_tally.specs.TraceRows.{trace_rows}
use Rattle.trace_tally.specs.Tallies.{Tally, tallied}

-- ---- the text
-- words with a number behind them
unfoldable pub counted : List ℕ → ℕ → List ℕ
counted words number = words ++ decimal number

-- how many pumps, rules and rows the model of n pumps has
unfoldable pub model_numbers : ℕ → List ℕ
model_numbers n = counted (codes "pumps ") n ++ counted (codes " rules ") (3 * n)
    ++ counted (codes " rows ") (10 * n)

-- the same, and how many switches the replay
abbrev pub numbers_line : ℕ → ℕ → List ℕ
numbers_line n switches = line_of (model_numbers n ++ counted (codes " switches ") switches)

-- the name of a link, and its setting
abbrev pub setting_line : Objects → ℕ → Rational → List ℕ
setting_line objects link setting =
    line_of (link_name objects link ++ codes " " ++ written_value setting)

-- such a line for each of these links
abbrev pub setting_lines : Objects → List ℕ → List Rational → List ℕ
setting_lines objects [] settings = []
setting_lines objects (link ∷ links) [] = []
setting_lines objects (link ∷ links) (setting ∷ settings) =
    setting_line objects link setting ++ setting_lines objects links settings

abbrev pub tally_text : ℕ → Project → Tally → List ℕ
tally_text n p tally =
    numbers_line n tally.switches
    ++ setting_lines p.objects p.rules.controlled tally.settings

-- ---- the replay
-- the switches and the last settings of a project over a trace of these lines, where each link
-- takes its settled pair (SWMM 5.2 manual, [CONTROLS])
abbrev pub replay_tally : Project → List (Option (List ℕ)) → Result Tally (List ℕ)
replay_tally p file =
    tallied (settling p.rules) p.rules p.tables
    (trace_rows (settling p.rules) p.rules p.tables p.objects file)

-- the text, where the trace is not refused
abbrev pub text_of_tally : ℕ → Project → Result Tally (List ℕ) → Result (List ℕ) (List ℕ)
text_of_tally n p (Ok tally) = Ok (tally_text n p tally)
text_of_tally n p (Err line) = Err line

-- a project over the bytes of a trace
abbrev pub tally_judged : Project → List ℕ → Result Tally (List ℕ)
tally_judged p trace =
    if nat_lt trace_file.budget (length trace) then Err (too_long_line Trace)
    else replay_tally p (file_lines trace_file trace)

abbrev pub text_over : ℕ → List ℕ → Result Project (List ℕ) → Result (List ℕ) (List ℕ)
text_over n trace (Ok p) = text_of_tally n p (tally_judged p trace)
text_over n trace (Err line) = Err line

-- the project of the bytes of an input file, or the line that refuses it
abbrev pub input_judged : List ℕ → Result Project (List ℕ)
input_judged input =
    if nat_lt input_file.budget (length input) then Err (too_long_line Input)
    else project_judged (file_lines input_file input)

-- The text over an input file and a trace of these bytes, which are read and refused as those of
-- the command `replay` are.
abbrev pub text_of : ℕ → List ℕ → List ℕ → Result (List ℕ) (List ℕ)
text_of n input trace = text_over n trace (input_judged input)

-- the text of `gen N`
abbrev pub gen_text : ℕ → Result (List ℕ) (List ℕ)
gen_text n = text_of n (generated_input n) (generated_trace n)

-- ---- the outcome
-- the text is written, or the line that refuses one of the two files is said; no file is opened
abbrev pub outcome_of : Result (List ℕ) (List ℕ) → Outcome
outcome_of (Ok text) = written 0 Done text
outcome_of (Err line) = record {
  status = Refused;
  output = [];
  message = line;
  opened = 0;
  ended = 0;
  partial = None;
}

abbrev pub gen_roles : List Role
gen_roles = []

-- what `gen N` comes to
abbrev pub gen_outcome : ℕ → Option Outcome
gen_outcome n = Some (outcome_of (gen_text n))

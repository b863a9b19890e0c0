-- The options of an input file (SWMM 5.2 manual, [OPTIONS]).
use Rattle.std.specs.Prelude.{ℕ, nat_lt, if◌then◌else◌, List, [], ◌∷◌, codes}
use Rattle.std.specs.Prelude.{Option, None, Some, ℤ, pos}
use Rattle.std.specs.Option.{option_or, option_map}
use Rattle.exact_fraction.specs.Number.{whole, zero}
use Rattle.inp_text.specs.Items.{items}
use Rattle.inp_text.specs.declared.source_line.SourceLine.{SourceLine}
use Rattle.key_words.specs.Words.{is_word}
use Rattle.num_text.specs.Clocks.{clock, clock_below, seconds_at}
use Rattle.num_text.specs.Dates.{date_of}
use Rattle.num_text.specs.Steps.{routing_step_of}
use Rattle.rule_types.specs.declared.refusal.Cause.TheVariants.{BadOption, RuleStep}
use Rattle.rule_types.specs.declared.refusal.Refusal.{Refusal}
use Rattle.control_lines.specs.Faults.{Checked, or_fault, fault_of}
use Rattle.control_lines.specs.Faults.{refusal_at}
use Rattle.std.specs.Prelude.{Ok, Err}
use Rattle.network_lines.specs.declared.options.OptionSet.{OptionSet}

-- without options: no start, steps of 20 seconds, and rules that are read at each row
abbrev pub no_options : OptionSet
no_options = record {
  start_day = None;
  start_second = 0;
  routing_step = whole (pos 20);
  rule_step = zero;
}

-- the moment at which a project starts: START_DATE at START_TIME, and none without START_DATE
abbrev pub start_of : OptionSet → Option ℤ
start_of options = option_map (λ day. seconds_at day options.start_second) options.start_day

-- the words of the options that are read
abbrev pub start_date_text : List ℕ
start_date_text = codes "START_DATE"

abbrev pub start_time_text : List ℕ
start_time_text = codes "START_TIME"

abbrev pub routing_step_text : List ℕ
routing_step_text = codes "ROUTING_STEP"

abbrev pub rule_step_text : List ℕ
rule_step_text = codes "RULE_STEP"

-- the options with the value of one of them, which a later line replaces
abbrev pub with_start_date : OptionSet → List ℕ → Option OptionSet
with_start_date options value =
    option_map (λ day. record options { start_day = Some day }) (date_of value)

abbrev pub with_start_time : OptionSet → List ℕ → Option OptionSet
with_start_time options value =
    option_map (λ second. record options { start_second = second }) (clock_below 7 86_400 value)

abbrev pub with_routing_step : OptionSet → List ℕ → Option OptionSet
with_routing_step options value =
    option_map (λ step. record options { routing_step = step }) (routing_step_of value)

-- RULE_STEP is at most a day, which is no part of its form
abbrev pub rule_step_read : OptionSet → List ℕ → ℕ → Checked OptionSet
rule_step_read options value seconds =
    if nat_lt 86_400 seconds then Err (fault_of RuleStep value)
    else Ok (record options { rule_step = whole (pos seconds) })

abbrev pub with_rule_step : OptionSet → List ℕ → List ℕ → Option ℕ → Checked OptionSet
with_rule_step options word value None = Err (fault_of BadOption word)
with_rule_step options word value (Some seconds) = rule_step_read options value seconds

-- the options after the one of a word that has this value; other options are not read
abbrev pub option_set : OptionSet → List ℕ → List ℕ → Checked OptionSet
option_set options word value =
    if is_word word start_date_text
    then or_fault (with_start_date options value) BadOption word
    else (if is_word word start_time_text
    then or_fault (with_start_time options value) BadOption word
    else (if is_word word routing_step_text
    then or_fault (with_routing_step options value) BadOption word
    else (if is_word word rule_step_text then with_rule_step options word value (clock 7 value)
    else Ok options)))

-- the value of an option: its second item, and the empty text, which is outside of each form, where
-- there is none
abbrev pub value_item : List (List ℕ) → List ℕ
value_item [] = []
value_item (value ∷ more) = value

-- the options after a line with these items
unfoldable pub option_read : OptionSet → List (List ℕ) → Checked OptionSet
option_read options [] = Ok options
option_read options (word ∷ later) = option_set options word (value_item later)

-- the options after a line: as before where it is at fault
abbrev pub options_after : OptionSet → Checked OptionSet → OptionSet
options_after before (Ok options) = options
options_after before (Err fault) = before

-- the options of lines, and the first refusal among them
abbrev pub options_from : OptionSet → List SourceLine → OptionSet
options_from options [] = options
options_from options (line ∷ later) =
    options_from (options_after options (option_read options (items line.bytes))) later

abbrev pub options_refusal : OptionSet → List SourceLine → Option Refusal
options_refusal options [] = None
options_refusal options (line ∷ later) =
    option_or (refusal_at line.number (option_read options (items line.bytes)))
    (options_refusal (options_after options (option_read options (items line.bytes))) later)

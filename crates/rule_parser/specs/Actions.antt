-- The actions of rules (SWMM 5.2 manual, [CONTROLS] and modulated controls).
use Rattle.std.specs.Prelude.{ℕ, Bool, true, false, if◌then◌else◌, List, Option, None, Some}
use Rattle.std.specs.Prelude.{Result, Ok, Err}
use Rattle.exact_fraction.specs.Number.{Rational}
use Rattle.key_words.specs.Words.{attribute_named}
use Rattle.num_text.specs.Numbers.{number_of}
use Rattle.num_text.specs.declared.error.NumberFault.{NumberFault}
use Rattle.num_text.specs.declared.error.NumberFault.TheVariants.{BadNumber, TooLarge}
use Rattle.object_index.specs.Objects.{Objects}
use Rattle.rule_types.specs.declared.action.Action.{Action}
use Rattle.rule_types.specs.declared.action.CurveNo.{CurveNo}
use Rattle.rule_types.specs.declared.action.SeriesNo.{SeriesNo}
use Rattle.rule_types.specs.declared.action.PidSet.{PidSet}
use Rattle.rule_types.specs.declared.action.What.{What}
use Rattle.rule_types.specs.declared.action.What.TheVariants as what
use Rattle.rule_types.specs.declared.key.Attr.{Attr}
use Rattle.rule_types.specs.declared.key.Attr.TheVariants.{Setting, Status}
use Rattle.rule_types.specs.declared.object.ObjectNo.{ObjectNo}
use Rattle.rule_types.specs.declared.object.ObjectWord.{ObjectWord}
use Rattle.rule_types.specs.declared.object.ObjectWord.TheVariants as objects
use Rattle.rule_types.specs.declared.refusal.Cause.{Cause}
use Rattle.rule_types.specs.declared.refusal.Cause.TheVariants.{UnknownAttribute, WrongValue}
use Rattle.rule_types.specs.declared.refusal.Cause.TheVariants.{NumberTooLarge, UnknownTable}
use Rattle.rule_types.specs.declared.refusal.Cause.TheVariants.{FileSeries}
use Rattle.curves_series.specs.Names.{NamedTables, curve_named, series_named}
use Rattle.curves_series.specs.declared.fault.TableFault.{TableFault}
use Rattle.curves_series.specs.declared.fault.TableFault.TheVariants as table_faults
use Rattle.control_lines.specs.Faults.{Checked, then_with, both, fault_of}
use Rattle.control_lines.specs.Statements.{ActionText, ValueText, PidText, Plain, Curve}
use Rattle.control_lines.specs.Statements.{Series, Pid}
use Rattle.rule_parser.specs.Conditions.{object_read}
use Rattle.network_lines.specs.Values.{value_read}
use Rattle.network_lines.specs.declared.value.ValueKind.{ValueKind}
use Rattle.network_lines.specs.declared.value.ValueKind.TheVariants as values

-- ---- tables
-- why a name that gives no table is refused
abbrev pub table_cause : TableFault → Cause
table_cause table_faults.FileSeries = FileSeries
table_cause other = UnknownTable

-- the table that a name gives, or why there is none
abbrev pub table_from : {A : Type 0} → Result A TableFault → List ℕ → Checked A
table_from (Ok number) name = Ok number
table_from (Err fault) name = Err (fault_of (table_cause fault) name)

-- the curve of a name, and the series of a name, which is no file series
abbrev pub curve_read : NamedTables → List ℕ → Checked CurveNo
curve_read named name = table_from (curve_named named name) name

abbrev pub series_read : NamedTables → List ℕ → Checked SeriesNo
series_read named name = table_from (series_named named name) name

-- ---- PID controllers
-- a number of a PID controller: what is no number is reported by the word, and a number that is too
-- large by itself
abbrev pub pid_number : Result Rational NumberFault → List ℕ → List ℕ → Checked Rational
pid_number (Ok number) word item = Ok number
pid_number (Err BadNumber) word item = Err (fault_of WrongValue word)
pid_number (Err TooLarge) word item = Err (fault_of NumberTooLarge item)

unfoldable pub pid_part : List ℕ → List ℕ → Checked Rational
pid_part word item = pid_number (number_of item) word item

unfoldable pub pid_read : PidText → Checked PidSet
pid_read pid =
    then_with
    (λ (parts : Rational × (Rational × Rational)). record {
      gain = parts.0;
      integral = parts.1.0;
      derivative = parts.1.1;
    })
    (both (pid_part pid.word pid.gain)
    (both (pid_part pid.word pid.integral) (pid_part pid.word pid.derivative)))

-- ---- values
-- what of a link can be set: the status of a conduit or a pump, and the setting of each other link
-- and of a pump
abbrev pub can_set : ObjectWord → Attr → Bool
can_set objects.Conduit Status = true
can_set objects.Pump Status = true
can_set objects.Pump Setting = true
can_set objects.Orifice Setting = true
can_set objects.Weir Setting = true
can_set objects.Outlet Setting = true
can_set word attribute = false

-- a constant of a kind
abbrev pub constant_read : ValueKind → List ℕ → Checked What
constant_read kind item = then_with what.Constant (value_read kind item)

-- the value of a setting; `pids` is the number of the file's next PID action
abbrev pub setting_read : NamedTables → ℕ → ValueText → Checked What
setting_read tables pids (Plain item) = constant_read values.Setting item
setting_read tables pids (Curve table) = then_with what.Curve (curve_read tables table.name)
setting_read tables pids (Series table) = then_with what.Series (series_read tables table.name)
setting_read tables pids (Pid pid) = then_with (λ set. what.Pid set pids) (pid_read pid)

-- the value of a status: a status word, and no curve, series or PID controller
abbrev pub status_read : ValueText → Checked What
status_read (Plain item) = constant_read values.Status item
status_read (Curve table) = Err (fault_of WrongValue table.word)
status_read (Series table) = Err (fault_of WrongValue table.word)
status_read (Pid pid) = Err (fault_of WrongValue pid.word)

-- the value of an attribute that can be set
abbrev pub value_set : NamedTables → ℕ → Attr → ValueText → Checked What
value_set tables pids Status value = status_read value
value_set tables pids attribute value = setting_read tables pids value

-- the value that is set, where the attribute can be set
abbrev pub set_by : NamedTables → ℕ → ObjectWord → Option Attr → List ℕ → ValueText → Checked What
set_by tables pids word None item value = Err (fault_of UnknownAttribute item)
set_by tables pids word (Some attribute) item value =
    if can_set word attribute then value_set tables pids attribute value
    else Err (fault_of UnknownAttribute item)

-- the action on an object that is read
abbrev pub action_from : Checked ObjectNo → Checked What → Checked Action
action_from object value =
    then_with (λ (found : ObjectNo × What). record { link = found.0.index; what = found.1 })
    (both object value)

-- the action that is written, or what is reported of it
unfoldable pub action_read : Objects → NamedTables → ℕ → ActionText → Checked Action
action_read network tables pids written =
    action_from (object_read network written.target.word written.target.name)
    (set_by tables pids written.target.word (attribute_named written.target.attribute)
    written.target.attribute written.value)

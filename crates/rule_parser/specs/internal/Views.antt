-- What the parts of the readers stand for in the words of the definitions.
use Rattle.std.specs.Prelude.{◌≡◌, ℕ, List, [], ◌∷◌, Option, None, Some, Result, Ok, Err}
use Rattle.std.specs.Prelude.{option_map}
use Rattle.std.specs.List.{flat_map}
use Rattle.rule_types.specs.declared.action.Action.{Action}
use Rattle.rule_types.specs.declared.refusal.Refusal.{Refusal}
use Rattle.control_lines.specs.Faults.{FaultText, Checked, refusal_on}
use Rattle.control_lines.specs.Statements.{Statement, Expression}
use Rattle.control_lines.specs.Views.{fault_now}
use Rattle.control_lines.specs.declared.fault.Fault.{Fault}
use Rattle.rule_parser.specs.Controls.{Context}
use Rattle.rule_parser.specs.Formulas.{joined}
use Rattle.rule_parser.specs.declared.context.Context.{Context as CodeContext}
use Rattle.inp_text.specs.declared.section_kind.SectionKind.{SectionKind}
use Rattle.inp_text.specs.declared.source_line.SourceLine.{SourceLine}
use Rattle.rule_types.specs.Refusals.{earlier}
use Rattle.rule_parser.specs.Projects.{long_refusal, texts_refusal}
use Rattle.rule_parser.specs.Projects.{read_sections}
use Rattle.rule_parser.specs.declared.draft.Draft.{Draft}

-- what control lines are read against
abbrev pub context_now : CodeContext → Context
context_now context = record { objects = context.objects.now; tables = context.tables.now }

-- the text of the formula of an expression, and of no other statement
abbrev pub formula_text : Option Statement → List ℕ
formula_text (Some (Expression name formula)) = joined formula
formula_text other = []

-- the draft afterwards, or the fault that is reported, is the one that is due
abbrev pub Follows : Checked Draft → Option Fault → Draft → Type 0
Follows due None after = due ≡ Ok after
Follows due (Some fault) after = due ≡ Err (fault_now fault)

-- what comes after a line: what the later lines give from this draft, or the refusal
abbrev pub going_on :
    Option Refusal → Draft → (Draft → Result Draft Refusal) → Result Draft Refusal
going_on None draft later = later draft
going_on (Some refusal) draft later = Err refusal

-- the refusal of a line by what is reported of it
abbrev pub told_refusal : ℕ → Option FaultText → Option Refusal
told_refusal number told = option_map (refusal_on number) told

-- the links of actions
abbrev pub action_links : List Action → List ℕ
action_links = flat_map (λ action. action.link ∷ [])

-- the lower of the refusals of lines that are too long and of those with control bytes
abbrev pub text_and_long : (SectionKind → List SourceLine) → Option ℕ → Option Refusal
text_and_long lines long = earlier (long_refusal long) (texts_refusal lines read_sections)

-- What `verify` comes to.
use Rattle.std.specs.Prelude.{ℕ, List, [], ◌∷◌, ◌++◌, codes, Option, Some, Result, Ok, Err}
use Rattle.std.specs.Prelude.{nat_lt, if◌then◌else◌}
use Rattle.std.specs.Fmt.{decimal}
use Rattle.command_outputs.specs.Messages.{line_of}
use Rattle.command_outputs.specs.Outcomes.{Outcome, stage, written}
use Rattle.command_outputs.specs.Outcomes.{input_file, ranges_file, report_file}
use Rattle.command_outputs.specs.Statuses.{completion_status}
use Rattle.command_outputs.specs.declared.completion.Completion.{Completion}
use Rattle.command_outputs.specs.declared.completion.Completion.TheVariants.{Done, Refuted}
use Rattle.command_outputs.specs.declared.completion.Completion.TheVariants.{Undecided}
use Rattle.command_outputs.specs.declared.role.Role.{Role}
use Rattle.command_outputs.specs.declared.role.Role.TheVariants.{Input, Ranges, Report}
use Rattle.input_check.specs.InputRefusals.{project_judged}
use Rattle.report_checker.specs.Accepted.{report_judged}
use Rattle.report_checker.specs.declared.counts.Counts.{Counts}
use Rattle.report_checker.specs.declared.fault.ReportFault.{ReportFault}
use Rattle.rule_parser.specs.declared.project.Project.{Project}
use Rattle.verdict_commands.specs.Faults.{report_said}
use Rattle.verdict_commands.specs.Preparing.{ranges_judged}
use Rattle.verdict_commands.specs.declared.prepared.Prepared.{Prepared}

-- ---- the report
-- the counts, or the line that says the first fault of the report
abbrev pub counts_or_line : Result Counts ReportFault → Result Counts (List ℕ)
counts_or_line (Ok counts) = Ok counts
counts_or_line (Err fault) = Err (report_said fault)

-- how many entries of a report hold, are refuted and are undecided for a prepared project, where
-- every one is accepted, or the line that refuses the report
unfoldable pub counts_judged : Prepared → List (Option (List ℕ)) → Result Counts (List ℕ)
counts_judged p file =
    counts_or_line
    (report_judged p.project.rules p.project.tables p.project.objects p.ranges file)

-- counts as they were worked out
abbrev pub counts_read : Counts → Counts
counts_read counts = counts

-- ---- text and status
-- the text: `verified holds H refuted R undecided U`
abbrev pub verify_text : Counts → List ℕ
verify_text counts =
    line_of (codes "verified holds " ++ decimal counts.holds
    ++ codes " refuted " ++ decimal counts.refuted
    ++ codes " undecided " ++ decimal counts.undecided)

-- how the run ends: refuted where an entry is, else undecided where an entry is, else done
abbrev pub completion_of : Counts → Completion
completion_of counts =
    if nat_lt 0 counts.refuted then Refuted
    else (if nat_lt 0 counts.undecided then Undecided else Done)

-- the text is written after three files
abbrev pub verified : Counts → Outcome
verified counts = written 3 (completion_status (completion_of counts)) (verify_text counts)

-- ---- the stages
abbrev pub verify_roles : List Role
verify_roles = Input ∷ Ranges ∷ Report ∷ []

-- what comes after the ranges, over what is held under the name of the report
abbrev pub after_ranges : Option (List ℕ) → Prepared → Option Outcome
after_ranges report p =
    stage report_file (counts_judged p) (λ counts. Some (verified counts)) report

-- what comes after the input file, over what is held under the names of the ranges and the report
abbrev pub after_input : Option (List ℕ) → Option (List ℕ) → Project → Option Outcome
after_input ranges report p = stage ranges_file (ranges_judged p) (after_ranges report) ranges

-- what `verify IN RANGES REPORT` comes to, over what is held under the names of files: each file is
-- opened only where the one before is accepted
abbrev pub verify_outcome : (List ℕ → Option (List ℕ)) → List ℕ → List ℕ → List ℕ → Option Outcome
verify_outcome held input ranges report =
    stage input_file project_judged (after_input (held ranges) (held report)) (held input)

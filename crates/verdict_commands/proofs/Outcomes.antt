-- How many files `verify` opens, and that it writes at its end.
use Rattle.std.proofs.Common.{◌≡◌, ℕ, ◌≤◌, List, Option, None, Some, IfSome, refl, arith}
use Rattle.command_outputs.specs.Outcomes.{ranges_file, report_file}
use Rattle.command_outputs.proofs.PublicLaws.{stage_outcomes-opens, stage_outcomes-waits}
use Rattle.rule_parser.specs.declared.project.Project.{Project}
use Rattle.verdict_commands.specs.Preparing.{ranges_judged}
use Rattle.verdict_commands.specs.Verifies.{after_input, after_ranges, counts_judged, verified}
use Rattle.verdict_commands.specs.declared.prepared.Prepared.{Prepared}

-- the report is opened after two files
pub report_opens : (count : ℕ) (report : Option (List ℕ)) (p : Prepared) → count ≤ 3
    → IfSome (after_ranges report p) (λ o. count ≤ o.opened)
report_opens count report p within =
    stage_outcomes-opens count report_file (counts_judged p) (λ counts. Some (verified counts))
    report within (λ counts. within)

pub report_waits : (report : Option (List ℕ)) (p : Prepared)
    → IfSome (after_ranges report p) (λ o. o.partial ≡ None)
report_waits report p =
    stage_outcomes-waits report_file (counts_judged p) (λ counts. Some (verified counts)) report
    (λ counts. refl)

-- the ranges are opened after one
pub ranges_open : (ranges report : Option (List ℕ)) (p : Project)
    → IfSome (after_input ranges report p) (λ o. 1 ≤ o.opened)
ranges_open ranges report p =
    stage_outcomes-opens 1 ranges_file (ranges_judged p) (after_ranges report) ranges
    (omega arith) (λ prepared. report_opens 1 report prepared (omega arith))

-- Which reports are accepted: each entry has its form, and its verdict is judged.
use Rattle.std.specs.Prelude.{ℕ, zero, suc, Bool, true, false, ◌+◌, List, [], ◌∷◌, Option, None, Some}
use Rattle.std.specs.Prelude.{Result, Ok, Err, slice_get, unwrap_or, length}
use Rattle.inp_text.specs.Sections.{Line}
use Rattle.object_index.specs.Objects.{Objects}
use Rattle.report_lines.specs.Reports.{Entry, next_from}
use Rattle.report_lines.specs.Words.{Read}
use Rattle.report_reader.specs.Answers.{version_of}
use Rattle.rule_types.specs.Tables.{TableSet}
use Rattle.rule_types.specs.declared.rules.Rules.{Rules}
use Rattle.state_checker.specs.Witnesses.{is_witness}
use Rattle.verdict_meaning.specs.Certificates.{NodeFault, checked_cert, is_accepted}
use Rattle.verdict_meaning.specs.declared.cert.CertCause.{CertCause}
use Rattle.verdict_meaning.specs.declared.cert.CertCause.TheVariants as cause
use Rattle.verdict_meaning.specs.declared.question.Question.{Question}
use Rattle.verdict_meaning.specs.declared.ranges.Ranges.{Ranges}
use Rattle.verdict_meaning.specs.declared.verdict.Verdict.{Verdict}
use Rattle.verdict_meaning.specs.declared.verdict.Verdict.TheVariants as verdict
use Rattle.report_checker.specs.declared.counts.Counts.{Counts}
use Rattle.report_checker.specs.declared.fault.ReportFault.{ReportFault}

-- ---- one entry
-- the fault of the line at a place from 0: lines count from 1
abbrev pub fault_at : ℕ → CertCause → ReportFault
fault_at place cause = record { line = suc place; cause = cause }

-- the place of the line of a node, by the node's place in the order of nodes: a tree that was read
-- has a line for each of its nodes
abbrev pub node_line : List ℕ → ℕ → ℕ
node_line places node = unwrap_or (slice_get places node) 0

-- the fault of a tree: that of its first node at fault
abbrev pub tree_fault : List ℕ → Result ℕ NodeFault → Option ReportFault
tree_fault places (Ok nodes) = None
tree_fault places (Err fault) = Some (fault_at (node_line places fault.place) fault.cause)

-- the fault of a state, which is told at the line `refuted`: it is no witness
abbrev pub state_fault : ℕ → Bool → Option ReportFault
state_fault at true = None
state_fault at false = Some (fault_at at cause.NoEvent)

-- the fault of a verdict whose line is at a place: Holds wants a certificate that is accepted and
-- Refuted a witness, and of Undecided nothing is asked but its form
unfoldable pub verdict_fault : Rules → TableSet → Ranges → Question → List ℕ → ℕ → Verdict
    → Option ReportFault
verdict_fault x tables ranges question places at (verdict.Holds cert) =
    tree_fault places (checked_cert x tables ranges question cert)
verdict_fault x tables ranges question places at (verdict.Refuted s) =
    state_fault at (is_witness x tables question ranges s)
verdict_fault x tables ranges question places at (verdict.Undecided why) = None

-- the fault of an entry whose question stands at a place, with its verdict on the next line
abbrev pub entry_fault : Rules → TableSet → Ranges → ℕ → Entry → Option ReportFault
entry_fault x tables ranges at entry =
    verdict_fault x tables ranges entry.question entry.places (suc at) entry.verdict

-- ---- counts
-- no entries
abbrev pub no_counts : Counts
no_counts = record { holds = 0; refuted = 0; undecided = 0 }

-- with one entry more
abbrev pub with_verdict : Counts → Verdict → Counts
with_verdict counts (verdict.Holds cert) = record counts { holds = counts.holds + 1 }
with_verdict counts (verdict.Refuted s) = record counts { refuted = counts.refuted + 1 }
with_verdict counts (verdict.Undecided why) = record counts { undecided = counts.undecided + 1 }

-- ---- a report
-- an entry that was read, with what its fault is: an accepted one is counted, and those behind it
-- are judged
abbrev pub entry_judged : (ℕ → Counts → Result Counts ReportFault) → Counts → Read Entry
    → Option ReportFault → Result Counts ReportFault
entry_judged later counts read (Some fault) = Err fault
entry_judged later counts read None = later read.next (with_verdict counts read.value.verdict)

-- what is read at a place: a fault of form, the end of the report, or an entry
abbrev pub next_judged : Rules → TableSet → Ranges → ℕ → (ℕ → Counts → Result Counts ReportFault)
    → Counts → Result (Option (Read Entry)) ℕ → Result Counts ReportFault
next_judged x tables ranges at later counts (Err place) = Err (fault_at place cause.Shape)
next_judged x tables ranges at later counts (Ok None) = Ok counts
next_judged x tables ranges at later counts (Ok (Some read)) =
    entry_judged later counts read (entry_fault x tables ranges at read.value)

-- the entries from a place on, behind those counted so far and among at most so many: their counts
-- where each has its form and is accepted, or the fault of the first that has or is not
unfoldable pub entries_judged : Rules → TableSet → Objects → Ranges → List Line → Bool → ℕ → ℕ
    → Counts → Result Counts ReportFault
entries_judged x tables objects ranges lines facts zero at counts =
    Err (fault_at at cause.Shape)
entries_judged x tables objects ranges lines facts (suc most) at counts =
    next_judged x tables ranges at
    (entries_judged x tables objects ranges lines facts most) counts
    (next_from lines x objects facts at)

-- a report of a version, or of none: there are fewer entries than lines
abbrev pub version_judged : Rules → TableSet → Objects → Ranges → List Line → Option Bool
    → Result Counts ReportFault
version_judged x tables objects ranges lines None = Err (fault_at 0 cause.Shape)
version_judged x tables objects ranges lines (Some facts) =
    entries_judged x tables objects ranges lines facts (length lines) 1 no_counts

-- A report of these lines for prepared rules over ranges: the counts of its entries where it is
-- accepted, or its first fault. Entries are judged in their order, and of each the form comes before
-- the verdict.
unfoldable pub report_judged : Rules → TableSet → Objects → Ranges → List Line
    → Result Counts ReportFault
report_judged x tables objects ranges lines =
    version_judged x tables objects ranges lines (version_of lines)

-- ---- what is accepted
-- whether a verdict is accepted: Holds with a certificate that is, Refuted with a witness, and
-- Undecided as it stands
abbrev pub is_accepted_verdict : Rules → TableSet → Ranges → Question → Verdict → Bool
is_accepted_verdict x tables ranges question (verdict.Holds cert) =
    is_accepted x tables ranges question cert
is_accepted_verdict x tables ranges question (verdict.Refuted s) =
    is_witness x tables question ranges s
is_accepted_verdict x tables ranges question (verdict.Undecided why) = true

-- whether an entry's verdict is
unfoldable pub is_accepted_entry : Rules → TableSet → Ranges → Entry → Bool
is_accepted_entry x tables ranges entry =
    is_accepted_verdict x tables ranges entry.question entry.verdict

-- the counts with these entries more
unfoldable pub counted_from : Counts → List Entry → Counts
counted_from counts [] = counts
counted_from counts (entry ∷ more) = counted_from (with_verdict counts entry.verdict) more

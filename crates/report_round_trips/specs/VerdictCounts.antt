-- How many verdicts hold, are refuted and stay undecided.
use Rattle.std.specs.Prelude.{Bool, true, false, List, length}
use Rattle.std.specs.List.{filter}
use Rattle.report_checker.specs.declared.counts.Counts.{Counts}
use Rattle.verdict_meaning.specs.declared.verdict.Verdict.{Verdict}
use Rattle.verdict_meaning.specs.declared.verdict.Verdict.TheVariants as verdict
use Rattle.verdict_commands.specs.Proves.{is_refuted, is_undecided}

-- whether a verdict says that its question holds
abbrev pub says_holds : Verdict → Bool
says_holds (verdict.Holds tree) = true
says_holds (verdict.Refuted s) = false
says_holds (verdict.Undecided why) = false

-- the counts of verdicts
unfoldable pub counts_of : List Verdict → Counts
counts_of verdicts = record {
  holds = length (filter says_holds verdicts);
  refuted = length (filter is_refuted verdicts);
  undecided = length (filter is_undecided verdicts);
}

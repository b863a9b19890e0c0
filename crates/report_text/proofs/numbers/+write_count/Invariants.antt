use Rattle.report_text.proofs.numbers.+write_count.Given as goal

abbrev pub decreases-write_count : goal.decreases-write_count
decreases-write_count l = l.count

use Rattle.std.proofs.Common.{sym, ◌∙◌}
use Rattle.table_plan.proofs.CutLists.{above_read}
use Rattle.table_plan.proofs.rising_cuts.is_above_last.Goals as goal

pub returns-in-Some : goal.returns-in-Some
returns-in-Some c =
    c.holds.ensures.value ∙ sym (above_read c.args.cuts.now c.args.end.now c.in-Some.last.now (sym c.in-Some.ensures.value))

use Rattle.std.proofs.Common.{◌-◌, arith, ap, ◌∙◌, length, false}
use Rattle.std.proofs.lemmas.List.{length-replicate}
use Rattle.trace_csv.proofs.Marks.{none_twice, unmarked, marks_after, twice_after, marks_long}
use Rattle.trace_csv.proofs.columns.marks_twice.Goals as goal

pub loop-at-init : goal.loop-at-init
loop-at-init c = record {
  twice = none_twice c.args.columns.now;
  given = unmarked c.args.columns.now (length c.args.given.now) c.clear.new.given c.clear.ensures;
  long = ap length c.clear.ensures ∙ length-replicate (length c.args.given.now) false;
}

pub loop-at-preserved : goal.loop-at-preserved
loop-at-preserved c = record {
  twice =
      twice_after c.args.columns.now (c.loop-at.at - 1) c.loop-at.at (length c.args.given.now) _ c.loop-at.given c.mark.result c.loop-at.twice c.either-twice.result
      (omega arith) (omega arith) c.requires.within c.loop-at.invariant.given c.mark.ensures.old c.either-twice.ensures c.loop-at.invariant.twice;
  given =
      marks_after c.args.columns.now (c.loop-at.at - 1) c.loop-at.at (length c.args.given.now) _ c.loop-at.given c.mark.new.given
      (omega arith) (omega arith) c.requires.within c.loop-at.invariant.given c.mark.ensures.new;
  long =
      marks_long c.args.columns.now (c.loop-at.at - 1) (length c.args.given.now) c.mark.new.given
      (marks_after c.args.columns.now (c.loop-at.at - 1) c.loop-at.at (length c.args.given.now) _ c.loop-at.given c.mark.new.given
      (omega arith) (omega arith) c.requires.within c.loop-at.invariant.given c.mark.ensures.new);
}

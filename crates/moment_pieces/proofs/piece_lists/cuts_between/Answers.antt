use Rattle.std.proofs.Common.{subst}
use Rattle.std.specs.Prelude.{IfOk}
use Rattle.moment_pieces.specs.Pieces.{IsCuts}
use Rattle.moment_pieces.specs.internal.Spans.{AreStarts}
use Rattle.moment_pieces.proofs.Agreement.{firsts_agree, nothing_listed}
use Rattle.moment_pieces.proofs.piece_lists.cuts_between.Goals as goal

pub returns-in_default : goal.returns-in_default
returns-in_default c = record {
  cuts = nothing_listed c.args.rules.now c.args.used.now c.args.step.now c.args.run.now.start c.args.run.now.from c.args.run.now.to c.args.most c.new.result c.in_default.ensures.value c.new.ensures.value;
}

pub returns : goal.returns
returns c =
    let known = subst (λ hours. AreStarts c.args.rules.now c.args.used.now hours c.in-Some.span c.in_ok-starts.starts) c.hours_of_step-hours.ensures.value c.in_ok-starts.ensures.starts in
    let same = firsts_agree c.args.rules.now c.args.used.now c.args.step.now c.args.run.now.start c.args.run.now.from c.args.run.now.to c.in-Some.span c.in_ok-starts.starts c.in-Some.ensures.value.1 known c.in-Some.ensures.value.0 in
    record { cuts = subst (λ firsts. IfOk c.cuts_of.result (IsCuts firsts c.args.most)) same c.cuts_of.ensures.cuts }

use Rattle.std.proofs.Common.{[], ◌∷◌, codes}
use Rattle.std.proofs.lemmas.Result.{on_ok_weaker}
use Rattle.num_text.specs.Written.{written_moment}
use Rattle.report_text.specs.WrittenLines.{written_before}
use Rattle.report_text.specs.WrittenReports.{ended}
use Rattle.report_text.proofs.Joining.{three_parts, before_line}
use Rattle.report_text.proofs.line.write_before.Goals as goal

pub returns : goal.returns
returns c =
    let moment = c.args.moment.now in
    on_ok_weaker c.append-2.result
    (λ end. three_parts c.args.out.now.items (codes "split MOMENT ") (written_moment moment) (10 ∷ []) c.append.new.out.items
    c.write_moment.new.out.items c.append-2.new.out.items (ended (written_before moment)) c.in_ok-append.ensures
    c.in_ok-write_moment.ensures end (before_line moment)) c.append-2.ensures

use Rattle.std.proofs.Common.{◌++◌, [], ◌∷◌, codes, refl}
use Rattle.std.proofs.lemmas.Result.{on_ok_weaker}
use Rattle.num_text.specs.Written.{written_moment}
use Rattle.report_text.specs.WrittenLines.{written_span}
use Rattle.report_text.specs.WrittenReports.{ended}
use Rattle.report_text.proofs.Joining.{two_parts, three_parts, span_line}
use Rattle.report_text.proofs.line.write_span.Goals as goal

pub returns : goal.returns
returns c =
    let first = c.args.first.now in
    let last = c.args.last.now in
    let head = codes "piece MOMENT " in
    let front = (head ++ written_moment first) ++ codes " " in
    let in_front = three_parts c.args.out.now.items head (written_moment first) (codes " ") c.append.new.out.items
    c.write_moment.new.out.items c.append-2.new.out.items front c.in_ok-append.ensures c.in_ok-write_moment.ensures
    c.in_ok-append-2.ensures refl in
    on_ok_weaker c.append-3.result
    (λ end. two_parts c.args.out.now.items front (written_moment last ++ (10 ∷ [])) c.append-2.new.out.items
    c.append-3.new.out.items (ended (written_span (first, last))) in_front
    (two_parts c.append-2.new.out.items (written_moment last) (10 ∷ []) c.write_moment-2.new.out.items c.append-3.new.out.items
    (written_moment last ++ (10 ∷ [])) c.in_ok-write_moment-2.ensures end refl)
    (span_line first last)) c.append-3.ensures

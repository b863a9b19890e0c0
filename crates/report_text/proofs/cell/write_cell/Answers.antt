use Rattle.std.proofs.Common.{◌++◌, ◌∙◌, ap}
use Rattle.std.specs.List.{flat_map}
use Rattle.std.proofs.lemmas.Result.{on_ok_weaker}
use Rattle.report_text.specs.WrittenReports.{text_of, span_lines, cell_lines}
use Rattle.report_text.specs.internal.RowTexts.{piece_text}
use Rattle.report_text.proofs.Joining.{two_parts, cell_text}
use Rattle.report_text.proofs.cell.write_cell.Goals as goal

pub returns : goal.returns
returns c =
    let out = c.args.out.now.items in
    let objects = c.args.objects.now in
    let cell = c.args.cell.now in
    on_ok_weaker c.write_moments.result
    (λ end. two_parts out (flat_map (piece_text objects) cell.keys) (text_of (span_lines cell.moments))
    c.write_pieces.new.out.items c.write_moments.new.out.items (text_of (cell_lines objects cell))
    (c.in_ok-write_pieces.ensures ∙ ap (λ l. out ++ flat_map (piece_text objects) l) c.as_slice.ensures.value) end
    (cell_text objects cell)) c.write_moments.ensures

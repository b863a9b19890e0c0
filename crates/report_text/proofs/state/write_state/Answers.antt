use Rattle.std.proofs.Common.{rules, ◌≡◌, ◌++◌, ◌∙◌, ap}
use Rattle.std.specs.List.{flat_map}
use Rattle.std.proofs.lemmas.Result.{on_ok_weaker}
use Rattle.report_text.specs.WrittenReports.{text_of, moment_lines, state_lines}
use Rattle.report_text.specs.internal.RowTexts.{value_texts}
use Rattle.report_text.proofs.Joining.{two_parts, state_text}
use Rattle.report_text.proofs.state.write_state.Goals as goal

pub returns : goal.returns
returns c =
    let out = c.args.out.now.items in
    let x = c.args.rules.now in
    let objects = c.args.objects.now in
    let grid = c.args.grid.now in
    let s = c.args.state.now in
    let same : c.as_slice.result.now ≡ grid.keys = search rules in
    on_ok_weaker c.write_state_end.result
    (λ end. two_parts out (flat_map (value_texts x objects s) grid.keys) (text_of (moment_lines grid.has_moments s.moment))
    c.write_values.new.out.items c.write_state_end.new.out.items (text_of (state_lines x objects grid s))
    (c.in_ok-write_values.ensures ∙ ap (λ l. out ++ flat_map (value_texts x objects s) l) same) end
    (state_text x objects grid s)) c.write_state_end.ensures

use Rattle.std.proofs.Common.{◌≡◌, ◌<◌, ◌^◌, length, ap, sym, subst, ◌∙◌}
use Rattle.std.proofs.lemmas.List.FromFn.{length-map-range_with_len}
use Rattle.verdict_meaning.specs.Questions.{is_asked}
use Rattle.report_lines.specs.declared.grid.Grid.{Grid}
use Rattle.report_reader.proofs.reader.read_body.Goals as goal

pub read_verdict-requires-clause-few : goal.read_verdict-requires-clause-few
read_verdict-requires-clause-few c =
    let x = c.args.report.now.rules.now in
    let count : length c.in_ok-grid.grid.asked ≡ length x.rules =
    ap (λ (grid : Grid). length grid.asked) c.in_ok-grid.ensures.value
    ∙ length-map-range_with_len (is_asked x c.args.question) 0 (length x.rules) in
    subst (λ n. n < 2 ^ 32) (sym count) c.requires.few

-- A line that is held whole is that of the bytes up to the first LF.
use Rattle.std.proofs.Common.{◌≡◌, ◌+◌, ◌≤◌, true, length, take, refl, sym, ◌∙◌, ap, arith}
use Rattle.std.proofs.lemmas.List.{take_all, length-take-le}
use Rattle.byte_edge.specs.internal.LineParts.{IsNextPart}
use Rattle.byte_edge.proofs.Gathering.{Consumes-held}
use Rattle.byte_edge.proofs.Lines.{newline-found}
use Rattle.byte_edge.proofs.Reports.{line_event_of-whole, line_text-short, reports-whole}
use Rattle.byte_edge.proofs.line_reader.LineReader.take_held_line.Goals as goal

pub returns-clause-taken : goal.returns-clause-taken
returns-clause-taken c = λ yes left.
    let held = c.self.inside.block.held in
    let n = c.in-Some.at + 1 in
    let raw = take n held in
    let limit = c.self.inside.limit in
    let part : IsNextPart n true held = newline-found _ _ c.in-Some.ensures in
    let size : length raw ≡ n = length-take-le n held part.within in
    let within : length raw ≤ limit = omega (arith, c.if-at-self.false, size) in
    let text = c.take_line.ensures.line in
    let short : length c.take_line.new.self.line ≤ limit = omega (arith, ap length text, line_text-short raw, within) in
    let going = ap (λ r. r.spent) c.self.view_is ∙ c.requires.going in
    let awake = ap (λ r. r.ended) c.self.view_is ∙ c.requires.awake in
    let whole = sym (take_all (limit + 3) raw (omega (arith, within))) in
    rw (← c.self.view_is)
    (reports-whole _ _ _ left left raw (line_event_of-whole limit (limit + 3) raw raw _ refl whole text short)
    refl refl going awake awake (part.line refl) (omega (arith, size, c.if-count-self.false))
    (rw c.take_line.ensures.held (Consumes-held held n left)))

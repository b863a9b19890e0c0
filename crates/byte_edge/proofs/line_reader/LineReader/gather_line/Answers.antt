use Rattle.std.proofs.Common.{◌≡◌, ◌+◌, ◌<◌, ◌≤◌, length, refl, ◌∙◌, ap, arith}
use Rattle.std.proofs.lemmas.Bool.{false≢true}
use Rattle.byte_edge.proofs.Reports.{line_event_of-whole, line_event_of-over, reports-whole, reports-last, reports-past, reports-fault, kept-some}
use Rattle.byte_edge.proofs.line_reader.LineReader.gather_line.Goals as goal

pub returns-then-len-self-clause-answer : goal.returns-then-len-self-clause-answer
returns-then-len-self-clause-answer g c =
    let awake = ap (λ r. r.ended) c.self.view_is ∙ c.requires.awake in
    let got = c.in-Line.ensures.gathered in
    let going = ap (λ r. r.spent) c.self.view_is ∙ c.requires.going in
    let long : c.self.inside.limit < length c.strip_end.new.self.bytes = omega (arith, c.len.ensures) in
    let room : c.gather.new.line.most ≡ c.self.inside.limit + 3 = omega (arith, c.in-Line.ensures.most) in
    rw (← c.self.view_is)
    (reports-whole _ _ _ _ _ got.raw (line_event_of-over _ _ got.raw _ _ room got.taken.kept c.strip_end.ensures.bytes long)
    refl refl going awake awake got.whole got.taken.paid got.taken.consumed)

pub returns-else-len-self-clause-answer : goal.returns-else-len-self-clause-answer
returns-else-len-self-clause-answer g c =
    let awake = ap (λ r. r.ended) c.self.view_is ∙ c.requires.awake in
    let got = c.in-Line.ensures.gathered in
    let going = ap (λ r. r.spent) c.self.view_is ∙ c.requires.going in
    let short : length c.strip_end.new.self.bytes ≤ c.self.inside.limit = omega (arith, c.len.ensures) in
    let room : c.gather.new.line.most ≡ c.self.inside.limit + 3 = omega (arith, c.in-Line.ensures.most) in
    rw (← c.self.view_is) (
      reports-whole _ _ _ _ _ got.raw (line_event_of-whole _ _ got.raw _ _ room got.taken.kept c.strip_end.ensures.bytes short)
          refl refl going awake awake got.whole got.taken.paid got.taken.consumed,
      short,
    )

pub returns-then-len-self-2-clause-answer : goal.returns-then-len-self-2-clause-answer
returns-then-len-self-2-clause-answer g c =
    let awake = ap (λ r. r.ended) c.self.view_is ∙ c.requires.awake in
    let got = c.in-End.ensures.gathered in
    let going = ap (λ r. r.spent) c.self.view_is ∙ c.requires.going in
    let long : c.self.inside.limit < length c.strip_end-in-End.new.self.bytes = omega (arith, c.len-in-End.ensures) in
    let room : c.gather.new.line.most ≡ c.self.inside.limit + 3 = omega (arith, c.in-End.ensures.most) in
    let some = kept-some _ got.raw _ got.taken.kept (λ none. false≢true (c.if-is_empty.ensures.1 none)) in
    rw (← c.self.view_is)
    (reports-last _ _ _ _ _ got.raw (line_event_of-over _ _ got.raw _ _ room got.taken.kept c.strip_end-in-End.ensures.bytes long)
    refl refl going awake refl got.empty got.none some got.taken.paid got.at_end got.taken.consumed)

pub returns-else-len-self-2-clause-answer : goal.returns-else-len-self-2-clause-answer
returns-else-len-self-2-clause-answer g c =
    let awake = ap (λ r. r.ended) c.self.view_is ∙ c.requires.awake in
    let got = c.in-End.ensures.gathered in
    let going = ap (λ r. r.spent) c.self.view_is ∙ c.requires.going in
    let short : length c.strip_end-in-End.new.self.bytes ≤ c.self.inside.limit = omega (arith, c.len-in-End.ensures) in
    let room : c.gather.new.line.most ≡ c.self.inside.limit + 3 = omega (arith, c.in-End.ensures.most) in
    let some = kept-some _ got.raw _ got.taken.kept (λ none. false≢true (c.if-is_empty.ensures.1 none)) in
    rw (← c.self.view_is) (
      reports-last _ _ _ _ _ got.raw (line_event_of-whole _ _ got.raw _ _ room got.taken.kept c.strip_end-in-End.ensures.bytes short)
          refl refl going awake refl got.empty got.none some got.taken.paid got.at_end got.taken.consumed,
      short,
    )

pub returns-in-PastBudget-clause-answer : goal.returns-in-PastBudget-clause-answer
returns-in-PastBudget-clause-answer g c =
    let awake = ap (λ r. r.ended) c.self.view_is ∙ c.requires.awake in
    let got = c.in-PastBudget.ensures.gathered in
    rw (← c.self.view_is) (reports-past _ _ _ _ got.raw refl refl refl awake got.over)

pub returns-in-Fault-clause-answer : goal.returns-in-Fault-clause-answer
returns-in-Fault-clause-answer g c =
    let awake = ap (λ r. r.ended) c.self.view_is ∙ c.requires.awake in
    let got = c.in-Fault.ensures.gathered in
    rw (← c.self.view_is) (reports-fault _ _ _ _ got.raw refl refl refl awake awake got.empty got.none got.consumed)

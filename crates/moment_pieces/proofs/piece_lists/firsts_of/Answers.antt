use Rattle.std.proofs.Common.{◌∷◌, [], ◌++◌, ap, sym, ◌∙◌, refl, arith}
use Rattle.moment_pieces.specs.internal.Spans.{firsts_from}
use Rattle.moment_pieces.proofs.Counting.{firsts_begin, firsts_next, firsts_last}
use Rattle.moment_pieces.proofs.piece_lists.firsts_of.Goals as goal

pub pieces-init : goal.pieces-init
pieces-init c =
    let begin = firsts_begin c.args.starts.now.daily.items c.args.starts.now.singles.items c.args.span.now.midnight c.args.span.now.from c.args.span.now.first c.moment_at.result c.requires.span.from_is c.moment_at.ensures.value in
    (omega arith, c.requires.span.order, c.in_ok-push.ensures.items ∙ ap (λ xs. xs ++ (c.moment_at.result ∷ [])) c.new-firsts.ensures.items ∙ begin)

pub pieces-preserved : goal.pieces-preserved
pieces-preserved c =
    let next = c.in-Some.ensures.value in
    let above = next.next_is.above in
    let first = c.pieces.invariant.0 in
    let more = firsts_next c.args.starts.now.daily.items c.args.starts.now.singles.items c.args.span.now.midnight c.args.span.now.from c.args.span.now.first c.pieces.at c.requires.span.from_is first c.in-Some.next next.next_is in (
      omega (arith, first, above),
      next.within,
      rw (c.in_ok-push-2.ensures.items, c.moment_at-in-Some.ensures.value, c.pieces.invariant.2, more) refl,
    )

pub returns : goal.returns
unfolding firsts_from
returns c =
    let last = firsts_last c.args.starts.now.daily.items c.args.starts.now.singles.items c.args.span.now.midnight c.args.span.now.from c.args.span.now.first c.pieces.at c.requires.span.from_is c.pieces.invariant.0 c.args.span.now.last c.pieces.invariant.1 c.in_default.ensures.value in
    record { firsts = c.pieces.invariant.2 ∙ ap (λ xs. c.args.span.now.from ∷ xs) (sym last) }

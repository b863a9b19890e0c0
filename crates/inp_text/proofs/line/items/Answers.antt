use Rattle.std.proofs.Common.{ap, sym, ◌∙◌, subst, List, length, All}
use Rattle.inp_text.specs.Items.{texts_at, IsPlace}
use Rattle.inp_text.specs.declared.line.Span.{Span}
use Rattle.inp_text.proofs.PlaceLemmas.{item_places-of, texts_at-item_places, IsPlace-item_places}
use Rattle.inp_text.proofs.line.items.Goals as goal

pub returns-clause-value : goal.returns-clause-value
returns-clause-value c = item_places-of c.args.line.now c.without_comment.result.now c.in_ok-places.places.items c.without_comment.ensures c.in_ok-places.ensures

pub returns-clause-texts : goal.returns-clause-texts
returns-clause-texts c =
    let found = item_places-of c.args.line.now c.without_comment.result.now c.in_ok-places.places.items c.without_comment.ensures c.in_ok-places.ensures in
    ap (texts_at c.args.line.now) found ∙ texts_at-item_places c.args.line.now

pub returns-clause-places : goal.returns-clause-places
returns-clause-places c =
    let found = item_places-of c.args.line.now c.without_comment.result.now c.in_ok-places.places.items c.without_comment.ensures c.in_ok-places.ensures in
    subst (λ (places : List Span). All (IsPlace (length c.args.line.now)) places) (sym found) (IsPlace-item_places c.args.line.now)

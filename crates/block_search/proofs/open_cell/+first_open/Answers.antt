use Rattle.std.proofs.Common.{◌≡◌, Some, true, false, refl, sym, subst, ap, ◌∙◌, ◌<◌, rules}
use Rattle.std.specs.List.{find}
use Rattle.block_search.specs.Blocks.{IsWithin, cells, size}
use Rattle.block_search.specs.Judgements.{is_open}
use Rattle.block_search.proofs.Searching.{above_smaller, above_within, axis_wide, axis_within, below_smaller, below_within, cut_made, if_ok, inner_smaller, inner_within, none_open, open_first, open_second, open_third}
use Rattle.block_search.proofs.open_cell.+first_open.Goals as goal

pub returns-then-has_none : goal.returns-then-has_none
returns-then-has_none g t c = record {
  first =
      none_open (g.T.Task.judged c.args.task.now) c.args.block.now
      (sym c.has_none.ensures.value ∙ c.if-has_none.true);
}

pub span_at-span-requires : goal.span_at-span-requires
span_at-span-requires g t c = record {
  within =
      axis_within c.args.block.now c.in-Some.axis
      (sym c.has_none.ensures.value ∙ c.if-has_none.false)
      (sym c.wide_axis.ensures.value ∙ c.in-Some.is);
}

pub middle-cut-requires : goal.middle-cut-requires
middle-cut-requires g t c = record {
  wide =
      axis_wide c.args.block.now c.in-Some.axis c.span_at-span.result c.span_at-span.ensures.value
      (sym c.has_none.ensures.value ∙ c.if-has_none.false)
      (sym c.wide_axis.ensures.value ∙ c.in-Some.is);
}

pub part-requires : goal.part-requires
part-requires g t c = record {
  within =
      axis_within c.args.block.now c.in-Some.axis
      (sym c.has_none.ensures.value ∙ c.if-has_none.false)
      (sym c.wide_axis.ensures.value ∙ c.in-Some.is);
}

pub part-requires-2 : goal.part-requires-2
part-requires-2 g t c = record {
  within =
      axis_within c.args.block.now c.in-Some.axis
      (sym c.has_none.ensures.value ∙ c.if-has_none.false)
      (sym c.wide_axis.ensures.value ∙ c.in-Some.is);
}

pub part-requires-3 : goal.part-requires-3
part-requires-3 g t c = record {
  within =
      axis_within c.args.block.now c.in-Some.axis
      (sym c.has_none.ensures.value ∙ c.if-has_none.false)
      (sym c.wide_axis.ensures.value ∙ c.in-Some.is);
}

pub first_open-requires : goal.first_open-requires
first_open-requires g t c κs within =
    let judged = g.T.Task.judged c.args.task.now in
    let cut =
    cut_made judged c.args.block.now c.in-Some.axis c.has_moments-of_moments.result
    c.span_at-span.result c.middle-cut.result.at c.middle-cut.result.from
    c.span_at-span.ensures.value (sym c.has_none.ensures.value ∙ c.if-has_none.false)
    (sym c.wide_axis.ensures.value ∙ c.in-Some.is) c.has_moments-of_moments.ensures.value
    c.middle-cut.ensures.middle in
    let lt : size c.deref.result.now < size c.args.block.now =
    subst (λ part. size part < size c.args.block.now)
    (sym (c.deref.ensures.value ∙ c.in_ok-below.ensures.value))
    (below_smaller judged c.args.block.now c.in-Some.axis c.has_moments-of_moments.result
    c.span_at-span.result c.middle-cut.result.at c.middle-cut.result.from cut) in (
      search (rules, lt),
      (
        within,
        (
          c.requires.ready,
          subst (IsWithin judged.axes) (sym (c.deref.ensures.value ∙ c.in_ok-below.ensures.value))
              (below_within judged c.args.block.now c.in-Some.axis c.has_moments-of_moments.result
              c.span_at-span.result c.middle-cut.result.at c.middle-cut.result.from cut
              c.requires.within),
        ),
      ),
    )

pub first_open-requires-2 : goal.first_open-requires-2
first_open-requires-2 g t c κs within =
    let judged = g.T.Task.judged c.args.task.now in
    let cut =
    cut_made judged c.args.block.now c.in-Some.axis c.has_moments-of_moments.result
    c.span_at-span.result c.middle-cut.result.at c.middle-cut.result.from
    c.span_at-span.ensures.value (sym c.has_none.ensures.value ∙ c.if-has_none.false)
    (sym c.wide_axis.ensures.value ∙ c.in-Some.is) c.has_moments-of_moments.ensures.value
    c.middle-cut.ensures.middle in
    let lt : size c.deref-2.result.now < size c.args.block.now =
    subst (λ part. size part < size c.args.block.now)
    (sym (c.deref-2.ensures.value ∙ c.in_ok-inner.ensures.value))
    (inner_smaller judged c.args.block.now c.in-Some.axis c.has_moments-of_moments.result
    c.span_at-span.result c.middle-cut.result.at c.middle-cut.result.from cut) in (
      search (rules, lt),
      (
        within,
        (
          c.requires.ready,
          subst (IsWithin judged.axes) (sym (c.deref-2.ensures.value ∙ c.in_ok-inner.ensures.value))
              (inner_within judged c.args.block.now c.in-Some.axis c.has_moments-of_moments.result
              c.span_at-span.result c.middle-cut.result.at c.middle-cut.result.from cut
              c.requires.within),
        ),
      ),
    )

pub first_open-requires-3 : goal.first_open-requires-3
first_open-requires-3 g t c κs within =
    let judged = g.T.Task.judged c.args.task.now in
    let cut =
    cut_made judged c.args.block.now c.in-Some.axis c.has_moments-of_moments.result
    c.span_at-span.result c.middle-cut.result.at c.middle-cut.result.from
    c.span_at-span.ensures.value (sym c.has_none.ensures.value ∙ c.if-has_none.false)
    (sym c.wide_axis.ensures.value ∙ c.in-Some.is) c.has_moments-of_moments.ensures.value
    c.middle-cut.ensures.middle in
    let lt : size c.deref-3.result.now < size c.args.block.now =
    subst (λ part. size part < size c.args.block.now)
    (sym (c.deref-3.ensures.value ∙ c.in_ok-above.ensures.value))
    (above_smaller judged c.args.block.now c.in-Some.axis c.has_moments-of_moments.result
    c.span_at-span.result c.middle-cut.result.at c.middle-cut.result.from cut) in (
      search (rules, lt),
      (
        within,
        (
          c.requires.ready,
          subst (IsWithin judged.axes) (sym (c.deref-3.ensures.value ∙ c.in_ok-above.ensures.value))
              (above_within judged c.args.block.now c.in-Some.axis c.has_moments-of_moments.result
              c.span_at-span.result c.middle-cut.result.at c.middle-cut.result.from cut
              c.requires.within),
        ),
      ),
    )

pub returns-then-is_some : goal.returns-then-is_some
returns-then-is_some g t c =
    let judged = g.T.Task.judged c.args.task.now in
    let cut =
    cut_made judged c.args.block.now c.in-Some.axis c.has_moments-of_moments.result
    c.span_at-span.result c.middle-cut.result.at c.middle-cut.result.from
    c.span_at-span.ensures.value (sym c.has_none.ensures.value ∙ c.if-has_none.false)
    (sym c.wide_axis.ensures.value ∙ c.in-Some.is) c.has_moments-of_moments.ensures.value
    c.middle-cut.ensures.middle in
    record {
      first =
          open_first judged c.args.block.now c.in-Some.axis c.has_moments-of_moments.result
          c.span_at-span.result c.middle-cut.result.at c.middle-cut.result.from cut
          c.in_ok-first.first (sym c.is_some.ensures ∙ c.if-is_some.true)
          (c.in_ok-first.ensures.first
          ∙ ap (λ block. find (is_open judged) (cells block))
          (c.deref.ensures.value ∙ c.in_ok-below.ensures.value));
    }

pub returns-then-is_some-2 : goal.returns-then-is_some-2
returns-then-is_some-2 g t c =
    let judged = g.T.Task.judged c.args.task.now in
    let cut =
    cut_made judged c.args.block.now c.in-Some.axis c.has_moments-of_moments.result
    c.span_at-span.result c.middle-cut.result.at c.middle-cut.result.from
    c.span_at-span.ensures.value (sym c.has_none.ensures.value ∙ c.if-has_none.false)
    (sym c.wide_axis.ensures.value ∙ c.in-Some.is) c.has_moments-of_moments.ensures.value
    c.middle-cut.ensures.middle in
    record {
      first =
          open_second judged c.args.block.now c.in-Some.axis c.has_moments-of_moments.result
          c.span_at-span.result c.middle-cut.result.at c.middle-cut.result.from cut
          c.in_ok-first.first c.in_ok-second.second
          (sym c.is_some.ensures ∙ c.if-is_some.false)
          (sym c.is_some-2.ensures ∙ c.if-is_some-2.true)
          (c.in_ok-first.ensures.first
          ∙ ap (λ block. find (is_open judged) (cells block))
          (c.deref.ensures.value ∙ c.in_ok-below.ensures.value))
          (c.in_ok-second.ensures.first
          ∙ ap (λ block. find (is_open judged) (cells block))
          (c.deref-2.ensures.value ∙ c.in_ok-inner.ensures.value));
    }

pub returns : goal.returns
returns g t c =
    let judged = g.T.Task.judged c.args.task.now in
    let cut =
    cut_made judged c.args.block.now c.in-Some.axis c.has_moments-of_moments.result
    c.span_at-span.result c.middle-cut.result.at c.middle-cut.result.from
    c.span_at-span.ensures.value (sym c.has_none.ensures.value ∙ c.if-has_none.false)
    (sym c.wide_axis.ensures.value ∙ c.in-Some.is) c.has_moments-of_moments.ensures.value
    c.middle-cut.ensures.middle in
    record {
      first =
          if_ok c.first_open-3.result
          (λ cell. cell ≡ find (is_open judged) (cells c.deref-3.result.now))
          (λ cell. cell ≡ find (is_open judged) (cells c.args.block.now))
          (λ cell e.
          open_third judged c.args.block.now c.in-Some.axis c.has_moments-of_moments.result
          c.span_at-span.result c.middle-cut.result.at c.middle-cut.result.from cut
          c.in_ok-first.first c.in_ok-second.second cell
          (sym c.is_some.ensures ∙ c.if-is_some.false)
          (sym c.is_some-2.ensures ∙ c.if-is_some-2.false)
          (c.in_ok-first.ensures.first
          ∙ ap (λ block. find (is_open judged) (cells block))
          (c.deref.ensures.value ∙ c.in_ok-below.ensures.value))
          (c.in_ok-second.ensures.first
          ∙ ap (λ block. find (is_open judged) (cells block))
          (c.deref-2.ensures.value ∙ c.in_ok-inner.ensures.value))
          (e
          ∙ ap (λ block. find (is_open judged) (cells block))
          (c.deref-3.ensures.value ∙ c.in_ok-above.ensures.value)))
          c.first_open-3.ensures.first;
    }

use Rattle.std.proofs.Common.{[], Some, true, false, refl, sym, subst, ap, ◌∙◌, ◌<◌, rules}
use Rattle.block_search.specs.declared.outcome.Outcome.TheVariants.{Proved}
use Rattle.block_search.specs.declared.tree.Tree.TheVariants.{Leaf}
use Rattle.block_search.specs.Blocks.{IsWithin, size}
use Rattle.block_search.specs.Outcomes.{IsFound, joined}
use Rattle.block_search.proofs.Joining.{empty_found, first_event, found_joined, none_found, second_event, shown_found}
use Rattle.block_search.proofs.Searching.{above_smaller, above_within, axis_wide, axis_within, below_smaller, below_within, cut_made, inner_smaller, inner_within, is_found}
use Rattle.block_search.proofs.search.+search_block.Goals as goal

pub returns-then-has_none : goal.returns-then-has_none
returns-then-has_none g t c = record {
  found =
      subst (λ facts. IsFound (g.T.Task.judged c.args.task.now) c.args.block.now (Proved (Leaf facts)))
      (sym c.new.ensures.value)
      (empty_found (g.T.Task.judged c.args.task.now) c.args.block.now
      (sym c.has_none.ensures.value ∙ c.if-has_none.true));
}

pub returns-then-shown : goal.returns-then-shown
returns-then-shown g t c = record {
  found =
      shown_found (g.T.Task.judged c.args.task.now) c.args.block.now c.in_ok-facts.facts
      (sym c.has_none.ensures.value ∙ c.if-has_none.false) c.in_ok-facts.ensures.accepted
      (g.met.T.Task.sound c.args.task.now c.args.block.now c.requires.ready c.requires.within
      (sym c.in_ok-shown.ensures.value ∙ c.if-shown.true));
}

pub span_at-span-requires : goal.span_at-span-requires
span_at-span-requires g t c = record {
  within =
      axis_within c.args.block.now c.in-Some.axis
      (sym c.has_none.ensures.value ∙ c.if-has_none.false)
      (sym c.wide_axis.ensures.value ∙ c.in-Some.is);
}

pub middle-cut-requires : goal.middle-cut-requires
middle-cut-requires g t c = record {
  wide =
      axis_wide c.args.block.now c.in-Some.axis c.span_at-span.result c.span_at-span.ensures.value
      (sym c.has_none.ensures.value ∙ c.if-has_none.false)
      (sym c.wide_axis.ensures.value ∙ c.in-Some.is);
}

pub part-requires : goal.part-requires
part-requires g t c = record {
  within =
      axis_within c.args.block.now c.in-Some.axis
      (sym c.has_none.ensures.value ∙ c.if-has_none.false)
      (sym c.wide_axis.ensures.value ∙ c.in-Some.is);
}

pub part-requires-2 : goal.part-requires-2
part-requires-2 g t c = record {
  within =
      axis_within c.args.block.now c.in-Some.axis
      (sym c.has_none.ensures.value ∙ c.if-has_none.false)
      (sym c.wide_axis.ensures.value ∙ c.in-Some.is);
}

pub part-requires-3 : goal.part-requires-3
part-requires-3 g t c = record {
  within =
      axis_within c.args.block.now c.in-Some.axis
      (sym c.has_none.ensures.value ∙ c.if-has_none.false)
      (sym c.wide_axis.ensures.value ∙ c.in-Some.is);
}

pub search_block-requires : goal.search_block-requires
search_block-requires g t c κs within =
    let judged = g.T.Task.judged c.args.task.now in
    let cut =
    cut_made judged c.args.block.now c.in-Some.axis c.has_moments-of_moments.result
    c.span_at-span.result c.middle-cut.result.at c.middle-cut.result.from
    c.span_at-span.ensures.value (sym c.has_none.ensures.value ∙ c.if-has_none.false)
    (sym c.wide_axis.ensures.value ∙ c.in-Some.is) c.has_moments-of_moments.ensures.value
    c.middle-cut.ensures.middle in
    let lt : size c.deref.result.now < size c.args.block.now =
    subst (λ part. size part < size c.args.block.now)
    (sym (c.deref.ensures.value ∙ c.in_ok-below.ensures.value))
    (below_smaller judged c.args.block.now c.in-Some.axis c.has_moments-of_moments.result
    c.span_at-span.result c.middle-cut.result.at c.middle-cut.result.from cut) in (
      search (rules, lt),
      (
        within,
        (
          c.requires.ready,
          subst (IsWithin judged.axes) (sym (c.deref.ensures.value ∙ c.in_ok-below.ensures.value))
              (below_within judged c.args.block.now c.in-Some.axis c.has_moments-of_moments.result
              c.span_at-span.result c.middle-cut.result.at c.middle-cut.result.from cut
              c.requires.within),
        ),
      ),
    )

pub search_block-requires-2 : goal.search_block-requires-2
search_block-requires-2 g t c κs within =
    let judged = g.T.Task.judged c.args.task.now in
    let cut =
    cut_made judged c.args.block.now c.in-Some.axis c.has_moments-of_moments.result
    c.span_at-span.result c.middle-cut.result.at c.middle-cut.result.from
    c.span_at-span.ensures.value (sym c.has_none.ensures.value ∙ c.if-has_none.false)
    (sym c.wide_axis.ensures.value ∙ c.in-Some.is) c.has_moments-of_moments.ensures.value
    c.middle-cut.ensures.middle in
    let lt : size c.deref-2.result.now < size c.args.block.now =
    subst (λ part. size part < size c.args.block.now)
    (sym (c.deref-2.ensures.value ∙ c.in_ok-inner.ensures.value))
    (inner_smaller judged c.args.block.now c.in-Some.axis c.has_moments-of_moments.result
    c.span_at-span.result c.middle-cut.result.at c.middle-cut.result.from cut) in (
      search (rules, lt),
      (
        within,
        (
          c.requires.ready,
          subst (IsWithin judged.axes) (sym (c.deref-2.ensures.value ∙ c.in_ok-inner.ensures.value))
              (inner_within judged c.args.block.now c.in-Some.axis c.has_moments-of_moments.result
              c.span_at-span.result c.middle-cut.result.at c.middle-cut.result.from cut
              c.requires.within),
        ),
      ),
    )

pub search_block-requires-3 : goal.search_block-requires-3
search_block-requires-3 g t c κs within =
    let judged = g.T.Task.judged c.args.task.now in
    let cut =
    cut_made judged c.args.block.now c.in-Some.axis c.has_moments-of_moments.result
    c.span_at-span.result c.middle-cut.result.at c.middle-cut.result.from
    c.span_at-span.ensures.value (sym c.has_none.ensures.value ∙ c.if-has_none.false)
    (sym c.wide_axis.ensures.value ∙ c.in-Some.is) c.has_moments-of_moments.ensures.value
    c.middle-cut.ensures.middle in
    let lt : size c.deref-3.result.now < size c.args.block.now =
    subst (λ part. size part < size c.args.block.now)
    (sym (c.deref-3.ensures.value ∙ c.in_ok-above.ensures.value))
    (above_smaller judged c.args.block.now c.in-Some.axis c.has_moments-of_moments.result
    c.span_at-span.result c.middle-cut.result.at c.middle-cut.result.from cut) in (
      search (rules, lt),
      (
        within,
        (
          c.requires.ready,
          subst (IsWithin judged.axes) (sym (c.deref-3.ensures.value ∙ c.in_ok-above.ensures.value))
              (above_within judged c.args.block.now c.in-Some.axis c.has_moments-of_moments.result
              c.span_at-span.result c.middle-cut.result.at c.middle-cut.result.from cut
              c.requires.within),
        ),
      ),
    )

pub returns-then-is_event : goal.returns-then-is_event
returns-then-is_event g t c =
    let judged = g.T.Task.judged c.args.task.now in
    let cut =
    cut_made judged c.args.block.now c.in-Some.axis c.has_moments-of_moments.result
    c.span_at-span.result c.middle-cut.result.at c.middle-cut.result.from
    c.span_at-span.ensures.value (sym c.has_none.ensures.value ∙ c.if-has_none.false)
    (sym c.wide_axis.ensures.value ∙ c.in-Some.is) c.has_moments-of_moments.ensures.value
    c.middle-cut.ensures.middle in
    record {
      found =
          first_event judged c.args.block.now c.in-Some.axis c.has_moments-of_moments.result
          c.span_at-span.result c.middle-cut.result.at c.middle-cut.result.from cut
          c.in_ok-first.first (sym c.is_event.ensures.value ∙ c.if-is_event.true)
          (subst (λ block. IsFound judged block c.in_ok-first.first)
          (c.deref.ensures.value ∙ c.in_ok-below.ensures.value) c.in_ok-first.ensures.found);
    }

pub returns-then-is_event-2 : goal.returns-then-is_event-2
returns-then-is_event-2 g t c =
    let judged = g.T.Task.judged c.args.task.now in
    let cut =
    cut_made judged c.args.block.now c.in-Some.axis c.has_moments-of_moments.result
    c.span_at-span.result c.middle-cut.result.at c.middle-cut.result.from
    c.span_at-span.ensures.value (sym c.has_none.ensures.value ∙ c.if-has_none.false)
    (sym c.wide_axis.ensures.value ∙ c.in-Some.is) c.has_moments-of_moments.ensures.value
    c.middle-cut.ensures.middle in
    let first =
    subst (λ block. IsFound judged block c.in_ok-first.first)
    (c.deref.ensures.value ∙ c.in_ok-below.ensures.value) c.in_ok-first.ensures.found in
    record {
      found =
          second_event judged c.args.block.now c.in-Some.axis c.has_moments-of_moments.result
          c.span_at-span.result c.middle-cut.result.at c.middle-cut.result.from cut
          (none_found judged _ c.in_ok-first.first
          (sym c.is_event.ensures.value ∙ c.if-is_event.false) first)
          c.in_ok-second.second (sym c.is_event-2.ensures.value ∙ c.if-is_event-2.true)
          (subst (λ block. IsFound judged block c.in_ok-second.second)
          (c.deref-2.ensures.value ∙ c.in_ok-inner.ensures.value) c.in_ok-second.ensures.found);
    }

pub returns : goal.returns
returns g t c =
    let judged = g.T.Task.judged c.args.task.now in
    let cut =
    cut_made judged c.args.block.now c.in-Some.axis c.has_moments-of_moments.result
    c.span_at-span.result c.middle-cut.result.at c.middle-cut.result.from
    c.span_at-span.ensures.value (sym c.has_none.ensures.value ∙ c.if-has_none.false)
    (sym c.wide_axis.ensures.value ∙ c.in-Some.is) c.has_moments-of_moments.ensures.value
    c.middle-cut.ensures.middle in
    let first =
    subst (λ block. IsFound judged block c.in_ok-first.first)
    (c.deref.ensures.value ∙ c.in_ok-below.ensures.value) c.in_ok-first.ensures.found in
    let second =
    subst (λ block. IsFound judged block c.in_ok-second.second)
    (c.deref-2.ensures.value ∙ c.in_ok-inner.ensures.value) c.in_ok-second.ensures.found in
    let third =
    subst (λ block. IsFound judged block c.in_ok-third.third)
    (c.deref-3.ensures.value ∙ c.in_ok-above.ensures.value) c.in_ok-third.ensures.found in
    record {
      found =
          is_found judged c.args.block.now c.joined.result
          (joined c.has_moments-of_moments.result c.in-Some.axis c.middle-cut.result.at
          c.in_ok-first.first c.in_ok-second.second c.in_ok-third.third)
          (found_joined judged c.args.block.now c.in-Some.axis c.has_moments-of_moments.result
          c.span_at-span.result c.middle-cut.result.at c.middle-cut.result.from cut
          (sym c.in_ok-shown.ensures.value ∙ c.if-shown.false) c.in_ok-first.first
          c.in_ok-second.second c.in_ok-third.third first second third)
          c.joined.ensures.value;
    }

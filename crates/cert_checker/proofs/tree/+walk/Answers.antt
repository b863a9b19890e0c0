use Rattle.std.proofs.Common.{◌≡◌, Some, None, ap, refl, sym, subst, ◌∙◌, pos, ◌-ℤ◌}
use Rattle.std.specs.Prelude.{slice_index_or, slice_set}
use Rattle.verdict_meaning.specs.Certificates.{cert_judged, leaf_cause, leaf_end, part_at, part_through, part_with, shape_at}
use Rattle.verdict_meaning.specs.Reaches.{piece_in}
use Rattle.cert_checker.specs.internal.Narrowing.{IsPlaceOf, Judges}
use Rattle.cert_checker.proofs.Entries.{cell_narrowed, cell_put_back}
use Rattle.cert_checker.proofs.Walking.{before_refused, before_stops, before_without, below_stops, cut_ends, deep, empty_goes, is_deep, judges_as, leaf_at, not_deep, part_empty, part_narrowed, point_empty, point_part, point_stops, some_goes, span_empty, span_narrowed, split_ends, split_refused, split_without}
use Rattle.cert_checker.proofs.tree.+walk.Goals as goal

pub check_before-returns-in_default-clause-judged :
    goal.check_before-returns-in_default-clause-judged
check_before-returns-in_default-clause-judged t c =
    empty_goes (leaf_cause c.args.rules.now c.args.tables.now c.args.question.now)
    c.args.cert.now c.get.result.now c.args.depth c.args.place c.check_empty.result
    (part_through c.args.first.now (c.args.moment.now -ℤ pos 1) c.args.cell.now)
    (span_empty c.args.first.now (c.args.moment.now -ℤ pos 1) c.args.cell.now
    c.in_default.ensures.before)
    c.get.ensures.value c.check_empty.ensures.judged

pub check_before-returns-clause-judged : goal.check_before-returns-clause-judged
check_before-returns-clause-judged t c =
    subst
    (λ m.
    Judges c.args.place c.check_span.result
    (cert_judged (leaf_cause c.args.rules.now c.args.tables.now c.args.question.now)
    c.args.cert.now c.args.depth (part_through c.args.first.now m c.args.cell.now)))
    c.in-Some.ensures.before c.check_span.ensures.judged

pub check_node-returns-then-depth-gt-DEEPEST-clause-judged :
    goal.check_node-returns-then-depth-gt-DEEPEST-clause-judged
check_node-returns-then-depth-gt-DEEPEST-clause-judged t c =
    let judge = leaf_cause c.args.rules.now c.args.tables.now c.args.question.now in
    judges_as c.args.place c.shape_fault.result shape_at
    (cert_judged judge c.args.cert.now c.args.depth (Some c.args.cell.now))
    (λ at.
    deep judge c.args.cert.now c.args.depth (Some c.args.cell.now) at
    (is_deep c.args.depth c.if-depth-gt-DEEPEST.true))
    c.shape_fault.ensures.judged

pub check_node-returns-in_default-clause-judged : goal.check_node-returns-in_default-clause-judged
check_node-returns-in_default-clause-judged t c =
    let judge = leaf_cause c.args.rules.now c.args.tables.now c.args.question.now in
    judges_as c.args.place c.shape_fault-in_default.result shape_at
    (cert_judged judge c.args.cert.now c.args.depth (Some c.args.cell.now))
    (λ at.
    split_without judge c.args.cert.now c.in-Split.key c.in-Split.number c.in-Split.below
    c.in-Split.at c.in-Split.above c.args.depth c.args.cell.now at c.in-Split.is
    (not_deep c.args.depth c.if-depth-gt-DEEPEST.false)
    (subst (λ keys. piece_in c.in-Split.key keys ≡ None) c.as_slice.ensures.value
    c.in_default.ensures.found))
    c.shape_fault-in_default.ensures.judged

pub check_node-returns-then-not-can_split-clause-judged :
    goal.check_node-returns-then-not-can_split-clause-judged
check_node-returns-then-not-can_split-clause-judged t c =
    let judge = leaf_cause c.args.rules.now c.args.tables.now c.args.question.now in
    let entry = c.index-as_slice-entry.result in
    let placed = subst (λ keys. IsPlaceOf c.in-Split.key c.in-Some.entry keys) c.as_slice.ensures.value c.in-Some.ensures.found in
    let piece = (slice_index_or c.as_slice-in-Split.result.now c.in-Some.entry entry).1 in
    let found : piece_in c.in-Split.key c.args.cell.now.keys ≡ Some piece =
    placed.piece entry
    ∙ ap (λ keys. Some (slice_index_or keys c.in-Some.entry entry).1)
    (sym c.as_slice-in-Split.ensures.value) in
    judges_as c.args.place c.shape_fault-then-not-can_split.result shape_at
    (cert_judged judge c.args.cert.now c.args.depth (Some c.args.cell.now))
    (λ at.
    split_refused judge c.args.cert.now c.in-Split.key c.in-Split.number c.in-Split.below
    c.in-Split.at c.in-Split.above c.args.depth c.args.cell.now piece at c.in-Split.is
    (not_deep c.args.depth c.if-depth-gt-DEEPEST.false)
    found
    (sym c.can_split.ensures.value ∙ c.if-not-can_split.true))
    c.shape_fault-then-not-can_split.ensures.judged

pub check_node-returns-in-Err-clause-judged : goal.check_node-returns-in-Err-clause-judged
check_node-returns-in-Err-clause-judged t c =
    let judge = leaf_cause c.args.rules.now c.args.tables.now c.args.question.now in
    let entry = c.index-as_slice-entry.result in
    let placed = subst (λ keys. IsPlaceOf c.in-Split.key c.in-Some.entry keys) c.as_slice.ensures.value c.in-Some.ensures.found in
    let piece = (slice_index_or c.as_slice-in-Split.result.now c.in-Some.entry entry).1 in
    let found : piece_in c.in-Split.key c.args.cell.now.keys ≡ Some piece =
    placed.piece entry
    ∙ ap (λ keys. Some (slice_index_or keys c.in-Some.entry entry).1)
    (sym c.as_slice-in-Split.ensures.value) in
    below_stops judge c.args.cert.now c.in-Split.key c.in-Split.number c.in-Split.below
    c.in-Split.at c.in-Split.above c.args.depth c.args.cell.now piece c.below_of-lower.result
    c.args.place c.next_place.result c.in-Err.end c.check_part.result
    (record {
      node = c.in-Split.is;
      depth_is = not_deep c.args.depth c.if-depth-gt-DEEPEST.false;
      found = found;
      splits = sym c.can_split.ensures.value ∙ c.if-not-can_split.false;
    })
    (record { each = c.next_place.ensures.next }) c.below_of-lower.ensures.value c.in-Err.is
    c.check_part.ensures.judged

pub check_node-returns-in-Err-check_point-clause-judged :
    goal.check_node-returns-in-Err-check_point-clause-judged
check_node-returns-in-Err-check_point-clause-judged t c =
    let judge = leaf_cause c.args.rules.now c.args.tables.now c.args.question.now in
    let entry = c.index-as_slice-entry.result in
    let placed = subst (λ keys. IsPlaceOf c.in-Split.key c.in-Some.entry keys) c.as_slice.ensures.value c.in-Some.ensures.found in
    let piece = (slice_index_or c.as_slice-in-Split.result.now c.in-Some.entry entry).1 in
    let found : piece_in c.in-Split.key c.args.cell.now.keys ≡ Some piece =
    placed.piece entry
    ∙ ap (λ keys. Some (slice_index_or keys c.in-Some.entry entry).1)
    (sym c.as_slice-in-Split.ensures.value) in
    point_stops judge c.args.cert.now c.in-Split.key c.in-Split.number c.in-Split.below
    c.in-Split.at c.in-Split.above c.args.depth c.args.cell.now c.check_part.new.cell piece
    c.below_of-lower.result c.args.place c.next_place.result c.in-Ok.next
    c.in-Err-check_point.end c.check_part.result c.check_point.result
    (record {
      node = c.in-Split.is;
      depth_is = not_deep c.args.depth c.if-depth-gt-DEEPEST.false;
      found = found;
      splits = sym c.can_split.ensures.value ∙ c.if-not-can_split.false;
    })
    (record { each = c.next_place.ensures.next }) c.below_of-lower.ensures.value
    c.check_part.ensures.kept c.in-Ok.is c.check_part.ensures.judged c.in-Err-check_point.is
    c.check_point.ensures.judged

pub check_node-returns-in_default-moments-clause-judged :
    goal.check_node-returns-in_default-moments-clause-judged
check_node-returns-in_default-moments-clause-judged t c =
    let judge = leaf_cause c.args.rules.now c.args.tables.now c.args.question.now in
    judges_as c.args.place c.shape_fault-in_default-moments.result shape_at
    (cert_judged judge c.args.cert.now c.args.depth (Some c.args.cell.now))
    (λ at.
    before_without judge c.args.cert.now c.in-Before.moment c.in-Before.before c.in-Before.from
    c.args.depth c.args.cell.now at c.in-Before.is
    (not_deep c.args.depth c.if-depth-gt-DEEPEST.false) c.in_default-moments.is)
    c.shape_fault-in_default-moments.ensures.judged

pub check_node-returns-then-not-lies_between-clause-judged :
    goal.check_node-returns-then-not-lies_between-clause-judged
check_node-returns-then-not-lies_between-clause-judged t c =
    let judge = leaf_cause c.args.rules.now c.args.tables.now c.args.question.now in
    judges_as c.args.place c.shape_fault-then-not-lies_between.result shape_at
    (cert_judged judge c.args.cert.now c.args.depth (Some c.args.cell.now))
    (λ at.
    before_refused judge c.args.cert.now c.in-Before.moment c.in-Before.before c.in-Before.from
    c.args.depth c.args.cell.now c.in-Some-moments.first c.in-Some-moments.last at
    c.in-Before.is (not_deep c.args.depth c.if-depth-gt-DEEPEST.false) c.in-Some-moments.is
    (sym c.lies_between.ensures.value ∙ c.if-not-lies_between.true))
    c.shape_fault-then-not-lies_between.ensures.judged

pub check_node-returns-in-Err-check_before-clause-judged :
    goal.check_node-returns-in-Err-check_before-clause-judged
check_node-returns-in-Err-check_before-clause-judged t c =
    let judge = leaf_cause c.args.rules.now c.args.tables.now c.args.question.now in
    before_stops judge c.args.cert.now c.in-Before.moment c.in-Before.before c.in-Before.from
    c.args.depth c.args.cell.now c.in-Some-moments.first c.in-Some-moments.last c.args.place
    c.next_place-in-Before.result c.in-Err-check_before.end c.check_before.result
    (record {
      node = c.in-Before.is;
      depth_is = not_deep c.args.depth c.if-depth-gt-DEEPEST.false;
      found = c.in-Some-moments.is;
      splits = sym c.lies_between.ensures.value ∙ c.if-not-lies_between.false;
    })
    (record { each = c.next_place-in-Before.ensures.next }) c.in-Err-check_before.is
    c.check_before.ensures.judged

pub check_node-returns-in-Leaf-clause-judged : goal.check_node-returns-in-Leaf-clause-judged
check_node-returns-in-Leaf-clause-judged t c =
    let judge = leaf_cause c.args.rules.now c.args.tables.now c.args.question.now in
    judges_as c.args.place c.check_leaf.result
    (leaf_end (judge c.args.cell.now c.in-Leaf.reason))
    (cert_judged judge c.args.cert.now c.args.depth (Some c.args.cell.now))
    (λ at.
    leaf_at judge c.args.cert.now c.in-Leaf.reason c.args.depth (Some c.args.cell.now) at
    c.in-Leaf.is (not_deep c.args.depth c.if-depth-gt-DEEPEST.false))
    c.check_leaf.ensures.judged

pub check_node-returns-in-Ok-check_point-clause-judged :
    goal.check_node-returns-in-Ok-check_point-clause-judged
check_node-returns-in-Ok-check_point-clause-judged t c =
    let judge = leaf_cause c.args.rules.now c.args.tables.now c.args.question.now in
    let entry = c.index-as_slice-entry.result in
    let placed = subst (λ keys. IsPlaceOf c.in-Split.key c.in-Some.entry keys) c.as_slice.ensures.value c.in-Some.ensures.found in
    let piece = (slice_index_or c.as_slice-in-Split.result.now c.in-Some.entry entry).1 in
    let found : piece_in c.in-Split.key c.args.cell.now.keys ≡ Some piece =
    placed.piece entry
    ∙ ap (λ keys. Some (slice_index_or keys c.in-Some.entry entry).1)
    (sym c.as_slice-in-Split.ensures.value) in
    split_ends judge c.args.cert.now c.in-Split.key c.in-Split.number c.in-Split.below
    c.in-Split.at c.in-Split.above c.args.depth c.args.cell.now c.check_part.new.cell
    c.check_point.new.cell piece c.below_of-lower.result c.above_of-upper.result c.args.place
    c.next_place.result c.in-Ok.next c.in-Ok-check_point.last c.check_part.result
    c.check_point.result c.check_part-in-Split.result
    (record {
      node = c.in-Split.is;
      depth_is = not_deep c.args.depth c.if-depth-gt-DEEPEST.false;
      found = found;
      splits = sym c.can_split.ensures.value ∙ c.if-not-can_split.false;
    })
    (record { each = c.next_place.ensures.next }) c.below_of-lower.ensures.value
    c.above_of-upper.ensures.value c.check_part.ensures.kept
    (c.check_point.ensures.kept ∙ c.check_part.ensures.kept) c.in-Ok.is
    c.check_part.ensures.judged c.in-Ok-check_point.is c.check_point.ensures.judged
    c.check_part-in-Split.ensures.judged

pub check_node-returns-in-Ok-check_before-clause-judged :
    goal.check_node-returns-in-Ok-check_before-clause-judged
check_node-returns-in-Ok-check_before-clause-judged t c =
    let judge = leaf_cause c.args.rules.now c.args.tables.now c.args.question.now in
    cut_ends judge c.args.cert.now c.in-Before.moment c.in-Before.before c.in-Before.from
    c.args.depth c.args.cell.now c.check_before.new.cell c.in-Some-moments.first
    c.in-Some-moments.last c.args.place c.next_place-in-Before.result
    c.in-Ok-check_before.next c.check_before.result c.check_span.result
    (record {
      node = c.in-Before.is;
      depth_is = not_deep c.args.depth c.if-depth-gt-DEEPEST.false;
      found = c.in-Some-moments.is;
      splits = sym c.lies_between.ensures.value ∙ c.if-not-lies_between.false;
    })
    (record { each = c.next_place-in-Before.ensures.next }) c.check_before.ensures.kept
    c.in-Ok-check_before.is c.check_before.ensures.judged c.check_span.ensures.judged

pub check_part-returns-then-is_empty-clause-judged :
    goal.check_part-returns-then-is_empty-clause-judged
check_part-returns-then-is_empty-clause-judged t c =
    empty_goes (leaf_cause c.args.rules.now c.args.tables.now c.args.question.now)
    c.args.cert.now c.get.result.now c.args.depth c.args.place c.check_empty.result
    (part_with c.args.key.now c.args.piece.now c.args.cell.now)
    (part_empty c.args.key.now c.args.piece.now c.args.cell.now
    (sym c.is_empty.ensures.value ∙ c.if-is_empty.true))
    c.get.ensures.value c.check_empty.ensures.judged

pub check_part-returns-clause-judged : goal.check_part-returns-clause-judged
check_part-returns-clause-judged t c =
    let entry = c.index-as_slice-entry.result in
    let is : entry ≡ slice_index_or c.args.cell.now.keys c.args.entry entry =
    c.index-as_slice-entry.is
    ∙ ap (λ keys. slice_index_or keys c.args.entry entry) c.as_slice.ensures.value in
    some_goes (leaf_cause c.args.rules.now c.args.tables.now c.args.question.now)
    c.args.cert.now c.get-2.result.now c.args.depth c.args.place c.check_node-answer.result
    (part_with c.args.key.now c.args.piece.now c.args.cell.now)
    (record { keys = c.set.new.self; moments = c.args.cell.now.moments })
    (part_narrowed c.args.key.now c.args.piece.now c.args.cell.now
    (record { keys = c.set.new.self; moments = c.args.cell.now.moments })
    (sym c.is_empty.ensures.value ∙ c.if-is_empty.false)
    (ap (λ keys. record { keys = keys; moments = c.args.cell.now.moments })
    (cell_narrowed c.args.cell.now c.args.key.now c.args.entry entry c.args.piece.now
    c.set.new.self c.requires.entry is c.set.ensures.items)))
    c.get-2.ensures.value c.check_node-answer.ensures.judged

pub check_part-returns-clause-kept : goal.check_part-returns-clause-kept
check_part-returns-clause-kept t c =
    let entry = c.index-as_slice-entry.result in
    let is : entry ≡ slice_index_or c.args.cell.now.keys c.args.entry entry =
    c.index-as_slice-entry.is
    ∙ ap (λ keys. slice_index_or keys c.args.entry entry) c.as_slice.ensures.value in
    cell_put_back c.args.cell.now c.args.entry (entry.0, c.args.piece.now) entry
    c.set-2.new.self c.check_node-answer.new.cell.moments is
    (c.set-2.ensures.items
    ∙ ap (λ cell. slice_set cell.keys c.args.entry entry) c.check_node-answer.ensures.kept
    ∙ ap (λ keys. slice_set keys c.args.entry entry) c.set.ensures.items)
    (ap (λ cell. cell.moments) c.check_node-answer.ensures.kept)

pub check_point-returns-then-not-holds-clause-judged :
    goal.check_point-returns-then-not-holds-clause-judged
check_point-returns-then-not-holds-clause-judged t c =
    empty_goes (leaf_cause c.args.rules.now c.args.tables.now c.args.question.now)
    c.args.cert.now c.get.result.now c.args.depth c.args.place c.check_empty.result
    (part_at c.args.key.now c.args.piece.now c.args.number.now c.args.cell.now)
    (point_empty c.args.key.now c.args.piece.now c.args.number.now c.args.cell.now
    (sym c.holds.ensures.value ∙ c.if-not-holds.true))
    c.get.ensures.value c.check_empty.ensures.judged

pub check_point-returns-clause-judged : goal.check_point-returns-clause-judged
check_point-returns-clause-judged t c =
    subst
    (λ o.
    Judges c.args.place c.check_part.result
    (cert_judged (leaf_cause c.args.rules.now c.args.tables.now c.args.question.now)
    c.args.cert.now c.args.depth o))
    (ap (λ piece. part_with c.args.key.now piece c.args.cell.now) c.point-point.ensures.value
    ∙ sym
    (point_part c.args.key.now c.args.piece.now c.args.number.now c.args.cell.now
    (sym c.holds.ensures.value ∙ c.if-not-holds.false)))
    c.check_part.ensures.judged

pub check_span-returns-then-not-is_in_order-clause-judged :
    goal.check_span-returns-then-not-is_in_order-clause-judged
check_span-returns-then-not-is_in_order-clause-judged t c =
    empty_goes (leaf_cause c.args.rules.now c.args.tables.now c.args.question.now)
    c.args.cert.now c.get.result.now c.args.depth c.args.place c.check_empty.result
    (part_through c.args.first.now c.args.last.now c.args.cell.now)
    (span_empty c.args.first.now c.args.last.now c.args.cell.now
    (sym c.is_in_order.ensures.value ∙ c.if-not-is_in_order.true))
    c.get.ensures.value c.check_empty.ensures.judged

pub check_span-returns-clause-judged : goal.check_span-returns-clause-judged
check_span-returns-clause-judged t c =
    some_goes (leaf_cause c.args.rules.now c.args.tables.now c.args.question.now)
    c.args.cert.now c.get-2.result.now c.args.depth c.args.place c.check_node-answer.result
    (part_through c.args.first.now c.args.last.now c.args.cell.now)
    (record {
      keys = c.args.cell.now.keys;
      moments = Some (c.args.first.now, c.args.last.now);
    })
    (span_narrowed c.args.first.now c.args.last.now c.args.cell.now
    (record {
      keys = c.args.cell.now.keys;
      moments = Some (c.args.first.now, c.args.last.now);
    })
    (sym c.is_in_order.ensures.value ∙ c.if-not-is_in_order.false) refl)
    c.get-2.ensures.value c.check_node-answer.ensures.judged

use Rattle.std.proofs.Common.{◌+◌, drop, sym, ap, ◌∙◌}
use Rattle.std.proofs.lemmas.List.{drop_all, nil_from_length}
use Rattle.rule_meaning.specs.Premise.{placed_from}
use Rattle.table_compiler.specs.Clauses.{clauses_of}
use Rattle.table_compiler.specs.internal.Grouping.{going}
use Rattle.table_compiler.proofs.GroupWalk.{walk_starts, walk_ends, no_conditions}
use Rattle.table_compiler.proofs.groups.clauses_of.Goals as goal

pub returns-in_default : goal.returns-in_default
returns-in_default c =
    c.new-clauses.ensures.items ∙ no_conditions ∙ ap clauses_of (sym (nil_from_length c.args.conditions.now c.in_default.ensures.cases))

pub loop-at-init : goal.loop-at-init
loop-at-init c =
    ap (λ list. going list c.in_ok-parts.parts.items (placed_from 1 c.in-Some.more.now)) c.new-clauses.ensures.items
    ∙ walk_starts c.args.conditions.now c.in-Some.first.now c.in-Some.more.now c.in_ok-part_of.field-0 c.in_ok-parts.parts.items c.in-Some.ensures.cases.0
    c.in_ok-part_of.ensures c.in_ok-parts.ensures.items

pub returns : goal.returns
returns c =
    walk_ends c.loop-at.clauses.items c.add_group.new.clauses.items c.loop-at.parts.items (c.loop-at.at + 1) (drop c.loop-at.at c.in-Some.more.now) c.args.conditions.now
    (drop_all c.loop-at.at c.in-Some.more.now c.loop-at-test.false)
    c.loop-at.invariant c.in_ok-add_group.ensures

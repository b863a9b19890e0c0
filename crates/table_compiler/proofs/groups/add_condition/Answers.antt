use Rattle.std.proofs.Common.{refl, rules}
use Rattle.table_compiler.proofs.GroupWalk.{goes_on, begins_next}
use Rattle.table_compiler.proofs.groups.add_condition.Goals as goal

pub returns-then-not-c : goal.returns-then-not-c
returns-then-not-c c =
    goes_on c.args.clauses.now.items c.args.parts.now.items c.add_part.new.parts.items c.args.place c.args.c.now c.in_ok-part.part (search rules)
    c.in_ok-part.ensures c.in_ok-add_part.ensures

pub returns : goal.returns
returns c =
    begins_next c.args.clauses.now.items c.args.parts.now.items c.add_group.new.clauses.items c.replace-group.result.items c.replace-group.new.dest.items
    c.args.place c.args.c.now c.in_ok-part.part (search rules)
    c.in_ok-part.ensures (rw c.replace-group.ensures.value refl) (rw c.replace-group.ensures.after c.in_ok-vec.ensures.items) c.in_ok-add_group.ensures

use Rattle.std.proofs.Common.{◌≡◌, ℕ, Bool, length}
use Rattle.rule_types.specs.declared.action.ActionAt.{ActionAt}
use Rattle.table_run.specs.Planned.{AreFirsts}
use Rattle.table_run.specs.internal.Firsts.{FirstsTo}
use Rattle.table_run.proofs.firsts.order_changed.Given as goal

abbrev pub invariant-loop-table : goal.invariant-loop-table
invariant-loop-table g l = record {
  next : (other : ActionAt → ℕ → Bool) → AreFirsts l.plan l.old other l.firsts
      → FirstsTo l.plan l.new (g.T.Truths.truth l.truths) l.table l.next;
  each : length l.next ≡ length l.firsts;
}

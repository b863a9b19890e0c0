use Rattle.std.proofs.Common.{◌≡◌, ℕ, List, ◌++◌, length, take}
use Rattle.table_compiler.specs.declared.table.TableRow.{TableRow}
use Rattle.table_compiler.specs.Rows.{first_on, branch_row}
use Rattle.table_compiler.specs.internal.Filling.{tables_with}
use Rattle.table_compiler.proofs.rule_rows.enter_branch.Given as goal

abbrev pub invariant-loop-action : goal.invariant-loop-action
invariant-loop-action l = record {
  each : length l.tables ≡ length l.fn.tables;
  rows : (rows : ℕ → List TableRow) → l.fn.tables ≡ tables_with l.links rows
      → l.tables ≡ tables_with l.links (λ link. rows link ++ branch_row l.place l.branch l.clauses (first_on link (take l.action l.actions)));
}

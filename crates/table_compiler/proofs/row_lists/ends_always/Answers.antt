use Rattle.std.proofs.Common.{sym, ap, ◌∙◌}
use Rattle.table_compiler.proofs.Filling.{always_at, last_is}
use Rattle.table_compiler.proofs.row_lists.ends_always.Goals as goal

pub returns-in-Some : goal.returns-in-Some
returns-in-Some c = c.is_always.ensures ∙ ap always_at c.in-Some.ensures.value ∙ sym (last_is c.args.rows.now)

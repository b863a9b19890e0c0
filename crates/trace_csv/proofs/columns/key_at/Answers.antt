use Rattle.std.proofs.Common.{rules}
use Rattle.trace_csv.proofs.Finding.{found_there, found_nowhere}
use Rattle.trace_csv.proofs.columns.key_at.Goals as goal

pub returns-in-Ok-clause-value : goal.returns-in-Ok-clause-value
returns-in-Ok-clause-value c =
    found_there c.args.keys.now c.args.key.now c.args.key.now c.in-Ok.place c.requires.in_order
    (search rules) c.in-Ok.ensures.ok

pub returns-in-Err-clause-value : goal.returns-in-Err-clause-value
returns-in-Err-clause-value c =
    found_nowhere c.args.keys.now c.args.key.now c.args.key.now c.in-Err.field-0 c.requires.in_order
    c.in-Err.ensures.position

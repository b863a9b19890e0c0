use Rattle.table_compiler.proofs.PublicLaws.{fit_rows-fit}
use Rattle.table_compiler.proofs.laws.fit_rows.Goals as goal

pub returns : goal.returns
returns c = record { fit = fit_rows-fit }

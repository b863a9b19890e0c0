use Rattle.table_plan.proofs.plan_column.PlanColumn.piece.Given as goal

abbrev pub ghosts-piece_among : goal.ghosts-piece_among
ghosts-piece_among a = record { name = a.blank.name; parts = a.blank.parts }

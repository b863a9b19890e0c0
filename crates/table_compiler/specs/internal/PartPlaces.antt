-- Where a part stands among the parts of a clause, and a clause among clauses.
use Rattle.std.specs.Prelude.{Bool, ◌||◌, not}
use Rattle.std.specs.Option.{is_some}
use Rattle.table_compiler.specs.declared.part.Part.{Part}
use Rattle.table_compiler.specs.declared.table.Clause.{Clause}
use Rattle.table_compiler.specs.Parts.{part_before, united_part}
use Rattle.table_compiler.specs.Clauses.{met_clause}

-- whether a part is on the column of a new one or behind it
abbrev pub is_past : Part → Part → Bool
is_past held part = is_some (united_part held part) || not (part_before held part)

-- whether a clause is met with a new one
abbrev pub is_met : Clause → Clause → Bool
is_met held clause = is_some (met_clause held clause)

-- The clauses of a premise in one walk through its conditions.
use Rattle.std.specs.Prelude.{if◌then◌else◌, List, [], ◌∷◌}
use Rattle.rule_meaning.specs.Premise.{Placed}
use Rattle.table_compiler.specs.declared.part.Part.{Part}
use Rattle.table_compiler.specs.declared.table.Clause.{Clause}
use Rattle.table_compiler.specs.Parts.{part_of, with_part}
use Rattle.table_compiler.specs.Clauses.{with_clause}

-- all clauses, where these stand so far, the group at hand has these parts, and these conditions
-- are still to come
unfoldable pub going : List Clause → List Part → List Placed → List Clause
going clauses parts [] = with_clause clauses (record { parts = parts })
going clauses parts (c ∷ more) =
    if c.condition.joined_by_and
    then going (with_clause clauses (record { parts = parts }))
    (with_part [] (part_of c.place c.condition)) more
    else going clauses (with_part parts (part_of c.place c.condition)) more

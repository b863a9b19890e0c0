-- What a name finds in a table of names.
use Rattle.rule_types.specs.Finding.{Found, Nothing, At, Several}
use Rattle.object_index.specs.declared.found.Found.{Found as Answer}
use Rattle.object_index.specs.declared.found.Found.TheVariants as answer

-- what an answer says that a name finds
abbrev pub found_by : Answer → Found
found_by answer.Nothing = Nothing
found_by (answer.At number) = At number
found_by answer.Several = Several

-- The lines of a file.
use Rattle.std.specs.Prelude.{List}
use Rattle.inp_text.specs.Sections.{Line}

-- the lines of a file as they were read
abbrev pub as_read : List Line → List Line
as_read lines = lines

-- A plain list of lines.
use Rattle.std.specs.Prelude.{None, Some}
use Rattle.inp_text.specs.Sections.{Line}
use Rattle.inp_text.specs.declared.line_list.LineText.{LineText}
use Rattle.inp_text.specs.declared.line_list.LineText.TheVariants.{Text, Long}

-- the line that this is a text of
abbrev pub line_of : LineText → Line
line_of (Text bytes) = Some bytes.now
line_of Long = None

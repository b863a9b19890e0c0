-- The lines of an input file, kept by section.
use Rattle.std.specs.Prelude.{◌≡◌, ℕ, List, reverse}
use Rattle.command_outputs.specs.Outcomes.{file_lines, input_file}
use Rattle.inp_text.specs.Sections.{Line}
use Rattle.inp_text.specs.internal.Represents.{Represents}
use Rattle.inp_text.specs.declared.sections.Sections.{Sections}

-- the sections represent the lines of an input file with these bytes
pub record AreSectionsOf (bytes : List ℕ) (sections : Sections) : Type 0 where
  -- newest first
  pub earlier : List Line
  pub represents : Represents sections earlier
  pub lines : reverse earlier ≡ file_lines input_file bytes

-- The lines of an input file so far, and the sections that represent them.
use Rattle.std.proofs.Common.{◌≡◌, List, [], ◌∷◌, ◌++◌, reverse, refl, sym, ◌∙◌, ap, append_assoc}
use Rattle.std.proofs.lemmas.Grind.{reverse_onto}
use Rattle.inp_text.specs.Sections.{Line}
use Rattle.inp_text.specs.internal.Represents.{Represents}
use Rattle.inp_text.specs.declared.sections.Sections.{Sections}

-- the sections represent lines, and with those to come they are the lines of the file
pub record ReadSoFar (sections : Sections) (rest all : List Line) : Type 0 where
  -- newest first
  pub earlier : List Line
  pub represents : Represents sections earlier
  pub lines : reverse earlier ++ rest ≡ all

pub read_none : (sections : Sections) (all : List Line) → Represents sections []
    → ReadSoFar sections all all
read_none sections all none = record { earlier = []; represents = none; lines = refl }

pub read_more : (was now : Sections) (line : Line) (rest later all : List Line)
    → ((earlier : List Line) → Represents was earlier → Represents now (line ∷ earlier))
    → rest ≡ line ∷ later → ReadSoFar was rest all → ReadSoFar now later all
read_more was now line rest later all taken is so_far = record {
  earlier = line ∷ so_far.earlier;
  represents = taken so_far.earlier so_far.represents;
  lines = ap (λ front. front ++ later) (reverse_onto so_far.earlier line [])
      ∙ append_assoc (reverse so_far.earlier) (line ∷ []) later
      ∙ sym (ap (λ list. reverse so_far.earlier ++ list) is) ∙ so_far.lines;
}

-- Lines, one by one.
use Rattle.std.proofs.Common.{◌≡◌, ℕ, zero, suc, ◌+◌, List, [], ◌∷◌, None, Some, Result, Ok, Err, drop, sym, ap, ◌∙◌, add-one}
use Rattle.std.proofs.Math.Seq.{drop-nil}
use Rattle.std.proofs.lemmas.Option.{none-some}
use Rattle.std.specs.Option.{unwrap_or}
use Rattle.std.specs.Prelude.{slice_get}
use Rattle.inp_text.specs.Sections.{Line}
use Rattle.range_lines.specs.Causes.{FileFault, line_fault}
use Rattle.range_lines.specs.Entries.{Known}
use Rattle.range_lines.specs.Lines.{lines_read, line_read, after_line}
use Rattle.range_lines.specs.declared.fault.RangeCause.{RangeCause}
use Rattle.range_lines.specs.declared.given.Given.{Given}

-- no line is left
none_left : (lines : List Line) (at : ℕ) → slice_get lines at ≡ None → drop at lines ≡ []
none_left [] at e = drop-nil at
none_left (line ∷ lines) zero e = absurd (none-some line (sym e))
none_left (line ∷ lines) (suc at) e = none_left lines at e

-- a line is next
one_left : (lines : List Line) (at : ℕ) (line : Line) → slice_get lines at ≡ Some line
    → drop at lines ≡ line ∷ drop (suc at) lines
one_left [] at line e = absurd (none-some line e)
one_left (first ∷ lines) zero line e = ap (λ o. unwrap_or o first ∷ lines) e
one_left (first ∷ lines) (suc at) line e = one_left lines at line e

-- after the last line
pub lines_end : (known : Known) (given : Given) (lines : List Line) (at : ℕ)
    (due : Result Given FileFault) → None ≡ slice_get lines at
    → lines_read known (at + 1) given (drop at lines) ≡ due → due ≡ Ok given
unfolding lines_read
lines_end known given lines at due none e =
    sym e ∙ ap (lines_read known (at + 1) given) (none_left lines at (sym none))

-- a line with a fault
pub lines_fault : (known : Known) (given : Given) (lines : List Line) (at : ℕ) (line : Line)
    (due : Result Given FileFault) (cause : RangeCause) → Some line ≡ slice_get lines at
    → Err cause ≡ line_read known given line
    → lines_read known (at + 1) given (drop at lines) ≡ due → due ≡ Err (line_fault (at + 1) cause)
unfolding lines_read
lines_fault known given lines at line due cause here fault e =
    sym e ∙ ap (lines_read known (at + 1) given) (one_left lines at line (sym here))
    ∙ ap (λ read. after_line (at + 1) read (λ next. lines_read known (at + 1 + 1) next (drop (suc at) lines)))
    (sym fault)

-- a line after which the next follows
pub lines_step : (known : Known) (given next : Given) (lines : List Line) (at : ℕ) (line : Line)
    (due : Result Given FileFault) → Some line ≡ slice_get lines at
    → Ok next ≡ line_read known given line
    → lines_read known (at + 1) given (drop at lines) ≡ due
    → lines_read known (at + 1 + 1) next (drop (at + 1) lines) ≡ due
unfolding lines_read
lines_step known given next lines at line due here read e =
    sym (ap (lines_read known (at + 1) given) (one_left lines at line (sym here))
    ∙ ap (λ read. after_line (at + 1) read (λ next. lines_read known (at + 1 + 1) next (drop (suc at) lines)))
    (sym read)
    ∙ ap (λ n. lines_read known (at + 1 + 1) next (drop n lines)) (sym (add-one at)))
    ∙ e

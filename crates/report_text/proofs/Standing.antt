-- Lines that stand in a file from a place on.
use Rattle.std.proofs.Common.{◌≡◌, ℕ, suc, ◌+◌, ◌<◌, ◌≤◌, List, [], ◌∷◌, ◌++◌, length, Option, Some, None, refl, ap, subst, arith, length-append, append_assoc, map}
use Rattle.std.specs.Prelude.{slice_get, option_and_then}
use Rattle.std.proofs.lemmas.Option.{none-some, slice_get_within}
use Rattle.inp_text.specs.Sections.{Line}
use Rattle.report_lines.specs.Words.{line_at}
use Rattle.report_text.specs.Readable.{StandAt}
use Rattle.report_text.specs.WrittenReports.{Texts}

pub front : (lines : List Line) (one other : Texts) (at : ℕ) → StandAt lines at (one ++ other) → StandAt lines at one
front lines [] other at h = tt
front lines (text ∷ one) other at h = (h.0, front lines one other (suc at) h.1)

pub back : (lines : List Line) (one other : Texts) (at : ℕ) → StandAt lines at (one ++ other)
    → StandAt lines (at + length one) other
back lines [] other at h =
    let here : at ≡ at + 0 = omega arith in subst (λ n. StandAt lines n other) here h
back lines (text ∷ one) other at h =
    let next : suc at + length one ≡ at + suc (length one) = omega arith in
    subst (λ n. StandAt lines n other) next (back lines one other (suc at) h.1)

-- a line is there
there_by : (lines : List Line) (at : ℕ) (text : List ℕ) (o : Option Line) → slice_get lines at ≡ o
    → option_and_then (λ line. line) o ≡ Some text → at < length lines
there_by lines at text None e is = absurd (none-some text is)
there_by lines at text (Some line) e is = slice_get_within lines at line e

there : (lines : List Line) (at : ℕ) (text : List ℕ) → line_at lines at ≡ Some text → at < length lines
there lines at text is = there_by lines at text (slice_get lines at) refl is

pub within : (lines : List Line) (more : Texts) (text : List ℕ) (at : ℕ) → StandAt lines at (text ∷ more)
    → at + suc (length more) ≤ length lines
within lines [] text at h =
    let last : at < length lines = there lines at text h.0 in omega arith
within lines (next ∷ more) text at h =
    let rest : suc at + suc (length more) ≤ length lines = within lines more next (suc at) h.1 in omega arith

pub few : (lines : List Line) (texts : Texts) (at : ℕ) → StandAt lines at texts → length texts ≤ length lines
few lines [] at h = omega arith
few lines (text ∷ more) at h =
    let past : at + suc (length more) ≤ length lines = within lines more text at h in omega arith

-- lines in a row stand where they are
line_here : (before : List Line) (line : Line) (after : List Line) → slice_get (before ++ (line ∷ after)) (length before) ≡ Some line
line_here [] line after = refl
line_here (first ∷ before) line after = line_here before line after

pub standing : (texts : Texts) (before after : List Line)
    → StandAt (before ++ (map Some texts ++ after)) (length before) texts
standing [] before after = tt
standing (text ∷ more) before after = (
  ap (option_and_then (λ line. line)) (line_here before (Some text) (map Some more ++ after)),
  moved (standing more (before ++ (Some text ∷ [])) after),
)
  where
    moved : StandAt ((before ++ (Some text ∷ [])) ++ (map Some more ++ after)) (length (before ++ (Some text ∷ []))) more
        → StandAt (before ++ (Some text ∷ (map Some more ++ after))) (suc (length before)) more
    moved h =
        let one_more : length (before ++ (Some text ∷ [])) ≡ suc (length before) = omega (arith, length-append before (Some text ∷ [])) in
        subst (λ n. StandAt (before ++ (Some text ∷ (map Some more ++ after))) n more) one_more
        (subst (λ lines. StandAt lines (length (before ++ (Some text ∷ []))) more) (append_assoc before (Some text ∷ []) (map Some more ++ after)) h)

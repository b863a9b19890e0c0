-- The facts of a leaf, line by line.
use Rattle.std.proofs.Common.{◌≡◌, ℕ, zero, suc, ◌-◌, ◌<◌, Bool, true, false, cond, List, length, Option, None, Some, Ok, refl, sym, ap, ◌∙◌, arith, true≢false}
use Rattle.std.specs.Prelude.{slice_get, option_and_then}
use Rattle.std.proofs.lemmas.Option.{slice_get_within}
use Rattle.inp_text.specs.Sections.{Line}
use Rattle.report_lines.specs.TreeLines.{facts_from, facts_after, fact_line, is_fact_line}
use Rattle.report_lines.specs.Words.{read_to, line_at}
use Rattle.report_lines.specs.declared.grid.Grid.{Grid}

-- a line of a fact is there
there : (lines : List Line) (at : ℕ) (o : Option Line) → slice_get lines at ≡ o
    → is_fact_line (option_and_then (λ line. line) o) ≡ true → at < length lines
there lines at None e is = absurd (true≢false (sym is))
there lines at (Some line) e is = slice_get_within lines at line e

pub fact_there : (lines : List Line) (at : ℕ) → is_fact_line (line_at lines at) ≡ true
    → at < length lines
fact_there lines at is = there lines at (slice_get lines at) refl is

-- a fact's line
one_more : (lines : List Line) (grid : Grid) (most at : ℕ) (facts : List (ℕ × Bool)) (b : Bool)
    → is_fact_line (line_at lines at) ≡ b → b ≡ true
    → facts_from lines grid (suc most) at facts
    ≡ facts_after facts at (fact_line grid facts (line_at lines at)) (facts_from lines grid most (suc at))
unfolding facts_from
one_more lines grid most at facts true e is =
    ap (λ b. cond b (facts_after facts at (fact_line grid facts (line_at lines at)) (facts_from lines grid most (suc at))) (Ok (read_to facts at))) e
one_more lines grid most at facts false e is = absurd (true≢false (sym is))

pub fact_step : (lines : List Line) (grid : Grid) (total at : ℕ) (facts : List (ℕ × Bool))
    → is_fact_line (line_at lines at) ≡ true → at < total
    → facts_from lines grid (total - at) at facts
    ≡ facts_after facts at (fact_line grid facts (line_at lines at)) (facts_from lines grid (total - suc at) (suc at))
fact_step lines grid total at facts is within =
    let left : total - at ≡ suc (total - suc at) = omega arith in
    ap (λ n. facts_from lines grid n at facts) left
    ∙ one_more lines grid (total - suc at) at facts true is refl

-- another line
pub fact_stop : (lines : List Line) (grid : Grid) (most at : ℕ) (facts : List (ℕ × Bool))
    → is_fact_line (line_at lines at) ≡ false
    → facts_from lines grid most at facts ≡ Ok (read_to facts at)
unfolding facts_from
fact_stop lines grid zero at facts is = refl
fact_stop lines grid (suc most) at facts is =
    ap (λ b. cond b (facts_after facts at (fact_line grid facts (line_at lines at)) (facts_from lines grid most (suc at))) (Ok (read_to facts at))) is

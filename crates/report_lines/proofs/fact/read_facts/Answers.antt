use Rattle.std.proofs.Common.{◌≡◌, suc, ◌+◌, ◌-◌, ◌<◌, length, true, Some, None, ap, sym, ◌∙◌, add-one, arith}
use Rattle.report_lines.specs.TreeLines.{facts_from, facts_after, fact_line, is_fact_line}
use Rattle.report_lines.specs.Words.{line_at}
use Rattle.report_lines.proofs.FactSteps.{fact_there, fact_step, fact_stop}
use Rattle.report_lines.proofs.fact.read_facts.Goals as goal

pub returns-else-is_fact_line : goal.returns-else-is_fact_line
returns-else-is_fact_line c =
    let lines = c.args.lines.now in
    let place = c.loop-place.place in
    let total = length lines + c.args.at in
    let test : c.is_fact_line.result ≡ is_fact_line (line_at lines place) =
    c.is_fact_line.ensures ∙ ap is_fact_line c.text_at-line.ensures in
    sym (fact_stop lines c.args.grid.now (total - place) place c.loop-place.facts
    (sym test ∙ c.if-is_fact_line.false))
    ∙ c.loop-place.invariant

pub returns-in-None : goal.returns-in-None
returns-in-None c =
    let lines = c.args.lines.now in
    let grid = c.args.grid.now in
    let place = c.loop-place.place in
    let facts = c.loop-place.facts in
    let total = length lines + c.args.at in
    let test : is_fact_line (line_at lines place) ≡ true =
    sym (c.is_fact_line.ensures ∙ ap is_fact_line c.text_at-line.ensures) ∙ c.if-is_fact_line.true in
    let there : place < length lines = fact_there lines place test in
    let within : place < total = omega (arith, there) in
    let none : None ≡ fact_line grid facts (line_at lines place) =
    sym c.in-None.is ∙ c.in_ok-fact.ensures ∙ ap (fact_line grid facts) c.text_at-line.ensures in
    ap (λ o. facts_after facts place o (facts_from lines grid (total - suc place) (suc place))) none
    ∙ sym (fact_step lines grid total place facts test within)
    ∙ c.loop-place.invariant

pub loop-place-preserved : goal.loop-place-preserved
loop-place-preserved c =
    let lines = c.args.lines.now in
    let grid = c.args.grid.now in
    let place = c.loop-place.place in
    let facts = c.loop-place.facts in
    let total = length lines + c.args.at in
    let test : is_fact_line (line_at lines place) ≡ true =
    sym (c.is_fact_line.ensures ∙ ap is_fact_line c.text_at-line.ensures) ∙ c.if-is_fact_line.true in
    let there : place < length lines = fact_there lines place test in
    let within : place < total = omega (arith, there) in
    let some : Some c.in-Some.fact ≡ fact_line grid facts (line_at lines place) =
    sym c.in-Some.is ∙ c.in_ok-fact.ensures ∙ ap (fact_line grid facts) c.text_at-line.ensures in
    ap (λ n. facts_from lines grid (total - n) n c.push_fact.new.facts) (add-one place)
    ∙ ap (facts_from lines grid (total - suc place) (suc place)) c.in_ok-push_fact-in-Some.ensures
    ∙ ap (λ o. facts_after facts place o (facts_from lines grid (total - suc place) (suc place))) some
    ∙ sym (fact_step lines grid total place facts test within)
    ∙ c.loop-place.invariant

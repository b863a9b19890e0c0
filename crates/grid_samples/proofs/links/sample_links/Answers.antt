use Rattle.std.proofs.Common.{◌≡◌, ◌∙◌, List, ap, subst}
use Rattle.std.specs.Prelude.{IfOk}
use Rattle.rule_types.specs.declared.state.LinkState.{LinkState}
use Rattle.verdict_meaning.specs.Grids.{sample_links}
use Rattle.grid_samples.proofs.LinkNumbers.{links_same}
use Rattle.grid_samples.proofs.links.sample_links.Goals as goal

pub returns : goal.returns
returns c =
    let tracked = c.args.tracked.now in
    let initial = c.args.initial.now in
    let same =
    ap (λ numbers. sample_links numbers tracked initial)
    (c.as_slice.ensures.value ∙ c.in_ok-of_links.ensures.value)
    ∙ links_same c.args.numbers.now tracked initial in
    record {
      value = subst (λ (all : List LinkState). IfOk c.links_among.result (λ links. links.items ≡ all)) same c.links_among.ensures.value;
    }

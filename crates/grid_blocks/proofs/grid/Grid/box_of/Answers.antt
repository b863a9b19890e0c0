use Rattle.std.proofs.Common.{◌<◌, ◌≤◌, length, sym, ap, subst, ◌∙◌}
use Rattle.block_search.specs.Blocks.{span_from}
use Rattle.grid_blocks.specs.GridBoxes.{keys_of}
use Rattle.grid_blocks.proofs.BoxSteps.{box_with_moments, box_without_moments, enough_runs}
use Rattle.grid_blocks.proofs.BoxSteps.{moments_some}
use Rattle.grid_blocks.proofs.BoxSteps.{run_of_moments}
use Rattle.grid_blocks.proofs.grid.Grid.box_of.Goals as goal

pub entries-requires : goal.entries-requires
entries-requires c = record {
  enough =
      subst (λ axes. length axes ≤ length c.args.block.now) (sym c.as_slice.ensures.value)
      (enough_runs c.args.self.now c.args.block.now c.requires.within);
}

pub bounds-block-len : goal.bounds-block-len
bounds-block-len c =
    subst (λ n. n < length c.args.block.now) (sym c.len.ensures.value)
    (run_of_moments c.args.self.now c.in-Some.pieces c.args.block.now c.requires.within
    c.in-Some.is)

pub moments_in-moments-requires-clause-some : goal.moments_in-moments-requires-clause-some
moments_in-moments-requires-clause-some c =
    moments_some c.args.self.now c.in-Some.pieces c.args.block.now c.len.result (span_from 0 0)
    c.requires.within c.requires.some c.in-Some.is c.len.ensures.value

pub returns-in-Some : goal.returns-in-Some
returns-in-Some c = record {
  value =
      box_with_moments c.args.self.now c.in-Some.pieces c.args.block.now c.len.result
      (span_from 0 0) c.from_vec-keys.result c.moments_in-moments.result c.requires.within
      c.in-Some.is c.len.ensures.value
      (c.from_vec-keys.ensures.value ∙ c.in_ok-entries.ensures.value
      ∙ ap (λ axes. keys_of axes c.args.block.now) c.as_slice.ensures.value)
      c.moments_in-moments.ensures.value;
}

pub returns-in-None : goal.returns-in-None
returns-in-None c = record {
  value =
      box_without_moments c.args.self.now c.args.block.now c.from_vec-keys.result c.in-None.is
      (c.from_vec-keys.ensures.value ∙ c.in_ok-entries.ensures.value
      ∙ ap (λ axes. keys_of axes c.args.block.now) c.as_slice.ensures.value);
}

use Rattle.std.proofs.Common.{rules}
use Rattle.std.proofs.lemmas.List.{nil_from_length}
use Rattle.verdict_meaning.specs.Grids.{cell_numbers}
use Rattle.grid_samples.proofs.NumberSteps.{all_found, one_found, one_unfit}
use Rattle.grid_samples.proofs.numbers.cell_numbers.Goals as goal

pub entries-preserved : goal.entries-preserved
entries-preserved c =
    one_found (cell_numbers c.args.keys.now) c.entries.numbers.items _ c.in-Some.entry.now
    c.entries.rest.now c.in-Some.more.now c.in-Some-piece_number.number (search rules)
    (search rules) c.in_ok-push.ensures.items c.entries.invariant

pub returns-in_default-piece_number : goal.returns-in_default-piece_number
returns-in_default-piece_number c = record {
  value =
      one_unfit (cell_numbers c.args.keys.now) c.entries.numbers.items c.in-Some.entry.now
      c.entries.rest.now c.in-Some.more.now (search rules) (search rules) c.entries.invariant;
}

pub returns : goal.returns
returns c = record {
  value =
      all_found (cell_numbers c.args.keys.now) c.entries.numbers.items c.entries.rest.now
      (nil_from_length c.entries.rest.now c.in_default.ensures.cases) c.entries.invariant;
}

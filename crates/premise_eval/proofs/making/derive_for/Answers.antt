use Rattle.std.proofs.Common.{◌≡◌, length, rules}
use Rattle.std.proofs.lemmas.List.{with_items_is}
use Rattle.premise_eval.proofs.making.derive_for.Goals as goal

pub returns-clause-made : goal.returns-clause-made
returns-clause-made c =
    let long : length c.read_some.new.values ≡ c.values.inside.values.len = search rules in
    record {
      hours = c.hours_of-hours.ensures.value;
      columns =
          rw (with_items_is c.values.inside.values c.read_some.new.values long, ← c.deref-2.ensures.value)
          c.in_default.ensures.made;
    }

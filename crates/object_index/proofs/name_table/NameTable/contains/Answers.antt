use Rattle.std.proofs.Common.{◌∙◌, ap, is_some}
use Rattle.std.specs.Str.{bytes_eq}
use Rattle.object_index.proofs.Indexing.{some-position}
use Rattle.object_index.proofs.name_table.NameTable.contains.Goals as goal

pub returns : goal.returns
returns c = record {
  value =
      c.is_some.ensures ∙ ap is_some c.position.ensures.value
      ∙ some-position (bytes_eq c.args.name.now) c.args.self.now;
}

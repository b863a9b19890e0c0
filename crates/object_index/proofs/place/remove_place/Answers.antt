use Rattle.std.proofs.Common.{None, refl}
use Rattle.std.specs.Str.{bytes_eq}
use Rattle.object_index.proofs.Indexing.{updated}
use Rattle.object_index.proofs.place.remove_place.Goals as goal

pub returns : goal.returns
returns c = λ other.
    updated c.args.text.now c.args.map.now c.remove.new.self None c.remove.ensures.updates other
    (bytes_eq other c.args.text.now) refl

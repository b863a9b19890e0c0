use Rattle.std.proofs.Common.{◌∙◌, ap, cond, Some, refl}
use Rattle.std.specs.Str.{bytes_eq}
use Rattle.range_lines.specs.internal.Ids.{found_in, with_one}
use Rattle.range_lines.proofs.Ids.{updated}
use Rattle.range_lines.proofs.place.add_place.Goals as goal

pub returns : goal.returns
returns c = λ other.
    updated c.args.text.items c.args.map.now c.insert.new.self (Some c.place_after-place.result)
    c.in-Ok.ensures.updates other (bytes_eq other c.args.text.items) refl
    ∙ ap (λ f. cond (bytes_eq other c.args.text.items) f (found_in c.args.map.now other))
    (c.place_after-place.ensures
    ∙ ap (λ t. with_one c.args.number (found_in c.args.map.now t)) c.as_slice.ensures.value)

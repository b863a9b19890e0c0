use Rattle.std.proofs.Common.{arith, refl, sym, ap, ◌∙◌, Some, w8, w16, w32, FitsSigned, to_z, of_z, ◌≡◌}
use Rattle.std.proofs.lemmas.Int.{ints, to_z_pos, to_z-of_z}
use Rattle.num_text.proofs.Days.{IsNumbered, is_day-given, numbered}
use Rattle.num_text.proofs.dates.number_of_day.Goals as goal

-- the date that there is has the day number that the text writes
is_numbered : (c : goal.After-to_unix_epoch_day) → IsNumbered c.args.year c.args.month c.args.day c.to_unix_epoch_day.result
is_numbered c =
    let year = to_z_pos w16 c.args.year (omega arith) in
    let month = to_z_pos w8 c.args.month (omega arith) in
    let day = to_z_pos w8 c.args.day (omega arith) in
    let real = is_day-given c.args.year c.args.month c.args.day _ _ _ year month day (omega arith) (omega arith) (c.in-Ok.ensures.succeeds.0 refl) in
    let parts = c.in-Ok.ensures.value in
    numbered c.args.year c.args.month c.args.day c.in-Ok.date.year c.in-Ok.date.month c.in-Ok.date.day c.to_unix_epoch_day.result real (parts.0 ∙ year) (parts.1 ∙ month) (parts.2 ∙ day) (rw c.to_plain.ensures at c.to_unix_epoch_day.ensures.value)

-- the day number as it is returned
kept : (c : goal.After-to_unix_epoch_day) → to_z w32 (of_z w32 c.to_unix_epoch_day.result) ≡ c.to_unix_epoch_day.result
kept c =
    let in_range : FitsSigned w32 c.to_unix_epoch_day.result = omega (arith, ints, c.to_unix_epoch_day.type_inv) in
    to_z-of_z w32 c.to_unix_epoch_day.result in_range

pub returns-clause-value : goal.returns-clause-value
returns-clause-value c = ap Some (kept c) ∙ sym (is_numbered c).given

pub returns-clause-low : goal.returns-clause-low
returns-clause-low c = rw (kept c) (is_numbered c).low

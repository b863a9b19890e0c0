use Rattle.std.proofs.Common.{◌*◌, Ok, ◌≤ℤ◌, ◌<ℤ◌, pos, negsuc, ◌^◌, arith, sym, ap, ◌∙◌}
use Rattle.std.specs.Prelude.{unsigned_abs}
use Rattle.std.proofs.lemmas.Int.{ints, to_z-of_z}
use Rattle.std.specs.Int.{w128}
use Rattle.exact_fraction.specs.Number.{ratio}
use Rattle.num_text.specs.Numbers.{signed, in_bounds}
use Rattle.num_text.proofs.Digits.{ten_pos}
use Rattle.num_text.proofs.Bounds.{bounded-zero, bounded-low, bounded-high, bounded-in, bounded-large, scaled-up, scaled-down}
use Rattle.num_text.proofs.numbers.bounded.Goals as goal

pub returns-then-number-eq0 : goal.returns-then-number-eq0
returns-then-number-eq0 c =
    record { value = ap Ok c.zero.ensures.value ∙ sym (bounded-zero c.args.negative c.args.number c.args.power c.if-number-eq0.true) }

pub returns-then-power-ltminus18 : goal.returns-then-power-ltminus18
returns-then-power-ltminus18 c =
    let low : c.args.power <ℤ negsuc 17 = omega (arith, ints) in
    record { value = sym (bounded-low c.args.negative c.args.number c.args.power (omega arith) low) }

pub returns-then-power-gt18 : goal.returns-then-power-gt18
returns-then-power-gt18 c =
    let high : pos 18 <ℤ c.args.power = omega (arith, ints) in
    record { value = sym (bounded-high c.args.negative c.args.number c.args.power (omega arith) high) }

pub returns-then-number-ge-LARGE : goal.returns-then-number-ge-LARGE
returns-then-number-ge-LARGE c =
    let low : negsuc 17 ≤ℤ c.args.power = omega (arith, ints) in
    let high : c.args.power ≤ℤ pos 18 = omega (arith, ints) in
    record { value = sym (bounded-large c.args.negative c.args.number c.args.power low high c.if-number-ge-LARGE.true) }

pub returns-then-power-lt0 : goal.returns-then-power-lt0
returns-then-power-lt0 c =
    let low : negsuc 17 ≤ℤ c.args.power = omega (arith, ints) in
    let high : c.args.power ≤ℤ pos 18 = omega (arith, ints) in
    let down : c.args.power <ℤ pos 0 = omega (arith, ints) in
    record {
      value = c.lowered.ensures.value ∙ ap (λ k. in_bounds (ratio (signed c.args.negative c.args.number) (10 ^ k))) (c.places_of-places.ensures.value ∙ ap unsigned_abs (to_z-of_z w128 c.args.power c.ranges.power))
          ∙ ap in_bounds (sym (scaled-down c.args.negative c.args.number c.args.power down))
          ∙ sym (bounded-in c.args.negative c.args.number c.args.power (omega arith) low high);
    }

pub returns : goal.returns
returns c =
    let low : negsuc 17 ≤ℤ c.args.power = omega (arith, ints) in
    let high : c.args.power ≤ℤ pos 18 = omega (arith, ints) in
    let up : pos 0 ≤ℤ c.args.power = omega (arith, ints) in
    record {
      value = c.raised.ensures.value ∙ ap (λ k. in_bounds (ratio (signed c.args.negative (c.args.number * 10 ^ k)) 1)) (c.places_of-places.ensures.value ∙ ap unsigned_abs (to_z-of_z w128 c.args.power c.ranges.power))
          ∙ ap in_bounds (sym (scaled-up c.args.negative c.args.number c.args.power up))
          ∙ sym (bounded-in c.args.negative c.args.number c.args.power (omega arith) low high);
    }

-- Without twos and fives the fraction is in lowest terms, and too large where one of its powers is.
use Rattle.std.proofs.Common.{Some, SFits, rules, ap, ◌∙◌, arith, inl, inr}
use Rattle.std.specs.Int.{w128}
use Rattle.std.proofs.lemmas.Int.{ints}
use Rattle.exact_fraction.proofs.Decimals.{decimal_parts, decimal_passed, decimal_large}
use Rattle.exact_fraction.proofs.Decimals.{decimal_zero}
use Rattle.exact_fraction.proofs.frac.Frac.decimal.Goals as goal

pub returns-then-digits-eq0 : goal.returns-then-digits-eq0
returns-then-digits-eq0 c =
    record { value = ap Some c.zero.ensures.value ∙ decimal_zero c.args.digits c.args.places (omega (arith, ints, c.if-digits-eq0.true)) }

pub returns-then-twos-gt62 : goal.returns-then-twos-gt62
returns-then-twos-gt62 c =
    let h = c.without_twos-half.ensures in
    let s = c.without_fives-size.ensures in
    let p = decimal_parts c.args.digits c.unsigned_abs.result c.args.places _ _ _ _ c.ranges.digits c.unsigned_abs.ensures.value h.value h.lowest s.value s.lowest in
    record { value = decimal_large c.args.digits c.args.places _ _ _ _ p (inl c.if-twos-gt62.true) }

pub returns-then-fives-gt27 : goal.returns-then-fives-gt27
returns-then-fives-gt27 c =
    let h = c.without_twos-half.ensures in
    let s = c.without_fives-size.ensures in
    let p = decimal_parts c.args.digits c.unsigned_abs.result c.args.places _ _ _ _ c.ranges.digits c.unsigned_abs.ensures.value h.value h.lowest s.value s.lowest in
    record { value = decimal_large c.args.digits c.args.places _ _ _ _ p (inr c.if-fives-gt27.true) }

pub fitting_number-requires-clause-positive : goal.fitting_number-requires-clause-positive
fitting_number-requires-clause-positive c =
    let h = c.without_twos-half.ensures in
    let s = c.without_fives-size.ensures in
    let p = decimal_parts c.args.digits c.unsigned_abs.result c.args.places _ _ _ _ c.ranges.digits c.unsigned_abs.ensures.value h.value h.lowest s.value s.lowest in
    let f : SFits w128 c.signed.result = search rules in
    let g : SFits w128 c.factors_left.result = search rules in
    (decimal_passed c.args.digits _ _ c.args.places _ _ _ _ c.ranges.digits f g p c.signed.ensures c.factors_left.ensures).positive

pub fitting_number-requires-clause-lowest : goal.fitting_number-requires-clause-lowest
fitting_number-requires-clause-lowest c =
    let h = c.without_twos-half.ensures in
    let s = c.without_fives-size.ensures in
    let p = decimal_parts c.args.digits c.unsigned_abs.result c.args.places _ _ _ _ c.ranges.digits c.unsigned_abs.ensures.value h.value h.lowest s.value s.lowest in
    let f : SFits w128 c.signed.result = search rules in
    let g : SFits w128 c.factors_left.result = search rules in
    (decimal_passed c.args.digits _ _ c.args.places _ _ _ _ c.ranges.digits f g p c.signed.ensures c.factors_left.ensures).lowest

pub returns : goal.returns
returns c =
    let h = c.without_twos-half.ensures in
    let s = c.without_fives-size.ensures in
    let p = decimal_parts c.args.digits c.unsigned_abs.result c.args.places _ _ _ _ c.ranges.digits c.unsigned_abs.ensures.value h.value h.lowest s.value s.lowest in
    let f : SFits w128 c.signed.result = search rules in
    let g : SFits w128 c.factors_left.result = search rules in
    let r = decimal_passed c.args.digits _ _ c.args.places _ _ _ _ c.ranges.digits f g p c.signed.ensures c.factors_left.ensures in
    record { value = c.fitting_number.ensures ∙ r.made_is }

-- Links without a rate.
use Rattle.std.proofs.Common.{◌≡◌, Bool, true, false, true≢false, cond, Ok, refl, sym, ap, ◌∙◌}
use Rattle.exact_fraction.specs.Number.{Rational, zero, one}
use Rattle.exact_fraction.specs.Order.{less, lesser_of}
use Rattle.exact_fraction.specs.Checked.{is_zero}
use Rattle.exact_fraction.proofs.PublicLaws.{tests-less, tests-above_zero}
use Rattle.rule_meaning.specs.Worth.{capped}

not_below_by : (q : Rational) (b : Bool) → less zero q ≡ b → is_zero q ≡ true → b ≡ false
not_below_by q true below is = absurd (true≢false (sym is ∙ tests-above_zero q ((tests-less zero q).0 below)))
not_below_by q false below is = refl

-- on a link without a rate a value stays
pub uncapped : (rate q : Rational) → is_zero rate ≡ true → Ok q ≡ capped rate (Ok q)
uncapped rate q is =
    ap (λ b. Ok (cond b (lesser_of one q) q)) (sym (not_below_by rate (less zero rate) refl is))

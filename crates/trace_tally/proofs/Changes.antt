-- The count of switches has room.
use Rattle.std.proofs.Common.{◌≡◌, ℕ, ◌+◌, ◌*◌, ◌<◌, ◌≤◌, List, length, ap, sym, ◌∙◌, arith}
use Rattle.std.proofs.lemmas.List.{length-map}
use Rattle.std.proofs.lemmas.Nat.{mul-le}
use Rattle.exact_fraction.specs.Number.{Rational}
use Rattle.rule_types.specs.declared.rules.Rules.{Rules}
use Rattle.rule_meaning.specs.History.{Standing, controlled_settings}

-- the controlled links have a setting each
pub settings_long : (x : Rules) (standings : List Standing)
    → length (controlled_settings x standings) ≡ length x.controlled
unfolding controlled_settings
settings_long x standings = length-map x.controlled _

-- as many before a row as after it
pub as_long : (x y : Rules) (s t : List Standing) (now before : List Rational) → y ≡ x
    → now ≡ controlled_settings y t → before ≡ controlled_settings x s → length now ≡ length before
as_long x y s t now before same later earlier =
    ap length later ∙ settings_long y t ∙ ap (λ (r : Rules). length r.controlled) same
    ∙ sym (settings_long x s) ∙ sym (ap length earlier)

-- one more row
pub record HasRoom (switches more number width : ℕ) : Type 0 where
  pub sum : switches + more ≤ (number + 1) * width
  pub small : switches + more < 18446744073709551616

pub switches_fit : (switches more number width : ℕ) → switches ≤ number * width → more ≤ width
    → number ≤ 4294967296 → width < 4294967296 → HasRoom switches more number width
switches_fit switches more number width so_far few low narrow =
    let most = mul-le (number + 1) width 4294967297 4294967295 (omega arith) (omega arith) in
    let step : (number + 1) * width ≡ number * width + width = omega arith in
    record {
      sum = omega (arith, so_far, few, step);
      small = omega (arith, so_far, few, step, most);
    }

-- Rules on the links 0 and 1 alone are in order.
use Rattle.std.proofs.Common.{◌≡◌, ℕ, zero, suc, List, [], ◌∷◌, sym, subst, arith}
use Rattle.std.specs.List.Sorted.{IsStrictlyIncreasing}
use Rattle.rule_types.specs.declared.key.Key.{Key}
use Rattle.rule_types.specs.declared.rules.Rules.{Rules}
use Rattle.rule_types.specs.KeyOrder.{IsInKeyOrder}
use Rattle.rule_types.specs.WellFormed.{InOrder}

no_keys : IsInKeyOrder []
no_keys k d h = absurd (omega arith)

two_links : IsStrictlyIncreasing (0 ∷ 1 ∷ [])
two_links zero h = omega arith
two_links (suc k) h = absurd (omega arith)

pub in_order : (x : Rules) → x.input_keys ≡ [] → x.tracked ≡ 0 ∷ 1 ∷ [] → x.controlled ≡ 0 ∷ 1 ∷ [] → InOrder x
unfolding InOrder
in_order x keys tracked controlled = record {
  input_keys = subst (λ (k : List Key). IsInKeyOrder k) (sym keys) no_keys;
  tracked = subst (λ (l : List ℕ). IsStrictlyIncreasing l) (sym tracked) two_links;
  controlled = subst (λ (l : List ℕ). IsStrictlyIncreasing l) (sym controlled) two_links;
}

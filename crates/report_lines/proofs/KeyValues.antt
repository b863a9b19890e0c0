-- The values of keys, by their places.
use Rattle.std.proofs.Common.{◌≡◌, cond, List, [], ◌∷◌, Some, refl, ap₂}
use Rattle.std.specs.BTreeMap.{is_at}
use Rattle.std.specs.Map.{lookup}
use Rattle.std.proofs.lemmas.Map.Text.{is_eq-slice_cmp}
use Rattle.exact_fraction.specs.Number.{Rational}
use Rattle.rule_types.specs.KeyOrder.{key_cmp, key_place}
use Rattle.rule_types.specs.declared.key.Key.{Key}
use Rattle.verdict_meaning.specs.Grids.{number_of_key}

-- a value is looked up in order as it is among all
pub looked_up : (key : Key) (values : List (Key × Rational))
    → lookup (is_at (key_cmp key)) values ≡ number_of_key key values
unfolding number_of_key
looked_up key [] = refl
looked_up key (entry ∷ more) =
    ap₂ (λ b rest. cond b (Some entry.1) rest)
    (is_eq-slice_cmp (key_place key) (key_place entry.0)) (looked_up key more)

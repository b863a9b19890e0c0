-- A key of a list that is told by its place.
use Rattle.std.proofs.Common.{◌≡◌, Bool, true, false, ◌||◌, List, [], ◌∷◌, refl, sym, subst, ◌∙◌}
use Rattle.std.specs.Prelude.{All}
use Rattle.std.specs.BTreeMap.{is_at}
use Rattle.std.specs.List.{list_any}
use Rattle.std.proofs.lemmas.Bool.{true≢false}
use Rattle.std.proofs.lemmas.List.Elements.{All-head, All-tail}
use Rattle.std.proofs.lemmas.Map.Text.{is_eq-slice_cmp}
use Rattle.rule_types.specs.KeyOrder.{key_cmp, key_place}
use Rattle.rule_types.specs.declared.key.Key.{Key}
use Rattle.rule_types.proofs.PublicLaws.{equal_keys-key}

same_by : (key other : Key) → is_at (key_cmp key) other ≡ true → key ≡ other
same_by key other e =
    (equal_keys-key key other).0 (sym (is_eq-slice_cmp (key_place key) (key_place other)) ∙ e)

pub found_among : (P : Key → Type 0) (key : Key) (keys : List Key) → list_any (is_at (key_cmp key)) keys ≡ true
    → All P keys → P key
found_among P key [] e all = absurd (true≢false (sym e))
found_among P key (other ∷ more) e all =
    by_test (is_at (key_cmp key) other) refl e (λ rest. found_among P key more rest (All-tail P other more all))
  where
    by_test : (b : Bool) → is_at (key_cmp key) other ≡ b → (b || list_any (is_at (key_cmp key)) more) ≡ true
        → (list_any (is_at (key_cmp key)) more ≡ true → P key) → P key
    by_test true here e later = subst P (sym (same_by key other here)) (All-head P other more all)
    by_test false here e later = later e

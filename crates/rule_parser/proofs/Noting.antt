-- What was noted stays noted, and to note it again changes nothing.
use Rattle.std.proofs.Common.{◌≡◌, ℕ, true, List, [], ◌∷◌, refl, sym, subst, ap, ◌∙◌}
use Rattle.std.proofs.Common.{suc, length, drop, arith}
use Rattle.std.specs.Prelude.{filter, All}
use Rattle.std.specs.List.{flat_map, list_any}
use Rattle.std.specs.BTreeSet.{insert_key}
use Rattle.std.specs.Ordering.{nat_cmp, match_ordering, ordering_reverse, is_eq}
use Rattle.std.specs.declared.cmp.Ordering.{Ordering}
use Rattle.std.specs.declared.cmp.Ordering.TheVariants.{Less, Equal, Greater}
use Rattle.std.specs.Cmp.{IsTotalOrder, on_total}
use Rattle.std.proofs.lemmas.Cmp.{nat_cmp_total, nat_list_cmp_total, tied_itself}
use Rattle.std.proofs.lemmas.List.Elements.{All-nil, All-cons, All-head, All-tail, All-weaker}
use Rattle.std.proofs.lemmas.List.Elements.{All-contains}
use Rattle.std.proofs.lemmas.Map.Lookups.{exact_unsigned}
use Rattle.std.proofs.lemmas.Map.Views.{All-insert_key, Contains-from_any, tells_apart}
use Rattle.rule_types.specs.KeyOrder.{key_place, key_cmp}
use Rattle.rule_types.specs.Keys.{is_input, link_read}
use Rattle.rule_types.specs.Reading.{name_keys}
use Rattle.rule_types.specs.declared.key.Key.{Key}
use Rattle.rule_types.specs.declared.names.NameDef.{NameDef}
use Rattle.rule_parser.specs.Projects.{keys_with, links_with}
use Rattle.rule_parser.specs.declared.noted.Noted.{Noted}
use Rattle.rule_parser.specs.internal.Noting.{Notes, AddsNothing, AreNoted, NamesNoted}

key_total : IsTotalOrder key_cmp
key_total = on_total key_place nat_list_cmp_total

-- ---- lists in order
module _ {A : Type 0} (order : A → A → Ordering) (total : IsTotalOrder order) where
  inserted-by : (a x : A) (xs : List A) (r : Ordering) → order a x ≡ r
      → AddsNothing order (insert_key order xs a) a
      → AddsNothing order (match_ordering r (a ∷ x ∷ xs) (x ∷ xs) (x ∷ insert_key order xs a)) a
  inserted-by a x xs Less e h =
      ap (λ r. match_ordering r (a ∷ a ∷ x ∷ xs) (a ∷ x ∷ xs) (a ∷ insert_key order (x ∷ xs) a))
      (tied_itself total a)
  inserted-by a x xs Equal e h =
      ap (λ r. match_ordering r (a ∷ x ∷ xs) (x ∷ xs) (x ∷ insert_key order xs a)) e
  inserted-by a x xs Greater e h =
      ap (λ r. match_ordering r (a ∷ x ∷ insert_key order xs a) (x ∷ insert_key order xs a)
      (x ∷ insert_key order (insert_key order xs a) a)) e
      ∙ ap (λ l. x ∷ l) h

  -- what was added is there
  adds_nothing-added : (xs : List A) (a : A) → AddsNothing order (insert_key order xs a) a
  adds_nothing-added [] a =
      ap (λ r. match_ordering r (a ∷ a ∷ []) (a ∷ []) (a ∷ insert_key order [] a))
      (tied_itself total a)
  adds_nothing-added (x ∷ xs) a = inserted-by a x xs (order a x) refl (adds_nothing-added xs a)

  turned : (a b : A) → order a b ≡ Less → order b a ≡ Greater
  turned a b e = total.antisymm b a ∙ ap ordering_reverse e

  turned_back : (a b : A) → order a b ≡ Greater → order b a ≡ Less
  turned_back a b e = total.antisymm b a ∙ ap ordering_reverse e

  not-before : (a x : A) (xs : List A) → order a x ≡ Less → AddsNothing order (x ∷ xs) a → ⊥
  not-before a x xs e h =
      let same : a ∷ x ∷ xs ≡ x ∷ xs =
      ap (λ r. match_ordering r (a ∷ x ∷ xs) (x ∷ xs) (x ∷ insert_key order xs a)) (sym e) ∙ h in
      let long : suc (suc (length xs)) ≡ suc (length xs) = ap length same in
      omega (arith, long)

  behind : (a b x : A) (xs : List A) → order a b ≡ Greater → AddsNothing order (x ∷ xs) a
      → AddsNothing order (b ∷ x ∷ xs) a
  behind a b x xs e h =
      ap (λ r. match_ordering r (a ∷ b ∷ x ∷ xs) (b ∷ x ∷ xs) (b ∷ insert_key order (x ∷ xs) a)) e
      ∙ ap (λ l. b ∷ l) h

  still-by : (a b x : A) (xs : List A) (r s : Ordering) → order a x ≡ r → order b x ≡ s
      → AddsNothing order (x ∷ xs) a → (AddsNothing order xs a → AddsNothing order (insert_key order xs b) a)
      → AddsNothing order (match_ordering s (b ∷ x ∷ xs) (x ∷ xs) (x ∷ insert_key order xs b)) a
  still-by a b x xs Less s e d h more = absurd (not-before a x xs e h)
  still-by a b x xs Equal Less e d h more =
      behind a b x xs (total.congr a x b e ∙ turned b x d) h
  still-by a b x xs Greater Less e d h more =
      behind a b x xs (turned b a (total.trans b x a d (turned_back a x e))) h
  still-by a b x xs Equal Equal e d h more = h
  still-by a b x xs Greater Equal e d h more = h
  still-by a b x xs Equal Greater e d h more =
      ap (λ r. match_ordering r (a ∷ x ∷ insert_key order xs b) (x ∷ insert_key order xs b)
      (x ∷ insert_key order (insert_key order xs b) a)) e
  still-by a b x xs Greater Greater e d h more =
      let rest : insert_key order xs a ≡ xs =
      ap (drop 1) (ap (λ r. match_ordering r (a ∷ x ∷ xs) (x ∷ xs) (x ∷ insert_key order xs a))
      (sym e) ∙ h) in
      ap (λ r. match_ordering r (a ∷ x ∷ insert_key order xs b) (x ∷ insert_key order xs b)
      (x ∷ insert_key order (insert_key order xs b) a)) e
      ∙ ap (λ l. x ∷ l) (more rest)

  -- what is there is still there once another is added
  adds_nothing-still : (xs : List A) (a b : A) → AddsNothing order xs a → AddsNothing order (insert_key order xs b) a
  adds_nothing-still [] a b h = cc
  adds_nothing-still (x ∷ xs) a b h =
      still-by a b x xs (order a x) (order b x) refl refl h (adds_nothing-still xs a b)

  -- the same of many that are added in turn
  module _ (with_all : List A → List A → List A) (with_none : (xs : List A) → with_all xs [] ≡ xs)
      (with_more : (xs : List A) (a : A) (more : List A)
      → with_all xs (a ∷ more) ≡ with_all (insert_key order xs a) more) where
    adds_nothing-with : (more xs : List A) (a : A) → AddsNothing order xs a → AddsNothing order (with_all xs more) a
    adds_nothing-with [] xs a h = subst (λ l. AddsNothing order l a) (sym (with_none xs)) h
    adds_nothing-with (b ∷ more) xs a h =
        subst (λ l. AddsNothing order l a) (sym (with_more xs b more))
        (adds_nothing-with more (insert_key order xs b) a (adds_nothing-still xs a b h))

    all_nothing-with : (added xs : List A) → All (AddsNothing order (with_all xs added)) added
    all_nothing-with [] xs = All-nil (AddsNothing order (with_all xs []))
    all_nothing-with (a ∷ added) xs =
        subst (λ l. All (AddsNothing order l) (a ∷ added)) (sym (with_more xs a added))
        (All-cons (AddsNothing order (with_all (insert_key order xs a) added)) a added
        (adds_nothing-with added (insert_key order xs a) a (adds_nothing-added xs a))
        (all_nothing-with added (insert_key order xs a)))

    all_nothing-still : (more xs found : List A) → All (AddsNothing order xs) found
        → All (AddsNothing order (with_all xs more)) found
    all_nothing-still more xs found h =
        All-weaker (AddsNothing order xs) (AddsNothing order (with_all xs more)) (adds_nothing-with more xs) found h

    with_all-same : (added xs : List A) → All (AddsNothing order xs) added → with_all xs added ≡ xs
    with_all-same [] xs h = with_none xs
    with_all-same (a ∷ added) xs h =
        with_more xs a added
        ∙ ap (λ l. with_all l added) (All-head (AddsNothing order xs) a added h)
        ∙ with_all-same added xs (All-tail (AddsNothing order xs) a added h)

-- ---- what is noted
-- what was noted is noted
pub noted-after : (before after : Noted) (found : List Key) → Notes before after found
    → AreNoted after found
noted-after before after found h = record {
  keys = subst (λ l. All (AddsNothing key_cmp l) (filter is_input found)) (sym h.keys)
      (all_nothing-with key_cmp key_total keys_with (λ xs. refl) (λ xs a more. refl)
      (filter is_input found) before.keys.keys);
  links = subst (λ l. All (AddsNothing nat_cmp l) (flat_map link_read found)) (sym h.links)
      (all_nothing-with nat_cmp nat_cmp_total links_with (λ xs. refl) (λ xs a more. refl)
      (flat_map link_read found) before.links.keys);
}

-- what is noted stays noted
pub noted-still : (before after : Noted) (found more : List Key) → AreNoted before found
    → Notes before after more → AreNoted after found
noted-still before after found more a h = record {
  keys = subst (λ l. All (AddsNothing key_cmp l) (filter is_input found)) (sym h.keys)
      (all_nothing-still key_cmp key_total keys_with (λ xs. refl) (λ xs a more. refl)
      (filter is_input more) before.keys.keys (filter is_input found) a.keys);
  links = subst (λ l. All (AddsNothing nat_cmp l) (flat_map link_read found)) (sym h.links)
      (all_nothing-still nat_cmp nat_cmp_total links_with (λ xs. refl) (λ xs a more. refl)
      (flat_map link_read more) before.links.keys (flat_map link_read found) a.links);
}

-- to note it again changes nothing
pub noted-again : (noted : Noted) (found : List Key) → AreNoted noted found
    → Notes noted noted found
noted-again noted found a = record {
  keys = sym (with_all-same key_cmp key_total keys_with (λ xs. refl) (λ xs a more. refl)
      (filter is_input found) noted.keys.keys a.keys);
  links = sym (with_all-same nat_cmp nat_cmp_total links_with (λ xs. refl) (λ xs a more. refl)
      (flat_map link_read found) noted.links.keys a.links);
}

-- ---- the names whose keys are noted
module _ (names : List NameDef) where
  pub names-none : (noted : Noted) → NamesNoted names noted []
  names-none noted = All-nil (λ name. AreNoted noted (name_keys names name))

  -- they stay noted
  pub names-still : (before after : Noted) (seen : List ℕ) (more : List Key)
      → NamesNoted names before seen → Notes before after more → NamesNoted names after seen
  names-still before after seen more all h =
      All-weaker (λ name. AreNoted before (name_keys names name))
      (λ name. AreNoted after (name_keys names name))
      (λ name a. noted-still before after (name_keys names name) more a h) seen all

  -- and one more
  pub names-more : (before after : Noted) (seen : List ℕ) (name : ℕ)
      → NamesNoted names before seen → Notes before after (name_keys names name)
      → NamesNoted names after (insert_key nat_cmp seen name)
  names-more before after seen name all h =
      All-insert_key nat_cmp name (λ name. AreNoted after (name_keys names name)) seen
      (names-still before after seen (name_keys names name) all h)
      (noted-after before after (name_keys names name) h)

  -- to note one of them again changes nothing
  pub names-again : (noted : Noted) (seen : List ℕ) (name : ℕ) → NamesNoted names noted seen
      → list_any (λ other. is_eq (nat_cmp name other)) seen ≡ true
      → Notes noted noted (name_keys names name)
  names-again noted seen name all e =
      noted-again noted (name_keys names name)
      (All-contains (λ name. AreNoted noted (name_keys names name)) seen name all
      (Contains-from_any (tells_apart exact_unsigned) name seen e))

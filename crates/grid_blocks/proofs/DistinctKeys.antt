-- The keys of a question's grid are distinct.
use Rattle.std.proofs.Common.{◌≡◌, zero, suc, false, List, [], ◌∷◌}
use Rattle.std.proofs.Common.{refl, sym, ap, ◌∙◌, arith}
use Rattle.std.specs.Prelude.{All, ⊤}
use Rattle.std.specs.Cmp.{IsTotalOrder, on_total}
use Rattle.std.specs.Ordering.{is_eq, ordering_reverse}
use Rattle.std.specs.declared.cmp.Ordering.{Ordering}
use Rattle.std.specs.declared.cmp.Ordering.TheVariants.{Less, Equal, Greater}
use Rattle.std.proofs.lemmas.Cmp.{nat_list_cmp_total}
use Rattle.std.proofs.lemmas.List.Kept.{AllPairs-cons}
use Rattle.std.proofs.lemmas.Map.Text.{is_eq-slice_cmp}
use Rattle.rule_types.specs.declared.key.Key.{Key}
use Rattle.rule_types.specs.declared.rules.Rules.{Rules}
use Rattle.rule_types.specs.KeyOrder.{key_cmp, key_place}
use Rattle.verdict_meaning.specs.declared.question.Question.{Question}
use Rattle.verdict_meaning.specs.Questions.{grid_keys, in_key_order}
use Rattle.verdict_meaning.specs.Questions.{placed_by, with_key}
use Rattle.verdict_meaning.specs.Reaches.{same_key}
use Rattle.grid_blocks.specs.GridOrder.{AreDistinct}

-- ---- keys in key order, by recursion
abbrev AreAfter : Key → List Key → Type 0
AreAfter key [] = ⊤
AreAfter key (next ∷ more) = (key_cmp key next ≡ Less) × AreAfter key more

abbrev AreOrdered : List Key → Type 0
AreOrdered [] = ⊤
AreOrdered (key ∷ more) = AreAfter key more × AreOrdered more

key_total : IsTotalOrder key_cmp
key_total = on_total key_place nat_list_cmp_total

after_too : (key next : Key) (more : List Key) → key_cmp key next ≡ Less → AreAfter next more
    → AreAfter key more
after_too key next [] h after = tt
after_too key next (later ∷ more) h after =
    (key_total.trans key next later h after.0, after_too key next more h after.1)

greater_back : (key next : Key) → key_cmp key next ≡ Greater → key_cmp next key ≡ Less
greater_back key next e = key_total.antisymm next key ∙ ap ordering_reverse e

-- what comes before a key and before others comes before all of them together
placed_after : (o : Ordering) (first key next : Key) (more later : List Key)
    → key_cmp first key ≡ Less → AreAfter first (next ∷ more) → AreAfter first later
    → AreAfter first (placed_by o key next more later)
placed_after Less first key next more later h after rest = (h, after)
placed_after Equal first key next more later h after rest = after
placed_after Greater first key next more later h after rest = (after.0, rest)

with_after : (first key : Key) (keys : List Key) → key_cmp first key ≡ Less → AreAfter first keys
    → AreAfter first (with_key key keys)
unfolding with_key
with_after first key [] h after = (h, tt)
with_after first key (next ∷ more) h after =
    placed_after (key_cmp key next) first key next more (with_key key more) h after
    (with_after first key more h after.1)

placed_ordered : (o : Ordering) (key next : Key) (more later : List Key) → key_cmp key next ≡ o
    → AreOrdered (next ∷ more) → AreOrdered later → (key_cmp next key ≡ Less → AreAfter next later)
    → AreOrdered (placed_by o key next more later)
placed_ordered Less key next more later e order rest after =
    ((e, after_too key next more e order.0), order)
placed_ordered Equal key next more later e order rest after = order
placed_ordered Greater key next more later e order rest after =
    (after (greater_back key next e), rest)

with_ordered : (key : Key) (keys : List Key) → AreOrdered keys → AreOrdered (with_key key keys)
unfolding with_key
with_ordered key [] order = (tt, tt)
with_ordered key (next ∷ more) order =
    placed_ordered (key_cmp key next) key next more (with_key key more) refl order
    (with_ordered key more order.1) (λ h. with_after next key more h order.0)

all_ordered : (keys : List Key) → AreOrdered (in_key_order keys)
unfolding in_key_order
all_ordered [] = tt
all_ordered (key ∷ keys) = with_ordered key (in_key_order keys) (all_ordered keys)

-- ---- keys in key order are distinct
apart : (key later : Key) → key_cmp key later ≡ Less → same_key key later ≡ false
apart key later less =
    sym (is_eq-slice_cmp (key_place key) (key_place later)) ∙ ap is_eq less

all_apart : (key : Key) (keys : List Key) → AreAfter key keys
    → All (λ later. same_key key later ≡ false) keys
all_apart key [] after k d within = absurd (omega (arith, within))
all_apart key (next ∷ keys) after zero d within = apart key next after.0
all_apart key (next ∷ keys) after (suc k) d within =
    all_apart key keys after.1 k d (omega (arith, within))

distinct : (keys : List Key) → AreOrdered keys → AreDistinct keys
distinct [] order = λ i j d h k. absurd (omega (arith, k))
distinct (key ∷ keys) order =
    AllPairs-cons (λ one later. same_key one later ≡ false) key keys
    (all_apart key keys order.0) (distinct keys order.1)

pub keys_distinct : (x : Rules) (question : Question) → AreDistinct (grid_keys x question)
unfolding grid_keys
keys_distinct x question = distinct (in_key_order _) (all_ordered _)

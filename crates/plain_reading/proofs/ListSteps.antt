-- The listed pairs, one by one.
use Rattle.std.proofs.Common.{◌≡◌, ℕ, suc, ◌+◌, ◌<◌, ◌≤◌, Some, List, [], ◌∷◌, ◌++◌, length, get_or, drop, refl, sym, ap, ◌∙◌, append_assoc, add-one, arith}
use Rattle.std.proofs.lemmas.List.{drop_more, drop_all, append-nil}
use Rattle.std.proofs.lemmas.Option.{slice_get-get_or, slice_get_within, get_or_from_slice_get}
use Rattle.std.specs.Prelude.{slice_get}
use Rattle.rule_types.specs.declared.action.Action.{Action}
use Rattle.rule_types.specs.declared.action.ActionAt.{ActionAt}
use Rattle.rule_types.specs.declared.action.Branch.{Branch}
use Rattle.rule_types.specs.declared.action.Branch.TheVariants.{Then, Otherwise}
use Rattle.rule_types.specs.declared.rule.Rule.{Rule}
use Rattle.rule_types.specs.Reading.{branch_actions}
use Rattle.rule_meaning.specs.Premise.{places_of, listed_by}
use Rattle.plain_reading.specs.Room.{rule_room, pair_room}

-- ---- the actions of a branch
places_cons : (rule : ℕ) (branch : Branch) (action : ℕ) (one : Action) (more : List Action)
    → places_of rule branch action (one ∷ more)
    ≡ record { rule = rule; branch = branch; action = action } ∷ places_of rule branch (suc action) more
unfolding places_of
places_cons rule branch action one more = refl

item_at : {A : Type 0} (xs : List A) (k : ℕ) → k < length xs → A
item_at [] k within = absurd (omega arith)
item_at (x ∷ xs) k within = x

pub place_step : (rule : ℕ) (branch : Branch) (actions : List Action) (k : ℕ)
    (start now new : List ActionAt)
    → k < length actions → now ++ places_of rule branch k (drop k actions) ≡ start
    → new ≡ now ++ record { rule = rule; branch = branch; action = k } ∷ []
    → new ++ places_of rule branch (k + 1) (drop (k + 1) actions) ≡ start
place_step rule branch actions k start now new within goes pushed =
    let at : ActionAt = record { rule = rule; branch = branch; action = k } in
    let d = item_at actions k within in
    ap (λ l. l ++ places_of rule branch (k + 1) (drop (k + 1) actions)) pushed
    ∙ append_assoc now (at ∷ []) (places_of rule branch (k + 1) (drop (k + 1) actions))
    ∙ ap (λ n. now ++ at ∷ places_of rule branch n (drop (k + 1) actions)) (add-one k)
    ∙ ap (λ l. now ++ l) (sym (places_cons rule branch k (get_or actions k d) (drop (k + 1) actions)))
    ∙ ap (λ l. now ++ places_of rule branch k l) (sym (drop_more actions k d within))
    ∙ goes

pub place_end : (rule : ℕ) (branch : Branch) (actions : List Action) (k : ℕ)
    (start now : List ActionAt)
    → length actions ≤ k → now ++ places_of rule branch k (drop k actions) ≡ start → now ≡ start
unfolding places_of
place_end rule branch actions k start now past goes =
    sym (append-nil now)
    ∙ ap (λ l. now ++ places_of rule branch k l) (sym (drop_all k actions past))
    ∙ goes

-- ---- the rules
listed_cons : (b : ℕ → Rule → Branch) (place : ℕ) (rule : Rule) (more : List Rule)
    → listed_by b place (rule ∷ more)
    ≡ places_of place (b place rule) 0 (branch_actions rule (b place rule)) ++ listed_by b (suc place) more
unfolding listed_by
listed_cons b place rule more = refl

pub rule_step : (b : ℕ → Rule → Branch) (rules : List Rule) (k : ℕ) (start now new : List ActionAt)
    → k < length rules → now ++ listed_by b k (drop k rules) ≡ start
    → ((row : Rule) → slice_get rules k ≡ Some row
    → new ≡ now ++ places_of k (b k row) 0 (branch_actions row (b k row)))
    → new ++ listed_by b (k + 1) (drop (k + 1) rules) ≡ start
rule_step b rules k start now new within goes pushed =
    let d = item_at rules k within in
    let added = pushed (get_or rules k d) (slice_get-get_or rules k d within) in
    ap (λ l. l ++ listed_by b (k + 1) (drop (k + 1) rules)) added
    ∙ append_assoc now (places_of k (b k (get_or rules k d)) 0 (branch_actions (get_or rules k d) (b k (get_or rules k d)))) (listed_by b (k + 1) (drop (k + 1) rules))
    ∙ ap (λ n. now ++ (places_of k (b k (get_or rules k d)) 0 (branch_actions (get_or rules k d) (b k (get_or rules k d))) ++ listed_by b n (drop (k + 1) rules))) (add-one k)
    ∙ ap (λ l. now ++ l) (sym (listed_cons b k (get_or rules k d) (drop (k + 1) rules)))
    ∙ ap (λ l. now ++ listed_by b k l) (sym (drop_more rules k d within))
    ∙ goes

pub rule_end : (b : ℕ → Rule → Branch) (rules : List Rule) (k : ℕ) (start now : List ActionAt)
    → length rules ≤ k → now ++ listed_by b k (drop k rules) ≡ start → now ≡ start
unfolding listed_by
rule_end b rules k start now past goes =
    sym (append-nil now)
    ∙ ap (λ l. now ++ listed_by b k l) (sym (drop_all k rules past))
    ∙ goes

-- ---- room
pub branch_within : (rule : Rule) (branch : Branch)
    → length (branch_actions rule branch) ≤ rule_room rule
branch_within rule Then = omega arith
branch_within rule Otherwise = omega arith

room_cons : (rule : Rule) (more : List Rule)
    → pair_room (rule ∷ more) ≡ rule_room rule + pair_room more
unfolding pair_room
room_cons rule more = refl

pub room_at : (rules : List Rule) (k : ℕ) (d : Rule) → k < length rules
    → pair_room (drop k rules) ≡ rule_room (get_or rules k d) + pair_room (drop (k + 1) rules)
room_at rules k d within =
    ap pair_room (drop_more rules k d within) ∙ room_cons (get_or rules k d) (drop (k + 1) rules)

pub row_room : (rules : List Rule) (k : ℕ) (row : Rule) → slice_get rules k ≡ Some row
    → pair_room (drop k rules) ≡ rule_room row + pair_room (drop (k + 1) rules)
row_room rules k row is =
    room_at rules k row (slice_get_within rules k row is)
    ∙ ap (λ r. rule_room r + pair_room (drop (k + 1) rules)) (get_or_from_slice_get rules k row row is)

pub no_room : (rules : List Rule) (k : ℕ) → length rules ≤ k → pair_room (drop k rules) ≡ 0
unfolding pair_room
no_room rules k past = ap pair_room (drop_all k rules past)

pub room_item : (rules items : List Rule) (k : ℕ) (one : Rule) → items ≡ rules
    → k < length items → one ≡ get_or items k one
    → pair_room (drop k rules) ≡ rule_room one + pair_room (drop (k + 1) rules)
room_item rules items k one same within is =
    row_room rules k one
    (ap (λ l. slice_get l k) (sym same) ∙ slice_get-get_or items k one within ∙ ap Some (sym is))

pub room_step : (rules : List Rule) (k len new cap : ℕ) → k < length rules
    → ((row : Rule) → slice_get rules k ≡ Some row → new ≤ len + rule_room row)
    → len + pair_room (drop k rules) ≤ cap → new + pair_room (drop (k + 1) rules) ≤ cap
room_step rules k len new cap within each fits =
    let d = item_at rules k within in
    let is = slice_get-get_or rules k d within in
    let more = each (get_or rules k d) is in
    let whole = row_room rules k (get_or rules k d) is in
    omega (arith, more, whole, fits)

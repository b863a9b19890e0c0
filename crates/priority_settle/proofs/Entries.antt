-- The table of what is settled for each link, once one more pair is listed.
use Rattle.std.proofs.Common.{◌≡◌, ◌≢◌, ℕ, suc, zero, ◌<◌, ◌≤◌, true, false, Option, Some, None, Ok, Err, List, [], ◌∷◌, ◌++◌, length, map, get_or, set, replicate, refl, sym, ap, ◌∙◌, arith}
use Rattle.std.proofs.lemmas.Bool.Decides.{nat_tests}
use Rattle.std.proofs.lemmas.List.{get_or-map}
use Rattle.std.proofs.lemmas.List.Folds.{flat_map-map}
use Rattle.std.proofs.lemmas.List.Kept.{AllPairs-from_increasing}
use Rattle.std.proofs.lemmas.List.Sorted.{searched}
use Rattle.std.specs.List.{flat_map}
use Rattle.std.specs.List.Sorted.{IsStrictlyIncreasing, IsBinarySearchResult}
use Rattle.std.specs.Option.{option_map}
use Rattle.std.specs.Ordering.{nat_cmp}
use Rattle.rule_types.specs.declared.action.Action.{Action}
use Rattle.rule_types.specs.declared.action.ActionAt.{ActionAt}
use Rattle.rule_types.specs.declared.rule.Rule.{Rule}
use Rattle.rule_meaning.specs.Settled.{action_at, acts_on, is_on, settled_on, settled, as_list}
use Rattle.priority_settle.specs.internal.Firsts.{first_of}
use Rattle.priority_settle.specs.Settling.{settled_each}
use Rattle.priority_settle.proofs.OneMore.{one_more_off, one_more_on}

-- entries that stay, and one that is written
entries_same : {B : Type 0} (f g : ℕ → B) (xs : List ℕ) → ((k : ℕ) → k < length xs → f (get_or xs k 0) ≡ g (get_or xs k 0)) → map f xs ≡ map g xs
entries_same f g [] h = refl
entries_same f g (x ∷ xs) h =
    let first : f x ≡ g x = h 0 (omega arith) in
    let more : map f xs ≡ map g xs = entries_same f g xs (λ k below. h (suc k) (omega arith)) in
    cc

entry_written : {B : Type 0} (f g : ℕ → B) (xs : List ℕ) (place : ℕ) → place < length xs → ((k : ℕ) → k < length xs → k ≢ place → f (get_or xs k 0) ≡ g (get_or xs k 0)) → set (map f xs) place (g (get_or xs place 0)) ≡ map g xs
entry_written f g [] place within h = absurd (omega arith)
entry_written f g (x ∷ xs) zero within h =
    let more : map f xs ≡ map g xs = entries_same f g xs (λ k below. h (suc k) (omega arith) (λ e. (omega arith))) in
    ap (λ ys. g x ∷ ys) more
entry_written f g (x ∷ xs) (suc place) within h =
    let first : f x ≡ g x = h 0 (omega arith) (λ e. (omega arith)) in
    let more : set (map f xs) place (g (get_or xs place 0)) ≡ map g xs = entry_written f g xs place (omega arith) (λ k below apart. h (suc k) (omega arith) (λ e. apart (omega arith))) in
    cc

-- the link of an action
on_by : (o : Option Action) (link : ℕ) → option_map (λ action. action.link) o ≡ Some link → acts_on link o ≡ true
on_by None link e = grind arith
on_by (Some action) link e = let same : action.link ≡ link = cc in grind (arith, nat_tests)

off_by : (o : Option Action) (link other : ℕ) → option_map (λ action. action.link) o ≡ Some link → other ≢ link → acts_on other o ≡ false
off_by None link other e apart = refl
off_by (Some action) link other e apart =
    let same : action.link ≡ link = cc in
    let differ : ¬ (action.link ≡ other) = λ is. apart (sym is ∙ same) in
    grind (arith, nat_tests)

none_by : (o : Option Action) (other : ℕ) → option_map (λ action. action.link) o ≡ None → acts_on other o ≡ false
none_by None other e = refl
none_by (Some action) other e = grind arith

is_on_its_link : (rules : List Rule) (at : ActionAt) (link : ℕ) → option_map (λ action. action.link) (action_at rules at) ≡ Some link → is_on rules link at ≡ true
unfolding is_on
is_on_its_link rules at link e = on_by (action_at rules at) link e

is_off_others : (rules : List Rule) (at : ActionAt) (link other : ℕ) → option_map (λ action. action.link) (action_at rules at) ≡ Some link → other ≢ link → is_on rules other at ≡ false
unfolding is_on
is_off_others rules at link other e apart = off_by (action_at rules at) link other e apart

is_off_all : (rules : List Rule) (at : ActionAt) (other : ℕ) → option_map (λ action. action.link) (action_at rules at) ≡ None → is_on rules other at ≡ false
unfolding is_on
is_off_all rules at other e = none_by (action_at rules at) other e

-- a pair without an action, or on a link that is not there, changes nothing
pub no_action : (rules : List Rule) (links : List ℕ) (pairs : List ActionAt) (at : ActionAt) → option_map (λ action. action.link) (action_at rules at) ≡ None → settled_each rules links pairs ≡ settled_each rules links (pairs ++ at ∷ [])
no_action rules links pairs at e =
    entries_same (settled_on rules pairs) (settled_on rules (pairs ++ at ∷ [])) links
    (λ k below. sym (one_more_off rules pairs (get_or links k 0) at (is_off_all rules at (get_or links k 0) e)))

-- links that rise do not fall
not_falling : (links : List ℕ) → IsStrictlyIncreasing links → (i j : ℕ) → i ≤ j → j < length links → get_or links i 0 ≤ get_or links j 0
not_falling links rises i j h within =
    let later : i < j → get_or links i 0 < get_or links j 0 = λ g. AllPairs-from_increasing links rises i j 0 g within in
    grind arith

apart_by : (links : List ℕ) → IsStrictlyIncreasing links → (k place : ℕ) → k < length links → place < length links → k ≢ place → get_or links k 0 ≢ get_or links place 0
apart_by links rises k place k_within within apart e =
    let later : k < place → get_or links k 0 < get_or links place 0 = λ g. AllPairs-from_increasing links rises k place 0 g within in
    let earlier : place < k → get_or links place 0 < get_or links k 0 = λ g. AllPairs-from_increasing links rises place k 0 g k_within in
    let no_later : ¬ (k < place) = λ g. (let less = later g in omega arith) in
    let no_earlier : ¬ (place < k) = λ g. (let less = earlier g in omega arith) in
    apart (omega arith)

pub not_there : (rules : List Rule) (links : List ℕ) (pairs : List ActionAt) (at : ActionAt) (link i : ℕ) → IsStrictlyIncreasing links → option_map (λ action. action.link) (action_at rules at) ≡ Some link → IsBinarySearchResult (λ y. nat_cmp y link) links (Err i) → settled_each rules links pairs ≡ settled_each rules links (pairs ++ at ∷ [])
not_there rules links pairs at link i rises e result =
    let facts = searched links link (Err i) result (not_falling links rises) in
    entries_same (settled_on rules pairs) (settled_on rules (pairs ++ at ∷ [])) links
    (λ k below. sym (one_more_off rules pairs (get_or links k 0) at
    (is_off_others rules at link (get_or links k 0) e
    (λ is. (
    let low : k < i → get_or links k 0 < link = facts.1 k in
    let high : i ≤ k → link < get_or links k 0 = λ g. facts.2 k g below in
    let not_low : ¬ (k < i) = λ g. (let less = low g in omega arith) in
    let above : link < get_or links k 0 = high (omega arith) in
    omega arith)))))

-- a pair on a link that is there is compared with the one that was settled for it
pub entered : (rules : List Rule) (links : List ℕ) (pairs : List ActionAt) (at : ActionAt) (link place : ℕ) (firsts : List (Option ActionAt)) (d : Option ActionAt) → IsStrictlyIncreasing links → option_map (λ action. action.link) (action_at rules at) ≡ Some link → IsBinarySearchResult (λ y. nat_cmp y link) links (Ok place) → firsts ≡ settled_each rules links pairs → set firsts place (Some (first_of rules (get_or firsts place d) at)) ≡ settled_each rules links (pairs ++ at ∷ [])
entered rules links pairs at link place firsts d rises e result is =
    let facts = searched links link (Ok place) result (not_falling links rises) in
    let within : place < length links = facts.0 in
    let f : ℕ → Option ActionAt = settled_on rules pairs in
    let g : ℕ → Option ActionAt = settled_on rules (pairs ++ at ∷ []) in
    let held : get_or firsts place d ≡ f (get_or links place 0) = ap (λ l. get_or l place d) is ∙ get_or-map f links place 0 d within in
    let on : is_on rules (get_or links place 0) at ≡ true = ap (λ l. is_on rules l at) facts.1 ∙ is_on_its_link rules at link e in
    let new : Some (first_of rules (get_or firsts place d) at) ≡ g (get_or links place 0) = ap (λ o. Some (first_of rules o at)) held ∙ sym (one_more_on rules pairs (get_or links place 0) at on) in
    ap (λ o. set firsts place o) new
    ∙ ap (λ l. set l place (g (get_or links place 0))) is
    ∙ entry_written f g links place within
    (λ k below apart. sym (one_more_off rules pairs (get_or links k 0) at
    (is_off_others rules at link (get_or links k 0) e (λ same. apart_by links rises k place below within apart (same ∙ sym facts.1)))))

-- the table at first, and what it holds in the end
pub none_settled : (rules : List Rule) (links : List ℕ) → replicate (length links) None ≡ settled_each rules links []
unfolding settled_on
none_settled rules [] = refl
none_settled rules (link ∷ links) = ap (λ ys. None ∷ ys) (none_settled rules links)

pub all_held : (rules : List Rule) (links : List ℕ) (pairs : List ActionAt) → flat_map as_list (settled_each rules links pairs) ≡ settled rules links pairs
unfolding settled
all_held rules links pairs = flat_map-map as_list (settled_on rules pairs) links

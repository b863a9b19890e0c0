-- On each link the first row that holds orders the settled pair.
use Rattle.std.proofs.Common.{◌≡◌, ℕ, zero, suc, ◌<◌, ◌≤◌, Bool, true, false, cond, ltb, eqb, Option, Some, None, List, [], ◌∷◌, length, map, get_or, refl, sym, ap, subst, ◌∙◌, ◌⊎◌, inl, inr, ⊎_elim, arith, slice_get}
use Rattle.std.specs.Prelude.{◌&&◌, ◌||◌}
use Rattle.std.specs.List.{Contains, find, position, position_or_len}
use Rattle.std.specs.Option.{option_and_then, option_or}
use Rattle.std.proofs.lemmas.Bool.{false≢true, eqb-true, ltb-true, ltb-false, eq-eqb, or_from}
use Rattle.std.proofs.lemmas.List.Quantifiers.{position-Some}
use Rattle.std.proofs.lemmas.List.Sums.{fails_before_first}
use Rattle.std.proofs.lemmas.Option.{slice_get_within, get_or_from_slice_get}
use Rattle.rule_types.specs.declared.action.Action.{Action}
use Rattle.rule_types.specs.declared.action.ActionAt.{ActionAt}
use Rattle.rule_types.specs.declared.action.Branch.{Branch}
use Rattle.rule_types.specs.declared.rule.Rule.{Rule}
use Rattle.rule_types.specs.declared.rules.Rules.{Rules}
use Rattle.rule_types.specs.declared.state.State.{State}
use Rattle.rule_types.specs.Reading.{branch_actions, branch_action}
use Rattle.rule_types.specs.Ranks.{precedes}
use Rattle.rule_meaning.specs.Premise.{listed_branch, listed, IsListed}
use Rattle.rule_meaning.specs.Reading.{settling}
use Rattle.rule_meaning.specs.Settled.{action_at, acts_on, is_on, rule_priority, priority_at, beats, IsSettled, settled_on}
use Rattle.rule_meaning.proofs.PublicLaws.{listing-listed, listing-one_branch_each, settling-given, members-cases}
use Rattle.table_compiler.specs.declared.table.LinkTable.{LinkTable}
use Rattle.table_compiler.specs.Rows.{rule_precedes, first_on, ranked, rows_on, tables_of}
use Rattle.table_compiler.specs.Meaning.{ordered_by, tabled}
use Rattle.table_compiler.proofs.RankedPlaces.{IsRanked, not_before_itself, ranked_is, all_ranked}
use Rattle.table_compiler.proofs.FirstRows.{at_first, rule_order, rule_order_is, no_rule_order, firsts, ordered_is}

none_some : {A : Type 0} (y : A) → None ≡ Some y → ⊥
none_some y e = grind arith

-- ---- the first that orders

firsts_from_by : (order : ℕ → Option ActionAt) (place : ℕ) (more : List ℕ) (at : ActionAt) (o : Option ActionAt) → order place ≡ o → ((place : ℕ) (one : ActionAt) → order place ≡ Some one → one.rule ≡ place) → (firsts order more ≡ Some at → order at.rule ≡ Some at) → option_or o (firsts order more) ≡ Some at → order at.rule ≡ Some at
firsts_from_by order place more at None is from later h = later h
firsts_from_by order place more at (Some one) is from later h =
    let there : order place ≡ Some at = is ∙ h in
    ap order (from place at there) ∙ there

firsts_from : (order : ℕ → Option ActionAt) (places : List ℕ) (at : ActionAt) → ((place : ℕ) (one : ActionAt) → order place ≡ Some one → one.rule ≡ place) → firsts order places ≡ Some at → order at.rule ≡ Some at
firsts_from order [] at from h = absurd (none_some at h)
firsts_from order (place ∷ more) at from h =
    firsts_from_by order place more at (order place) refl from (firsts_from order more at from) h

firsts_unbeaten_by : (rules : List Rule) (order : ℕ → Option ActionAt) (place : ℕ) (more : List ℕ) (at : ActionAt) (o : Option ActionAt) (k : ℕ) (other : ActionAt) → order place ≡ o → ((place : ℕ) (one : ActionAt) → order place ≡ Some one → one.rule ≡ place) → IsRanked rules (place ∷ more) → order k ≡ Some other
    → (firsts order more ≡ Some at → Contains more k → rule_precedes rules k at.rule ≡ false)
    → option_or o (firsts order more) ≡ Some at → (place ≡ k) ⊎ Contains more k → rule_precedes rules k at.rule ≡ false
firsts_unbeaten_by rules order place more at None k other is from ranked orders later h (inl e) =
    absurd (none_some other (sym is ∙ ap order e ∙ orders))
firsts_unbeaten_by rules order place more at None k other is from ranked orders later h (inr k_in) = later h k_in
firsts_unbeaten_by rules order place more at (Some one) k other is from ranked orders later h (inl e) =
    ap (λ m. rule_precedes rules k m) (from place at (is ∙ h) ∙ e) ∙ not_before_itself rules k
firsts_unbeaten_by rules order place more at (Some one) k other is from ranked orders later h (inr k_in) =
    ap (λ m. rule_precedes rules k m) (from place at (is ∙ h)) ∙ ranked.0 k k_in

firsts_unbeaten : (rules : List Rule) (order : ℕ → Option ActionAt) (places : List ℕ) (at : ActionAt) (k : ℕ) (other : ActionAt) → ((place : ℕ) (one : ActionAt) → order place ≡ Some one → one.rule ≡ place) → IsRanked rules places → firsts order places ≡ Some at → order k ≡ Some other → Contains places k → rule_precedes rules k at.rule ≡ false
firsts_unbeaten rules order [] at k other from ranked h orders k_in = absurd (none_some at h)
firsts_unbeaten rules order (place ∷ more) at k other from ranked h orders k_in =
    firsts_unbeaten_by rules order place more at (order place) k other refl from ranked orders
    (λ later. firsts_unbeaten rules order more at k other from ranked.1 later orders) h (members-cases place more k k_in)

or_parts_none : (o p : Option ActionAt) → option_or o p ≡ None → (o ≡ None) × (p ≡ None)
or_parts_none None p h = (refl, h)
or_parts_none (Some one) p h = absurd (none_some one (sym h))

firsts_none : (order : ℕ → Option ActionAt) (places : List ℕ) (k : ℕ) → firsts order places ≡ None → Contains places k → order k ≡ None
firsts_none order [] k h k_in = absurd (omega (arith, k_in.1))
firsts_none order (place ∷ more) k h k_in =
    let parts = or_parts_none (order place) (firsts order more) h in
    ⊎_elim (λ (e : place ≡ k). ap order (sym e) ∙ parts.0) (λ (later : Contains more k). firsts_none order more k parts.1 later) (members-cases place more k k_in)

-- ---- what a rule's order tells
at_first_tells : (place : ℕ) (branch : Branch) (o : Option ℕ) (at : ActionAt) → at_first place branch o ≡ Some at → (at.rule ≡ place) × (at.branch ≡ branch) × (o ≡ Some at.action)
at_first_tells place branch None at h = absurd (none_some at h)
at_first_tells place branch (Some action) at h =
    let is : at ≡ record { rule = place; branch = branch; action = action } = (let e = sym h in grind arith) in
    (ap (λ (one : ActionAt). one.rule) is, ap (λ (one : ActionAt). one.branch) is, ap (λ (one : ActionAt). Some one.action) (sym is))

-- a pair that a rule orders is of the rule, of its listed branch, and its first action on the link
pub record Ordered (x : Rules) (s : State) (link at_rule : ℕ) (at : ActionAt) : Type 0 where
  pub rule : Rule
  pub is : slice_get x.rules at_rule ≡ Some rule
  pub place : at.rule ≡ at_rule
  pub branch : at.branch ≡ listed_branch x s rule
  pub first : first_on link (branch_actions rule (listed_branch x s rule)) ≡ Some at.action

order_tells_by : (x : Rules) (s : State) (link place : ℕ) (at : ActionAt) (o : Option Rule) → slice_get x.rules place ≡ o → rule_order x s link place ≡ Some at → Ordered x s link place at
order_tells_by x s link place at None is h = absurd (none_some at (sym (no_rule_order x s link place is) ∙ h))
order_tells_by x s link place at (Some rule) is h =
    let parts = at_first_tells place (listed_branch x s rule) (first_on link (branch_actions rule (listed_branch x s rule))) at (sym (rule_order_is x s link place rule is) ∙ h) in
    record { rule = rule; is = is; place = parts.0; branch = parts.1; first = parts.2 }

order_tells : (x : Rules) (s : State) (link place : ℕ) (at : ActionAt) → rule_order x s link place ≡ Some at → Ordered x s link place at
order_tells x s link place at h = order_tells_by x s link place at (slice_get x.rules place) refl h

-- ---- actions on a link
acts_at : (link : ℕ) (actions : List Action) (k : ℕ) (o : Option Action) → slice_get actions k ≡ o → acts_on link o ≡ true → (a : Action) × (slice_get actions k ≡ Some a) × (eqb a.link link ≡ true)
acts_at link actions k None is h = absurd (false≢true h)
acts_at link actions k (Some a) is h = (a, is, h)

not_earlier_by : (link : ℕ) (actions : List Action) (first k : ℕ) (b : Bool) → ltb k first ≡ b → first_on link actions ≡ Some first → acts_on link (slice_get actions k) ≡ true → ltb k first ≡ false
not_earlier_by link actions first k false is h on = is
not_earlier_by link actions first k true is h on =
    let found = acts_at link actions k (slice_get actions k) refl on in
    let fails = (position-Some (λ (a : Action). eqb a.link link) actions first found.0 h).2 k (ltb-true k first is) in
    let same : get_or actions k found.0 ≡ found.0 = get_or_from_slice_get actions k found.0 found.0 found.1 in
    absurd (false≢true (sym fails ∙ ap (λ (a : Action). eqb a.link link) same ∙ found.2))

not_earlier : (link : ℕ) (actions : List Action) (first k : ℕ) → first_on link actions ≡ Some first → acts_on link (slice_get actions k) ≡ true → ltb k first ≡ false
not_earlier link actions first k h on = not_earlier_by link actions first k (ltb k first) refl h on

no_position : {A : Type 0} (p : A → Bool) (xs : List A) (b : Bool) → ltb (position_or_len p xs) (length xs) ≡ b → position p xs ≡ None → length xs ≤ position_or_len p xs
no_position p xs true is h = absurd (none_some (position_or_len p xs) (sym h ∙ ap (λ b. cond b (Some (position_or_len p xs)) None) is))
no_position p xs false is h = ltb-false (position_or_len p xs) (length xs) is

none_acts : (link : ℕ) (actions : List Action) (k : ℕ) → first_on link actions ≡ None → acts_on link (slice_get actions k) ≡ true → ⊥
none_acts link actions k h on =
    let found = acts_at link actions k (slice_get actions k) refl on in
    let long = no_position (λ (a : Action). eqb a.link link) actions (ltb (position_or_len (λ (a : Action). eqb a.link link) actions) (length actions)) refl h in
    let within : k < length actions = slice_get_within actions k found.0 found.1 in
    let fails = fails_before_first (λ (a : Action). eqb a.link link) actions k found.0 (omega arith) in
    let same : get_or actions k found.0 ≡ found.0 = get_or_from_slice_get actions k found.0 found.0 found.1 in
    false≢true (sym fails ∙ ap (λ (a : Action). eqb a.link link) same ∙ found.2)

-- ---- listed pairs on the link
acts_there : (x : Rules) (link : ℕ) (q : ActionAt) (rule : Rule) → slice_get x.rules q.rule ≡ Some rule → is_on x.rules link q ≡ true → acts_on link (slice_get (branch_actions rule q.branch) q.action) ≡ true
unfolding is_on action_at
acts_there x link q rule is on = sym (ap (λ o. acts_on link (branch_action q o)) is) ∙ on

some_first : (place : ℕ) (branch : Branch) (o : Option ℕ) → (o ≡ None → ⊥) → (at : ActionAt) × (at_first place branch o ≡ Some at)
some_first place branch None h = absurd (h refl)
some_first place branch (Some action) h = (record { rule = place; branch = branch; action = action }, refl)

listed_orders : (x : Rules) (s : State) (link : ℕ) (q : ActionAt) → IsListed x s q → is_on x.rules link q ≡ true → (at : ActionAt) × (rule_order x s link q.rule ≡ Some at)
listed_orders x s link q q_listed on =
    let rule = q_listed.rule in
    let acts : acts_on link (slice_get (branch_actions rule (listed_branch x s rule)) q.action) ≡ true =
    subst (λ b. acts_on link (slice_get (branch_actions rule b) q.action) ≡ true) q_listed.branch (acts_there x link q rule q_listed.is on) in
    let first = some_first q.rule (listed_branch x s rule) (first_on link (branch_actions rule (listed_branch x s rule)))
    (λ none. none_acts link (branch_actions rule (listed_branch x s rule)) q.action none acts) in
    (first.0, rule_order_is x s link q.rule rule q_listed.is ∙ first.1)

-- ---- the settled pair
short_by : (link : ℕ) (actions : List Action) (action : ℕ) (b : Bool) → ltb (position_or_len (λ (a : Action). eqb a.link link) actions) (length actions) ≡ b → position (λ (a : Action). eqb a.link link) actions ≡ Some action → action < length actions
short_by link actions action true is e =
    let given : Some (position_or_len (λ (a : Action). eqb a.link link) actions) ≡ Some action = sym (ap (λ b. cond b (Some (position_or_len (λ (a : Action). eqb a.link link) actions)) None) is) ∙ e in
    let same : position_or_len (λ (a : Action). eqb a.link link) actions ≡ action = grind arith in
    let low : position_or_len (λ (a : Action). eqb a.link link) actions < length actions = ltb-true (position_or_len (λ (a : Action). eqb a.link link) actions) (length actions) is in
    subst (λ n. n < length actions) same low
short_by link actions action false is e = absurd (none_some action (sym (ap (λ b. cond b (Some (position_or_len (λ (a : Action). eqb a.link link) actions)) None) is) ∙ e))

pub first_within : (link : ℕ) (actions : List Action) (action : ℕ) → first_on link actions ≡ Some action → action < length actions
first_within link actions action e = short_by link actions action (ltb (position_or_len (λ (a : Action). eqb a.link link) actions) (length actions)) refl e

is_listed_pair : (x : Rules) (s : State) (link : ℕ) (at : ActionAt) → Ordered x s link at.rule at → IsListed x s at
is_listed_pair x s link at h = record {
  rule = h.rule;
  is = h.is;
  branch = h.branch;
  action =
      let within : at.action < length (branch_actions h.rule (listed_branch x s h.rule)) = first_within link (branch_actions h.rule (listed_branch x s h.rule)) at.action h.first in
      subst (λ b. at.action < length (branch_actions h.rule b)) (sym h.branch) within;
}

pub acts_first : (link : ℕ) (actions : List Action) (first : ℕ) (o : Option Action) → slice_get actions first ≡ o → first < length actions → first_on link actions ≡ Some first → acts_on link o ≡ true
acts_first link actions first None is within h = absurd (past actions first within is)
  where
    past : (list : List Action) (k : ℕ) → k < length list → slice_get list k ≡ None → ⊥
    past [] k low e = omega (arith, low)
    past (a ∷ list) zero low e = none_some a (sym e)
    past (a ∷ list) (suc k) low e = past list k (omega (arith, low)) e
acts_first link actions first (Some a) is within h =
    let passes = (position-Some (λ (b : Action). eqb b.link link) actions first a h).1 in
    ap (λ (b : Action). eqb b.link link) (sym (get_or_from_slice_get actions first a a is)) ∙ passes

is_on_link : (x : Rules) (s : State) (link : ℕ) (at : ActionAt) → Ordered x s link at.rule at → is_on x.rules link at ≡ true
unfolding is_on action_at
is_on_link x s link at h =
    let acts : acts_on link (slice_get (branch_actions h.rule (listed_branch x s h.rule)) at.action) ≡ true =
    acts_first link (branch_actions h.rule (listed_branch x s h.rule)) at.action (slice_get (branch_actions h.rule (listed_branch x s h.rule)) at.action) refl
    (first_within link (branch_actions h.rule (listed_branch x s h.rule)) at.action h.first) h.first in
    ap (λ o. acts_on link (branch_action at o)) h.is
    ∙ subst (λ b. acts_on link (slice_get (branch_actions h.rule b) at.action) ≡ true) (sym h.branch) acts

not_beaten_by : (before same_rule earlier : Bool) → before ≡ false → (same_rule ≡ true → earlier ≡ false) → (before || (same_rule && earlier)) ≡ false
not_beaten_by before true earlier e h = or_from before earlier e (h refl)
not_beaten_by before false earlier e h = or_from before false e refl

same_rule_later : (x : Rules) (s : State) (link : ℕ) (at q : ActionAt) → Ordered x s link at.rule at → IsListed x s q → is_on x.rules link q ≡ true → eqb q.rule at.rule ≡ true → ltb q.action at.action ≡ false
same_rule_later x s link at q h q_listed on e =
    let one : q_listed.rule ≡ h.rule = (let first = sym q_listed.is ∙ ap (slice_get x.rules) (eqb-true q.rule at.rule e) ∙ h.is in grind arith) in
    let acts : acts_on link (slice_get (branch_actions q_listed.rule (listed_branch x s q_listed.rule)) q.action) ≡ true =
    subst (λ b. acts_on link (slice_get (branch_actions q_listed.rule b) q.action) ≡ true) q_listed.branch (acts_there x link q q_listed.rule q_listed.is on) in
    not_earlier link (branch_actions h.rule (listed_branch x s h.rule)) at.action q.action h.first
    (subst (λ rule. acts_on link (slice_get (branch_actions rule (listed_branch x s rule)) q.action) ≡ true) one acts)

not_beaten : (x : Rules) (s : State) (link : ℕ) (at q : ActionAt) → Ordered x s link at.rule at → IsListed x s q → is_on x.rules link q ≡ true → rule_precedes x.rules q.rule at.rule ≡ false → beats x.rules q at ≡ false
unfolding beats priority_at rule_precedes
not_beaten x s link at q h q_listed on before =
    not_beaten_by (precedes (rule_priority (slice_get x.rules q.rule)) q.rule (rule_priority (slice_get x.rules at.rule)) at.rule)
    (eqb q.rule at.rule) (ltb q.action at.action) before (same_rule_later x s link at q h q_listed on)

from_place : (x : Rules) (s : State) (link place : ℕ) (at : ActionAt) → rule_order x s link place ≡ Some at → at.rule ≡ place
from_place x s link place at h = (order_tells x s link place at h).place

first_settled : (x : Rules) (s : State) (link : ℕ) (at : ActionAt) → firsts (rule_order x s link) (ranked x.rules) ≡ Some at → IsSettled x.rules (listed x s) link at
first_settled x s link at h =
    let orders : rule_order x s link at.rule ≡ Some at = firsts_from (rule_order x s link) (ranked x.rules) at (from_place x s link) h in
    let told : Ordered x s link at.rule at = order_tells x s link at.rule at orders in
    record {
      member = (listing-listed x s at).1 (is_listed_pair x s link at told);
      on_link = is_on_link x s link at told;
      unbeaten = λ q q_in on. (
          let q_listed : IsListed x s q = (listing-listed x s q).0 q_in in
          let q_orders = listed_orders x s link q q_listed on in
          not_beaten x s link at q told q_listed on
          (firsts_unbeaten x.rules (rule_order x s link) (ranked x.rules) at q.rule q_orders.0 (from_place x s link) (ranked_is x.rules) h q_orders.1
          (all_ranked x.rules q.rule (slice_get_within x.rules q.rule q_listed.rule q_listed.is))));
    }

settled_by : (x : Rules) (s : State) (link : ℕ) (o p : Option ActionAt) → firsts (rule_order x s link) (ranked x.rules) ≡ o → settled_on x.rules (listed x s) link ≡ p → o ≡ p
settled_by x s link (Some at) p is settled =
    sym ((settling-given x.rules (listed x s) link at (listing-one_branch_each x s)).1 (first_settled x s link at is)) ∙ settled
settled_by x s link None None is settled = refl
settled_by x s link None (Some q) is settled =
    let told : IsSettled x.rules (listed x s) link q = (settling-given x.rules (listed x s) link q (listing-one_branch_each x s)).0 settled in
    let q_listed : IsListed x s q = (listing-listed x s q).0 told.member in
    let q_orders = listed_orders x s link q q_listed told.on_link in
    absurd (none_some q_orders.0
    (sym (firsts_none (rule_order x s link) (ranked x.rules) q.rule is
    (all_ranked x.rules q.rule (slice_get_within x.rules q.rule q_listed.rule q_listed.is)))
    ∙ q_orders.1))

pub rows_settle : (x : Rules) (s : State) (link : ℕ) → ordered_by x s (rows_on x.rules link) ≡ settling x s link
unfolding settling
rows_settle x s link =
    ordered_is x s link
    ∙ settled_by x s link (firsts (rule_order x s link) (ranked x.rules)) (settled_on x.rules (listed x s) link) refl refl

-- ---- tables
abbrev table_for : Rules → ℕ → LinkTable
table_for x link = record { link = link; rows = rows_on x.rules link }

abbrev ordered_in : Rules → State → Option LinkTable → Option ActionAt
ordered_in x s o = option_and_then (λ table. ordered_by x s table.rows) o

found_by : (x : Rules) (s : State) (link first : ℕ) (more : List ℕ) (b : Bool) → eqb first link ≡ b → (Contains more link → ordered_in x s (find (λ table. eqb table.link link) (map (table_for x) more)) ≡ ordered_by x s (rows_on x.rules link)) → (first ≡ link) ⊎ Contains more link → ordered_in x s (cond (eqb first link) (Some (table_for x first)) (find (λ table. eqb table.link link) (map (table_for x) more))) ≡ ordered_by x s (rows_on x.rules link)
found_by x s link first more true is later link_in = rw is (ap (λ l. ordered_by x s (rows_on x.rules l)) (eqb-true first link is))
found_by x s link first more false is later (inl e) = absurd (false≢true (sym is ∙ eq-eqb first link e))
found_by x s link first more false is later (inr link_in) = rw is (later link_in)

found_in : (x : Rules) (s : State) (link : ℕ) (links : List ℕ) → Contains links link → ordered_in x s (find (λ table. eqb table.link link) (map (table_for x) links)) ≡ ordered_by x s (rows_on x.rules link)
found_in x s link [] link_in = absurd (omega (arith, link_in.1))
found_in x s link (first ∷ more) link_in =
    found_by x s link first more (eqb first link) refl (found_in x s link more) (members-cases first more link link_in)

pub tables_settle : (x : Rules) (s : State) (link : ℕ) → Contains x.controlled link → tabled x (tables_of x) s link ≡ settling x s link
unfolding tabled tables_of
tables_settle x s link link_in = found_in x s link x.controlled link_in ∙ rows_settle x s link

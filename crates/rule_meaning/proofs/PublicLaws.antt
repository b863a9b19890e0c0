-- What the crates above may cite in their lemmas, and all that they may. Each term proves the
-- clause of src/laws.rt that its name tells, law and clause, and the answers of those laws are
-- these terms: so no more is cited than a public clause says.
use Rattle.std.specs.Prelude.{◌≡◌, ℕ, ◌↔◌, ◌<◌, Bool, true, false, Some, None, List, ◌∷◌, refl}
use Rattle.std.specs.Prelude.{length, position, slice_get}
use Rattle.std.specs.Prelude.{IsTrue}
use Rattle.std.specs.List.{Contains}
use Rattle.rule_types.specs.declared.action.ActionAt.{ActionAt}
use Rattle.rule_types.specs.declared.action.Branch.{Branch}
use Rattle.rule_types.specs.declared.rule.Rule.{Rule}
use Rattle.rule_types.specs.declared.rules.Rules.{Rules}
use Rattle.rule_types.specs.declared.state.State.{State}
use Rattle.rule_meaning.specs.Premise.{listed_by, listed, IsListed}
use Rattle.rule_meaning.specs.Settled.{is_on, IsSettled, settled_on, IsOneBranchEach}
use Rattle.rule_meaning.specs.State.{beside}
use Rattle.rule_meaning.proofs.LookUps.{beside_at, beside_found, beside_absent}
use Rattle.rule_meaning.proofs.Members.{at_first}
pub use Rattle.rule_meaning.proofs.Members.{at_later as members-later, in_cases as members-cases}
use Rattle.rule_meaning.proofs.Listed.{listed_is, is_listed}
use Rattle.rule_meaning.proofs.Listing.{one_branch_each_by}
use Rattle.rule_meaning.proofs.Settling.{given_is_settled, settled_is_given}
pub use Rattle.rule_meaning.proofs.ClockOrder.{whole_days as day_seconds-whole}
pub use Rattle.rule_meaning.proofs.ClockOrder.{rest_bounds as day_seconds-bounds}
pub use Rattle.rule_meaning.proofs.ClockOrder.{day_at as day_seconds-day_at}
pub use Rattle.rule_meaning.proofs.ClockOrder.{time_at as day_seconds-time_at}
pub use Rattle.rule_meaning.proofs.ClockOrder.{week_day_bounds as clock_bounds-week_day}
pub use Rattle.rule_meaning.proofs.ClockOrder.{clock_time_bounds as clock_bounds-clock_time}
pub use Rattle.rule_meaning.proofs.ClockOrder.{hours_rise as clock_order-hours}
pub use Rattle.rule_meaning.proofs.ClockOrder.{hours_rise_below as clock_order-hours_below}
pub use Rattle.rule_meaning.proofs.ClockOrder.{time_rises as clock_order-time}
pub use Rattle.rule_meaning.proofs.ClockOrder.{date_rises as clock_order-date}
pub use Rattle.rule_meaning.proofs.ClockOrder.{clock_time_rises as clock_order-clock_time}
pub use Rattle.rule_meaning.proofs.ClockOrder.{one_date as one_day-date}
pub use Rattle.rule_meaning.proofs.ClockOrder.{one_month as one_day-month}
pub use Rattle.rule_meaning.proofs.ClockOrder.{one_week_day as one_day-week_day}
pub use Rattle.rule_meaning.proofs.ClockOrder.{one_year_day as one_day-year_day}
pub use Rattle.rule_meaning.proofs.PremiseGroups.{group_not_empty as premise_groups-some_condition}
pub use Rattle.rule_meaning.proofs.PremiseGroups.{group_begins as premise_groups-at_head}
pub use Rattle.rule_meaning.proofs.PremiseGroups.{group_goes_on as premise_groups-not_inside}
pub use Rattle.rule_meaning.proofs.UnlistedPids.{unlisted_keeps as unlisted_pids-keep}
pub use Rattle.rule_meaning.proofs.TableValues.{some_table_value as table_values-some_value}
pub use Rattle.rule_meaning.proofs.TableValues.{one_table_value as table_values-one_value}
pub use Rattle.rule_meaning.proofs.TableValues.{table_fits as table_values-fits}
pub use Rattle.rule_meaning.proofs.Days.{dates_known as dates-calendar}
pub use Rattle.rule_meaning.proofs.Values.{one_timer as timers-just_one}
pub use Rattle.rule_meaning.proofs.Values.{line_at_least_zero as values-tables}
pub use Rattle.rule_meaning.proofs.Values.{pid_in_bounds as values-pids}
pub use Rattle.rule_meaning.proofs.Premises.{groups_in_a_row as premises-in_a_row}
pub use Rattle.rule_meaning.proofs.Premises.{all_by_and as premises-all_by_and}
pub use Rattle.rule_meaning.proofs.Premises.{all_by_or as premises-all_by_or}
pub use Rattle.rule_meaning.proofs.Premises.{by_place_alike as premises-by_place}
pub use Rattle.rule_meaning.proofs.Listing.{one_branch_each as listing-one_branch_each}
pub use Rattle.rule_meaning.proofs.Listing.{same_listed as listing-same_branches}
pub use Rattle.rule_meaning.proofs.Settling.{at_most_one as settling-at_most_one}
pub use Rattle.rule_meaning.proofs.Settling.{at_least_one as settling-at_least_one}
pub use Rattle.rule_meaning.proofs.Settling.{none_given as settling-none_given}
pub use Rattle.rule_meaning.proofs.Settling.{order_free as settling-order_free}
pub use Rattle.rule_meaning.proofs.GroupWalk.{groups_front as premises-from_front}
pub use Rattle.rule_meaning.proofs.GroupWalk.{premise_walk as premises-walk}
pub use Rattle.rule_meaning.proofs.RankOrder.{precedes_asym as ranks-asymmetric}
pub use Rattle.rule_meaning.proofs.RankOrder.{precedes_on as ranks-transitive}
pub use Rattle.rule_meaning.proofs.RankOrder.{precedes_through as ranks-weak}
pub use Rattle.rule_meaning.proofs.RankOrder.{precedes_ties as ranks-ties}
pub use Rattle.rule_meaning.proofs.RankOrder.{beats_on as pair_order-transitive}
pub use Rattle.rule_meaning.proofs.Settling.{beats_asym as pair_order-asymmetric}
pub use Rattle.rule_meaning.proofs.Settling.{beats_through as pair_order-weak}
pub use Rattle.rule_meaning.proofs.Settling.{beats_ties as pair_order-ties}
pub use Rattle.rule_meaning.proofs.SomePairs.{settled_among as some_rules-settled}
pub use Rattle.rule_meaning.proofs.SomePairs.{listed_settled as some_rules-listed}
pub use Rattle.rule_meaning.proofs.SomePairs.{left_used as some_rules-used}
pub use Rattle.rule_meaning.proofs.SomePairs.{rule_of_number as some_rules-rule}
pub use Rattle.rule_meaning.proofs.SomePairs.{same_asked as some_rules-asked}
pub use Rattle.rule_meaning.proofs.Seconds.{clock_holds as seconds-truth}
pub use Rattle.rule_meaning.proofs.LookUps.{last_at as last_conditions-at_end}
pub use Rattle.rule_meaning.proofs.LookUps.{link_state_at as links_by_place-state}
pub use Rattle.rule_meaning.proofs.LookUps.{rate_at as links_by_place-rate}
pub use Rattle.rule_meaning.proofs.LookUps.{pump_at as links_by_place-pump}
pub use Rattle.rule_meaning.proofs.LookUps.{old_target_at as links_by_place-target}
pub use Rattle.rule_meaning.proofs.LookUps.{link_state_fits as links_by_place-fits}
pub use Rattle.rule_meaning.proofs.LookUps.{input_at as keys_by_place-input}
pub use Rattle.rule_meaning.proofs.LookUps.{value_of_input as keys_by_place-of_input}
pub use Rattle.rule_meaning.proofs.LookUps.{value_of_link as keys_by_place-of_link}
pub use Rattle.rule_meaning.proofs.PidMemories.{same_reading_of as memories-reading}
pub use Rattle.rule_meaning.proofs.PidMemories.{same_memories_left as memories-leaves}
pub use Rattle.rule_meaning.proofs.PidMemories.{as_many_memories as memories-as_many}
pub use Rattle.rule_meaning.proofs.PidMemories.{memories_left as memories-list}
pub use Rattle.rule_meaning.proofs.Choices.{same_reading as choices-reading}
pub use Rattle.rule_meaning.proofs.Choices.{same_standings as choices-standings}
pub use Rattle.rule_meaning.proofs.Choices.{same_memory as choices-memory}
pub use Rattle.rule_meaning.proofs.LineValues.{table_value as values-on_line}
pub use Rattle.rule_meaning.proofs.Kept.{step_kept as values-kept_step, memory_kept as values-kept}
pub use Rattle.rule_meaning.proofs.Dues.{every_row_due as dues-every_row, due_reads as dues-due}
pub use Rattle.rule_meaning.proofs.Dues.{not_due_reads_nothing as dues-not_due}
pub use Rattle.rule_meaning.proofs.Dues.{not_due_keeps as dues-not_due_keeps}
pub use Rattle.rule_meaning.proofs.Dues.{stop_keeps as dues-stop_keeps}
pub use Rattle.rule_meaning.proofs.OrderValues.{settling_acts as orders-settled}
pub use Rattle.rule_meaning.proofs.OrderValues.{all_orders_fit as orders-values}
pub use Rattle.rule_meaning.proofs.Orders.{orders_controlled as orders-controlled}
pub use Rattle.rule_meaning.proofs.Orders.{orders_rise as orders-rise}
pub use Rattle.rule_meaning.proofs.Orders.{ordered_target as targets-ordered}
pub use Rattle.rule_meaning.proofs.Orders.{kept_target as targets-kept}
pub use Rattle.rule_meaning.proofs.Standings.{standing_at as standing-moved}
pub use Rattle.rule_meaning.proofs.Standings.{standing_stayed as standing-stayed}
pub use Rattle.rule_meaning.proofs.Standings.{standings_long as standing-as_many}
pub use Rattle.rule_meaning.proofs.Standings.{setting_at as standing-setting}
pub use Rattle.rule_meaning.proofs.Standings.{settings_long as standing-settings}
pub use Rattle.rule_meaning.proofs.KeptParts.{stop_kept as first_stops-kept}
pub use Rattle.rule_meaning.proofs.KeptParts.{stop_now as first_stops-now}
pub use Rattle.rule_meaning.proofs.KeptParts.{no_stop as first_stops-none}
pub use Rattle.rule_meaning.proofs.KeptParts.{dated_start as replay-dated}
pub use Rattle.rule_meaning.proofs.KeptParts.{undated_start as replay-undated}
pub use Rattle.rule_meaning.proofs.KeptParts.{same_standings_now as choices-standings_now}
pub use Rattle.rule_meaning.proofs.KeptParts.{same_switches as choices-switches}
pub use Rattle.rule_meaning.proofs.KeptParts.{same_first_stop as choices-first_stop}
pub use Rattle.rule_meaning.proofs.KeptParts.{same_replayed as choices-replayed}
pub use Rattle.rule_meaning.proofs.Replays.{as_many as replay-as_many, states_fit as replay-fit}
pub use Rattle.rule_meaning.proofs.Replays.{states_within_one as replay-within_one}
pub use Rattle.rule_meaning.proofs.MovedNumbers.{moved_number as movement-number}
pub use Rattle.rule_meaning.proofs.Moves.{moved_at_once as movement-at_once}
pub use Rattle.rule_meaning.proofs.Moves.{moved_up as movement-up, moved_down as movement-down}
pub use Rattle.rule_meaning.proofs.Moves.{at_target as movement-at_target}
pub use Rattle.rule_meaning.proofs.Moves.{on_the_way as movement-on_the_way}

pub members-first : {A : Type 0} (first : A) (others : List A) → Contains (first ∷ others) first
members-first first others = at_first first others first refl

pub listing-listed : (x : Rules) (s : State) (at : ActionAt)
    → Contains (listed x s) at ↔ IsListed x s at
listing-listed x s at = (listed_is x s at, is_listed x s at)

pub listing-one_branch_given : (branch : ℕ → Rule → Branch) (rules : List Rule)
    → IsOneBranchEach (listed_by branch 0 rules)
listing-one_branch_given branch rules = one_branch_each_by branch 0 rules

pub settling-only_where_listed : (rules : List Rule) (pairs : List ActionAt) (link : ℕ)
    (p : ActionAt) → IsSettled rules pairs link p → Contains pairs p × IsTrue (is_on rules link p)
settling-only_where_listed rules pairs link p h = (h.member, h.on_link)

pub settling-given : (rules : List Rule) (pairs : List ActionAt) (link : ℕ) (p : ActionAt)
    → IsOneBranchEach pairs → settled_on rules pairs link ≡ Some p ↔ IsSettled rules pairs link p
settling-given rules pairs link p each =
    (given_is_settled rules pairs link p, settled_is_given rules pairs link p each)

pub look_ups-place : {A B : Type 0} (passes : A → Bool) (things : List A) (values : List B) (k : ℕ)
    (thing : A)
    → slice_get things k ≡ Some thing → passes thing ≡ true
    → ((j : ℕ) (other : A) → j < k → slice_get things j ≡ Some other → passes other ≡ false)
    → length values ≡ length things → beside passes things values ≡ slice_get values k
look_ups-place = beside_at

pub look_ups-found : {A B : Type 0} (passes : A → Bool) (things : List A) (values : List B) (k : ℕ)
    → position passes things ≡ Some k → length values ≡ length things
    → beside passes things values ≡ slice_get values k
look_ups-found = beside_found

pub look_ups-absent : {A B : Type 0} (passes : A → Bool) (things : List A) (values : List B)
    → position passes things ≡ None → beside passes things values ≡ None
look_ups-absent = beside_absent

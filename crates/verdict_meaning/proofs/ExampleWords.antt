-- The closed words that are opened to compute worked examples, by topic.
use Rattle.std.specs.Prelude.{⊤}
use Rattle.exact_fraction.specs.Operations.{middle_of}
use Rattle.rule_meaning.specs.Premise.{listed_among}
use Rattle.rule_meaning.proofs.ExampleWords.{rule_words}
use Rattle.verdict_meaning.specs.ActionHulls.{controller_reach, set_point_reach, what_hull}
use Rattle.verdict_meaning.specs.ActionHulls.{worth_hull, is_part_of, keeps_target, can_keep}
use Rattle.verdict_meaning.specs.ActionHulls.{stays_within}
use Rattle.verdict_meaning.specs.BoxExamples.{depth_keys, depths_if, from_zero_to_ten}
use Rattle.verdict_meaning.specs.Boxes.{first_box}
use Rattle.verdict_meaning.specs.Certificates.{can_split, with_piece, part_with, part_at}
use Rattle.verdict_meaning.specs.Certificates.{part_through, node_judged, cert_judged, facts_fit}
use Rattle.verdict_meaning.specs.Certificates.{facts_hold, leaf_cause, checked_cert}
use Rattle.verdict_meaning.specs.ClockHulls.{in_one_day, value_span, all_values, span_hull}
use Rattle.verdict_meaning.specs.ClockHulls.{clock_hull}
use Rattle.verdict_meaning.specs.Events.{candidate, same_controller, agree, disagree, are_level}
use Rattle.verdict_meaning.specs.Events.{is_conflict, is_alive, is_past, has_event_by, has_event}
use Rattle.verdict_meaning.specs.Grids.{inserted, rising, condition_cuts, cuts_of, pieces_of}
use Rattle.verdict_meaning.specs.Grids.{spans_to, axes_of, combinations, cells_of, grid_cells}
use Rattle.verdict_meaning.specs.Grids.{product_of_lengths, cell_count, piece_number, cell_numbers}
use Rattle.verdict_meaning.specs.Grids.{number_of_key, sample_links, sample_of}
use Rattle.verdict_meaning.specs.Hulls.{sum_end, difference_end, sum_hull, difference_hull}
use Rattle.verdict_meaning.specs.Hulls.{negation_hull, begins_below_zero, ends_above_zero}
use Rattle.verdict_meaning.specs.Hulls.{size_hull, least_sign, greatest_sign, sign_hull}
use Rattle.verdict_meaning.specs.Hulls.{least_step, greatest_step, step_hull, spanned}
use Rattle.verdict_meaning.specs.Hulls.{product_corners, product_hull, on_one_side}
use Rattle.verdict_meaning.specs.Hulls.{quotient_corners, quotient_hull, power_hull}
use Rattle.verdict_meaning.specs.Premises.{any_truth, all_truth, premise_truth_by, rule_truth}
use Rattle.verdict_meaning.specs.Questions.{is_asked, asked_numbers, with_key, in_key_order}
use Rattle.verdict_meaning.specs.Questions.{grid_keys, has_moments}
use Rattle.verdict_meaning.specs.Reaches.{piece_in, key_reach, reach_step, variable_reach}
use Rattle.verdict_meaning.specs.Reaches.{formula_reach, kind_reach, named_reach}
use Rattle.verdict_meaning.specs.Reaches.{left_reach, right_reach}
use Rattle.verdict_meaning.specs.Shown.{known_in, known_by, surely_acts, rule_precedes}
use Rattle.verdict_meaning.specs.Shown.{is_preceded, conflict_shown, dead_branch, dead_shown}
use Rattle.verdict_meaning.specs.Shown.{branch_safe, limit_shown, shown_with, shown, shown_by}
use Rattle.moment_pieces.proofs.ExampleWords.{piece_words as moment_piece_words}
use Rattle.table_hulls.proofs.ExampleWords.{hull_words as table_hull_words}
use Rattle.clock_values.specs.Seconds.{passes_nowhere, passes_throughout}
use Rattle.verdict_meaning.specs.ActionHulls.{capped_low, capped_high, capped_hull}
use Rattle.verdict_meaning.specs.Truths.{ends_below, ends_at_most, all_relate, all_within}
use Rattle.verdict_meaning.specs.Truths.{none_within, all_times_relate, all_meet, none_meet}
use Rattle.verdict_meaning.specs.Truths.{seconds_truth}
use Rattle.verdict_meaning.specs.Truths.{sides_truth, condition_truth}
use Rattle.verdict_meaning.specs.Verdicts.{none_spare, lean_node, is_lean, first_event, first_open}
use Rattle.verdict_meaning.specs.Verdicts.{is_plain_question}

unfoldable pub end_words : ⊤
unfolding sum_end difference_end begins_below_zero ends_above_zero ends_below ends_at_most
end_words = tt

unfoldable pub sign_words : ⊤
unfolding size_hull least_sign greatest_sign sign_hull least_step greatest_step step_hull
sign_words = tt

unfoldable pub hull_words : ⊤
unfolding end_words sign_words sum_hull difference_hull negation_hull
hull_words = tt

unfoldable pub corner_words : ⊤
unfolding spanned product_corners product_hull on_one_side quotient_corners quotient_hull power_hull
corner_words = tt

unfoldable pub clock_words : ⊤
unfolding in_one_day value_span all_values span_hull clock_hull
clock_words = tt

unfoldable pub name_words : ⊤
unfolding reach_step variable_reach formula_reach
name_words = tt

unfoldable pub side_words : ⊤
unfolding kind_reach named_reach left_reach right_reach
side_words = tt

unfoldable pub reach_words : ⊤
unfolding hull_words corner_words clock_words name_words side_words piece_in key_reach
reach_words = tt

unfoldable pub pair_words : ⊤
unfolding all_relate all_within none_within all_times_relate all_meet none_meet
pair_words = tt

unfoldable pub second_words : ⊤
unfolding passes_nowhere passes_throughout seconds_truth
second_words = tt

unfoldable pub truth_words : ⊤
unfolding pair_words second_words sides_truth condition_truth
truth_words = tt

unfoldable pub premise_words : ⊤
unfolding any_truth all_truth premise_truth_by rule_truth
premise_words = tt

unfoldable pub worth_words : ⊤
unfolding capped_low capped_high capped_hull controller_reach set_point_reach what_hull worth_hull
worth_words = tt

unfoldable pub action_words : ⊤
unfolding worth_words is_part_of keeps_target can_keep stays_within
action_words = tt

unfoldable pub question_words : ⊤
unfolding is_asked asked_numbers with_key in_key_order grid_keys has_moments first_box
question_words = tt

unfoldable pub candidate_words : ⊤
unfolding candidate same_controller agree disagree are_level
candidate_words = tt

unfoldable pub event_words : ⊤
unfolding candidate_words listed_among is_conflict is_alive is_past has_event_by has_event
event_words = tt

unfoldable pub known_words : ⊤
unfolding known_in known_by surely_acts rule_precedes is_preceded
known_words = tt

unfoldable pub question_shown_words : ⊤
unfolding conflict_shown dead_branch dead_shown branch_safe limit_shown
question_shown_words = tt

unfoldable pub shown_words : ⊤
unfolding known_words question_shown_words shown_with shown shown_by
shown_words = tt

unfoldable pub part_words : ⊤
unfolding can_split with_piece part_with part_at part_through
part_words = tt

unfoldable pub tree_words : ⊤
unfolding part_words node_judged cert_judged facts_fit facts_hold leaf_cause checked_cert
tree_words = tt

unfoldable pub moment_words : ⊤
unfolding moment_piece_words spans_to
moment_words = tt

unfoldable pub cut_words : ⊤
unfolding moment_words inserted rising condition_cuts cuts_of pieces_of
cut_words = tt

unfoldable pub sample_words : ⊤
unfolding middle_of piece_number cell_numbers number_of_key sample_links sample_of
sample_words = tt

unfoldable pub cell_words : ⊤
unfolding axes_of combinations cells_of grid_cells product_of_lengths cell_count
cell_words = tt

unfoldable pub grid_words : ⊤
unfolding cut_words cell_words sample_words
grid_words = tt

unfoldable pub verdict_words : ⊤
unfolding none_spare lean_node is_lean first_event first_open is_plain_question
verdict_words = tt

-- the words of boxes, and of certificates and verdicts too
unfoldable pub box_words : ⊤
unfolding rule_words reach_words truth_words premise_words table_hull_words action_words
box_words = tt

unfoldable pub example_words : ⊤
unfolding depths_if depth_keys from_zero_to_ten box_words question_words event_words shown_words tree_words grid_words verdict_words
example_words = tt

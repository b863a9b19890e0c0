-- A box that is shown by what is known of the premises is also shown where more is known.
use Rattle.std.proofs.Common.{◌≡◌, ℕ, Bool, true, false, not, ◌&&◌, ◌||◌, List, ◌∷◌, []}
use Rattle.std.specs.List.{list_all, list_any}
use Rattle.std.specs.Prelude.{slice_get}
use Rattle.exact_fraction.specs.Number.{Rational}
use Rattle.rule_types.specs.declared.action.Branch.{Branch}
use Rattle.rule_types.specs.declared.action.Branch.TheVariants.{Then, Otherwise}
use Rattle.rule_types.specs.declared.rules.Rules.{Rules}
use Rattle.rule_types.specs.Tables.{TableSet}
use Rattle.verdict_meaning.specs.declared.cell.Cell.{Cell}
use Rattle.verdict_meaning.specs.declared.question.Question.{Question}
use Rattle.verdict_meaning.specs.declared.question.Question.TheVariants.{Conflict, Dead, Limit}
use Rattle.verdict_meaning.specs.Events.{are_level, candidate, disagree}
use Rattle.verdict_meaning.specs.Questions.{all_numbers, setting_key}
use Rattle.verdict_meaning.specs.Reaches.{piece_in}
use Rattle.verdict_meaning.specs.Shown.{KnownPremises, IsMoreKnown, is_unlisted, has_candidate}
use Rattle.verdict_meaning.specs.Shown.{surely_acts, rule_precedes, is_preceded, pair_shown}
use Rattle.verdict_meaning.specs.Shown.{conflict_shown, actions_in, dead_branch, dead_shown}
use Rattle.verdict_meaning.specs.Shown.{candidate_safe, branch_safe, meets_limit, limit_shown}
use Rattle.verdict_meaning.specs.Shown.{shown_with}
use Rattle.verdict_meaning.proofs.Tests.{or_stays, and_stays, any_stays, all_stays}

unlisted_stays : (known more : KnownPremises) → IsMoreKnown known more → (number : ℕ)
    (branch : Branch) → is_unlisted known number branch ≡ true
    → is_unlisted more number branch ≡ true
unlisted_stays known more k number Then h = k.fails number h
unlisted_stays known more k number Otherwise h = k.holds number h

acts_stays : (x : Rules) (known more : KnownPremises) → IsMoreKnown known more → (number link : ℕ)
    → surely_acts x known number link ≡ true → surely_acts x more number link ≡ true
unfolding surely_acts
acts_stays x known more k number link h =
    let a = has_candidate x number Then link in
    let b = has_candidate x number Otherwise link in
    or_stays ((a && known.holds number) || (b && known.fails number)) (a && b)
    ((a && more.holds number) || (b && more.fails number)) (a && b)
    (or_stays (a && known.holds number) (b && known.fails number) (a && more.holds number)
    (b && more.fails number)
    (and_stays a (known.holds number) a (more.holds number) (λ e. e) (k.holds number))
    (and_stays b (known.fails number) b (more.fails number) (λ e. e) (k.fails number)))
    (λ e. e) h

preceded_stays : (x : Rules) (known more : KnownPremises) → IsMoreKnown known more
    → (number link : ℕ) → is_preceded x known number link ≡ true
    → is_preceded x more number link ≡ true
unfolding is_preceded
preceded_stays x known more k number link h =
    any_stays (λ other. rule_precedes x other number && surely_acts x known other link)
    (λ other. rule_precedes x other number && surely_acts x more other link) (all_numbers x)
    (λ other.
    and_stays (rule_precedes x other number) (surely_acts x known other link)
    (rule_precedes x other number) (surely_acts x more other link) (λ e. e)
    (acts_stays x known more k other link))
    h

pair_stays : (x : Rules) (known more : KnownPremises) → IsMoreKnown known more → (first : ℕ)
    (branch : Branch) (second : ℕ) (other : Branch) (link : ℕ)
    → pair_shown x known first branch second other link ≡ true
    → pair_shown x more first branch second other link ≡ true
pair_stays x known more k first branch second other link =
    or_stays (not (disagree x first branch second other link))
    (is_unlisted known first branch || is_unlisted known second other)
    (not (disagree x first branch second other link))
    (is_unlisted more first branch || is_unlisted more second other) (λ e. e)
    (or_stays (is_unlisted known first branch) (is_unlisted known second other)
    (is_unlisted more first branch) (is_unlisted more second other)
    (unlisted_stays known more k first branch) (unlisted_stays known more k second other))

conflict_stays : (x : Rules) (known more : KnownPremises) → IsMoreKnown known more
    → (first second link : ℕ) → conflict_shown x known first second link ≡ true
    → conflict_shown x more first second link ≡ true
unfolding conflict_shown
conflict_stays x known more k first second link =
    let p = λ (branch : Branch) (other : Branch).
    pair_shown x known first branch second other link in
    let q = λ (branch : Branch) (other : Branch).
    pair_shown x more first branch second other link in
    let pair = λ (branch : Branch) (other : Branch).
    pair_stays x known more k first branch second other link in
    or_stays (not (are_level x.rules first second))
    ((p Then Then && p Then Otherwise) && (p Otherwise Then && p Otherwise Otherwise))
    (not (are_level x.rules first second))
    ((q Then Then && q Then Otherwise) && (q Otherwise Then && q Otherwise Otherwise)) (λ e. e)
    (and_stays (p Then Then && p Then Otherwise) (p Otherwise Then && p Otherwise Otherwise)
    (q Then Then && q Then Otherwise) (q Otherwise Then && q Otherwise Otherwise)
    (and_stays (p Then Then) (p Then Otherwise) (q Then Then) (q Then Otherwise) (pair Then Then)
    (pair Then Otherwise))
    (and_stays (p Otherwise Then) (p Otherwise Otherwise) (q Otherwise Then)
    (q Otherwise Otherwise) (pair Otherwise Then) (pair Otherwise Otherwise)))

branch_stays : (x : Rules) (known more : KnownPremises) → IsMoreKnown known more → (number : ℕ)
    (branch : Branch) → dead_branch x known number branch ≡ true
    → dead_branch x more number branch ≡ true
unfolding dead_branch
branch_stays x known more k number branch =
    all_stays
    (λ action. is_unlisted known number branch || is_preceded x known number action.link)
    (λ action. is_unlisted more number branch || is_preceded x more number action.link)
    (actions_in (slice_get x.rules number) branch)
    (λ action.
    or_stays (is_unlisted known number branch) (is_preceded x known number action.link)
    (is_unlisted more number branch) (is_preceded x more number action.link)
    (unlisted_stays known more k number branch)
    (preceded_stays x known more k number action.link))

dead_stays : (x : Rules) (known more : KnownPremises) → IsMoreKnown known more → (number : ℕ)
    → dead_shown x known number ≡ true → dead_shown x more number ≡ true
unfolding dead_shown
dead_stays x known more k number =
    and_stays (dead_branch x known number Then) (dead_branch x known number Otherwise)
    (dead_branch x more number Then) (dead_branch x more number Otherwise)
    (branch_stays x known more k number Then) (branch_stays x known more k number Otherwise)

safe_stays : (x : Rules) (tables : TableSet) (cell : Cell) (known more : KnownPremises)
    → IsMoreKnown known more → (link : ℕ) (lo hi : Rational) (number : ℕ) (branch : Branch)
    → branch_safe x tables cell known link lo hi number branch ≡ true
    → branch_safe x tables cell more link lo hi number branch ≡ true
unfolding branch_safe
safe_stays x tables cell known more k link lo hi number branch =
    let safe =
    candidate_safe x tables cell number link lo hi (candidate x.rules number branch link) in
    or_stays (is_unlisted known number branch || is_preceded x known number link) safe
    (is_unlisted more number branch || is_preceded x more number link) safe
    (or_stays (is_unlisted known number branch) (is_preceded x known number link)
    (is_unlisted more number branch) (is_preceded x more number link)
    (unlisted_stays known more k number branch) (preceded_stays x known more k number link))
    (λ e. e)

limit_stays : (x : Rules) (tables : TableSet) (cell : Cell) (known more : KnownPremises)
    → IsMoreKnown known more → (link : ℕ) (lo hi : Rational)
    → limit_shown x tables cell known link lo hi ≡ true
    → limit_shown x tables cell more link lo hi ≡ true
unfolding limit_shown
limit_stays x tables cell known more k link lo hi =
    let out = not (meets_limit lo hi (piece_in (setting_key link) cell.keys)) in
    let p = λ (number : ℕ).
    branch_safe x tables cell known link lo hi number Then
    && branch_safe x tables cell known link lo hi number Otherwise in
    let q = λ (number : ℕ).
    branch_safe x tables cell more link lo hi number Then
    && branch_safe x tables cell more link lo hi number Otherwise in
    or_stays out (list_all p (all_numbers x)) out (list_all q (all_numbers x)) (λ e. e)
    (all_stays p q (all_numbers x)
    (λ number.
    and_stays (branch_safe x tables cell known link lo hi number Then)
    (branch_safe x tables cell known link lo hi number Otherwise)
    (branch_safe x tables cell more link lo hi number Then)
    (branch_safe x tables cell more link lo hi number Otherwise)
    (safe_stays x tables cell known more k link lo hi number Then)
    (safe_stays x tables cell known more k link lo hi number Otherwise)))

pub shown_stays : (x : Rules) (tables : TableSet) (cell : Cell) (known more : KnownPremises)
    (question : Question) → IsMoreKnown known more
    → shown_with x tables cell known question ≡ true
    → shown_with x tables cell more question ≡ true
unfolding shown_with
shown_stays x tables cell known more (Conflict first second link) k =
    conflict_stays x known more k first second link
shown_stays x tables cell known more (Dead number) k = dead_stays x known more k number
shown_stays x tables cell known more (Limit link lo hi) k =
    limit_stays x tables cell known more k link lo hi

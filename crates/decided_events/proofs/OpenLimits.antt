-- A limit that is not shown has a branch that may be listed, on whose link no preceding rule surely
-- acts, and whose candidate has a hull that does not lie from lo to hi. So a rule acts on the link.
use Rattle.std.proofs.Common.{◌≡◌, ℕ, zero, suc, false, not, ◌&&◌, ◌||◌, Option, Some, None}
use Rattle.std.proofs.Common.{List, [], ◌∷◌, ◌⊎◌, inl, inr, refl, sym, subst}
use Rattle.std.proofs.lemmas.Bool.{and_cases, or_parts}
use Rattle.std.proofs.lemmas.Bool.{true≢false}
use Rattle.std.specs.List.{list_all, slice_get}
use Rattle.exact_fraction.specs.Number.{Rational}
use Rattle.rule_types.specs.declared.action.Action.{Action}
use Rattle.rule_types.specs.declared.action.Branch.{Branch}
use Rattle.rule_types.specs.declared.action.Branch.TheVariants.{Then, Otherwise}
use Rattle.rule_types.specs.declared.rule.Rule.{Rule}
use Rattle.rule_types.specs.declared.rules.Rules.{Rules}
use Rattle.rule_types.specs.Reading.{branch_actions, rule_actions}
use Rattle.rule_types.specs.Tables.{TableSet}
use Rattle.rule_meaning.specs.Worth.{rate_of}
use Rattle.rule_meaning.proofs.PublicLaws.{members-first}
use Rattle.verdict_meaning.specs.declared.cell.Cell.{Cell}
use Rattle.verdict_meaning.specs.ActionHulls.{can_keep, is_part_of, keeps_target, stays_within}
use Rattle.verdict_meaning.specs.ActionHulls.{worth_hull}
use Rattle.verdict_meaning.specs.Events.{candidate, first_on}
use Rattle.verdict_meaning.specs.Events.{rule_candidate}
use Rattle.verdict_meaning.specs.Premises.{conditions_of}
use Rattle.verdict_meaning.specs.Questions.{all_numbers}
use Rattle.verdict_meaning.specs.Questions.{setting_key}
use Rattle.verdict_meaning.specs.Reaches.{piece_in}
use Rattle.verdict_meaning.specs.Shown.{branch_safe, candidate_safe, is_preceded, is_unlisted}
use Rattle.verdict_meaning.specs.Shown.{KnownPremises, limit_shown, meets_limit}
use Rattle.std.proofs.lemmas.List.Elements.{Contains-append_left, Contains-append_right}
use Rattle.std.proofs.lemmas.List.Concat.{flat_map-append}
use Rattle.std.specs.List.{Contains, flat_map}
use Rattle.rule_types.specs.Reading.{links_acted}
use Rattle.decided_events.proofs.Actions.{first_at}
use Rattle.decided_events.proofs.Lists.{fails_in, none_some, same_of, some_same}

-- ---- a branch that is listed, with a candidate that is not safe
pub record OpenBranch (x : Rules) (tables : TableSet) (cell : Cell) (known : KnownPremises)
    (link : ℕ) (lo hi : Rational) : Type 0 where
  pub number : ℕ
  pub rule : Rule
  pub rule_at : slice_get x.rules number ≡ Some rule
  pub branch : Branch
  pub action : Action
  pub action_is : first_on link (branch_actions rule branch) ≡ Some action
  pub listed : is_unlisted known number branch ≡ false
  pub first : is_preceded x known number link ≡ false
  pub unsafe :
      is_part_of
      (worth_hull x tables cell (conditions_of (slice_get x.rules number)) link action.what) lo hi
      ≡ false

outside_hull : (x : Rules) (tables : TableSet) (cell : Cell) (number link : ℕ) (lo hi : Rational)
    (action : Action) → candidate_safe x tables cell number link lo hi (Some action) ≡ false
    → is_part_of
    (worth_hull x tables cell (conditions_of (slice_get x.rules number)) link action.what) lo hi
    ≡ false
unfolding stays_within
outside_hull x tables cell number link lo hi action h =
    (or_parts
    (is_part_of
    (worth_hull x tables cell (conditions_of (slice_get x.rules number)) link action.what) lo hi)
    (can_keep (rate_of x link) lo
    && keeps_target x cell (conditions_of (slice_get x.rules number)) action.what)
    h).0

open_first : (x : Rules) (tables : TableSet) (cell : Cell) (known : KnownPremises) (link : ℕ)
    (lo hi : Rational) (number : ℕ) (branch : Branch) → is_unlisted known number branch ≡ false
    → is_preceded x known number link ≡ false → (rule : Rule)
    → slice_get x.rules number ≡ Some rule → (o : Option Action)
    → first_on link (branch_actions rule branch) ≡ o
    → candidate_safe x tables cell number link lo hi o ≡ false
    → OpenBranch x tables cell known link lo hi
open_first x tables cell known link lo hi number branch h g rule e None is unsafe =
    absurd (true≢false unsafe)
open_first x tables cell known link lo hi number branch h g rule e (Some action) is unsafe =
    record {
      number = number;
      rule = rule;
      rule_at = e;
      branch = branch;
      action = action;
      action_is = is;
      listed = h;
      first = g;
      unsafe = outside_hull x tables cell number link lo hi action unsafe;
    }

open_rule : (x : Rules) (tables : TableSet) (cell : Cell) (known : KnownPremises) (link : ℕ)
    (lo hi : Rational) (number : ℕ) (branch : Branch) → is_unlisted known number branch ≡ false
    → is_preceded x known number link ≡ false → (o : Option Rule)
    → slice_get x.rules number ≡ o
    → candidate_safe x tables cell number link lo hi (rule_candidate o branch link) ≡ false
    → OpenBranch x tables cell known link lo hi
open_rule x tables cell known link lo hi number branch h g None e unsafe =
    absurd (true≢false unsafe)
open_rule x tables cell known link lo hi number branch h g (Some rule) e unsafe =
    open_first x tables cell known link lo hi number branch h g rule e
    (first_on link (branch_actions rule branch)) refl unsafe

open_branch : (x : Rules) (tables : TableSet) (cell : Cell) (known : KnownPremises) (link : ℕ)
    (lo hi : Rational) (number : ℕ) (branch : Branch)
    → branch_safe x tables cell known link lo hi number branch ≡ false
    → OpenBranch x tables cell known link lo hi
unfolding branch_safe candidate
open_branch x tables cell known link lo hi number branch h =
    let halves =
    or_parts (is_unlisted known number branch || is_preceded x known number link)
    (candidate_safe x tables cell number link lo hi
    (rule_candidate (slice_get x.rules number) branch link)) h in
    let parts =
    or_parts (is_unlisted known number branch) (is_preceded x known number link) halves.0 in
    open_rule x tables cell known link lo hi number branch parts.0 parts.1
    (slice_get x.rules number) refl halves.1

open_either : (x : Rules) (tables : TableSet) (cell : Cell) (known : KnownPremises) (link : ℕ)
    (lo hi : Rational) (number : ℕ)
    → (branch_safe x tables cell known link lo hi number Then ≡ false)
    ⊎ (branch_safe x tables cell known link lo hi number Otherwise ≡ false)
    → OpenBranch x tables cell known link lo hi
open_either x tables cell known link lo hi number (inl h) =
    open_branch x tables cell known link lo hi number Then h
open_either x tables cell known link lo hi number (inr h) =
    open_branch x tables cell known link lo hi number Otherwise h

pub open_limit : (x : Rules) (tables : TableSet) (cell : Cell) (known : KnownPremises) (link : ℕ)
    (lo hi : Rational)
    → list_all
    (λ number.
    branch_safe x tables cell known link lo hi number Then
    && branch_safe x tables cell known link lo hi number Otherwise)
    (all_numbers x) ≡ false
    → OpenBranch x tables cell known link lo hi
open_limit x tables cell known link lo hi h =
    let one =
    fails_in
    (λ number.
    branch_safe x tables cell known link lo hi number Then
    && branch_safe x tables cell known link lo hi number Otherwise)
    (all_numbers x) h in
    open_either x tables cell known link lo hi one.one
    (and_cases (branch_safe x tables cell known link lo hi one.one Then)
    (branch_safe x tables cell known link lo hi one.one Otherwise) one.fails)

-- ---- a rule acts on the link of a limit that is not shown
in_flat : {A : Type 0} (f : A → List ℕ) (xs : List A) (k : ℕ) (one : A) (n : ℕ)
    → slice_get xs k ≡ Some one → Contains (f one) n → Contains (flat_map f xs) n
in_flat f [] k one n e h = absurd (none_some one e)
in_flat f (x ∷ xs) zero one n e h =
    Contains-append_left (f x) (flat_map f xs) n
    (subst (λ other. Contains (f other) n) (sym (some_same x one e)) h)
in_flat f (x ∷ xs) (suc k) one n e h =
    Contains-append_right (f x) (flat_map f xs) n (in_flat f xs k one n e h)

in_branch : (f : Action → List ℕ) (rule : Rule) (branch : Branch) (n : ℕ)
    → Contains (flat_map f (branch_actions rule branch)) n
    → Contains (flat_map f (rule_actions rule)) n
in_branch f rule Then n h =
    subst (λ list. Contains list n) (sym (flat_map-append f rule.then_actions rule.else_actions))
    (Contains-append_left (flat_map f rule.then_actions) (flat_map f rule.else_actions) n h)
in_branch f rule Otherwise n h =
    subst (λ list. Contains list n) (sym (flat_map-append f rule.then_actions rule.else_actions))
    (Contains-append_right (flat_map f rule.then_actions) (flat_map f rule.else_actions) n h)

branch_acted : (x : Rules) (tables : TableSet) (cell : Cell) (known : KnownPremises) (link : ℕ)
    (lo hi : Rational) → OpenBranch x tables cell known link lo hi
    → Contains (links_acted x.rules) link
branch_acted x tables cell known link lo hi one =
    let first = first_at link (branch_actions one.rule one.branch) one.action one.action_is in
    in_flat (λ rule. flat_map (λ action. action.link ∷ []) (rule_actions rule)) x.rules one.number
    one.rule link one.rule_at
    (in_branch (λ action. action.link ∷ []) one.rule one.branch link
    (in_flat (λ action. action.link ∷ []) (branch_actions one.rule one.branch) first.at one.action
    link first.is
    (subst (λ n. Contains (n ∷ []) link) (sym (same_of one.action.link link first.passes))
    (members-first link []))))

pub limit_acted : (x : Rules) (tables : TableSet) (cell : Cell) (known : KnownPremises)
    (link : ℕ) (lo hi : Rational) → limit_shown x tables cell known link lo hi ≡ false
    → Contains (links_acted x.rules) link
unfolding limit_shown
limit_acted x tables cell known link lo hi h =
    branch_acted x tables cell known link lo hi
    (open_limit x tables cell known link lo hi
    (or_parts (not (meets_limit lo hi (piece_in (setting_key link) cell.keys)))
    (list_all
    (λ number.
    branch_safe x tables cell known link lo hi number Then
    && branch_safe x tables cell known link lo hi number Otherwise)
    (all_numbers x))
    h).1)

-- Where premises are decided, the first action on a link of the branch that a rule lists is settled
-- there, if no preceding rule surely acts on the link.
use Rattle.std.proofs.Common.{◌≡◌, ℕ, ◌<◌, Bool, true, false, ◌&&◌, ◌==◌, nat_lt, Option}
use Rattle.std.proofs.Common.{Some, None, List, IsTrue, refl, sym, ap, subst, ◌∙◌, length}
use Rattle.std.proofs.lemmas.Bool.{and_from, or_from, true≢false}
use Rattle.std.proofs.lemmas.Option.{slice_get_within}
use Rattle.std.specs.List.{Contains, slice_get}
use Rattle.rule_types.specs.declared.action.Action.{Action}
use Rattle.rule_types.specs.declared.action.ActionAt.{ActionAt}
use Rattle.rule_types.specs.declared.rule.Rule.{Rule}
use Rattle.rule_types.specs.declared.rules.Rules.{Rules}
use Rattle.rule_types.specs.declared.state.State.{State}
use Rattle.rule_types.specs.Ranks.{precedes}
use Rattle.rule_types.specs.Reading.{branch_action, branch_actions}
use Rattle.rule_meaning.specs.Premise.{listed, listed_branch}
use Rattle.rule_meaning.specs.Settled.{action_at, acts_on, beats, is_on, IsSettled, priority_at}
use Rattle.rule_meaning.specs.SomeRules.{rule_acts_on}
use Rattle.rule_meaning.proofs.PublicLaws.{listing-listed}
use Rattle.verdict_meaning.specs.declared.question.Question.{Question}
use Rattle.verdict_meaning.specs.Events.{first_on, priority_of}
use Rattle.verdict_meaning.specs.Questions.{all_numbers, asked_numbers, is_asked}
use Rattle.verdict_meaning.specs.Shown.{is_preceded, KnownPremises, rule_precedes, surely_acts}
use Rattle.rule_meaning.specs.SomeRules.{HaveRulesOn, is_among}
use Rattle.decided_events.specs.DecidedPremises.{IsDecidedAt}
use Rattle.decided_events.proofs.Actions.{acts, first_at, FirstOn, not_before}
use Rattle.decided_events.proofs.Branches.{surely}
use Rattle.decided_events.proofs.Lists.{any_of, kept, numbered, same_of, some_same}

-- ---- the question's rules are all that act on a link
unfoldable pub AsksAllOn : Rules → Question → ℕ → Type 0
AsksAllOn x question link =
    (number : ℕ) (rule : Rule) → slice_get x.rules number ≡ Some rule
    → rule_acts_on link rule ≡ true → is_asked x question number ≡ true

pub asked_in : (x : Rules) (question : Question) (number : ℕ) → number < length x.rules
    → is_asked x question number ≡ true → is_among (asked_numbers x question) number ≡ true
unfolding asked_numbers
asked_in x question number within h =
    kept (is_asked x question) (all_numbers x) number (numbered number (length x.rules) within) h

pub have_rules : (x : Rules) (question : Question) (link : ℕ) → AsksAllOn x question link
    → HaveRulesOn x.rules link (asked_numbers x question)
unfolding AsksAllOn
have_rules x question link all = record {
  each = λ number rule e h.
      asked_in x question number (slice_get_within x.rules number rule e) (all number rule e h);
}

-- ---- a rule that surely acts does not precede
not_preceding_by : (x : Rules) (known : KnownPremises) (number link other : ℕ)
    → is_preceded x known number link ≡ false → other < length x.rules
    → surely_acts x known other link ≡ true → (b : Bool) → rule_precedes x other number ≡ b
    → b ≡ false
unfolding is_preceded
not_preceding_by x known number link other none within acting true is =
    absurd
    (true≢false
    (sym
    (any_of (λ one. rule_precedes x one number && surely_acts x known one link)
    (all_numbers x) other (numbered other (length x.rules) within)
    (and_from (rule_precedes x other number) (surely_acts x known other link) is acting))
    ∙ none))
not_preceding_by x known number link other none within acting false is = refl

not_preceding : (x : Rules) (known : KnownPremises) (number link other : ℕ)
    → is_preceded x known number link ≡ false → other < length x.rules
    → surely_acts x known other link ≡ true → rule_precedes x other number ≡ false
not_preceding x known number link other none within acting =
    not_preceding_by x known number link other none within acting (rule_precedes x other number)
    refl

-- ---- a listed pair on a link is an action there
record ActionOn (rule : Rule) (link : ℕ) (at : ActionAt) : Type 0 where
  action : Action
  is : slice_get (branch_actions rule at.branch) at.action ≡ Some action
  passes : (action.link == link) ≡ true

action_by : (rule : Rule) (link : ℕ) (at : ActionAt) (o : Option Action)
    → slice_get (branch_actions rule at.branch) at.action ≡ o → acts_on link o ≡ true
    → ActionOn rule link at
action_by rule link at None e h = absurd (true≢false (sym h))
action_by rule link at (Some action) e h = record { action = action; is = e; passes = h }

on_of : (rules : List Rule) (link : ℕ) (at : ActionAt) (rule : Rule)
    → slice_get rules at.rule ≡ Some rule → is_on rules link at ≡ true
    → acts_on link (slice_get (branch_actions rule at.branch) at.action) ≡ true
unfolding is_on action_at
on_of rules link at rule e h = subst (λ o. acts_on link (branch_action at o) ≡ true) e h

action_on : (rules : List Rule) (link : ℕ) (at : ActionAt) (rule : Rule)
    → slice_get rules at.rule ≡ Some rule → is_on rules link at ≡ true → ActionOn rule link at
action_on rules link at rule e h =
    action_by rule link at (slice_get (branch_actions rule at.branch) at.action) refl
    (on_of rules link at rule e h)

on_by : (rules : List Rule) (link : ℕ) (at : ActionAt) (rule : Rule) (action : Action)
    → slice_get rules at.rule ≡ Some rule
    → slice_get (branch_actions rule at.branch) at.action ≡ Some action
    → (action.link == link) ≡ true → IsTrue (is_on rules link at)
unfolding is_on action_at
on_by rules link at rule action e g h = rw e (rw g h)

-- ---- the first action of the listed branch is settled
pub record Takes (x : Rules) (s : State) (link number : ℕ) (rule : Rule) (action : Action) :
    Type 0 where
  pub at : ActionAt
  pub rule_is : at.rule ≡ number
  pub rule_at : slice_get x.rules at.rule ≡ Some rule
  pub action_is : slice_get (branch_actions rule at.branch) at.action ≡ Some action
  pub settled : IsSettled x.rules (listed x s) link at

-- what a pair that is listed on the link has
record Listed (x : Rules) (s : State) (link : ℕ) (q : ActionAt) : Type 0 where
  rule : Rule
  rule_at : slice_get x.rules q.rule ≡ Some rule
  action : Action
  action_is : slice_get (branch_actions rule (listed_branch x s rule)) q.action ≡ Some action
  passes : (action.link == link) ≡ true

listed_there : (x : Rules) (s : State) (link : ℕ) (q : ActionAt) → Contains (listed x s) q
    → IsTrue (is_on x.rules link q) → Listed x s link q
listed_there x s link q member on_link =
    let is_listed = (listing-listed x s q).0 member in
    let there = action_on x.rules link q is_listed.rule is_listed.is on_link in
    record {
      rule = is_listed.rule;
      rule_at = is_listed.is;
      action = there.action;
      action_is =
          subst
          (λ branch.
          slice_get (branch_actions is_listed.rule branch) q.action ≡ Some there.action)
          is_listed.branch there.is;
      passes = there.passes;
    }

-- a pair of the same rule does not stand earlier
same_by : (x : Rules) (s : State) (link number : ℕ) (rule : Rule) (action : Action)
    → slice_get x.rules number ≡ Some rule
    → (first : FirstOn link (branch_actions rule (listed_branch x s rule)) action)
    → (q : ActionAt) → Listed x s link q → (b : Bool) → (q.rule == number) ≡ b
    → (b && nat_lt q.action first.at) ≡ false
same_by x s link number rule action e first q h true is =
    let one_rule : h.rule ≡ rule =
    some_same h.rule rule
    (sym h.rule_at ∙ (ap (slice_get x.rules) (same_of q.rule number is) ∙ e)) in
    not_before link (branch_actions rule (listed_branch x s rule)) action first q.action h.action
    (subst
    (λ one. slice_get (branch_actions one (listed_branch x s one)) q.action ≡ Some h.action)
    one_rule h.action_is)
    h.passes
same_by x s link number rule action e first q h false is = refl

unbeaten_by : (x : Rules) (q at : ActionAt) → rule_precedes x q.rule at.rule ≡ false
    → (q.rule == at.rule && nat_lt q.action at.action) ≡ false → beats x.rules q at ≡ false
unfolding beats priority_at rule_precedes
unbeaten_by x q at h g =
    or_from (precedes (priority_of x.rules q.rule) q.rule (priority_of x.rules at.rule) at.rule)
    (q.rule == at.rule && nat_lt q.action at.action) h g

unbeaten : (x : Rules) (question : Question) (s : State) (known : KnownPremises)
    → IsDecidedAt x question s known → (number link : ℕ) (rule : Rule) (action : Action)
    → slice_get x.rules number ≡ Some rule
    → (first : FirstOn link (branch_actions rule (listed_branch x s rule)) action)
    → AsksAllOn x question link → is_preceded x known number link ≡ false
    → (q : ActionAt) → Listed x s link q
    → beats x.rules q
    (record { rule = number; branch = listed_branch x s rule; action = first.at }) ≡ false
unfolding AsksAllOn
unbeaten x question s known d number link rule action e first all none q h =
    unbeaten_by x q
    (record { rule = number; branch = listed_branch x s rule; action = first.at })
    (not_preceding x known number link q.rule none
    (slice_get_within x.rules q.rule h.rule h.rule_at)
    (surely x question s known d q.rule h.rule h.rule_at
    (all q.rule h.rule h.rule_at
    (acts link h.rule (listed_branch x s h.rule) q.action h.action h.action_is h.passes))
    link q.action h.action h.action_is h.passes))
    (same_by x s link number rule action e first q h (q.rule == number) refl)

pub takes : (x : Rules) (question : Question) (s : State) (known : KnownPremises)
    → IsDecidedAt x question s known → (number link : ℕ) (rule : Rule) (action : Action)
    → slice_get x.rules number ≡ Some rule
    → first_on link (branch_actions rule (listed_branch x s rule)) ≡ Some action
    → AsksAllOn x question link → is_preceded x known number link ≡ false
    → Takes x s link number rule action
takes x question s known d number link rule action e g all none =
    let first = first_at link (branch_actions rule (listed_branch x s rule)) action g in
    let at : ActionAt =
    record { rule = number; branch = listed_branch x s rule; action = first.at } in
    record {
      at = at;
      rule_is = refl;
      rule_at = e;
      action_is = first.is;
      settled = record {
        member =
            (listing-listed x s at).1
            (record {
              rule = rule;
              is = e;
              branch = refl;
              action =
                  slice_get_within (branch_actions rule (listed_branch x s rule)) first.at action
                  first.is;
            });
        on_link = on_by x.rules link at rule action e first.is first.passes;
        unbeaten = λ q member on_link.
            unbeaten x question s known d number link rule action e first all none q
            (listed_there x s link q member on_link);
      };
    }

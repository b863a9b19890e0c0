-- Which of the listed pairs are settled.
use Rattle.std.specs.Prelude.{◌≡◌, ℕ, Bool, false, not, ◌&&◌, ◌||◌, ◌==◌, nat_lt, Option, Some}
use Rattle.std.specs.Prelude.{None}
use Rattle.std.specs.Prelude.{IsTrue, List, [], ◌∷◌, slice_get, Contains}
use Rattle.std.specs.List.{list_all, find, flat_map}
use Rattle.exact_fraction.specs.Number.{Rational}
use Rattle.rule_types.specs.declared.action.Action.{Action}
use Rattle.rule_types.specs.declared.action.ActionAt.{ActionAt}
use Rattle.rule_types.specs.declared.rule.Rule.{Rule}
use Rattle.rule_types.specs.Ranks.{precedes}
pub use Rattle.rule_types.specs.Reading.{branch_action}
unfoldable pub use Rattle.rule_types.specs.Reading.{action_at}

-- whether a pair is on a link: its action acts there
abbrev pub acts_on : ℕ → Option Action → Bool
acts_on link None = false
acts_on link (Some action) = action.link == link

unfoldable pub is_on : List Rule → ℕ → ActionAt → Bool
is_on rules link at = acts_on link (action_at rules at)

-- the priority of a pair's rule (SWMM 5.2 manual, [CONTROLS], PRIORITY)
abbrev pub rule_priority : Option Rule → Option Rational
rule_priority None = None
rule_priority (Some rule) = rule.priority

unfoldable pub priority_at : List Rule → ActionAt → Option Rational
priority_at rules at = rule_priority (slice_get rules at.rule)

-- whether a pair goes before another: its rule precedes the other's, or it stands earlier in the
-- same rule
unfoldable pub beats : List Rule → ActionAt → ActionAt → Bool
beats rules p q =
    precedes (priority_at rules p) p.rule (priority_at rules q) q.rule
    || (p.rule == q.rule && nat_lt p.action q.action)

-- A listed pair is settled for a link where it is on it and no listed pair on that link goes before
-- it (SWMM 5.2 manual, [CONTROLS], PRIORITY).
pub record IsSettled (rules : List Rule) (pairs : List ActionAt) (link : ℕ) (p : ActionAt) :
    Type 0 where
  pub member : Contains pairs p
  pub on_link : IsTrue (is_on rules link p)
  pub unbeaten : (q : ActionAt) → Contains pairs q → IsTrue (is_on rules link q)
      → beats rules q p ≡ false

-- the same as a test
unfoldable pub is_unbeaten : List Rule → List ActionAt → ℕ → ActionAt → Bool
is_unbeaten rules pairs link p = list_all (λ q. not (is_on rules link q && beats rules q p)) pairs

unfoldable pub is_settled : List Rule → List ActionAt → ℕ → ActionAt → Bool
is_settled rules pairs link p = is_on rules link p && is_unbeaten rules pairs link p

-- the pair that is settled for a link, if there is one
unfoldable pub settled_on : List Rule → List ActionAt → ℕ → Option ActionAt
settled_on rules pairs link = find (is_settled rules pairs link) pairs

-- the settled pairs, in the order of the links
abbrev pub as_list : {A : Type 0} → Option A → List A
as_list None = []
as_list (Some thing) = thing ∷ []

unfoldable pub settled : List Rule → List ℕ → List ActionAt → List ActionAt
settled rules links pairs = flat_map (λ link. as_list (settled_on rules pairs link)) links

-- each rule lists one of its branches
pub record IsOneBranchEach (pairs : List ActionAt) : Type 0 where
  pub branch : (p q : ActionAt) → Contains pairs p → Contains pairs q → p.rule ≡ q.rule
      → p.branch ≡ q.branch

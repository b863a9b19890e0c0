-- What a box tells of the premises of a question's rules is so at each of its states at which no
-- name of these rules stops.
use Rattle.std.proofs.Common.{◌≡◌, ℕ, zero, suc, ◌+◌, Bool, true, false, not, ◌&&◌, ◌||◌, ◌==◌}
use Rattle.std.proofs.Common.{Option, Some, None, List, [], ◌∷◌, ◌⊎◌, inl, inr, Ok, Err, refl, sym}
use Rattle.std.proofs.Common.{subst, ap, ◌∙◌, arith, length}
use Rattle.std.specs.Prelude.{IsTrue, if◌then◌else◌, slice_get, filter_map, nat_lt}
use Rattle.std.specs.List.{All, AllByRecursion, cons_option, list_all, list_any}
use Rattle.std.proofs.lemmas.Bool.{and_from, and_parts, true≢false}
use Rattle.std.proofs.lemmas.Bool.Decides.{nat_tests}
use Rattle.std.proofs.lemmas.List.Elements.{All-from_recursion}
use Rattle.std.proofs.lemmas.Option.{slice_get_within}
use Rattle.rule_types.specs.declared.action.Branch.{Branch}
use Rattle.rule_types.specs.declared.action.Branch.TheVariants.{Then, Otherwise}
use Rattle.rule_types.specs.declared.condition.Condition.{Condition}
use Rattle.rule_types.specs.declared.condition.Side.{Side}
use Rattle.rule_types.specs.declared.condition.Side.TheVariants as side
use Rattle.rule_types.specs.declared.names.NameDef.{NameDef}
use Rattle.rule_types.specs.declared.rule.Rule.{Rule}
use Rattle.rule_types.specs.declared.rules.Rules.{Rules}
use Rattle.rule_types.specs.declared.state.State.{State}
use Rattle.rule_types.specs.declared.stop.Stop.{Stop}
use Rattle.rule_meaning.specs.Condition.{holds}
use Rattle.rule_meaning.specs.Formula.{Derived, is_used, kind_value, names_stop_for, stop_from}
use Rattle.rule_meaning.specs.Formula.{stop_or}
use Rattle.rule_meaning.specs.Premise.{groups, premise_by, premise_holds}
use Rattle.rule_meaning.specs.SomeRules.{rules_at}
use Rattle.rule_meaning.proofs.PublicLaws.{some_rules-used}
use Rattle.verdict_meaning.specs.declared.cell.Cell.{Cell}
use Rattle.verdict_meaning.specs.declared.question.Question.{Question}
use Rattle.verdict_meaning.specs.declared.truth.Truth.{Truth}
use Rattle.verdict_meaning.specs.declared.truth.Truth.TheVariants.{Yes, No, Open}
use Rattle.verdict_meaning.specs.Boxes.{IsStateIn}
use Rattle.verdict_meaning.specs.Certificates.{facts_fit, facts_hold, is_before_facts, is_fact}
use Rattle.verdict_meaning.specs.Events.{branch_at, branch_listed}
use Rattle.verdict_meaning.specs.Premises.{all_truth, conditions_of, premise_truth_by, rule_truth}
use Rattle.verdict_meaning.specs.Premises.{start_of, Tells}
use Rattle.verdict_meaning.specs.Questions.{asked_numbers, asked_rules, is_asked}
use Rattle.verdict_meaning.specs.Shown.{is_no, is_yes, IsKnownAt, IsMoreKnown, known_by, known_in}
use Rattle.verdict_meaning.specs.Truths.{condition_truth}
use Rattle.verdict_meaning.proofs.ConditionTruths.{condition_known, IsNumberOrNone, NamedGoesOn}
use Rattle.verdict_meaning.proofs.ConditionTruths.{SideGoesOn}
use Rattle.verdict_meaning.proofs.Excludes.{asked_in}
use Rattle.verdict_meaning.proofs.Kleene.{premise_tells}
use Rattle.verdict_meaning.proofs.Tests.{or_cases}

-- ---- the names of the rules do not stop
record GoesOn (d : Derived) (b : Bool) (later : Option Stop) : Type 0 where
  pub now : b ≡ true → IsNumberOrNone d
  pub later_is : later ≡ None

stop_by : (at : ℕ) (b : Bool) (d : Derived) (later : Option Stop)
    → (if b then stop_or at d later else later) ≡ None → GoesOn d b later
stop_by at true (Ok found) later e = record { now = λ h. tt; later_is = e }
stop_by at true (Err why) later e = absurd (grind arith)
stop_by at false d later e =
    record { now = λ h. absurd (true≢false (sym h)); later_is = e }

no_stop : (x : Rules) (asks : ℕ → Bool) (s : State) (at : ℕ) (names : List NameDef) (k : ℕ)
    (named : NameDef) → stop_from x asks s at names ≡ None → slice_get names k ≡ Some named
    → asks (at + k) ≡ true → IsNumberOrNone (kind_value x s named.stands_for)
unfolding stop_from
no_stop x asks s at [] k named h e a = absurd (grind arith)
no_stop x asks s at (first ∷ more) zero named h e a =
    let is : first ≡ named = grind arith in
    let same : at + 0 ≡ at = omega arith in
    subst (λ one. IsNumberOrNone (kind_value x s one.stands_for)) is
    ((stop_by at (asks at) (kind_value x s first.stands_for) (stop_from x asks s (suc at) more)
    h).now (subst (λ n. asks n ≡ true) same a))
no_stop x asks s at (first ∷ more) (suc k) named h e a =
    let same : at + suc k ≡ suc at + k = omega arith in
    no_stop x asks s (suc at) more k named
    (stop_by at (asks at) (kind_value x s first.stands_for) (stop_from x asks s (suc at) more)
    h).later_is e (subst (λ n. asks n ≡ true) same a)

named_goes_on : (x : Rules) (s : State) (rules : List Rule) → names_stop_for x rules s ≡ None
    → (name : ℕ) → is_used x rules name ≡ true → (o : Option NameDef)
    → slice_get x.names name ≡ o → NamedGoesOn x s o
unfolding names_stop_for
named_goes_on x s rules h name used None e = tt
named_goes_on x s rules h name used (Some named) e =
    let same : name ≡ 0 + name = omega arith in
    no_stop x (is_used x rules) s 0 x.names name named h e
    (subst (λ n. is_used x rules n ≡ true) same used)

side_goes_on : (x : Rules) (s : State) (rules : List Rule) → names_stop_for x rules s ≡ None
    → (k j : ℕ) (rule : Rule) (c : Condition) → slice_get rules k ≡ Some rule
    → slice_get rule.conditions j ≡ Some c → (left : Side) → c.left ≡ left → SideGoesOn x s left
side_goes_on x s rules h k j rule c e g (side.Key key) is = tt
side_goes_on x s rules h k j rule c e g (side.Expr name) is =
    named_goes_on x s rules h name (some_rules-used x rules k j name rule c e g is)
    (slice_get x.names name) refl

pub condition_goes_on : (x : Rules) (s : State) (rules : List Rule)
    → names_stop_for x rules s ≡ None → (k j : ℕ) (rule : Rule) (c : Condition)
    → slice_get rules k ≡ Some rule → slice_get rule.conditions j ≡ Some c
    → SideGoesOn x s c.left
condition_goes_on x s rules h k j rule c e g =
    side_goes_on x s rules h k j rule c e g c.left refl

-- ---- the question's rules are listed
pub record PlacedRule (rules : List Rule) (rule : Rule) : Type 0 where
  pub place : ℕ
  pub is : slice_get rules place ≡ Some rule

placed_first : (o : Option Rule) (more : List Rule) (rule : Rule) → o ≡ Some rule
    → PlacedRule (cons_option o more) rule
placed_first None more rule e = absurd (grind arith)
placed_first (Some one) more rule e = record { place = 0; is = e }

placed_later : (o : Option Rule) (more : List Rule) (rule : Rule) → PlacedRule more rule
    → PlacedRule (cons_option o more) rule
placed_later None more rule h = h
placed_later (Some one) more rule h = record { place = suc h.place; is = h.is }

placed_by : (rules : List Rule) (n : ℕ) (numbers : List ℕ) (number : ℕ) (rule : Rule)
    → slice_get rules number ≡ Some rule
    → ((number == n) ≡ true) ⊎ (list_any (λ other. number == other) numbers ≡ true)
    → (list_any (λ other. number == other) numbers ≡ true
    → PlacedRule (filter_map (slice_get rules) numbers) rule)
    → PlacedRule (filter_map (slice_get rules) (n ∷ numbers)) rule
placed_by rules n numbers number rule e (inl same) later =
    let is : number ≡ n = grind (arith, nat_tests) in
    placed_first (slice_get rules n) (filter_map (slice_get rules) numbers) rule
    (subst (λ one. slice_get rules one ≡ Some rule) is e)
placed_by rules n numbers number rule e (inr h) later =
    placed_later (slice_get rules n) (filter_map (slice_get rules) numbers) rule (later h)

placed : (rules : List Rule) (numbers : List ℕ) (number : ℕ) (rule : Rule)
    → slice_get rules number ≡ Some rule
    → list_any (λ other. number == other) numbers ≡ true
    → PlacedRule (filter_map (slice_get rules) numbers) rule
placed rules [] number rule e h = absurd (true≢false (sym h))
placed rules (n ∷ numbers) number rule e h =
    placed_by rules n numbers number rule e
    (or_cases (number == n) (list_any (λ other. number == other) numbers) h)
    (placed rules numbers number rule e)

pub asked_place : (x : Rules) (question : Question) (number : ℕ) (rule : Rule)
    → slice_get x.rules number ≡ Some rule → is_asked x question number ≡ true
    → PlacedRule (asked_rules x question) rule
asked_place x question number rule e h =
    placed x.rules (asked_numbers x question) number rule e
    (asked_in x question number (slice_get_within x.rules number rule e) h)

-- ---- premises
each_in : {A : Type 0} (P : A → Type 0) (xs : List A)
    → ((j : ℕ) (y : A) → slice_get xs j ≡ Some y → P y) → AllByRecursion P xs
each_in P [] h = tt
each_in P (y ∷ ys) h = (h 0 y refl, each_in P ys (λ j one e. h (suc j) one e))

conditions_known : (x : Rules) (s : State) (cell : Cell) → IsStateIn x cell s
    → (rules : List Rule) → names_stop_for x rules s ≡ None → (rule : Rule)
    → PlacedRule rules rule
    → All
    (λ c. Tells (condition_truth x.names (start_of x) x.routing_step cell c) (holds x s c))
    rule.conditions
conditions_known x s cell h rules go rule at =
    All-from_recursion
    (λ c. Tells (condition_truth x.names (start_of x) x.routing_step cell c) (holds x s c))
    rule.conditions
    (each_in
    (λ c. Tells (condition_truth x.names (start_of x) x.routing_step cell c) (holds x s c))
    rule.conditions
    (λ j c e.
    condition_known x s cell h c
    (condition_goes_on x s rules go at.place j rule c at.is e)))

pub premise_known : (x : Rules) (s : State) (cell : Cell) → IsStateIn x cell s
    → (rules : List Rule) → names_stop_for x rules s ≡ None → (number : ℕ) (rule : Rule)
    → slice_get x.rules number ≡ Some rule → PlacedRule rules rule
    → Tells (rule_truth x cell number) (premise_holds x s rule)
unfolding rule_truth
premise_known x s cell h rules go number rule e at =
    subst
    (λ o.
    Tells
    (premise_truth_by (condition_truth x.names (start_of x) x.routing_step cell)
    (conditions_of o))
    (premise_holds x s rule))
    (sym e)
    (premise_tells (condition_truth x.names (start_of x) x.routing_step cell) (holds x s)
    rule.conditions (conditions_known x s cell h rules go rule at))

-- ---- branches
yes_tells : (t : Truth) (b : Bool) → Tells t b → is_yes t ≡ true
    → (if b then Then else Otherwise) ≡ Then
yes_tells Yes b h e = rw h refl
yes_tells No b h e = absurd (true≢false (sym e))
yes_tells Open b h e = absurd (true≢false (sym e))

no_tells : (t : Truth) (b : Bool) → Tells t b → is_no t ≡ true
    → (if b then Then else Otherwise) ≡ Otherwise
no_tells Yes b h e = absurd (true≢false (sym e))
no_tells No b h e = rw h refl
no_tells Open b h e = absurd (true≢false (sym e))

no_rule : (x : Rules) (cell : Cell) (number : ℕ) → slice_get x.rules number ≡ None
    → is_no (rule_truth x cell number) ≡ true → ⊥
unfolding rule_truth premise_truth_by groups all_truth
no_rule x cell number e h =
    true≢false
    (sym
    (subst
    (λ o.
    is_no
    (premise_truth_by (condition_truth x.names (start_of x) x.routing_step cell)
    (conditions_of o)) ≡ true)
    e h))

then_by : (x : Rules) (s : State) (cell : Cell) → IsStateIn x cell s → (question : Question)
    → names_stop_for x (asked_rules x question) s ≡ None → (number : ℕ) (o : Option Rule)
    → slice_get x.rules number ≡ o → is_asked x question number ≡ true
    → is_yes (rule_truth x cell number) ≡ true → branch_listed x s o ≡ Then
then_by x s cell h question go number None e asked yes_is = refl
then_by x s cell h question go number (Some rule) e asked yes_is =
    yes_tells (rule_truth x cell number) (premise_holds x s rule)
    (premise_known x s cell h (asked_rules x question) go number rule e
    (asked_place x question number rule e asked))
    yes_is

else_by : (x : Rules) (s : State) (cell : Cell) → IsStateIn x cell s → (question : Question)
    → names_stop_for x (asked_rules x question) s ≡ None → (number : ℕ) (o : Option Rule)
    → slice_get x.rules number ≡ o → is_asked x question number ≡ true
    → is_no (rule_truth x cell number) ≡ true → branch_listed x s o ≡ Otherwise
else_by x s cell h question go number None e asked no_is =
    absurd (no_rule x cell number e no_is)
else_by x s cell h question go number (Some rule) e asked no_is =
    no_tells (rule_truth x cell number) (premise_holds x s rule)
    (premise_known x s cell h (asked_rules x question) go number rule e
    (asked_place x question number rule e asked))
    no_is

pub known_at : (x : Rules) (s : State) (cell : Cell) (question : Question) → IsStateIn x cell s
    → names_stop_for x (asked_rules x question) s ≡ None
    → IsKnownAt x s (known_in x question cell)
unfolding known_in
known_at x s cell question h go = record {
  holds = λ number both.
      let parts = and_parts (is_asked x question number) (is_yes (rule_truth x cell number)) both in
      then_by x s cell h question go number (slice_get x.rules number) refl parts.0 parts.1;
  fails = λ number both.
      let parts = and_parts (is_asked x question number) (is_no (rule_truth x cell number)) both in
      else_by x s cell h question go number (slice_get x.rules number) refl parts.0 parts.1;
}

-- ---- facts
same_number : (m n : ℕ) → (m == n) ≡ true → m ≡ n
same_number m n h = grind (arith, nat_tests)

record FactParts (x : Rules) (question : Question) (cell : Cell) (fact : ℕ × Bool)
    (more : List (ℕ × Bool)) : Type 0 where
  pub asked : is_asked x question fact.0 ≡ true
  pub is : is_fact fact.1 (rule_truth x cell fact.0) ≡ true
  pub later_fit : facts_fit x question more ≡ true
  pub later_hold : facts_hold x cell more ≡ true

fact_parts : (x : Rules) (question : Question) (cell : Cell) (fact : ℕ × Bool)
    (more : List (ℕ × Bool)) → facts_fit x question (fact ∷ more) ≡ true
    → facts_hold x cell (fact ∷ more) ≡ true → FactParts x question cell fact more
unfolding facts_fit facts_hold
fact_parts x question cell fact more h g =
    let first = nat_lt fact.0 (length x.rules) && is_asked x question fact.0 in
    let outer =
    and_parts (first && is_before_facts fact.0 more) (facts_fit x question more) h in
    let inner = and_parts first (is_before_facts fact.0 more) outer.0 in
    let both = and_parts (nat_lt fact.0 (length x.rules)) (is_asked x question fact.0) inner.0 in
    let hold =
    and_parts (is_fact fact.1 (rule_truth x cell fact.0))
    (list_all (λ one. is_fact one.1 (rule_truth x cell one.0)) more) g in
    record { asked = both.1; is = hold.0; later_fit = outer.1; later_hold = hold.1 }

holds_by : (x : Rules) (question : Question) (cell : Cell) (number : ℕ) (fact : ℕ × Bool)
    (more : List (ℕ × Bool)) → FactParts x question cell fact more
    → ((fact.0 == number && fact.1) ≡ true)
    ⊎ (list_any (λ one. one.0 == number && one.1) more ≡ true)
    → (list_any (λ one. one.0 == number && one.1) more ≡ true
    → (is_asked x question number && is_yes (rule_truth x cell number)) ≡ true)
    → (is_asked x question number && is_yes (rule_truth x cell number)) ≡ true
holds_by x question cell number fact more k (inl h) later =
    let parts = and_parts (fact.0 == number) fact.1 h in
    subst (λ n. (is_asked x question n && is_yes (rule_truth x cell n)) ≡ true)
    (same_number fact.0 number parts.0)
    (and_from (is_asked x question fact.0) (is_yes (rule_truth x cell fact.0)) k.asked
    (subst (λ b. is_fact b (rule_truth x cell fact.0) ≡ true) parts.1 k.is))
holds_by x question cell number fact more k (inr h) later = later h

facts_tell_yes : (x : Rules) (question : Question) (cell : Cell) (number : ℕ)
    (facts : List (ℕ × Bool)) → facts_fit x question facts ≡ true
    → facts_hold x cell facts ≡ true
    → list_any (λ one. one.0 == number && one.1) facts ≡ true
    → (is_asked x question number && is_yes (rule_truth x cell number)) ≡ true
facts_tell_yes x question cell number [] h g any = absurd (true≢false (sym any))
facts_tell_yes x question cell number (fact ∷ more) h g any =
    let k = fact_parts x question cell fact more h g in
    holds_by x question cell number fact more k
    (or_cases (fact.0 == number && fact.1) (list_any (λ one. one.0 == number && one.1) more) any)
    (facts_tell_yes x question cell number more k.later_fit k.later_hold)

not_true : (b : Bool) → not b ≡ true → b ≡ false
not_true true h = sym h
not_true false h = refl

fails_by : (x : Rules) (question : Question) (cell : Cell) (number : ℕ) (fact : ℕ × Bool)
    (more : List (ℕ × Bool)) → FactParts x question cell fact more
    → ((fact.0 == number && not fact.1) ≡ true)
    ⊎ (list_any (λ one. one.0 == number && not one.1) more ≡ true)
    → (list_any (λ one. one.0 == number && not one.1) more ≡ true
    → (is_asked x question number && is_no (rule_truth x cell number)) ≡ true)
    → (is_asked x question number && is_no (rule_truth x cell number)) ≡ true
fails_by x question cell number fact more k (inl h) later =
    let parts = and_parts (fact.0 == number) (not fact.1) h in
    subst (λ n. (is_asked x question n && is_no (rule_truth x cell n)) ≡ true)
    (same_number fact.0 number parts.0)
    (and_from (is_asked x question fact.0) (is_no (rule_truth x cell fact.0)) k.asked
    (subst (λ b. is_fact b (rule_truth x cell fact.0) ≡ true) (not_true fact.1 parts.1) k.is))
fails_by x question cell number fact more k (inr h) later = later h

facts_tell_no : (x : Rules) (question : Question) (cell : Cell) (number : ℕ)
    (facts : List (ℕ × Bool)) → facts_fit x question facts ≡ true
    → facts_hold x cell facts ≡ true
    → list_any (λ one. one.0 == number && not one.1) facts ≡ true
    → (is_asked x question number && is_no (rule_truth x cell number)) ≡ true
facts_tell_no x question cell number [] h g any = absurd (true≢false (sym any))
facts_tell_no x question cell number (fact ∷ more) h g any =
    let k = fact_parts x question cell fact more h g in
    fails_by x question cell number fact more k
    (or_cases (fact.0 == number && not fact.1)
    (list_any (λ one. one.0 == number && not one.1) more) any)
    (facts_tell_no x question cell number more k.later_fit k.later_hold)

-- facts that fit the question and hold in the box tell no more than the box
pub facts_known : (x : Rules) (question : Question) (cell : Cell) (facts : List (ℕ × Bool))
    → facts_fit x question facts ≡ true → facts_hold x cell facts ≡ true
    → IsMoreKnown (known_by facts) (known_in x question cell)
unfolding known_by known_in
facts_known x question cell facts h g = record {
  holds = λ number any. facts_tell_yes x question cell number facts h g any;
  fails = λ number any. facts_tell_no x question cell number facts h g any;
}

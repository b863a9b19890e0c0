-- The names that a plain question's rules use are variables, and no variable stops.
use Rattle.std.proofs.Common.{◌≡◌, ℕ, suc, ◌+◌, Bool, true, false, ◌==◌}
use Rattle.std.proofs.Common.{Option, Some, None, List, [], ◌∷◌, ◌++◌, ◌⊎◌, inl, inr}
use Rattle.std.proofs.Common.{refl, sym, ap, subst, ◌∙◌, arith}
use Rattle.std.specs.Prelude.{if◌then◌else◌, slice_get}
use Rattle.std.specs.List.{flat_map, list_all, list_any}
use Rattle.std.proofs.lemmas.Bool.{and_parts, or_cases, true≢false}
use Rattle.rule_types.specs.declared.condition.Condition.{Condition}
use Rattle.rule_types.specs.declared.condition.Right.{Right}
use Rattle.rule_types.specs.declared.condition.Side.{Side}
use Rattle.rule_types.specs.declared.condition.Side.TheVariants as side
use Rattle.rule_types.specs.declared.names.NameDef.{NameDef}
use Rattle.rule_types.specs.declared.names.NameKind.{NameKind}
use Rattle.rule_types.specs.declared.names.NameKind.TheVariants.{Variable, Formula}
use Rattle.rule_types.specs.declared.rule.Rule.{Rule}
use Rattle.rule_types.specs.declared.rules.Rules.{Rules}
use Rattle.rule_types.specs.declared.state.State.{State}
use Rattle.rule_types.specs.declared.stop.Stop.{Stop}
use Rattle.rule_types.specs.Reading.{at_name, is_variable, is_variable_kind, kind_names}
use Rattle.rule_types.specs.Reading.{rule_names, side_names, used_names}
use Rattle.rule_meaning.specs.Formula.{is_used, kind_value, names_stop_for, stop_from, stop_or}
use Rattle.moment_pieces.specs.Sides.{kind_side, named_side, side_of}
use Rattle.verdict_meaning.specs.declared.question.Question.{Question}
use Rattle.verdict_meaning.specs.Questions.{asked_rules}
use Rattle.verdict_meaning.specs.Verdicts.{compares_key, has_plain_actions, is_plain_question}
use Rattle.decided_events.proofs.Lists.{same_of}

-- ---- lists of names of which each is a variable
abbrev AllVariables : List NameDef → List ℕ → Type 0
AllVariables names [] = Unit {0}
AllVariables names (name ∷ more) =
    (is_variable (slice_get names name) ≡ true) × AllVariables names more

joined : (names : List NameDef) (xs ys : List ℕ) → AllVariables names xs
    → AllVariables names ys → AllVariables names (xs ++ ys)
joined names [] ys h g = g
joined names (x ∷ xs) ys h g = (h.0, joined names xs ys h.1 g)

-- ---- the names on the sides of plain conditions
variable_kind : (name : ℕ) (kind : NameKind) (r : Right)
    → compares_key (kind_side name kind) r ≡ true → is_variable_kind kind ≡ true
variable_kind name (Variable key) r h = refl
variable_kind name (Formula formula) r h = absurd (true≢false (sym h))

variable_named : (name : ℕ) (o : Option NameDef) (r : Right)
    → compares_key (named_side name o) r ≡ true → is_variable o ≡ true
variable_named name None r h = absurd (true≢false (sym h))
variable_named name (Some named) r h = variable_kind name named.stands_for r h

side_variables : (names : List NameDef) (left : Side) (r : Right)
    → compares_key (side_of names left) r ≡ true → AllVariables names (side_names left)
unfolding side_of
side_variables names (side.Key key) r h = tt
side_variables names (side.Expr name) r h =
    (variable_named name (slice_get names name) r h, tt)

condition_variables : (names : List NameDef) (conditions : List Condition)
    → list_all (λ c. compares_key (side_of names c.left) c.right) conditions ≡ true
    → AllVariables names (flat_map (λ c. side_names c.left) conditions)
condition_variables names [] h = tt
condition_variables names (c ∷ more) h =
    let parts =
    and_parts (compares_key (side_of names c.left) c.right)
    (list_all (λ one. compares_key (side_of names one.left) one.right) more) h in
    joined names (side_names c.left) (flat_map (λ one. side_names one.left) more)
    (side_variables names c.left c.right parts.0) (condition_variables names more parts.1)

rule_variables : (names : List NameDef) (rules : List Rule)
    → list_all
    (λ rule. list_all (λ c. compares_key (side_of names c.left) c.right) rule.conditions) rules
    ≡ true
    → AllVariables names (flat_map rule_names rules)
rule_variables names [] h = tt
rule_variables names (rule ∷ more) h =
    let parts =
    and_parts (list_all (λ c. compares_key (side_of names c.left) c.right) rule.conditions)
    (list_all
    (λ one. list_all (λ c. compares_key (side_of names c.left) c.right) one.conditions) more) h in
    joined names (rule_names rule) (flat_map rule_names more)
    (condition_variables names rule.conditions parts.0) (rule_variables names more parts.1)

-- ---- variables name no further ones
no_names_kind : (kind : NameKind) → is_variable_kind kind ≡ true → kind_names kind ≡ []
no_names_kind (Variable key) h = refl
no_names_kind (Formula formula) h = absurd (true≢false (sym h))

no_names : (o : Option NameDef) → is_variable o ≡ true → at_name kind_names o ≡ []
no_names None h = refl
no_names (Some named) h = no_names_kind named.stands_for h

no_further : (names : List NameDef) (xs : List ℕ) → AllVariables names xs
    → flat_map (λ name. at_name kind_names (slice_get names name)) xs ≡ []
no_further names [] h = refl
no_further names (x ∷ xs) h =
    ap (λ front. front ++ flat_map (λ name. at_name kind_names (slice_get names name)) xs)
    (no_names (slice_get names x) h.0)
    ∙ no_further names xs h.1

used_variables : (names : List NameDef) (rules : List Rule)
    → list_all
    (λ rule. list_all (λ c. compares_key (side_of names c.left) c.right) rule.conditions) rules
    ≡ true
    → AllVariables names (used_names names rules)
used_variables names rules h =
    let sides = rule_variables names rules h in
    joined names (flat_map rule_names rules)
    (flat_map (λ name. at_name kind_names (slice_get names name)) (flat_map rule_names rules))
    sides
    (subst (AllVariables names) (sym (no_further names (flat_map rule_names rules) sides)) tt)

-- ---- no variable stops
among_by : (names : List NameDef) (x : ℕ) (xs : List ℕ) (name : ℕ)
    → AllVariables names (x ∷ xs)
    → (AllVariables names xs → list_any (λ other. name == other) xs ≡ true
    → is_variable (slice_get names name) ≡ true)
    → ((name == x) ≡ true) ⊎ (list_any (λ other. name == other) xs ≡ true)
    → is_variable (slice_get names name) ≡ true
among_by names x xs name h later (inl is) =
    ap (λ n. is_variable (slice_get names n)) (same_of name x is) ∙ h.0
among_by names x xs name h later (inr among) = later h.1 among

among : (names : List NameDef) (xs : List ℕ) (name : ℕ) → AllVariables names xs
    → list_any (λ other. name == other) xs ≡ true → is_variable (slice_get names name) ≡ true
among names [] name h e = absurd (true≢false (sym e))
among names (x ∷ xs) name h e =
    among_by names x xs name h (among names xs name)
    (or_cases (name == x) (list_any (λ other. name == other) xs) e)

goes_on : (x : Rules) (s : State) (at : ℕ) (kind : NameKind) (later : Option Stop)
    → is_variable_kind kind ≡ true → stop_or at (kind_value x s kind) later ≡ later
unfolding kind_value
goes_on x s at (Variable key) later h = refl
goes_on x s at (Formula formula) later h = absurd (true≢false (sym h))

stop_by : (x : Rules) (s : State) (at : ℕ) (kind : NameKind) (later : Option Stop) (b : Bool)
    → (b ≡ true → is_variable_kind kind ≡ true) → later ≡ None
    → (if b then stop_or at (kind_value x s kind) later else later) ≡ None
stop_by x s at kind later true h e = goes_on x s at kind later (h refl) ∙ e
stop_by x s at kind later false h e = e

none_stops : (x : Rules) (asks : ℕ → Bool) (s : State) (at : ℕ) (names : List NameDef)
    → ((k : ℕ) (named : NameDef) → slice_get names k ≡ Some named → asks (at + k) ≡ true
    → is_variable_kind named.stands_for ≡ true)
    → stop_from x asks s at names ≡ None
unfolding stop_from
none_stops x asks s at [] h = refl
none_stops x asks s at (named ∷ names) h =
    let here : at ≡ at + 0 = omega arith in
    stop_by x s at named.stands_for (stop_from x asks s (suc at) names) (asks at)
    (λ asked. h 0 named refl (subst (λ n. asks n ≡ true) here asked))
    (none_stops x asks s (suc at) names
    (λ k other e asked.
    let same : suc at + k ≡ at + suc k = omega arith in
    h (suc k) other e (subst (λ n. asks n ≡ true) same asked)))

pub plain_names : (x : Rules) (s : State) (question : Question)
    → is_plain_question x question ≡ true
    → names_stop_for x (asked_rules x question) s ≡ None
unfolding is_plain_question names_stop_for is_used
plain_names x s question h =
    let rules = asked_rules x question in
    let variables =
    used_variables x.names rules
    (and_parts
    (list_all
    (λ rule. list_all (λ c. compares_key (side_of x.names c.left) c.right) rule.conditions)
    rules)
    (has_plain_actions question rules) h).0 in
    none_stops x (λ name. list_any (λ other. name == other) (used_names x.names rules)) s 0
    x.names
    (λ k named e asked.
    let same : 0 + k ≡ k = omega arith in
    ap is_variable (sym e)
    ∙ among x.names (used_names x.names rules) k variables
    (subst (λ n. list_any (λ other. n == other) (used_names x.names rules) ≡ true) same asked))

-- the actions of a plain question's rules
pub plain_actions : (x : Rules) (question : Question) → is_plain_question x question ≡ true
    → has_plain_actions question (asked_rules x question) ≡ true
unfolding is_plain_question
plain_actions x question h =
    (and_parts
    (list_all
    (λ rule. list_all (λ c. compares_key (side_of x.names c.left) c.right) rule.conditions)
    (asked_rules x question))
    (has_plain_actions question (asked_rules x question)) h).1

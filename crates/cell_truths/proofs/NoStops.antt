-- At a plain question no name stops: each name that its rules use is a variable.
use Rattle.std.proofs.Common.{◌≡◌, ℕ, suc, ◌+◌, Bool, true, false, ◌==◌, ◌⊎◌}
use Rattle.std.proofs.Common.{inl, inr, Option, Some, None, List, [], ◌∷◌, cond, refl}
use Rattle.std.proofs.Common.{sym, subst, ap, ◌∙◌, arith}
use Rattle.std.proofs.lemmas.Bool.{and_parts, eqb-true, true≢false}
use Rattle.std.specs.List.{AllByRecursion, flat_map, list_all, list_any}
use Rattle.std.specs.Prelude.{slice_get}
use Rattle.rule_types.specs.declared.condition.Right.{Right}
use Rattle.rule_types.specs.declared.condition.Side.{Side}
use Rattle.rule_types.specs.declared.condition.Side.TheVariants as side
use Rattle.rule_types.specs.declared.names.NameDef.{NameDef}
use Rattle.rule_types.specs.declared.names.NameKind.{NameKind}
use Rattle.rule_types.specs.declared.names.NameKind.TheVariants.{Variable, Formula}
use Rattle.rule_types.specs.declared.rule.Rule.{Rule}
use Rattle.rule_types.specs.declared.rules.Rules.{Rules}
use Rattle.rule_types.specs.declared.state.State.{State}
use Rattle.rule_types.specs.Reading.{at_name, is_variable, is_variable_kind, kind_names, rule_names}
use Rattle.rule_types.specs.Reading.{side_names, used_names}
use Rattle.rule_meaning.specs.Formula.{is_used, kind_value, names_stop_for, stop_from, stop_or}
use Rattle.moment_pieces.specs.Sides.{kind_side, named_side, side_of}
use Rattle.verdict_meaning.specs.declared.question.Question.{Question}
use Rattle.verdict_meaning.specs.Questions.{asked_rules}
use Rattle.verdict_meaning.specs.Verdicts.{compares_key, has_plain_actions, is_plain_question}
use Rattle.cell_truths.proofs.Lists.{Among, all_among, each_append, each_flat, each_in, or_cases}

-- a rule's conditions compare keys with numbers
abbrev pub is_plain_rule : Rules → Rule → Bool
is_plain_rule x rule =
    list_all (λ c. compares_key (side_of x.names c.left) c.right) rule.conditions

pub plain_rule : (x : Rules) (question : Question) (rule : Rule)
    → is_plain_question x question ≡ true → Among (asked_rules x question) rule
    → is_plain_rule x rule ≡ true
unfolding is_plain_question
plain_rule x question rule h at =
    all_among (is_plain_rule x) (asked_rules x question) rule
    (and_parts (list_all (is_plain_rule x) (asked_rules x question))
    (has_plain_actions question (asked_rules x question)) h).0 at

-- ---- the names on left sides
abbrev IsVariableName : List NameDef → ℕ → Type 0
IsVariableName names name = is_variable (slice_get names name) ≡ true

kind_variable : (name : ℕ) (other : Right) (kind : NameKind)
    → compares_key (kind_side name kind) other ≡ true → is_variable_kind kind ≡ true
kind_variable name other (Variable key) h = refl
kind_variable name other (Formula formula) h = absurd (true≢false (sym h))

named_variable : (name : ℕ) (other : Right) (o : Option NameDef)
    → compares_key (named_side name o) other ≡ true → is_variable o ≡ true
named_variable name other None h = absurd (true≢false (sym h))
named_variable name other (Some named) h = kind_variable name other named.stands_for h

side_variables : (names : List NameDef) (other : Right) (left : Side)
    → compares_key (side_of names left) other ≡ true
    → AllByRecursion (IsVariableName names) (side_names left)
unfolding side_of
side_variables names other (side.Key key) h = tt
side_variables names other (side.Expr name) h =
    (named_variable name other (slice_get names name) h, tt)

rule_variables : (x : Rules) (rule : Rule) → is_plain_rule x rule ≡ true
    → AllByRecursion (IsVariableName x.names) (rule_names rule)
rule_variables x rule h =
    each_flat (IsVariableName x.names) (λ c. side_names c.left) rule.conditions
    (each_in (λ c. AllByRecursion (IsVariableName x.names) (side_names c.left)) rule.conditions
    (λ c at.
    side_variables x.names c.right c.left
    (all_among (λ one. compares_key (side_of x.names one.left) one.right) rule.conditions c h at)))

left_variables : (x : Rules) (question : Question) → is_plain_question x question ≡ true
    → AllByRecursion (IsVariableName x.names) (flat_map rule_names (asked_rules x question))
left_variables x question h =
    each_flat (IsVariableName x.names) rule_names (asked_rules x question)
    (each_in (λ rule. AllByRecursion (IsVariableName x.names) (rule_names rule))
    (asked_rules x question)
    (λ rule at. rule_variables x rule (plain_rule x question rule h at)))

-- ---- the names that rules use
no_names : (P : ℕ → Type 0) (o : Option NameDef) → is_variable o ≡ true
    → AllByRecursion P (at_name kind_names o)
no_names P None h = tt
no_names P (Some named) h = none_of named.stands_for h
  where
    none_of : (kind : NameKind) → is_variable_kind kind ≡ true
        → AllByRecursion P (kind_names kind)
    none_of (Variable key) e = tt
    none_of (Formula formula) e = absurd (true≢false (sym e))

inner_names : (names : List NameDef) (own : List ℕ)
    → AllByRecursion (IsVariableName names) own
    → AllByRecursion (IsVariableName names)
    (flat_map (λ name. at_name kind_names (slice_get names name)) own)
inner_names names [] h = tt
inner_names names (name ∷ own) h =
    each_append (IsVariableName names) (at_name kind_names (slice_get names name))
    (flat_map (λ one. at_name kind_names (slice_get names one)) own)
    (no_names (IsVariableName names) (slice_get names name) h.0)
    (inner_names names own h.1)

one_used : (P : ℕ → Type 0) (name : ℕ) (own : List ℕ) → AllByRecursion P own
    → list_any (λ other. name == other) own ≡ true → P name
one_used P name [] h any = absurd (true≢false (sym any))
one_used P name (other ∷ own) h any =
    by_cases (or_cases (name == other) (list_any (λ one. name == one) own) any)
    (one_used P name own h.1)
  where
    by_cases : ((name == other) ≡ true) ⊎ (list_any (λ one. name == one) own ≡ true)
        → (list_any (λ one. name == one) own ≡ true → P name) → P name
    by_cases (inl is) later = subst P (sym (eqb-true name other is)) h.0
    by_cases (inr is) later = later is

used_variable : (x : Rules) (question : Question) → is_plain_question x question ≡ true
    → (name : ℕ) → is_used x (asked_rules x question) name ≡ true
    → IsVariableName x.names name
unfolding is_used
used_variable x question h name used =
    let own = flat_map rule_names (asked_rules x question) in
    let left = left_variables x question h in
    one_used (IsVariableName x.names) name (used_names x.names (asked_rules x question))
    (each_append (IsVariableName x.names) own
    (flat_map (λ one. at_name kind_names (slice_get x.names one)) own) left
    (inner_names x.names own left)) used

-- ---- no stop
kind_goes_on : (x : Rules) (s : State) (at : ℕ) (kind : NameKind)
    → is_variable_kind kind ≡ true → stop_or at (kind_value x s kind) None ≡ None
unfolding kind_value
kind_goes_on x s at (Variable key) h = refl
kind_goes_on x s at (Formula formula) h = absurd (true≢false (sym h))

asked_goes_on : (x : Rules) (s : State) (at : ℕ) (named : NameDef) (b : Bool)
    → (b ≡ true → is_variable_kind named.stands_for ≡ true)
    → cond b (stop_or at (kind_value x s named.stands_for) None) None ≡ None
asked_goes_on x s at named true h = kind_goes_on x s at named.stands_for (h refl)
asked_goes_on x s at named false h = refl

-- the names from a place on that are asked for are variables
abbrev AreVariablesFrom : (ℕ → Bool) → ℕ → List NameDef → Type 0
AreVariablesFrom asks at names =
    (k : ℕ) → asks (at + k) ≡ true → (named : NameDef) → slice_get names k ≡ Some named
    → is_variable_kind named.stands_for ≡ true

goes_on : (x : Rules) (asks : ℕ → Bool) (s : State) (at : ℕ) (names : List NameDef)
    → AreVariablesFrom asks at names → stop_from x asks s at names ≡ None
unfolding stop_from
goes_on x asks s at [] h = refl
goes_on x asks s at (named ∷ names) h =
    let later : stop_from x asks s (suc at) names ≡ None =
    goes_on x asks s (suc at) names
    (λ k asked one is.
    (let same : suc at + k ≡ at + suc k = omega arith in
    h (suc k) (subst (λ n. asks n ≡ true) same asked) one is)) in
    let here : at ≡ at + 0 = omega arith in
    ap (λ o. cond (asks at) (stop_or at (kind_value x s named.stands_for) o) o) later
    ∙ asked_goes_on x s at named (asks at)
    (λ asked. h 0 (subst (λ n. asks n ≡ true) here asked) named refl)

pub no_stop : (x : Rules) (question : Question) (s : State) → is_plain_question x question ≡ true
    → names_stop_for x (asked_rules x question) s ≡ None
unfolding names_stop_for
no_stop x question s h =
    goes_on x (is_used x (asked_rules x question)) s 0 x.names
    (λ k asked named is.
    (let same : 0 + k ≡ k = omega arith in
    subst (λ o. is_variable o ≡ true) is
    (used_variable x question h k
    (subst (λ n. is_used x (asked_rules x question) n ≡ true) same asked))))

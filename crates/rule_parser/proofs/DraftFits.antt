-- What is read of control lines fits, statement by statement.
use Rattle.std.proofs.Common.{◌≡◌, ℕ, zero, suc, ◌+◌, ◌<◌, Bool, true, false, List, [], ◌∷◌, ◌++◌, length, Option, None, Some, refl, sym, subst, ap, ◌∙◌, ◌⊎◌, inl, inr, append_assoc, arith, length-append}
use Rattle.std.proofs.lemmas.List.{append-nil}
use Rattle.std.specs.Prelude.{IfSome, IsSome, IsTrue, All, slice_get}
use Rattle.std.specs.List.{flat_map, range_with_len}
use Rattle.std.proofs.lemmas.List.Elements.{All-nil, All-push, All-weaker}
use Rattle.std.proofs.lemmas.Grind.{flat_map-append}
use Rattle.exact_fraction.specs.Number.{Rational}
use Rattle.object_index.specs.Holding.{HoldsRule, HoldsKind, HoldsCondition, HoldsLink}
use Rattle.object_index.specs.Objects.{Objects}
use Rattle.rule_types.specs.Reading.{pid_numbers, pid_of, rule_actions}
use Rattle.rule_types.specs.WellFormed.{ConditionFits, SideFits, WhatFits, IsOpened, KindFits, RuleFits}
use Rattle.rule_types.specs.declared.action.Action.{Action}
use Rattle.rule_types.specs.declared.condition.Condition.{Condition}
use Rattle.rule_types.specs.declared.condition.Side.{Side}
use Rattle.rule_types.specs.declared.condition.Side.TheVariants as side
use Rattle.rule_types.specs.declared.names.NameDef.{NameDef}
use Rattle.rule_types.specs.declared.names.NameKind.{NameKind}
use Rattle.rule_types.specs.declared.rule.Rule.{Rule}
use Rattle.control_lines.specs.Clauses.{is_complete}
use Rattle.control_lines.specs.declared.clause.Stage.{Stage}
use Rattle.control_lines.specs.declared.clause.Stage.TheVariants.{Outside, Headed, InPremise}
use Rattle.control_lines.specs.declared.clause.Stage.TheVariants.{InThen, InElse, Ranked}
use Rattle.rule_parser.specs.Controls.{with_last, draft_rules, with_name, new_rule, with_head}
use Rattle.rule_parser.specs.Controls.{and_condition, with_condition, and_action, with_action}
use Rattle.rule_parser.specs.Controls.{and_priority, with_priority, at_stage, action_count}
use Rattle.rule_parser.specs.Limits.{most_rules, most_names, most_conditions, most_actions}
use Rattle.rule_parser.specs.declared.draft.Draft.{Draft}
use Rattle.rule_parser.specs.internal.Fitting.{PartsFit, IsWhole, HasForm, LastFits, IsBegun}
use Rattle.rule_parser.specs.internal.Fitting.{NamesFitFirst, DraftFits}
use Rattle.rule_parser.proofs.SidesFit.{IsActionOf}

-- ---- more names
side_more : (names : List NameDef) (more : NameDef) (left : Side) → SideFits names left
    → SideFits (names ++ more ∷ []) left
side_more names more (side.Key key) h = h
side_more names more (side.Expr name) h =
    let longer = length-append names (more ∷ []) in omega arith

condition_more : (names : List NameDef) (more : NameDef) (condition : Condition)
    → ConditionFits names condition → ConditionFits (names ++ more ∷ []) condition
condition_more names more condition h = record {
  left = side_more names more condition.left h.left;
  right = h.right;
  half_step = h.half_step;
}

conditions_more : (names : List NameDef) (more : NameDef) (conditions : List Condition)
    → All (ConditionFits names) conditions → All (ConditionFits (names ++ more ∷ [])) conditions
conditions_more names more conditions h =
    All-weaker (ConditionFits names) (ConditionFits (names ++ more ∷ [])) (condition_more names more) conditions h

rule_more : (names : List NameDef) (more : NameDef) (rule : Rule) → RuleFits names rule
    → RuleFits (names ++ more ∷ []) rule
rule_more names more rule h = record {
  opened = h.opened;
  acting = h.acting;
  conditions = conditions_more names more rule.conditions h.conditions;
  then_values = h.then_values;
  else_values = h.else_values;
  conditions_counted = h.conditions_counted;
  then_counted = h.then_counted;
  else_counted = h.else_counted;
}

parts_more : (names : List NameDef) (more : NameDef) (rule : Rule) → PartsFit names rule
    → PartsFit (names ++ more ∷ []) rule
parts_more names more rule h = record {
  conditions = conditions_more names more rule.conditions h.conditions;
  then_values = h.then_values;
  else_values = h.else_values;
  few_conditions = h.few_conditions;
  few_then = h.few_then;
  few_else = h.few_else;
}

-- the name at a place of names with one more
last_or_before : (names : List NameDef) (more : NameDef) (at : ℕ) (named : NameDef)
    → slice_get (names ++ more ∷ []) at ≡ Some named
    → (slice_get names at ≡ Some named) ⊎ ((at ≡ length names) × (more ≡ named))
last_or_before [] more zero named e = inr (refl, cc)
last_or_before [] more (suc at) named e = cc
last_or_before (first ∷ names) more zero named e = inl e
last_or_before (first ∷ names) more (suc at) named e =
    more_at (last_or_before names more at named e)
  where
    more_at : (slice_get names at ≡ Some named) ⊎ ((at ≡ length names) × (more ≡ named))
        → (slice_get (first ∷ names) (suc at) ≡ Some named) ⊎ ((suc at ≡ suc (length names)) × (more ≡ named))
    more_at (inl h) = inl h
    more_at (inr h) = inr (ap suc h.0, h.1)

names_more : (names : List NameDef) (more : NameDef) → NamesFitFirst names
    → ((later : List NameDef) → KindFits (names ++ more ∷ later) (length names) more.stands_for)
    → NamesFitFirst (names ++ more ∷ [])
names_more names more h k later at named e =
    rw (append_assoc names (more ∷ []) later) (by_case (last_or_before names more at named e))
  where
    by_case : (slice_get names at ≡ Some named) ⊎ ((at ≡ length names) × (more ≡ named))
        → KindFits (names ++ more ∷ later) at named.stands_for
    by_case (inl found) = h (more ∷ later) at named found
    by_case (inr last) =
        subst (λ place. KindFits (names ++ more ∷ later) place named.stands_for) (sym last.0)
        (subst (λ (found : NameDef). KindFits (names ++ more ∷ later) (length names) found.stands_for) last.1 (k later))

-- ---- whole rules
whole_at : (stage : Stage) (rule : Rule) → is_complete stage ≡ true → HasForm stage rule → IsWhole rule
whole_at Outside rule e h = h
whole_at Headed rule e h = cc
whole_at InPremise rule e h = cc
whole_at InThen rule e h = h.0
whole_at InElse rule e h = h.0
whole_at Ranked rule e h = h

rule_whole : (names : List NameDef) (rule : Rule) → PartsFit names rule → IsWhole rule → RuleFits names rule
rule_whole names rule h k =
    let conditions = h.few_conditions in
    let thens = h.few_then in
    let elses = h.few_else in
    record {
      opened = k.opened;
      acting = k.acting;
      conditions = h.conditions;
      then_values = h.then_values;
      else_values = h.else_values;
      conditions_counted = omega arith;
      then_counted = omega arith;
      else_counted = omega arith;
    }

all_whole : (objects : Objects) (names : List NameDef) (closed : List Rule) (last : Option Rule)
    (stage : Stage) → is_complete stage ≡ true → All (RuleFits names) closed
    → IfSome last (LastFits objects names stage) → All (RuleFits names) (with_last closed last)
all_whole objects names closed None stage e h k = h
all_whole objects names closed (Some rule) stage e h k =
    All-push (RuleFits names) closed rule h
    (rule_whole names rule k.parts (whole_at stage rule e k.form))

all_held : (objects : Objects) (names : List NameDef) (closed : List Rule) (last : Option Rule)
    (stage : Stage) → All (HoldsRule objects) closed
    → IfSome last (LastFits objects names stage) → All (HoldsRule objects) (with_last closed last)
all_held objects names closed None stage h k = h
all_held objects names closed (Some rule) stage h k = All-push (HoldsRule objects) closed rule h k.held

-- the rules of a draft that is complete
pub rules_fit : (objects : Objects) (draft : Draft) → DraftFits objects draft
    → is_complete draft.stage ≡ true → All (RuleFits draft.names) (draft_rules draft)
rules_fit objects draft h e =
    all_whole objects draft.names draft.closed draft.last draft.stage e h.closed h.last

pub rules_held : (objects : Objects) (draft : Draft) → DraftFits objects draft
    → All (HoldsRule objects) (draft_rules draft)
rules_held objects draft h =
    all_held objects draft.names draft.closed draft.last draft.stage h.closed_held h.last

-- ---- declarations
last_named : (objects : Objects) (names : List NameDef) (more : NameDef) (last : Option Rule) (stage : Stage)
    → is_complete stage ≡ true → IfSome last (LastFits objects names stage)
    → IfSome last (LastFits objects (names ++ more ∷ []) Outside)
last_named objects names more None stage e h = tt
last_named objects names more (Some rule) stage e h = record {
  parts = parts_more names more rule h.parts;
  held = h.held;
  form = whole_at stage rule e h.form;
}

pub named_fits : (objects : Objects) (draft : Draft) (name : List ℕ) (kind : NameKind)
    → DraftFits objects draft → is_complete draft.stage ≡ true → length draft.names < most_names
    → ((later : List NameDef) → KindFits (draft.names ++ record { name = name; stands_for = kind } ∷ later) (length draft.names) kind)
    → HoldsKind objects kind
    → DraftFits objects (at_stage (with_name draft name kind) Outside)
named_fits objects draft name kind h e few fits held =
    let more : NameDef = record { name = name; stands_for = kind } in
    let longer = length-append draft.names (more ∷ []) in
    record {
      closed = All-weaker (RuleFits draft.names) (RuleFits (draft.names ++ more ∷ [])) (rule_more draft.names more) draft.closed h.closed;
      closed_held = h.closed_held;
      last = last_named objects draft.names more draft.last draft.stage e h.last;
      begun = tt;
      names = names_more draft.names more h.names fits;
      names_held = All-push (λ named. HoldsKind objects named.stands_for) draft.names more h.names_held held;
      pids = h.pids;
      few_rules = h.few_rules;
      few_names = omega arith;
    }

-- ---- heads
pids_more : (rules : List Rule) (rule : Rule)
    → pid_numbers (rules ++ rule ∷ []) ≡ pid_numbers rules ++ flat_map (λ action. pid_of action.what) (rule_actions rule)
unfolding pid_numbers
pids_more rules rule =
    flat_map-append (λ rule. flat_map (λ action. pid_of action.what) (rule_actions rule)) rules (rule ∷ [])
    ∙ ap (λ numbers. pid_numbers rules ++ numbers) (append-nil (flat_map (λ action. pid_of action.what) (rule_actions rule)))

new_parts : (names : List NameDef) (id : List ℕ) → PartsFit names (new_rule id)
new_parts names id = record {
  conditions = All-nil (ConditionFits names);
  then_values = All-nil (λ action. WhatFits action.what);
  else_values = All-nil (λ action. WhatFits action.what);
  few_conditions = omega arith;
  few_then = omega arith;
  few_else = omega arith;
}

new_held : (objects : Objects) (id : List ℕ) → HoldsRule objects (new_rule id)
new_held objects id = record {
  conditions = All-nil (HoldsCondition objects);
  then_actions = All-nil (λ action. HoldsLink objects action.link);
  else_actions = All-nil (λ action. HoldsLink objects action.link);
}

pub head_fits : (objects : Objects) (draft : Draft) (id : List ℕ) → DraftFits objects draft
    → is_complete draft.stage ≡ true → length (draft_rules draft) < most_rules
    → DraftFits objects (at_stage (with_head draft id) Headed)
head_fits objects draft id h e few =
    let longer = length-append (draft_rules draft) (new_rule id ∷ []) in
    record {
      closed = rules_fit objects draft h e;
      closed_held = rules_held objects draft h;
      last = record { parts = new_parts draft.names id; held = new_held objects id; form = (refl, refl, refl) };
      begun = refl;
      names = h.names;
      names_held = h.names_held;
      pids = pids_more (draft_rules draft) (new_rule id) ∙ append-nil (pid_numbers (draft_rules draft)) ∙ h.pids;
      few_rules = omega arith;
      few_names = h.few_names;
    }

-- ---- conditions
opened_more : (conditions : List Condition) (condition : Condition) → IsOpened conditions
    → IsOpened (conditions ++ condition ∷ [])
opened_more [] condition h = absurd h
opened_more (first ∷ conditions) condition h = h

first_opened : (conditions : List Condition) (condition : Condition) → conditions ≡ []
    → IsTrue condition.joined_by_and → IsOpened (conditions ++ condition ∷ [])
first_opened [] condition e h = h
first_opened (first ∷ conditions) condition e h = cc

parts_condition : (names : List NameDef) (rule : Rule) (condition : Condition) → PartsFit names rule
    → ConditionFits names condition → length rule.conditions < most_conditions
    → PartsFit names (and_condition condition rule)
parts_condition names rule condition h k few =
    let longer = length-append rule.conditions (condition ∷ []) in
    record {
      conditions = All-push (ConditionFits names) rule.conditions condition h.conditions k;
      then_values = h.then_values;
      else_values = h.else_values;
      few_conditions = omega arith;
      few_then = h.few_then;
      few_else = h.few_else;
    }

held_condition : (objects : Objects) (rule : Rule) (condition : Condition) → HoldsRule objects rule
    → HoldsCondition objects condition → HoldsRule objects (and_condition condition rule)
held_condition objects rule condition h k = record {
  conditions = All-push (HoldsCondition objects) rule.conditions condition h.conditions k;
  then_actions = h.then_actions;
  else_actions = h.else_actions;
}

-- where a condition may come: the first one begins a group
abbrev pub ConditionMove : Condition → Stage → Type 0
ConditionMove condition Headed = IsTrue condition.joined_by_and
ConditionMove condition InPremise = Unit {0}
ConditionMove condition stage = ⊥

form_condition : (condition : Condition) (stage : Stage) (rule : Rule) → ConditionMove condition stage
    → HasForm stage rule → HasForm InPremise (and_condition condition rule)
form_condition condition Outside rule m h = absurd m
form_condition condition Headed rule m h = (first_opened rule.conditions condition h.0 m, h.1, h.2)
form_condition condition InPremise rule m h = (opened_more rule.conditions condition h.0, h.1, h.2)
form_condition condition InThen rule m h = absurd m
form_condition condition InElse rule m h = absurd m
form_condition condition Ranked rule m h = absurd m

-- the numbers of PID actions of a rule in the place of one with the same actions
pids_same : (rules : List Rule) (rule other : Rule)
    → flat_map (λ action. pid_of action.what) (rule_actions other) ≡ flat_map (λ action. pid_of action.what) (rule_actions rule)
    → pid_numbers (rules ++ other ∷ []) ≡ pid_numbers (rules ++ rule ∷ [])
pids_same rules rule other e =
    pids_more rules other ∙ ap (λ numbers. pid_numbers rules ++ numbers) e ∙ sym (pids_more rules rule)

length_same : (rules : List Rule) (rule other : Rule) → length (rules ++ other ∷ []) ≡ length (rules ++ rule ∷ [])
length_same rules rule other = length-append rules (other ∷ []) ∙ sym (length-append rules (rule ∷ []))

-- a draft whose last rule is changed
changed : (objects : Objects) (names : List NameDef) (closed : List Rule) (rule other : Rule)
    (pids more : ℕ) (stage next : Stage)
    → DraftFits objects (record { stage = stage; names = names; closed = closed; last = Some rule; pids = pids })
    → LastFits objects names next other
    → pid_numbers (closed ++ other ∷ []) ≡ range_with_len 0 more
    → IsBegun next (Some other)
    → DraftFits objects (record { stage = next; names = names; closed = closed; last = Some other; pids = more })
changed objects names closed rule other pids more stage next h k e b =
    let same = length_same closed rule other in
    let few = h.few_rules in
    record {
      closed = h.closed;
      closed_held = h.closed_held;
      last = k;
      begun = b;
      names = h.names;
      names_held = h.names_held;
      pids = e;
      few_rules = omega arith;
      few_names = h.few_names;
    }

condition_last : (objects : Objects) (names : List NameDef) (closed : List Rule) (last : Option Rule)
    (pids : ℕ) (stage : Stage) (condition : Condition)
    → DraftFits objects (record { stage = stage; names = names; closed = closed; last = last; pids = pids })
    → IsSome last → ConditionMove condition stage
    → ConditionFits names condition → HoldsCondition objects condition
    → IfSome last (λ rule. length rule.conditions < most_conditions)
    → DraftFits objects (at_stage (with_condition (record { stage = stage; names = names; closed = closed; last = last; pids = pids }) condition) InPremise)
condition_last objects names closed None pids stage condition h b m k held few = cc
condition_last objects names closed (Some rule) pids stage condition h b m k held few =
    changed objects names closed rule (and_condition condition rule) pids pids stage InPremise h
    (record {
      parts = parts_condition names rule condition h.last.parts k few;
      held = held_condition objects rule condition h.last.held held;
      form = form_condition condition stage rule m h.last.form;
    })
    (pids_same closed rule (and_condition condition rule) refl ∙ h.pids) refl

-- ---- actions
range_join : (first count more : ℕ)
    → range_with_len first count ++ range_with_len (first + count) more ≡ range_with_len first (count + more)
range_join first zero more =
    let here : first + 0 ≡ first = omega arith in
    let all : more ≡ 0 + more = omega arith in
    ap (λ n. range_with_len n more) here ∙ ap (range_with_len first) all
range_join first (suc count) more =
    let here : first + suc count ≡ (first + 1) + count = omega arith in
    let all : suc (count + more) ≡ suc count + more = omega arith in
    ap (λ n. first ∷ (range_with_len (first + 1) count ++ range_with_len n more)) here
    ∙ ap (λ numbers. first ∷ numbers) (range_join (first + 1) count more)
    ∙ ap (range_with_len first) all

range_more : (count : ℕ) (numbers : List ℕ) → numbers ≡ range_with_len count (length numbers)
    → range_with_len 0 count ++ numbers ≡ range_with_len 0 (count + length numbers)
range_more count numbers e =
    let here : count ≡ 0 + count = omega arith in
    ap (λ more. range_with_len 0 count ++ more) (e ∙ ap (λ n. range_with_len n (length numbers)) here)
    ∙ range_join 0 count (length numbers)

-- the numbers of a rule with one more action, at the end of its part
abbrev action_pids : List Action → List ℕ
action_pids = flat_map (λ action. pid_of action.what)

pids_push : (actions : List Action) (action : Action)
    → action_pids (actions ++ action ∷ []) ≡ action_pids actions ++ pid_of action.what
pids_push actions action =
    flat_map-append (λ action. pid_of action.what) actions (action ∷ [])
    ∙ ap (λ numbers. action_pids actions ++ numbers) (append-nil (pid_of action.what))

then_pids : (thens elses : List Action) (action : Action) → elses ≡ []
    → action_pids ((thens ++ action ∷ []) ++ elses) ≡ action_pids (thens ++ elses) ++ pid_of action.what
then_pids thens elses action e =
    ap (λ more. action_pids ((thens ++ action ∷ []) ++ more)) e
    ∙ ap action_pids (append-nil (thens ++ action ∷ []))
    ∙ pids_push thens action
    ∙ ap (λ more. action_pids more ++ pid_of action.what) (sym (append-nil thens))
    ∙ ap (λ more. action_pids (thens ++ more) ++ pid_of action.what) (sym e)

else_pids : (thens elses : List Action) (action : Action)
    → action_pids (thens ++ (elses ++ action ∷ [])) ≡ action_pids (thens ++ elses) ++ pid_of action.what
else_pids thens elses action =
    ap action_pids (sym (append_assoc thens elses (action ∷ []))) ∙ pids_push (thens ++ elses) action

pids_action : (otherwise : Bool) (rule : Rule) (action : Action)
    → (otherwise ≡ false → rule.else_actions ≡ [])
    → action_pids (rule_actions (and_action otherwise action rule)) ≡ action_pids (rule_actions rule) ++ pid_of action.what
pids_action true rule action e = else_pids rule.then_actions rule.else_actions action
pids_action false rule action e = then_pids rule.then_actions rule.else_actions action (e refl)

parts_action : (names : List NameDef) (otherwise : Bool) (rule : Rule) (action : Action)
    → PartsFit names rule → WhatFits action.what
    → length rule.then_actions < most_actions ⊎ IsTrue otherwise
    → length rule.else_actions < most_actions ⊎ (otherwise ≡ false)
    → PartsFit names (and_action otherwise action rule)
parts_action names true rule action h k few (inl more) =
    let longer = length-append rule.else_actions (action ∷ []) in
    record {
      conditions = h.conditions;
      then_values = h.then_values;
      else_values = All-push (λ action. WhatFits action.what) rule.else_actions action h.else_values k;
      few_conditions = h.few_conditions;
      few_then = h.few_then;
      few_else = omega arith;
    }
parts_action names true rule action h k few (inr e) = cc
parts_action names false rule action h k (inl more) few =
    let longer = length-append rule.then_actions (action ∷ []) in
    record {
      conditions = h.conditions;
      then_values = All-push (λ action. WhatFits action.what) rule.then_actions action h.then_values k;
      else_values = h.else_values;
      few_conditions = h.few_conditions;
      few_then = omega arith;
      few_else = h.few_else;
    }
parts_action names false rule action h k (inr e) few = cc

held_action : (objects : Objects) (otherwise : Bool) (rule : Rule) (action : Action)
    → HoldsRule objects rule → HoldsLink objects action.link
    → HoldsRule objects (and_action otherwise action rule)
held_action objects true rule action h k = record {
  conditions = h.conditions;
  then_actions = h.then_actions;
  else_actions = All-push (λ action. HoldsLink objects action.link) rule.else_actions action h.else_actions k;
}
held_action objects false rule action h k = record {
  conditions = h.conditions;
  then_actions = All-push (λ action. HoldsLink objects action.link) rule.then_actions action h.then_actions k;
  else_actions = h.else_actions;
}

-- where an action of a part may come, and the stage behind it
abbrev pub ActionMove : Bool → Stage → Stage → Type 0
ActionMove false InPremise next = InThen ≡ next
ActionMove false InThen next = InThen ≡ next
ActionMove true InThen next = InElse ≡ next
ActionMove true InElse next = InElse ≡ next
ActionMove otherwise stage next = ⊥

some_more : (actions : List Action) (action : Action) (others : ℕ) → 0 < length (actions ++ action ∷ []) + others
some_more actions action others = let longer = length-append actions (action ∷ []) in omega arith

then_form : (rule : Rule) (action : Action) → IsOpened rule.conditions → rule.else_actions ≡ []
    → HasForm InThen (and_action false action rule)
then_form rule action opened none =
    (record { opened = opened; acting = some_more rule.then_actions action (length rule.else_actions) }, none)

else_form : (rule : Rule) (action : Action) → IsOpened rule.conditions → HasForm InElse (and_action true action rule)
else_form rule action opened =
    let longer = length-append rule.else_actions (action ∷ []) in
    (record { opened = opened; acting = omega arith }, omega arith)

form_action : (otherwise : Bool) (stage next : Stage) (rule : Rule) (action : Action)
    → ActionMove otherwise stage next → HasForm stage rule → HasForm next (and_action otherwise action rule)
form_action false Outside next rule action m h = absurd m
form_action false Headed next rule action m h = absurd m
form_action false InPremise next rule action m h = subst (λ after. HasForm after (and_action false action rule)) m (then_form rule action h.0 (h.2))
form_action false InThen next rule action m h = subst (λ after. HasForm after (and_action false action rule)) m (then_form rule action h.0.opened (h.1))
form_action false InElse next rule action m h = absurd m
form_action false Ranked next rule action m h = absurd m
form_action true Outside next rule action m h = absurd m
form_action true Headed next rule action m h = absurd m
form_action true InPremise next rule action m h = absurd m
form_action true InThen next rule action m h = subst (λ after. HasForm after (and_action true action rule)) m (else_form rule action h.0.opened)
form_action true InElse next rule action m h = subst (λ after. HasForm after (and_action true action rule)) m (else_form rule action h.0.opened)
form_action true Ranked next rule action m h = absurd m

no_else : (otherwise : Bool) (stage next : Stage) (rule : Rule) → ActionMove otherwise stage next
    → HasForm stage rule → otherwise ≡ false → rule.else_actions ≡ []
no_else false Outside next rule m h e = absurd m
no_else false Headed next rule m h e = absurd m
no_else false InPremise next rule m h e = h.2
no_else false InThen next rule m h e = h.1
no_else false InElse next rule m h e = absurd m
no_else false Ranked next rule m h e = absurd m
no_else true Outside next rule m h e = absurd m
no_else true Headed next rule m h e = absurd m
no_else true InPremise next rule m h e = absurd m
no_else true InThen next rule m h e = cc
no_else true InElse next rule m h e = cc
no_else true Ranked next rule m h e = absurd m

begun_by : (otherwise : Bool) (stage next : Stage) (rule : Rule) → ActionMove otherwise stage next → IsBegun next (Some rule)
begun_by false Outside next rule m = absurd m
begun_by false Headed next rule m = absurd m
begun_by false InPremise next rule m = subst (λ after. IsBegun after (Some rule)) m refl
begun_by false InThen next rule m = subst (λ after. IsBegun after (Some rule)) m refl
begun_by false InElse next rule m = absurd m
begun_by false Ranked next rule m = absurd m
begun_by true Outside next rule m = absurd m
begun_by true Headed next rule m = absurd m
begun_by true InPremise next rule m = absurd m
begun_by true InThen next rule m = subst (λ after. IsBegun after (Some rule)) m refl
begun_by true InElse next rule m = subst (λ after. IsBegun after (Some rule)) m refl
begun_by true Ranked next rule m = absurd m

few_then_by : (otherwise : Bool) (rule : Rule) → action_count otherwise (Some rule) < most_actions
    → length rule.then_actions < most_actions ⊎ IsTrue otherwise
few_then_by true rule h = inr refl
few_then_by false rule h = inl h

few_else_by : (otherwise : Bool) (rule : Rule) → action_count otherwise (Some rule) < most_actions
    → length rule.else_actions < most_actions ⊎ (otherwise ≡ false)
few_else_by true rule h = inl h
few_else_by false rule h = inr refl

action_last : (objects : Objects) (names : List NameDef) (closed : List Rule) (last : Option Rule)
    (pids : ℕ) (stage next : Stage) (otherwise : Bool) (action : Action)
    → DraftFits objects (record { stage = stage; names = names; closed = closed; last = last; pids = pids })
    → IsSome last → ActionMove otherwise stage next → IsActionOf objects pids action
    → action_count otherwise last < most_actions
    → DraftFits objects (at_stage (with_action otherwise (record { stage = stage; names = names; closed = closed; last = last; pids = pids }) action) next)
action_last objects names closed None pids stage next otherwise action h b m k few = cc
action_last objects names closed (Some rule) pids stage next otherwise action h b m k few =
    let none = no_else otherwise stage next rule m h.last.form in
    changed objects names closed rule (and_action otherwise action rule) pids (pids + length (pid_of action.what)) stage next h
    (record {
      parts = parts_action names otherwise rule action h.last.parts k.0.0 (few_then_by otherwise rule few) (few_else_by otherwise rule few);
      held = held_action objects otherwise rule action h.last.held k.1;
      form = form_action otherwise stage next rule action m h.last.form;
    })
    (pids_more closed (and_action otherwise action rule)
    ∙ ap (λ numbers. pid_numbers closed ++ numbers) (pids_action otherwise rule action none)
    ∙ sym (append_assoc (pid_numbers closed) (action_pids (rule_actions rule)) (pid_of action.what))
    ∙ ap (λ numbers. numbers ++ pid_of action.what) (sym (pids_more closed rule) ∙ h.pids)
    ∙ range_more pids (pid_of action.what) k.0.1)
    (begun_by otherwise stage next (and_action otherwise action rule) m)

-- ---- priorities
abbrev pub PriorityMove : Stage → Type 0
PriorityMove InThen = Unit {0}
PriorityMove InElse = Unit {0}
PriorityMove stage = ⊥

form_priority : (stage : Stage) (rule : Rule) (priority : Rational) → PriorityMove stage
    → HasForm stage rule → HasForm Ranked (and_priority priority rule)
form_priority Outside rule priority m h = absurd m
form_priority Headed rule priority m h = absurd m
form_priority InPremise rule priority m h = absurd m
form_priority InThen rule priority m h = record { opened = h.0.opened; acting = h.0.acting }
form_priority InElse rule priority m h = record { opened = h.0.opened; acting = h.0.acting }
form_priority Ranked rule priority m h = absurd m

priority_parts : (names : List NameDef) (rule : Rule) (priority : Rational) → PartsFit names rule
    → PartsFit names (and_priority priority rule)
priority_parts names rule priority h = record {
  conditions = h.conditions;
  then_values = h.then_values;
  else_values = h.else_values;
  few_conditions = h.few_conditions;
  few_then = h.few_then;
  few_else = h.few_else;
}

priority_held : (objects : Objects) (rule : Rule) (priority : Rational) → HoldsRule objects rule
    → HoldsRule objects (and_priority priority rule)
priority_held objects rule priority h = record {
  conditions = h.conditions;
  then_actions = h.then_actions;
  else_actions = h.else_actions;
}

priority_last : (objects : Objects) (names : List NameDef) (closed : List Rule) (last : Option Rule)
    (pids : ℕ) (stage : Stage) (priority : Rational)
    → DraftFits objects (record { stage = stage; names = names; closed = closed; last = last; pids = pids })
    → IsSome last → PriorityMove stage
    → DraftFits objects (at_stage (with_priority (record { stage = stage; names = names; closed = closed; last = last; pids = pids }) priority) Ranked)
priority_last objects names closed None pids stage priority h b m = cc
priority_last objects names closed (Some rule) pids stage priority h b m =
    changed objects names closed rule (and_priority priority rule) pids pids stage Ranked h
    (record {
      parts = priority_parts names rule priority h.last.parts;
      held = priority_held objects rule priority h.last.held;
      form = form_priority stage rule priority m h.last.form;
    })
    (pids_same closed rule (and_priority priority rule) refl ∙ h.pids) refl

pub condition_ok : (objects : Objects) (draft : Draft) (condition : Condition) → DraftFits objects draft
    → IsSome draft.last → ConditionMove condition draft.stage
    → ConditionFits draft.names condition → HoldsCondition objects condition
    → IfSome draft.last (λ rule. length rule.conditions < most_conditions)
    → DraftFits objects (at_stage (with_condition draft condition) InPremise)
condition_ok objects draft condition h b m k held few =
    condition_last objects draft.names draft.closed draft.last draft.pids draft.stage condition h b m k held few

pub action_ok : (objects : Objects) (draft : Draft) (next : Stage) (otherwise : Bool) (action : Action)
    → DraftFits objects draft → IsSome draft.last → ActionMove otherwise draft.stage next
    → IsActionOf objects draft.pids action → action_count otherwise draft.last < most_actions
    → DraftFits objects (at_stage (with_action otherwise draft action) next)
action_ok objects draft next otherwise action h b m k few =
    action_last objects draft.names draft.closed draft.last draft.pids draft.stage next otherwise action h b m k few

pub priority_ok : (objects : Objects) (draft : Draft) (priority : Rational) → DraftFits objects draft
    → IsSome draft.last → PriorityMove draft.stage
    → DraftFits objects (at_stage (with_priority draft priority) Ranked)
priority_ok objects draft priority h b m =
    priority_last objects draft.names draft.closed draft.last draft.pids draft.stage priority h b m

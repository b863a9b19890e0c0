-- By the tables of rules each link takes the settled pair.
use Rattle.std.proofs.Common.{◌≡◌, ℕ, zero, suc, ◌||◌, ◌==◌, Bool, true, false, cond, Option, Some, None, option_and_then, List, [], ◌∷◌, ◌++◌, map, refl, sym, ap, subst, ◌∙◌, arith, true≢false, eqb-true}
use Rattle.std.proofs.lemmas.Bool.Decides.{nat_tests}
use Rattle.std.proofs.lemmas.Grind.{flat_map-append}
use Rattle.std.proofs.lemmas.List.Elements.{All-nil, All-cons, All-head, All-tail}
use Rattle.std.proofs.lemmas.Option.{none-some, same_Some, slice_get-get_or, slice_get_within, get_or_from_slice_get}
use Rattle.std.specs.Prelude.{slice_get, All, Contains, IfSome, IsTrue}
use Rattle.std.specs.List.{find, list_any, flat_map}
use Rattle.rule_types.specs.declared.action.Action.{Action}
use Rattle.rule_types.specs.declared.action.ActionAt.{ActionAt}
use Rattle.rule_types.specs.declared.action.Branch.{Branch}
use Rattle.rule_types.specs.declared.action.Branch.TheVariants.{Then, Otherwise}
use Rattle.rule_types.specs.declared.rule.Rule.{Rule}
use Rattle.rule_types.specs.declared.rules.Rules.{Rules}
use Rattle.rule_types.specs.declared.state.State.{State}
use Rattle.rule_types.specs.Reading.{branch_actions, rule_actions, branch_action, action_at}
use Rattle.rule_types.specs.WellFormed.{WellFormed, CompleteLists}
use Rattle.rule_types.proofs.PublicLaws.{opened-lists}
use Rattle.rule_meaning.specs.Reading.{settling}
use Rattle.rule_meaning.specs.Settled.{acts_on, is_on}
use Rattle.rule_meaning.proofs.PublicLaws.{orders-settled}
use Rattle.table_compiler.specs.declared.table.LinkTable.{LinkTable}
use Rattle.table_compiler.specs.Meaning.{ordered_by, tabled}
use Rattle.table_compiler.specs.Rows.{rows_on, tables_of}
use Rattle.table_compiler.proofs.PublicLaws.{settled-tables}
use Rattle.table_plan.specs.Plan.{Plan, IsPlanOf}
use Rattle.table_run.specs.Planned.{planned}
use Rattle.table_run.specs.Sides.{ServesRules}
use Rattle.table_run.proofs.LeftConditions.{any_at, any_found}
use Rattle.table_run.proofs.PlannedChoices.{plan_orders}

-- ---- parts of lists
all_front : {A : Type 0} (P : A → Type 0) (xs ys : List A) → All P (xs ++ ys) → All P xs
all_front P [] ys all = All-nil P
all_front P (x ∷ xs) ys all =
    All-cons P x xs (All-head P x (xs ++ ys) all) (all_front P xs ys (All-tail P x (xs ++ ys) all))

all_behind : {A : Type 0} (P : A → Type 0) (xs ys : List A) → All P (xs ++ ys) → All P ys
all_behind P [] ys all = all
all_behind P (x ∷ xs) ys all = all_behind P xs ys (All-tail P x (xs ++ ys) all)

flat_at : {A B : Type 0} (P : B → Type 0) (f : A → List B) (xs : List A) (k : ℕ) (one : A)
    → slice_get xs k ≡ Some one → All P (flat_map f xs) → All P (f one)
flat_at P f [] k one is all = absurd (none-some one is)
flat_at P f (x ∷ xs) zero one is all =
    let same : x ≡ one = same_Some x one is in
    subst (λ z. All P (f z)) same (all_front P (f x) (flat_map f xs) all)
flat_at P f (x ∷ xs) (suc k) one is all = flat_at P f xs k one is (all_behind P (f x) (flat_map f xs) all)

-- ---- a link that is acted on is controlled
abbrev link_of : Action → List ℕ
link_of action = action.link ∷ []

branch_part : (P : ℕ → Type 0) (rule : Rule) (branch : Branch) → All P (flat_map link_of (rule_actions rule))
    → All P (flat_map link_of (branch_actions rule branch))
branch_part P rule Then all =
    all_front P (flat_map link_of rule.then_actions) (flat_map link_of rule.else_actions)
    (subst (All P) (flat_map-append link_of rule.then_actions rule.else_actions) all)
branch_part P rule Otherwise all =
    all_behind P (flat_map link_of rule.then_actions) (flat_map link_of rule.else_actions)
    (subst (All P) (flat_map-append link_of rule.then_actions rule.else_actions) all)

is_among : (link : ℕ) (links : List ℕ) → Contains links link → list_any (λ other. other == link) links ≡ true
is_among link links h =
    let same : (link == link) ≡ true = grind (arith, nat_tests) in
    any_at (λ (other : ℕ). other == link) links h.0 link (slice_get-get_or links h.0 link h.1 ∙ ap Some h.2) same

action_among : (x : Rules) (link : ℕ) (rule : Rule) (branch : Branch) (k : ℕ) (o : Option Action)
    → All (Contains x.controlled) (flat_map link_of (rule_actions rule))
    → slice_get (branch_actions rule branch) k ≡ o → acts_on link o ≡ true
    → list_any (λ other. other == link) x.controlled ≡ true
action_among x link rule branch k None all is on = absurd (true≢false (sym on))
action_among x link rule branch k (Some action) all is on =
    let same : action.link ≡ link = eqb-true action.link link on in
    let here = flat_at (Contains x.controlled) link_of (branch_actions rule branch) k action is (branch_part (Contains x.controlled) rule branch all) in
    is_among link x.controlled (subst (Contains x.controlled) same (All-head (Contains x.controlled) action.link [] here))

pair_among : (x : Rules) (link : ℕ) (at : ActionAt) (o : Option Rule) → CompleteLists x
    → slice_get x.rules at.rule ≡ o → acts_on link (branch_action at o) ≡ true
    → list_any (λ other. other == link) x.controlled ≡ true
pair_among x link at None lists is on = absurd (true≢false (sym on))
pair_among x link at (Some rule) lists is on =
    action_among x link rule at.branch at.action (slice_get (branch_actions rule at.branch) at.action)
    (flat_at (Contains x.controlled) (λ (row : Rule). flat_map link_of (rule_actions row)) x.rules at.rule rule is lists.acted_links) refl on

on_among : (x : Rules) (link : ℕ) (at : ActionAt) → CompleteLists x → is_on x.rules link at ≡ true
    → list_any (λ other. other == link) x.controlled ≡ true
unfolding is_on action_at
on_among x link at lists on = pair_among x link at (slice_get x.rules at.rule) lists refl on

-- ---- what links take by the tables of rules
no_table : (x : Rules) (link : ℕ) (links : List ℕ) → list_any (λ other. other == link) links ≡ false
    → find (λ (table : LinkTable). table.link == link) (map (λ one. record { link = one; rows = rows_on x.rules one }) links) ≡ None
no_table x link [] h = refl
no_table x link (one ∷ links) h =
    none_by x link one links (one == link) h (no_table x link links)
  where
    none_by : (x : Rules) (link one : ℕ) (links : List ℕ) (b : Bool)
        → (b || list_any (λ other. other == link) links) ≡ false
        → (list_any (λ other. other == link) links ≡ false
        → find (λ (table : LinkTable). table.link == link) (map (λ one. record { link = one; rows = rows_on x.rules one }) links) ≡ None)
        → cond b (Some (record { link = one; rows = rows_on x.rules one }))
        (find (λ (table : LinkTable). table.link == link) (map (λ one. record { link = one; rows = rows_on x.rules one }) links)) ≡ None
    none_by x link one links true h later = absurd (true≢false h)
    none_by x link one links false h later = later h

tabled_none : (x : Rules) (s : State) (link : ℕ) → list_any (λ other. other == link) x.controlled ≡ false
    → tabled x (tables_of x) s link ≡ None
unfolding tabled tables_of
tabled_none x s link h =
    ap (option_and_then (λ (table : LinkTable). ordered_by x s table.rows)) (no_table x link x.controlled h)

settled_none : (x : Rules) (s : State) (link : ℕ) (o : Option ActionAt) → CompleteLists x
    → list_any (λ other. other == link) x.controlled ≡ false
    → IfSome o (λ at. IsTrue (is_on x.rules link at)) → o ≡ None
settled_none x s link None lists h on = refl
settled_none x s link (Some at) lists h on = absurd (true≢false (sym (on_among x link at lists on) ∙ h))

link_settled : (x : Rules) (s : State) (link : ℕ) (b : Bool) → WellFormed x
    → list_any (λ other. other == link) x.controlled ≡ b
    → tabled x (tables_of x) s link ≡ settling x s link
link_settled x s link true formed is =
    let found = any_found (λ (other : ℕ). other == link) x.controlled is in
    let same : found.one ≡ link = eqb-true found.one link found.passes in
    let at : slice_get x.controlled found.place ≡ Some link = found.is ∙ ap Some same in
    settled-tables x s link
    (found.place, slice_get_within x.controlled found.place link at, get_or_from_slice_get x.controlled found.place link link at)
link_settled x s link false formed is =
    tabled_none x s link is
    ∙ sym (settled_none x s link (settling x s link) (opened-lists x formed.lists) is ((orders-settled x).each s link))

pub settled_choice : (x : Rules) → WellFormed x → tabled x (tables_of x) ≡ settling x
settled_choice x formed = λ i s link. link_settled x s link (list_any (λ (other : ℕ). other == link) x.controlled) formed refl i

pub plan_settles : (x : Rules) (plan : Plan) (tables : List LinkTable) → WellFormed x → ServesRules x tables
    → IsPlanOf plan tables → tables ≡ tables_of x → planned x plan ≡ settling x
plan_settles x plan tables formed serves made compiled =
    plan_orders x plan tables serves made ∙ ap (tabled x) compiled ∙ settled_choice x formed

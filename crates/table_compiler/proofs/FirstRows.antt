-- The first row that holds: on each link that of the first rule by rank whose listed branch acts
-- there.
use Rattle.std.proofs.Common.{◌≡◌, ℕ, Bool, true, false, not, cond, Option, Some, None, List, [], ◌∷◌, ◌++◌, refl, sym, ap, ◌∙◌, arith, slice_get}
use Rattle.std.specs.List.{find, flat_map}
use Rattle.std.specs.Option.{option_map, option_or}
use Rattle.std.proofs.lemmas.List.Folds.{find-append}
use Rattle.rule_types.specs.declared.action.ActionAt.{ActionAt}
use Rattle.rule_types.specs.declared.action.Branch.{Branch}
use Rattle.rule_types.specs.declared.action.Branch.TheVariants.{Then, Otherwise}
use Rattle.rule_types.specs.declared.condition.Condition.{Condition}
use Rattle.rule_types.specs.declared.rule.Rule.{Rule}
use Rattle.rule_types.specs.declared.rules.Rules.{Rules}
use Rattle.rule_types.specs.declared.state.State.{State}
use Rattle.rule_types.specs.Reading.{branch_actions}
use Rattle.rule_meaning.specs.Premise.{premise_holds, listed_branch}
use Rattle.rule_meaning.specs.Condition.{holds}
use Rattle.rule_meaning.specs.Reading.{conditions_of, conditions_at}
use Rattle.rule_meaning.specs.Settled.{as_list}
use Rattle.table_compiler.specs.declared.table.Clause.{Clause}
use Rattle.table_compiler.specs.declared.table.TableRow.{TableRow}
use Rattle.table_compiler.specs.Clauses.{clauses_of, is_possible}
use Rattle.table_compiler.specs.Rows.{first_on, row_by, branch_row, branch_rows, rule_rows, is_always_by, is_always, cut, ranked, rows_on}
use Rattle.table_compiler.specs.Meaning.{all_hold, row_holds, ordered_by}
use Rattle.table_compiler.proofs.PartTruth.{premise_is, impossible}

-- ---- rows behind one that always holds
always_true : (x : Rules) (s : State) (conditions : List Condition) (negated : Bool) (clauses : List Clause) → is_always_by negated clauses ≡ true → cond negated (not (all_hold x s conditions clauses)) (all_hold x s conditions clauses) ≡ true
always_true x s conditions false [] h = refl
always_true x s conditions false (clause ∷ more) h = absurd (grind arith)
always_true x s conditions true clauses h = absurd (grind arith)

always_holds : (x : Rules) (s : State) (row : TableRow) → is_always row ≡ true → row_holds x s row ≡ true
unfolding row_holds
always_holds x s row h = always_true x s (conditions_at x.rules row.action) row.negated row.clauses h

cut_found_by : (x : Rules) (s : State) (row : TableRow) (more : List TableRow) (b : Bool) → is_always row ≡ b → find (row_holds x s) (cut more) ≡ find (row_holds x s) more → find (row_holds x s) (cut (row ∷ more)) ≡ find (row_holds x s) (row ∷ more)
unfolding cut
cut_found_by x s row more true is h = rw is (rw (always_holds x s row is) refl)
cut_found_by x s row more false is h = rw is (ap (λ o. cond (row_holds x s row) (Some row) o) h)

cut_found : (x : Rules) (s : State) (rows : List TableRow) → find (row_holds x s) (cut rows) ≡ find (row_holds x s) rows
unfolding cut
cut_found x s [] = refl
cut_found x s (row ∷ more) = cut_found_by x s row more (is_always row) refl (cut_found x s more)

-- ---- rows of a rule
abbrev pub first_action : Rules → State → List TableRow → Option ActionAt
first_action x s rows = option_map (λ row. row.action) (find (row_holds x s) rows)

map_or : (o p : Option TableRow) → option_map (λ (row : TableRow). row.action) (option_or o p) ≡ option_or (option_map (λ row. row.action) o) (option_map (λ row. row.action) p)
map_or None p = refl
map_or (Some row) p = refl

first_append : (x : Rules) (s : State) (rows more : List TableRow) → first_action x s (rows ++ more) ≡ option_or (first_action x s rows) (first_action x s more)
first_append x s rows more =
    ap (option_map (λ (row : TableRow). row.action)) (find-append (row_holds x s) rows more)
    ∙ map_or (find (row_holds x s) rows) (find (row_holds x s) more)

-- whether a branch is listed, where the premise holds or not
abbrev pub listed_by : Branch → Bool → Bool
listed_by Then premise = premise
listed_by Otherwise premise = not premise

one_row : (row : TableRow) (b : Bool) → option_map (λ (one : TableRow). one.action) (cond b (Some row) None) ≡ cond b (Some row.action) None
one_row row true = refl
one_row row false = refl

row_found : (x : Rules) (s : State) (at : ActionAt) (clauses : List Clause) (conditions : List Condition) (branch : Branch) (possible premise : Bool) → conditions_at x.rules at ≡ conditions → all_hold x s conditions clauses ≡ premise → (possible ≡ false → premise ≡ false) → first_action x s (as_list (row_by at clauses branch possible)) ≡ cond (listed_by branch premise) (Some at) None
unfolding row_holds
row_found x s at clauses conditions Then true premise is holds never = rw (is, holds) (one_row (record { action = at; negated = false; clauses = clauses }) premise)
row_found x s at clauses conditions Then false premise is holds never = rw (never refl) refl
row_found x s at clauses conditions Otherwise true premise is holds never = rw (is, holds) (one_row (record { action = at; negated = true; clauses = clauses }) (not premise))
row_found x s at clauses conditions Otherwise false premise is holds never = rw (never refl) refl

-- the place of the first action of a branch
abbrev pub at_first : ℕ → Branch → Option ℕ → Option ActionAt
at_first place branch None = None
at_first place branch (Some action) = Some (record { rule = place; branch = branch; action = action })

both_none : (b : Bool) → None ≡ cond {A = Option ActionAt} b None None
both_none true = refl
both_none false = refl

conditions_there : (x : Rules) (rule : Rule) (at : ActionAt) → slice_get x.rules at.rule ≡ Some rule → conditions_at x.rules at ≡ rule.conditions
unfolding conditions_at
conditions_there x rule at is = ap conditions_of is

never_by : (x : Rules) (s : State) (rule : Rule) → is_possible (clauses_of rule.conditions) ≡ false → premise_holds x s rule ≡ false
never_by x s rule h = sym (premise_is x s rule.conditions) ∙ impossible x s rule.conditions (clauses_of rule.conditions) h

pub branch_found : (x : Rules) (s : State) (rule : Rule) (place : ℕ) (branch : Branch) (o : Option ℕ) → slice_get x.rules place ≡ Some rule → first_action x s (branch_row place branch (clauses_of rule.conditions) o) ≡ cond (listed_by branch (premise_holds x s rule)) (at_first place branch o) None
branch_found x s rule place branch None is = both_none (listed_by branch (premise_holds x s rule))
branch_found x s rule place branch (Some action) is =
    let at : ActionAt = record { rule = place; branch = branch; action = action } in
    row_found x s at (clauses_of rule.conditions) rule.conditions branch (is_possible (clauses_of rule.conditions)) (premise_holds x s rule)
    (conditions_there x rule at is) (premise_is x s rule.conditions) (never_by x s rule)

or_none : (o : Option ActionAt) → option_or o None ≡ o
or_none None = refl
or_none (Some at) = refl

listed_one : (place : ℕ) (premise : Bool) (f : Branch → Option ActionAt) → option_or (cond premise (f Then) None) (cond (not premise) (f Otherwise) None) ≡ f (cond premise Then Otherwise)
listed_one place true f = or_none (f Then)
listed_one place false f = refl

-- what a rule orders on a link
abbrev pub rule_order : Rules → State → ℕ → ℕ → Option ActionAt
rule_order x s link place = first_action x s (rule_rows link place (slice_get x.rules place))

pub rule_order_is : (x : Rules) (s : State) (link place : ℕ) (rule : Rule) → slice_get x.rules place ≡ Some rule → rule_order x s link place ≡ at_first place (listed_branch x s rule) (first_on link (branch_actions rule (listed_branch x s rule)))
unfolding branch_rows
rule_order_is x s link place rule is =
    let f : Branch → Option ActionAt = λ branch. at_first place branch (first_on link (branch_actions rule branch)) in
    ap (λ o. first_action x s (rule_rows link place o)) is
    ∙ first_append x s (branch_rows link place Then rule) (branch_rows link place Otherwise rule)
    ∙ ap (λ o. option_or o (first_action x s (branch_rows link place Otherwise rule))) (branch_found x s rule place Then (first_on link rule.then_actions) is)
    ∙ ap (λ o. option_or (cond (premise_holds x s rule) (f Then) None) o) (branch_found x s rule place Otherwise (first_on link rule.else_actions) is)
    ∙ listed_one place (premise_holds x s rule) f

pub no_rule_order : (x : Rules) (s : State) (link place : ℕ) → slice_get x.rules place ≡ None → rule_order x s link place ≡ None
no_rule_order x s link place is = ap (λ o. first_action x s (rule_rows link place o)) is

-- ---- rows of all rules
abbrev pub firsts : (ℕ → Option ActionAt) → List ℕ → Option ActionAt
firsts order [] = None
firsts order (place ∷ more) = option_or (order place) (firsts order more)

all_found : (x : Rules) (s : State) (rows : ℕ → List TableRow) (places : List ℕ) → first_action x s (flat_map rows places) ≡ firsts (λ place. first_action x s (rows place)) places
all_found x s rows [] = refl
all_found x s rows (place ∷ more) =
    first_append x s (rows place) (flat_map rows more)
    ∙ ap (λ o. option_or (first_action x s (rows place)) o) (all_found x s rows more)

pub ordered_is : (x : Rules) (s : State) (link : ℕ) → ordered_by x s (rows_on x.rules link) ≡ firsts (rule_order x s link) (ranked x.rules)
unfolding ordered_by rows_on
ordered_is x s link =
    ap (option_map (λ (row : TableRow). row.action)) (cut_found x s (flat_map (λ place. rule_rows link place (slice_get x.rules place)) (ranked x.rules)))
    ∙ all_found x s (λ place. rule_rows link place (slice_get x.rules place)) (ranked x.rules)

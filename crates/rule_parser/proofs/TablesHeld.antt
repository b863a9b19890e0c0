-- Each table that a rule of a project names is among the project's tables.
use Rattle.std.proofs.Common.{◌≡◌, ℕ, zero, suc, ◌+◌, ◌<◌, Bool, true, false, List, [], ◌∷◌, length, Option, None, Some, Result, Ok, Err, refl, sym, subst, ap, ◌∙◌, arith, map, get_or}
use Rattle.std.specs.Prelude.{IfOk, IfSome, IsSomeAnd, All, ⊤, slice_get, option_map, reverse}
use Rattle.std.proofs.lemmas.List.{length-map}
use Rattle.std.proofs.lemmas.List.Elements.{All-append, All-weaker}
use Rattle.std.proofs.lemmas.Option.{slice_get-map, slice_get-get_or}
use Rattle.inp_text.specs.Sections.{Line, section_lines, first_long}
use Rattle.inp_text.specs.declared.section_kind.SectionKind.{SectionKind}
use Rattle.inp_text.specs.declared.section_kind.SectionKind.TheVariants.{Options, Controls, Curves, Series}
use Rattle.inp_text.specs.declared.source_line.SourceLine.{SourceLine}
use Rattle.rule_types.specs.Reading.{rule_actions}
use Rattle.rule_types.specs.Refusals.{earlier}
use Rattle.rule_types.specs.Tables.{TableSet, IsPointList, held, HoldsTableOf, HoldsTables}
use Rattle.rule_types.specs.declared.action.What.{What}
use Rattle.rule_types.specs.declared.action.What.TheVariants as what
use Rattle.rule_types.specs.declared.refusal.Refusal.{Refusal}
use Rattle.rule_types.specs.declared.rule.Rule.{Rule}
use Rattle.curves_series.specs.Curves.{curve_of}
use Rattle.curves_series.specs.Groups.{Group, groups_of, names_of}
use Rattle.curves_series.specs.Names.{curve_word, series_word, is_used, named_tables}
use Rattle.curves_series.specs.Reading.{TableRead, held_of, held_from, refusal_from, some_read, curve_read, series_read, held_tables, table_refusal, unless_refused, tables_in, HavePoints}
use Rattle.curves_series.specs.Reading as tables
use Rattle.curves_series.specs.Series.{series_of, is_file_series}
use Rattle.curves_series.proofs.PublicLaws.{points_of_tables-points}
use Rattle.network_lines.specs.declared.network.Network.{Network}
use Rattle.network_lines.specs.declared.options.OptionSet.{OptionSet}
use Rattle.network_lines.specs.Options.{no_options, options_from}
use Rattle.rule_parser.specs.Controls.{draft_rules}
use Rattle.rule_parser.specs.Projects.{rules_of, project_unless, project_in, project_of, first_refusal, network_of, tables_of, context_of, draft_of}
use Rattle.rule_parser.specs.declared.draft.Draft.{Draft}
use Rattle.rule_parser.specs.declared.project.Project.{Project}
use Rattle.rule_parser.proofs.TablesUsed.{IsNoFile, UsesTable, RuleHas, DraftHas, rules_have, controls_use}

-- ---- what is held of tables
-- a table is read, or refused
abbrev IsRead : {A : Type 0} → TableRead A → Type 0
IsRead (Ok None) = ⊥
IsRead (Ok (Some table)) = ⊤
IsRead (Err refusal) = ⊤

none_of_both : (one other : Option Refusal) → earlier one other ≡ None → (one ≡ None) × (other ≡ None)
unfolding earlier
none_of_both None other e = (refl, e)
none_of_both (Some one) None e = cc
none_of_both (Some one) (Some other) e = cc

first_held : {A : Type 0} (P : A → Type 0) (read : TableRead A) → tables.refusal_of read ≡ None → IsRead read
    → IfSome (held_of read) P → IsSomeAnd (held_of read) P
first_held P (Ok None) e r h = absurd r
first_held P (Ok (Some table)) e r h = h
first_held P (Err refusal) e r h = cc

same_place : (place number : ℕ) → place ≡ 0 + number → place ≡ number
same_place place number e = omega (arith, e)

held_at : {A : Type 0} (P : A → Type 0) (read : ℕ → Group → TableRead A) (number : ℕ) (groups : List Group)
    (k place : ℕ) (d : Group) → k < length groups → place ≡ k + number → refusal_from read number groups ≡ None
    → IsRead (read place (get_or groups k d)) → All (λ table. IfSome table P) (held_from read number groups)
    → IsSomeAnd (held (slice_get (held_from read number groups) k)) P
unfolding held_from refusal_from
held_at P read number [] k place d lt e f r h = absurd (omega (arith, lt))
held_at P read number (group ∷ later) zero place d lt e f r h =
    first_held P (read number group) (none_of_both (tables.refusal_of (read number group)) (refusal_from read (suc number) later) f).0
    (subst (λ n. IsRead (read n group)) (same_place place number e) r) (h 0 None (omega arith))
held_at P read number (group ∷ later) (suc k) place d lt e f r h =
    held_at P read (suc number) later k place d (omega (arith, lt)) (omega (arith, e))
    (none_of_both (tables.refusal_of (read number group)) (refusal_from read (suc number) later) f).1 r
    (λ j c within. h (suc j) c (omega (arith, within)))

some_is_read : {A : Type 0} (read : Result A Refusal) → IsRead (some_read read)
some_is_read (Ok table) = tt
some_is_read (Err refusal) = tt

no_table : Group
no_table = record { name = []; lines = [] }

curve_is_read : (controls : List SourceLine) (groups : List Group) (k : ℕ) (group : Group)
    → is_used curve_word controls (names_of groups) k ≡ true → IsRead (curve_read controls groups k group)
curve_is_read controls groups k group e = rw e (some_is_read (curve_of group))

no_file : (mark : Bool) → IsNoFile (Some mark) → mark ≡ false
no_file true h = absurd h
no_file false h = refl

marked : (groups : List Group) (k : ℕ) → k < length groups → IsNoFile (slice_get (map is_file_series groups) k)
    → is_file_series (get_or groups k no_table) ≡ false
marked groups k lt h =
    no_file (is_file_series (get_or groups k no_table))
    (subst IsNoFile (slice_get-map is_file_series groups k ∙ ap (option_map is_file_series) (slice_get-get_or groups k no_table lt)) h)

series_is_read : (controls : List SourceLine) (groups : List Group) (k : ℕ) (group : Group)
    → is_used series_word controls (names_of groups) k ≡ true → is_file_series group ≡ false
    → IsRead (series_read controls groups k group)
series_is_read controls groups k group e f = rw (e, f) (some_is_read (series_of group))

curve_held : (controls : List SourceLine) (groups : List Group) (k : ℕ)
    → refusal_from (curve_read controls groups) 0 groups ≡ None
    → All (λ table. IfSome table (λ curve. IsPointList curve.points)) (held_from (curve_read controls groups) 0 groups)
    → is_used curve_word controls (names_of groups) k ≡ true → k < length (names_of groups)
    → IsSomeAnd (held (slice_get (held_from (curve_read controls groups) 0 groups) k)) (λ curve. IsPointList curve.points)
curve_held controls groups k e h used lt =
    held_at (λ curve. IsPointList curve.points) (curve_read controls groups) 0 groups k k no_table
    (subst (λ n. k < n) (length-map groups (λ group. group.name)) lt) (omega arith) e
    (curve_is_read controls groups k (get_or groups k no_table) used) h

series_held : (controls : List SourceLine) (groups : List Group) (k : ℕ)
    → refusal_from (series_read controls groups) 0 groups ≡ None
    → All (λ table. IfSome table (λ series. IsPointList series.points)) (held_from (series_read controls groups) 0 groups)
    → is_used series_word controls (names_of groups) k ≡ true → k < length (names_of groups)
    → IsNoFile (slice_get (map is_file_series groups) k)
    → IsSomeAnd (held (slice_get (held_from (series_read controls groups) 0 groups) k)) (λ series. IsPointList series.points)
series_held controls groups k e h used lt mark =
    let within : k < length groups = subst (λ n. k < n) (length-map groups (λ group. group.name)) lt in
    held_at (λ series. IsPointList series.points) (series_read controls groups) 0 groups k k no_table
    within (omega arith) e
    (series_is_read controls groups k (get_or groups k no_table) used (marked groups k within mark)) h

value_held : (controls curves series : List SourceLine) (value : What)
    → table_refusal controls (groups_of curves) (groups_of series) ≡ None
    → HavePoints (held_tables controls (groups_of curves) (groups_of series))
    → UsesTable controls (named_tables curves series) value
    → HoldsTableOf (held_tables controls (groups_of curves) (groups_of series)) value
value_held controls curves series (what.Constant q) e h u = tt
value_held controls curves series (what.Curve number) e h u =
    curve_held controls (groups_of curves) number.index
    (none_of_both (refusal_from (curve_read controls (groups_of curves)) 0 (groups_of curves))
    (refusal_from (series_read controls (groups_of series)) 0 (groups_of series)) e).0 h.curves u.0 u.1
value_held controls curves series (what.Series number) e h u =
    series_held controls (groups_of series) number.index
    (none_of_both (refusal_from (curve_read controls (groups_of curves)) 0 (groups_of curves))
    (refusal_from (series_read controls (groups_of series)) 0 (groups_of series)) e).1 h.series u.0 u.1 u.2
value_held controls curves series (what.Pid set number) e h u = tt

-- what holds of the tables that are held, holds of those that are read
unless_by : (P : TableSet → Type 0) (refusal : Option Refusal) (found : TableSet)
    → (refusal ≡ None → IfOk (unless_refused refusal found) HavePoints → P found)
    → IfOk (unless_refused refusal found) HavePoints → IfOk (unless_refused refusal found) P
unless_by P None found h k = h refl k
unless_by P (Some refusal) found h k = tt

points_held : (refusal : Option Refusal) (found : TableSet) → refusal ≡ None
    → IfOk (unless_refused refusal found) HavePoints → HavePoints found
points_held None found e h = h
points_held (Some refusal) found e h = cc

-- the tables that are read hold each table that is used
tables_hold : (controls curves series : List SourceLine)
    → IfOk (tables_in controls curves series) (λ found. (value : What)
    → UsesTable controls (named_tables curves series) value → HoldsTableOf found value)
unfolding tables_in
tables_hold controls curves series =
    let refusal = table_refusal controls (groups_of curves) (groups_of series) in
    let found = held_tables controls (groups_of curves) (groups_of series) in
    unless_by (λ found. (value : What) → UsesTable controls (named_tables curves series) value → HoldsTableOf found value)
    refusal found
    (λ e h value u. value_held controls curves series value e (points_held refusal found e h) u)
    (points_of_tables-points controls curves series)

-- ---- rules
rule_holds : (found : TableSet) (P : What → Type 0) (rule : Rule) → ((value : What) → P value → HoldsTableOf found value)
    → RuleHas P rule → All (λ action. HoldsTableOf found action.what) (rule_actions rule)
rule_holds found P rule f h =
    All-append (λ action. HoldsTableOf found action.what) rule.then_actions rule.else_actions
    (All-weaker (λ action. P action.what) (λ action. HoldsTableOf found action.what) (λ action p. f action.what p) rule.then_actions h.then_actions)
    (All-weaker (λ action. P action.what) (λ action. HoldsTableOf found action.what) (λ action p. f action.what p) rule.else_actions h.else_actions)

rules_hold : (found : TableSet) (P : What → Type 0) (draft : Draft) → ((value : What) → P value → HoldsTableOf found value)
    → DraftHas P draft → HoldsTables found (draft_rules draft)
rules_hold found P draft f h =
    All-weaker (RuleHas P) (λ rule. All (λ action. HoldsTableOf found action.what) (rule_actions rule))
    (λ rule k. rule_holds found P rule f k) (draft_rules draft) (rules_have P draft h)

-- ---- projects
unless_holds : (P : What → Type 0) (refusal : Option Refusal) (options : OptionSet) (network : Network)
    (found : Result TableSet Refusal) (draft : Result Draft Refusal)
    → IfOk found (λ found. (value : What) → P value → HoldsTableOf found value) → IfOk draft (DraftHas P)
    → IfOk (project_unless refusal options network found draft) (λ project. HoldsTables project.tables project.rules.rules)
unfolding rules_of
unless_holds P (Some refusal) options network found draft h k = tt
unless_holds P None options network (Err refusal) draft h k = tt
unless_holds P None options network (Ok found) (Err refusal) h k = tt
unless_holds P None options network (Ok found) (Ok draft) h k = rules_hold found P draft h k

project_holds : (lines : SectionKind → List SourceLine) (long : Option ℕ)
    → IfOk (project_in lines long) (λ project. HoldsTables project.tables project.rules.rules)
unfolding project_in
project_holds lines long =
    unless_holds (UsesTable (lines Controls) (named_tables (lines Curves) (lines Series))) (first_refusal lines long)
    (options_from no_options (lines Options)) (network_of lines) (tables_of lines) (draft_of lines)
    (tables_hold (lines Controls) (lines Curves) (lines Series)) (controls_use (context_of lines) (lines Controls))

-- the tables of a project hold each curve and each series that its rules name
pub tables_held : (file : List Line) → IfOk (project_of file) (λ project. HoldsTables project.tables project.rules.rules)
tables_held file =
    project_holds (λ kind. section_lines kind (reverse file)) (first_long (reverse file))

-- the same of what is read
pub read_holds : (file : List Line) (project : Project) → Ok project ≡ project_of file
    → HoldsTables project.tables project.rules.rules
read_holds file project e =
    subst (λ read. IfOk read (λ project. HoldsTables project.tables project.rules.rules)) (sym e) (tables_held file)

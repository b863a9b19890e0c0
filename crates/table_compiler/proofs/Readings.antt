-- Readings by tables are readings by the settled pairs.
use Rattle.std.proofs.Common.{◌≡◌, ℕ, List, [], ◌∷◌, refl, ap, ◌∙◌}
use Rattle.std.specs.Prelude.{All}
use Rattle.std.specs.List.{Contains}
use Rattle.std.proofs.lemmas.List.Elements.{All-nil, All-cons, All-contains_itself, All-weaker, All-head, All-tail}
use Rattle.rule_types.specs.declared.action.PidMemory.{PidMemory}
use Rattle.rule_types.specs.declared.rules.Rules.{Rules}
use Rattle.rule_types.specs.declared.state.State.{State}
use Rattle.rule_types.specs.Tables.{TableSet}
use Rattle.rule_meaning.specs.Formula.{names_stop}
use Rattle.rule_meaning.specs.Premise.{listed}
use Rattle.rule_meaning.specs.Reading.{Choice, settling, pids_stop, order_then, orders_on, unless_stopped, read_by, AgreeAt}
use Rattle.rule_meaning.specs.History.{reading_by, memory_by, reading, memory}
use Rattle.rule_meaning.proofs.PublicLaws.{choices-reading, choices-memory}
use Rattle.table_compiler.specs.Rows.{tables_of}
use Rattle.table_compiler.specs.Meaning.{tabled}
use Rattle.table_compiler.proofs.SettledRows.{tables_settle}

abbrev by_tables : Rules → Choice
by_tables x = tabled x (tables_of x)

all_settle : (x : Rules) (s : State) → All (λ link. by_tables x s link ≡ settling x s link) x.controlled
all_settle x s = All-weaker (Contains x.controlled) (λ link. by_tables x s link ≡ settling x s link) (tables_settle x s) x.controlled (All-contains_itself x.controlled)

pub tables_agree : (x : Rules) (s : State) → AgreeAt x (by_tables x) (settling x) s
tables_agree x s = record { pairs = λ runs. all_settle x s }

agree_all : (x : Rules) (states : List State) → All (AgreeAt x (by_tables x) (settling x)) states
agree_all x [] = All-nil (AgreeAt x (by_tables x) (settling x))
agree_all x (s ∷ older) = All-cons (AgreeAt x (by_tables x) (settling x)) s older (tables_agree x s) (agree_all x older)

same_orders : (choice other : Choice) (x : Rules) (tables : TableSet) (s : State) (memory : ℕ → PidMemory) (links : List ℕ) → All (λ link. choice s link ≡ other s link) links → orders_on choice x tables s memory links ≡ orders_on other x tables s memory links
unfolding orders_on
same_orders choice other x tables s memory [] h = refl
same_orders choice other x tables s memory (link ∷ links) h =
    let first : choice s link ≡ other s link = All-head (λ one. choice s one ≡ other s one) link links h in
    ap (λ o. order_then x tables s memory link o (orders_on choice x tables s memory links)) first
    ∙ ap (λ r. order_then x tables s memory link (other s link) r)
    (same_orders choice other x tables s memory links (All-tail (λ one. choice s one ≡ other s one) link links h))

pub same_read : (x : Rules) (tables : TableSet) (s : State) (memory : ℕ → PidMemory) → read_by (by_tables x) x tables s memory ≡ read_by (settling x) x tables s memory
same_read x tables s memory =
    ap (λ r. unless_stopped (names_stop x s) (unless_stopped (pids_stop x s memory (listed x s)) r))
    (same_orders (by_tables x) (settling x) x tables s memory x.controlled (all_settle x s))

pub same_reading : (x : Rules) (tables : TableSet) (older : List State) (s : State) → reading_by (by_tables x) x tables older s ≡ reading x tables older s
same_reading x tables older s = choices-reading (by_tables x) (settling x) x tables older s (tables_agree x s) (agree_all x older)

pub same_memory : (x : Rules) (tables : TableSet) (states : List State) (number : ℕ) → memory_by (by_tables x) x tables states number ≡ memory x tables states number
same_memory x tables states number = choices-memory (by_tables x) (settling x) x tables states number (agree_all x states)

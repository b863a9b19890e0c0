-- Choices that agree give the same readings.
use Rattle.std.proofs.Common.{◌≡◌, ℕ, suc, Option, Some, None, Result, Ok, List, [], ◌∷◌, refl, ap}
use Rattle.std.proofs.Common.{◌∙◌, arith, cond}
use Rattle.std.specs.List.{All}
use Rattle.rule_types.specs.declared.action.PidMemory.{PidMemory}
use Rattle.rule_types.specs.declared.rules.Rules.{Rules}
use Rattle.rule_types.specs.declared.state.State.{State}
use Rattle.rule_types.specs.declared.stop.Stop.{Stop}
use Rattle.rule_types.specs.Tables.{TableSet}
use Rattle.rule_meaning.specs.Formula.{names_stop}
use Rattle.rule_meaning.specs.Premise.{listed}
use Rattle.rule_meaning.specs.Reading.{Choice, order_then, orders_on, unless_stopped, pids_stop}
use Rattle.rule_meaning.specs.Reading.{read_by, AgreeAt}
use Rattle.rule_meaning.specs.History.{is_due, memory_read, memory_by, reading_by, gap_hours}
use Rattle.rule_meaning.specs.History.{standings_after, standings_by}

-- the first and the further elements of a list of which all are so
pub all_first : {X : Type 0} (P : X → Type 0) (x : X) (xs : List X) → All P (x ∷ xs) → P x
all_first P x xs h = h 0 x (omega arith)

pub all_later : {X : Type 0} (P : X → Type 0) (x : X) (xs : List X) → All P (x ∷ xs) → All P xs
all_later P x xs h = λ k d below. h (suc k) d (omega (arith, below))

same_orders : (choice other : Choice) (x : Rules) (tables : TableSet) (s : State)
    (memory : ℕ → PidMemory) (links : List ℕ) → All (λ link. choice s link ≡ other s link) links
    → orders_on choice x tables s memory links ≡ orders_on other x tables s memory links
unfolding orders_on
same_orders choice other x tables s memory [] h = refl
same_orders choice other x tables s memory (link ∷ links) h =
    let first = all_first (λ link. choice s link ≡ other s link) link links h in
    let later =
    same_orders choice other x tables s memory links
    (all_later (λ link. choice s link ≡ other s link) link links h) in
    λ i. order_then x tables s memory link (first i) (later i)

unless_same : {A : Type 0} (stop : Option Stop) (next other : Result A Stop)
    → (stop ≡ None → next ≡ other) → unless_stopped stop next ≡ unless_stopped stop other
unless_same None next other h = h refl
unless_same (Some stop) next other h = refl

same_read : (choice other : Choice) (x : Rules) (tables : TableSet) (s : State)
    (memory : ℕ → PidMemory) → AgreeAt x choice other s
    → read_by choice x tables s memory ≡ read_by other x tables s memory
same_read choice other x tables s memory agree =
    unless_same (names_stop x s) _ _
    (λ none. ap (unless_stopped (pids_stop x s memory (listed x s)))
    (same_orders choice other x tables s memory x.controlled (agree.pairs none)))

same_read_after : (choice other : Choice) (x : Rules) (tables : TableSet) (s : State)
    (older : List State) → AgreeAt x choice other s
    → memory_by choice x tables older ≡ memory_by other x tables older
    → read_by choice x tables s (memory_by choice x tables older)
    ≡ read_by other x tables s (memory_by other x tables older)
same_read_after choice other x tables s older agree same =
    ap (read_by choice x tables s) same ∙ same_read choice other x tables s
    (memory_by other x tables older) agree

same_memories : (choice other : Choice) (x : Rules) (tables : TableSet) (older : List State)
    → All (AgreeAt x choice other) older → memory_by choice x tables older
    ≡ memory_by other x tables older
same_memories choice other x tables [] h = refl
same_memories choice other x tables (s ∷ older) h =
    let before =
    same_memories choice other x tables older (all_later (AgreeAt x choice other) s older h) in
    let read =
    same_read_after choice other x tables s older
    (all_first (AgreeAt x choice other) s older h) before in
    λ i number. cond (is_due x.rule_step older s) (memory_read x s (before i) number (read i))
    (before i number)

pub same_memory : (choice other : Choice) (x : Rules) (tables : TableSet) (older : List State)
    (number : ℕ) → All (AgreeAt x choice other) older
    → memory_by choice x tables older number ≡ memory_by other x tables older number
same_memory choice other x tables older number h =
    λ i. same_memories choice other x tables older h i number

pub same_reading : (choice other : Choice) (x : Rules) (tables : TableSet) (older : List State)
    (s : State) → AgreeAt x choice other s → All (AgreeAt x choice other) older
    → reading_by choice x tables older s ≡ reading_by other x tables older s
same_reading choice other x tables older s agree h =
    let read =
    same_read_after choice other x tables s older agree
    (same_memories choice other x tables older h) in
    λ i. cond (is_due x.rule_step older s) (read i) (Ok [])

pub same_standings : (choice other : Choice) (x : Rules) (tables : TableSet) (older : List State)
    (s : State) → AgreeAt x choice other s → All (AgreeAt x choice other) older
    → standings_by choice x tables older s ≡ standings_by other x tables older s
same_standings choice other x tables older s agree h =
    ap (standings_after x (gap_hours x.routing_step older s) s)
    (same_reading choice other x tables older s agree h)

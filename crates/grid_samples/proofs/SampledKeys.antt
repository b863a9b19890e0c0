-- Each key of a question's grid is one whose value a sample takes from the cell.
use Rattle.std.proofs.Common.{◌≡◌, ℕ, false, ◌⊎◌, inl, inr, Option, Some, None, List, [], ◌∷◌, ◌++◌, refl, sym, ap, ◌∙◌}
use Rattle.std.proofs.lemmas.Bool.{true≢false}
use Rattle.std.proofs.lemmas.List.Elements.{recursion_from_All}
use Rattle.std.specs.List.{AllByRecursion, flat_map}
use Rattle.std.specs.Prelude.{Contains, IsTrue, slice_get}
use Rattle.rule_types.specs.declared.condition.Condition.{Condition}
use Rattle.rule_types.specs.declared.condition.Right.{Right}
use Rattle.rule_types.specs.declared.condition.Right.TheVariants as right
use Rattle.rule_types.specs.declared.condition.Side.{Side}
use Rattle.rule_types.specs.declared.condition.Side.TheVariants as side
use Rattle.rule_types.specs.declared.key.Attr.{Attr}
use Rattle.rule_types.specs.declared.key.Attr.TheVariants as attr
use Rattle.rule_types.specs.declared.key.Key.{Key}
use Rattle.rule_types.specs.declared.key.Key.TheVariants.{Object, Clock}
use Rattle.rule_types.specs.declared.names.NameDef.{NameDef}
use Rattle.rule_types.specs.declared.names.NameKind.{NameKind}
use Rattle.rule_types.specs.declared.names.NameKind.TheVariants.{Variable, Formula}
use Rattle.rule_types.specs.declared.object.ObjectNo.{ObjectNo}
use Rattle.rule_types.specs.declared.object.Space.{Space}
use Rattle.rule_types.specs.declared.object.Space.TheVariants.{Nodes, Links, Gages}
use Rattle.rule_types.specs.declared.rule.Rule.{Rule}
use Rattle.rule_types.specs.declared.rules.Rules.{Rules}
use Rattle.rule_types.specs.Keys.{gage_has, has_attribute, is_input, is_key, link_read, node_has}
use Rattle.rule_types.specs.Reading.{at_name, condition_reads, keys_read, kind_key, kind_names, name_keys, right_keys, side_keys, side_names, variable_keys}
use Rattle.rule_types.specs.WellFormed.{ConditionFits, KindFits, NamesFit, RightFits, RuleFits, SideFits, WellFormed}
use Rattle.rule_types.proofs.PublicLaws.{opened-lists}
use Rattle.rule_meaning.specs.SomeRules.{rules_at}
use Rattle.verdict_meaning.specs.declared.question.Question.{Question}
use Rattle.verdict_meaning.specs.declared.question.Question.TheVariants.{Conflict, Dead, Limit}
use Rattle.verdict_meaning.specs.Questions.{asked_numbers, asked_rules, grid_keys, grid_keys_of, limit_keys, setting_key}
use Rattle.grid_samples.specs.Cells.{TracksLimit}
use Rattle.grid_samples.proofs.Each.{each_append, each_at, each_by, each_by_both, each_flat, each_of, flat_each}
use Rattle.grid_samples.proofs.KeyOrders.{each_ordered}

-- ---- keys that rules read
abbrev IsAKey : Key → Type 0
IsAKey key = IsTrue (is_key key)

kind_is_key : (names : List NameDef) (at : ℕ) (kind : NameKind) → KindFits names at kind
    → AllByRecursion IsAKey (kind_key kind)
kind_is_key names at (Variable key) h = (h, tt)
kind_is_key names at (Formula formula) h = tt

named_is_key : (names : List NameDef) (at : ℕ) (o : Option NameDef) → NamesFit names
    → slice_get names at ≡ o → AllByRecursion IsAKey (at_name kind_key o)
named_is_key names at None h is = tt
named_is_key names at (Some named) h is =
    kind_is_key names at named.stands_for (h at named is)

variable_is_key : (names : List NameDef) → NamesFit names → (at : ℕ)
    → AllByRecursion IsAKey (variable_keys names at)
variable_is_key names h at = named_is_key names at (slice_get names at) h refl

name_is_key : (names : List NameDef) → NamesFit names → (at : ℕ)
    → AllByRecursion IsAKey (name_keys names at)
name_is_key names h at =
    let used = at_name kind_names (slice_get names at) in
    each_append IsAKey (variable_keys names at) (flat_map (variable_keys names) used)
    (variable_is_key names h at)
    (each_flat IsAKey (variable_keys names) used
    (each_of (λ name. AllByRecursion IsAKey (variable_keys names name)) (variable_is_key names h)
    used))

left_is_key : (names : List NameDef) (left : Side) → SideFits names left
    → AllByRecursion IsAKey (side_keys left)
left_is_key names (side.Key key) h = (h, tt)
left_is_key names (side.Expr name) h = tt

right_is_key : (r : Right) → RightFits r → AllByRecursion IsAKey (right_keys r)
right_is_key (right.Key key) h = (h, tt)
right_is_key (right.Value q) h = tt

condition_is_key : (names : List NameDef) → NamesFit names → (c : Condition)
    → ConditionFits names c → AllByRecursion IsAKey (condition_reads names c)
condition_is_key names n c h =
    each_append IsAKey (side_keys c.left ++ right_keys c.right)
    (flat_map (name_keys names) (side_names c.left))
    (each_append IsAKey (side_keys c.left) (right_keys c.right) (left_is_key names c.left h.left)
    (right_is_key c.right h.right))
    (each_flat IsAKey (name_keys names) (side_names c.left)
    (each_of (λ name. AllByRecursion IsAKey (name_keys names name)) (name_is_key names n)
    (side_names c.left)))

rule_is_key : (names : List NameDef) → NamesFit names → (rule : Rule) → RuleFits names rule
    → AllByRecursion IsAKey (flat_map (condition_reads names) rule.conditions)
rule_is_key names n rule h =
    each_flat IsAKey (condition_reads names) rule.conditions
    (each_by (ConditionFits names) (λ c. AllByRecursion IsAKey (condition_reads names c))
    (condition_is_key names n) rule.conditions
    (recursion_from_All (ConditionFits names) rule.conditions h.conditions))

-- ---- keys that rules know
record IsKnown (x : Rules) (key : Key) : Type 0 where
  attribute : IsTrue (is_key key)
  input : IsTrue (is_input key) → Contains x.input_keys key
  links : AllByRecursion (Contains x.tracked) (link_read key)

abbrev IsInput : Rules → Key → Type 0
IsInput x key = IsTrue (is_input key) → Contains x.input_keys key

abbrev rule_reads : Rules → Rule → List Key
rule_reads x rule = flat_map (condition_reads x.names) rule.conditions

abbrev HasLinks : Rules → Key → Type 0
HasLinks x key = AllByRecursion (Contains x.tracked) (link_read key)

known_keys : (x : Rules) → WellFormed x
    → AllByRecursion (IsKnown x) (flat_map (rule_reads x) x.rules)
known_keys x h =
    let lists = opened-lists x h.lists in
    let all = keys_read x.names x.rules in
    let keys =
    each_flat IsAKey (rule_reads x) x.rules
    (each_by (RuleFits x.names) (λ rule. AllByRecursion IsAKey (rule_reads x rule))
    (rule_is_key x.names h.names) x.rules
    (recursion_from_All (RuleFits x.names) x.rules h.rules)) in
    let inputs = recursion_from_All (IsInput x) all lists.inputs in
    let links =
    flat_each (Contains x.tracked) link_read all
    (recursion_from_All (Contains x.tracked) (flat_map link_read all) lists.read_links) in
    each_by_both (λ key. IsTrue (is_key key) × IsInput x key) (HasLinks x) (IsKnown x)
    (λ key one other. record { attribute = one.0; input = one.1; links = other })
    all
    (each_by_both IsAKey (IsInput x) (λ key. IsTrue (is_key key) × IsInput x key)
    (λ key one other. (one, other)) all keys inputs)
    links

known_asked : (x : Rules) (numbers : List ℕ) → WellFormed x
    → AllByRecursion (IsKnown x) (flat_map (rule_reads x) (rules_at x.rules numbers))
known_asked x numbers h =
    let Reads = λ (rule : Rule). AllByRecursion (IsKnown x) (rule_reads x rule) in
    each_flat (IsKnown x) (rule_reads x) (rules_at x.rules numbers)
    (each_at Reads x.rules numbers (flat_each (IsKnown x) (rule_reads x) x.rules (known_keys x h)))

-- ---- keys of the grid
abbrev pub open_key : ℕ → Key
open_key link = Object (record { space = Links; index = link }) attr.TimeOpen

abbrev pub closed_key : ℕ → Key
closed_key link = Object (record { space = Links; index = link }) attr.TimeClosed

abbrev pub IsLinkKey : ℕ → Key → Type 0
IsLinkKey link key =
    (key ≡ setting_key link) ⊎ ((key ≡ open_key link) ⊎ (key ≡ closed_key link))

-- an input key, or the SETTING or a timer of a tracked link
abbrev pub IsSampled : Rules → Key → Type 0
IsSampled x key =
    (IsTrue (is_input key) × Contains x.input_keys key)
    ⊎ ((link : ℕ) × Contains x.tracked link × IsLinkKey link key)

in_links : (attribute : Attr) → node_has attribute ≡ false → gage_has attribute ≡ false
    → (space : Space) → IsTrue (has_attribute space attribute) → space ≡ Links
in_links attribute node gage Nodes h = absurd (true≢false (sym h ∙ node))
in_links attribute node gage Links h = refl
in_links attribute node gage Gages h = absurd (true≢false (sym h ∙ gage))

abbrev key_at : ℕ → Attr → Space → Key
key_at index attribute space = Object (record { space = space; index = index }) attribute

input_key : (x : Rules) (key : Key) → IsTrue (is_input key) → IsKnown x key
    → AllByRecursion (IsSampled x) (key ∷ [])
input_key x key input h = (inl (input, h.input input), tt)

sampled_attribute : (x : Rules) (object : ObjectNo) (attribute : Attr)
    → IsKnown x (Object object attribute)
    → AllByRecursion (IsSampled x) (grid_keys_of (Object object attribute))
sampled_attribute x object attr.Intensity h = input_key x _ refl h
sampled_attribute x object (attr.HourDepth hours) h = input_key x _ refl h
sampled_attribute x object attr.Depth h = input_key x _ refl h
sampled_attribute x object attr.MaxDepth h = input_key x _ refl h
sampled_attribute x object attr.FullDepth h = input_key x _ refl h
sampled_attribute x object attr.Head h = input_key x _ refl h
sampled_attribute x object attr.Volume h = input_key x _ refl h
sampled_attribute x object attr.Inflow h = input_key x _ refl h
sampled_attribute x object attr.Flow h = input_key x _ refl h
sampled_attribute x object attr.FullFlow h = input_key x _ refl h
sampled_attribute x object attr.Velocity h = input_key x _ refl h
sampled_attribute x object attr.Length h = input_key x _ refl h
sampled_attribute x object attr.Slope h = input_key x _ refl h
sampled_attribute x object attr.Setting h =
    let there = in_links attr.Setting refl refl object.space h.attribute in (
      inr (object.index, h.links.0, inl (ap (key_at object.index attr.Setting) there)),
      tt,
    )
sampled_attribute x object attr.Status h =
    let there = in_links attr.Status refl refl object.space h.attribute in (
      inr (object.index, h.links.0, inl (ap (key_at object.index attr.Setting) there)),
      tt,
    )
sampled_attribute x object attr.TimeOpen h =
    let there = in_links attr.TimeOpen refl refl object.space h.attribute in (
      inr (object.index, h.links.0, inl (ap (key_at object.index attr.Setting) there)),
      (
        inr (object.index, h.links.0, inr (inl (ap (key_at object.index attr.TimeOpen) there))),
        tt,
      ),
    )
sampled_attribute x object attr.TimeClosed h =
    let there = in_links attr.TimeClosed refl refl object.space h.attribute in (
      inr (object.index, h.links.0, inl (ap (key_at object.index attr.Setting) there)),
      (
        inr (object.index, h.links.0, inr (inr (ap (key_at object.index attr.TimeClosed) there))),
        tt,
      ),
    )

sampled_key : (x : Rules) (key : Key) → IsKnown x key
    → AllByRecursion (IsSampled x) (grid_keys_of key)
sampled_key x (Object object attribute) h = sampled_attribute x object attribute h
sampled_key x (Clock attribute) h = tt

sampled_limit : (x : Rules) (question : Question) → TracksLimit x question
    → AllByRecursion (IsSampled x) (limit_keys question)
sampled_limit x (Conflict first second link) h = tt
sampled_limit x (Dead number) h = tt
sampled_limit x (Limit link lo hi) h = (inr (link, h, inl refl), tt)

pub sampled_keys : (x : Rules) (question : Question) → WellFormed x → TracksLimit x question
    → AllByRecursion (IsSampled x) (grid_keys x question)
unfolding grid_keys
sampled_keys x question formed limit =
    let asked = keys_read x.names (asked_rules x question) in
    each_ordered (IsSampled x) (flat_map grid_keys_of asked ++ limit_keys question)
    (each_append (IsSampled x) (flat_map grid_keys_of asked) (limit_keys question)
    (each_flat (IsSampled x) grid_keys_of asked
    (each_by (IsKnown x) (λ key. AllByRecursion (IsSampled x) (grid_keys_of key)) (sampled_key x)
    asked (known_asked x (asked_numbers x question) formed)))
    (sampled_limit x question limit))

-- The rules of a file are well formed, and name objects that there are.
use Rattle.std.proofs.Common.{◌≡◌, ℕ, zero, suc, ◌+◌, ◌<◌, Bool, true, false, List, [], ◌∷◌, ◌++◌, length, Option, None, Some, refl, sym, subst, ap, ◌∙◌, arith, get_or}
use Rattle.std.specs.Prelude.{All, Contains, IsTrue, IfSome, filter, slice_get, EachIndex, slice_index, pos}
use Rattle.std.specs.List.{flat_map, AllZip, AllAdjacentBelow, range_with_len}
use Rattle.std.specs.List.Sorted.{IsStrictlySortedBy}
use Rattle.std.specs.Ordering.{nat_cmp}
use Rattle.std.specs.declared.cmp.Ordering.{Ordering}
use Rattle.std.specs.declared.cmp.Ordering.TheVariants.{Less, Equal}
use Rattle.std.proofs.lemmas.Cmp.{nat_cmp_total}
use Rattle.std.proofs.lemmas.List.Elements.{All-nil, All-cons, All-head, All-tail, All-append, All-weaker, All-filter}
use Rattle.std.proofs.lemmas.List.FromFn.{length-range_with_len, get_or-range_with_len}
use Rattle.std.proofs.lemmas.Map.Keys.{IsStrictlyIncreasing-from_sorted}
use Rattle.exact_fraction.specs.Number.{zero as nothing, one}
use Rattle.object_index.specs.Holding.{HoldsObjects, HoldsRule, HoldsKind, HoldsKey, HoldsLink, HoldsCondition, HoldsObject, HoldsSide, HoldsRight}
use Rattle.object_index.specs.Objects.{Objects}
use Rattle.rule_types.specs.KeyOrder.{key_cmp, IsInKeyOrder}
use Rattle.rule_types.specs.Keys.{is_key, is_input, is_link_state, link_read, has_attribute}
use Rattle.rule_types.specs.Reading.{keys_read, links_read, links_acted, condition_reads, condition_keys, side_keys, right_keys, side_names, name_keys, variable_keys, at_name, kind_key, kind_names, rule_actions, pid_numbers}
use Rattle.rule_types.specs.WellFormed.{WellFormed, RuleFits, ConditionFits, NamesFit, KindFits, SideFits, RightFits, IsRoutingStep, IsRate, PidsNumbered}
use Rattle.rule_types.specs.declared.action.Action.{Action}
use Rattle.rule_types.specs.declared.condition.Condition.{Condition}
use Rattle.rule_types.specs.declared.condition.Side.{Side}
use Rattle.rule_types.specs.declared.condition.Side.TheVariants as side
use Rattle.rule_types.specs.declared.condition.Right.{Right}
use Rattle.rule_types.specs.declared.condition.Right.TheVariants as right
use Rattle.rule_types.specs.declared.key.Attr.{Attr}
use Rattle.rule_types.specs.declared.key.Attr.TheVariants as attributes
use Rattle.rule_types.specs.declared.key.Key.{Key}
use Rattle.rule_types.specs.declared.key.Key.TheVariants as keys
use Rattle.rule_types.specs.declared.names.NameDef.{NameDef}
use Rattle.rule_types.specs.declared.names.NameKind.{NameKind}
use Rattle.rule_types.specs.declared.names.NameKind.TheVariants.{Variable, Formula}
use Rattle.rule_types.specs.declared.object.ObjectNo.{ObjectNo}
use Rattle.rule_types.specs.declared.object.Space.{Space}
use Rattle.rule_types.specs.declared.object.Space.TheVariants as spaces
use Rattle.std.proofs.Common.{cond, true≢false}
use Rattle.std.proofs.lemmas.Bool.{eqb-true}
use Rattle.std.specs.BTreeSet.{insert_key}
use Rattle.std.specs.Cmp.{unsigned_ties}
use Rattle.std.specs.Cmp.Lexicographic.{texts_ties}
use Rattle.std.specs.Ordering.{is_eq}
use Rattle.rule_types.specs.KeyOrder.{key_place}
use Rattle.rule_types.proofs.PublicLaws.{equal_keys-key}
use Rattle.rule_parser.specs.Projects.{keys_with, links_with}
use Rattle.std.specs.Cmp.{IsTotalOrder, on_total}
use Rattle.std.specs.Cmp.Lexicographic.{nat_list_cmp_total}
use Rattle.std.specs.List.Sorted.{IsStrictlyIncreasing}
use Rattle.std.proofs.lemmas.List.{append-nil, length-map}
use Rattle.exact_fraction.specs.Number.{whole, den}
use Rattle.exact_fraction.specs.Order.{◌≤ℚ◌, less}
use Rattle.exact_fraction.proofs.PublicLaws.{tests-not_less}
use Rattle.rule_types.specs.WellFormed.{has_rate, HasCompleteLists, InOrder, InBounds}
use Rattle.network_lines.specs.Bounds.{IsLinkData}
use Rattle.network_lines.specs.declared.network.LinkData.{LinkData}
use Rattle.network_lines.specs.declared.network.Network.{Network}
use Rattle.network_lines.specs.declared.options.OptionSet.{OptionSet}
use Rattle.rule_parser.specs.Controls.{draft_rules}
use Rattle.rule_parser.specs.Projects.{setting_in, rate_in, settings_among, rates_among, rules_with}
use Rattle.rule_parser.specs.declared.draft.Draft.{Draft}
use Rattle.rule_parser.specs.internal.Fitting.{IsDone, AreCounted}
use Rattle.rule_parser.proofs.DraftFits.{rules_fit, rules_held}
use Rattle.rule_parser.proofs.Ordered.{with_each, each_holds, each_there, each_sorted}
use Rattle.rule_types.specs.declared.rule.Rule.{Rule}
use Rattle.rule_parser.specs.internal.Fitting.{NamesFitFirst}
use Rattle.rule_parser.proofs.SidesFit.{IsKeyOf, all_at}

-- ---- keys that are read
-- what holds of each piece holds of all pieces together
all_flat : {A B : Type 0} (P : B → Type 0) (f : A → List B) (xs : List A) → All (λ x. All P (f x)) xs → All P (flat_map f xs)
all_flat P f [] h = All-nil P
all_flat P f (x ∷ xs) h =
    All-append P (f x) (flat_map f xs) (All-head (λ x. All P (f x)) x xs h) (all_flat P f xs (All-tail (λ x. All P (f x)) x xs h))

key_alone : (objects : Objects) (key : Key) → IsKeyOf objects key → All (IsKeyOf objects) (key ∷ [])
key_alone objects key h = All-cons (IsKeyOf objects) key [] h (All-nil (IsKeyOf objects))

-- of the keys that a name stands for
kind_key_is : (objects : Objects) (names : List NameDef) (place : ℕ) (kind : NameKind)
    → KindFits (names ++ []) place kind → HoldsKind objects kind → All (IsKeyOf objects) (kind_key kind)
kind_key_is objects names place (Variable key) h k = key_alone objects key (h, k)
kind_key_is objects names place (Formula formula) h k = All-nil (IsKeyOf objects)

named_keys : (objects : Objects) (names : List NameDef) (place : ℕ) (named : Option NameDef)
    → NamesFitFirst names → All (λ named. HoldsKind objects named.stands_for) names → slice_get names place ≡ named
    → All (IsKeyOf objects) (at_name kind_key named)
named_keys objects names place None h k e = All-nil (IsKeyOf objects)
named_keys objects names place (Some named) h k e =
    kind_key_is objects names place named.stands_for (h [] place named e)
    (all_at (λ named. HoldsKind objects named.stands_for) names place named k e)

variable_keys_are : (objects : Objects) (names : List NameDef) → NamesFitFirst names
    → All (λ named. HoldsKind objects named.stands_for) names → (place : ℕ)
    → All (IsKeyOf objects) (variable_keys names place)
variable_keys_are objects names h k place = named_keys objects names place (slice_get names place) h k refl

every : {A : Type 0} (P : A → Type 0) (xs : List A) → ((x : A) → P x) → All P xs
every P [] h = All-nil P
every P (x ∷ xs) h = All-cons P x xs (h x) (every P xs h)

name_keys_are : (objects : Objects) (names : List NameDef) → NamesFitFirst names
    → All (λ named. HoldsKind objects named.stands_for) names → (place : ℕ)
    → All (IsKeyOf objects) (name_keys names place)
name_keys_are objects names h k place =
    All-append (IsKeyOf objects) (variable_keys names place)
    (flat_map (variable_keys names) (at_name kind_names (slice_get names place)))
    (variable_keys_are objects names h k place)
    (all_flat (IsKeyOf objects) (variable_keys names) (at_name kind_names (slice_get names place))
    (every (λ n. All (IsKeyOf objects) (variable_keys names n)) (at_name kind_names (slice_get names place))
    (variable_keys_are objects names h k)))

side_keys_are : (objects : Objects) (names : List NameDef) (condition : Condition) (left : Side) → condition.left ≡ left
    → ConditionFits names condition → HoldsCondition objects condition → All (IsKeyOf objects) (side_keys left)
side_keys_are objects names condition (side.Key key) e h k =
    key_alone objects key (subst (SideFits names) e h.left, subst (HoldsSide objects) e k.left)
side_keys_are objects names condition (side.Expr name) e h k = All-nil (IsKeyOf objects)

right_keys_are : (objects : Objects) (names : List NameDef) (condition : Condition) (other : Right) → condition.right ≡ other
    → ConditionFits names condition → HoldsCondition objects condition → All (IsKeyOf objects) (right_keys other)
right_keys_are objects names condition (right.Key key) e h k =
    key_alone objects key (subst RightFits e h.right, subst (HoldsRight objects) e k.right)
right_keys_are objects names condition (right.Value q) e h k = All-nil (IsKeyOf objects)

condition_keys_are : (objects : Objects) (names : List NameDef) → NamesFitFirst names
    → All (λ named. HoldsKind objects named.stands_for) names → (condition : Condition)
    → ConditionFits names condition → HoldsCondition objects condition
    → All (IsKeyOf objects) (condition_reads names condition)
condition_keys_are objects names h k condition c d =
    All-append (IsKeyOf objects) (condition_keys condition) (flat_map (name_keys names) (side_names condition.left))
    (All-append (IsKeyOf objects) (side_keys condition.left) (right_keys condition.right)
    (side_keys_are objects names condition condition.left refl c d)
    (right_keys_are objects names condition condition.right refl c d))
    (all_flat (IsKeyOf objects) (name_keys names) (side_names condition.left)
    (every (λ n. All (IsKeyOf objects) (name_keys names n)) (side_names condition.left) (name_keys_are objects names h k)))

conditions_keys_are : (objects : Objects) (names : List NameDef) → NamesFitFirst names
    → All (λ named. HoldsKind objects named.stands_for) names → (conditions : List Condition)
    → All (ConditionFits names) conditions → All (HoldsCondition objects) conditions
    → All (IsKeyOf objects) (flat_map (condition_reads names) conditions)
conditions_keys_are objects names h k [] c d = All-nil (IsKeyOf objects)
conditions_keys_are objects names h k (condition ∷ more) c d =
    All-append (IsKeyOf objects) (condition_reads names condition) (flat_map (condition_reads names) more)
    (condition_keys_are objects names h k condition (All-head (ConditionFits names) condition more c) (All-head (HoldsCondition objects) condition more d))
    (conditions_keys_are objects names h k more (All-tail (ConditionFits names) condition more c) (All-tail (HoldsCondition objects) condition more d))

pub keys_are : (objects : Objects) (names : List NameDef) → NamesFitFirst names
    → All (λ named. HoldsKind objects named.stands_for) names → (rules : List Rule)
    → All (RuleFits names) rules → All (HoldsRule objects) rules → All (IsKeyOf objects) (keys_read names rules)
keys_are objects names h k [] c d = All-nil (IsKeyOf objects)
keys_are objects names h k (rule ∷ rules) c d =
    All-append (IsKeyOf objects) (flat_map (condition_reads names) rule.conditions) (keys_read names rules)
    (conditions_keys_are objects names h k rule.conditions
    (All-head (RuleFits names) rule rules c).conditions (All-head (HoldsRule objects) rule rules d).conditions)
    (keys_are objects names h k rules (All-tail (RuleFits names) rule rules c) (All-tail (HoldsRule objects) rule rules d))

-- ---- links
links_alone : (space : Space) → has_attribute space attributes.Setting ≡ true → space ≡ spaces.Links
links_alone spaces.Links e = refl
links_alone spaces.Nodes e = cc
links_alone spaces.Gages e = cc

link_of_key : (objects : Objects) (object : ObjectNo) → object.space ≡ spaces.Links → HoldsObject objects object
    → All (HoldsLink objects) (object.index ∷ [])
link_of_key objects object e h =
    All-cons (HoldsLink objects) object.index []
    (subst (λ space. HoldsObject objects (record { space = space; index = object.index })) e h) (All-nil (HoldsLink objects))

states_alone : (space : Space) (attribute : Attr) → is_link_state attribute ≡ true → has_attribute space attribute ≡ true
    → space ≡ spaces.Links
states_alone spaces.Links attribute s e = refl
states_alone spaces.Nodes attributes.Intensity s e = cc
states_alone spaces.Nodes attributes.Depth s e = cc
states_alone spaces.Nodes attributes.MaxDepth s e = cc
states_alone spaces.Nodes attributes.FullDepth s e = cc
states_alone spaces.Nodes attributes.Head s e = cc
states_alone spaces.Nodes attributes.Volume s e = cc
states_alone spaces.Nodes attributes.Inflow s e = cc
states_alone spaces.Nodes attributes.Flow s e = cc
states_alone spaces.Nodes attributes.FullFlow s e = cc
states_alone spaces.Nodes attributes.Velocity s e = cc
states_alone spaces.Nodes attributes.Length s e = cc
states_alone spaces.Nodes attributes.Slope s e = cc
states_alone spaces.Nodes attributes.Setting s e = cc
states_alone spaces.Nodes attributes.Status s e = cc
states_alone spaces.Nodes attributes.TimeOpen s e = cc
states_alone spaces.Nodes attributes.TimeClosed s e = cc
states_alone spaces.Nodes (attributes.HourDepth hours) s e = cc
states_alone spaces.Gages attributes.Intensity s e = cc
states_alone spaces.Gages attributes.Depth s e = cc
states_alone spaces.Gages attributes.MaxDepth s e = cc
states_alone spaces.Gages attributes.FullDepth s e = cc
states_alone spaces.Gages attributes.Head s e = cc
states_alone spaces.Gages attributes.Volume s e = cc
states_alone spaces.Gages attributes.Inflow s e = cc
states_alone spaces.Gages attributes.Flow s e = cc
states_alone spaces.Gages attributes.FullFlow s e = cc
states_alone spaces.Gages attributes.Velocity s e = cc
states_alone spaces.Gages attributes.Length s e = cc
states_alone spaces.Gages attributes.Slope s e = cc
states_alone spaces.Gages attributes.Setting s e = cc
states_alone spaces.Gages attributes.Status s e = cc
states_alone spaces.Gages attributes.TimeOpen s e = cc
states_alone spaces.Gages attributes.TimeClosed s e = cc
states_alone spaces.Gages (attributes.HourDepth hours) s e = cc

key_links : (objects : Objects) (key : Key) → IsKeyOf objects key → All (HoldsLink objects) (link_read key)
key_links objects (keys.Clock attribute) h = All-nil (HoldsLink objects)
key_links objects (keys.Object object attributes.Intensity) h = All-nil (HoldsLink objects)
key_links objects (keys.Object object attributes.Depth) h = All-nil (HoldsLink objects)
key_links objects (keys.Object object attributes.MaxDepth) h = All-nil (HoldsLink objects)
key_links objects (keys.Object object attributes.FullDepth) h = All-nil (HoldsLink objects)
key_links objects (keys.Object object attributes.Head) h = All-nil (HoldsLink objects)
key_links objects (keys.Object object attributes.Volume) h = All-nil (HoldsLink objects)
key_links objects (keys.Object object attributes.Inflow) h = All-nil (HoldsLink objects)
key_links objects (keys.Object object attributes.Flow) h = All-nil (HoldsLink objects)
key_links objects (keys.Object object attributes.FullFlow) h = All-nil (HoldsLink objects)
key_links objects (keys.Object object attributes.Velocity) h = All-nil (HoldsLink objects)
key_links objects (keys.Object object attributes.Length) h = All-nil (HoldsLink objects)
key_links objects (keys.Object object attributes.Slope) h = All-nil (HoldsLink objects)
key_links objects (keys.Object object attributes.Setting) h = link_of_key objects object (states_alone object.space attributes.Setting refl h.0) h.1
key_links objects (keys.Object object attributes.Status) h = link_of_key objects object (states_alone object.space attributes.Status refl h.0) h.1
key_links objects (keys.Object object attributes.TimeOpen) h = link_of_key objects object (states_alone object.space attributes.TimeOpen refl h.0) h.1
key_links objects (keys.Object object attributes.TimeClosed) h = link_of_key objects object (states_alone object.space attributes.TimeClosed refl h.0) h.1
key_links objects (keys.Object object (attributes.HourDepth hours)) h = All-nil (HoldsLink objects)

pub read_links_are : (objects : Objects) (found : List Key) → All (IsKeyOf objects) found
    → All (HoldsLink objects) (flat_map link_read found)
read_links_are objects found h =
    all_flat (HoldsLink objects) link_read found
    (All-weaker (IsKeyOf objects) (λ key. All (HoldsLink objects) (link_read key)) (key_links objects) found h)

action_links_are : (objects : Objects) (actions : List Action) → All (λ action. HoldsLink objects action.link) actions
    → All (HoldsLink objects) (flat_map (λ action. action.link ∷ []) actions)
action_links_are objects actions h =
    all_flat (HoldsLink objects) (λ action. action.link ∷ []) actions
    (All-weaker (λ action. HoldsLink objects action.link) (λ action. All (HoldsLink objects) (action.link ∷ []))
    (λ action k. All-cons (HoldsLink objects) action.link [] k (All-nil (HoldsLink objects))) actions h)

pub acted_links_are : (objects : Objects) (rules : List Rule) → All (HoldsRule objects) rules
    → All (HoldsLink objects) (links_acted rules)
acted_links_are objects rules h =
    all_flat (HoldsLink objects) (λ rule. flat_map (λ action. action.link ∷ []) (rule_actions rule)) rules
    (All-weaker (HoldsRule objects) (λ rule. All (HoldsLink objects) (flat_map (λ action. action.link ∷ []) (rule_actions rule)))
    (λ rule k. action_links_are objects (rule_actions rule)
    (All-append (λ action. HoldsLink objects action.link) rule.then_actions rule.else_actions k.then_actions k.else_actions)) rules h)

-- ---- lists in order
key_ties : (a b : Key) → key_cmp a b ≡ Equal → a ≡ b
key_ties a b e =
    (equal_keys-key a b).0 (texts_ties (key_place a) (key_place b) ∙ ap is_eq e)

link_ties : (a b : ℕ) → nat_cmp a b ≡ Equal → a ≡ b
link_ties a b e = eqb-true a b (unsigned_ties a b ∙ ap is_eq e)

pub keys_each : (found more : List Key) → keys_with found more ≡ with_each key_cmp found more
keys_each found [] = refl
keys_each found (key ∷ more) = keys_each (insert_key key_cmp found key) more

pub links_each : (found more : List ℕ) → links_with found more ≡ with_each nat_cmp found more
links_each found [] = refl
links_each found (link ∷ more) = links_each (insert_key nat_cmp found link) more

-- each item that passes a test, where those that pass are there
unfiltered : {A : Type 0} (test : A → Bool) (P : A → Type 0) (xs : List A) → All P (filter test xs)
    → All (λ x. IsTrue (test x) → P x) xs
unfiltered test P [] h = All-nil (λ x. IsTrue (test x) → P x)
unfiltered test P (x ∷ xs) h = by_test (test x) refl h (λ k. unfiltered test P xs k)
  where
    by_test : (b : Bool) → test x ≡ b → All P (cond b (x ∷ filter test xs) (filter test xs))
        → (All P (filter test xs) → All (λ x. IsTrue (test x) → P x) xs)
        → All (λ x. IsTrue (test x) → P x) (x ∷ xs)
    by_test true e k more =
        All-cons (λ x. IsTrue (test x) → P x) x xs (λ t. All-head P x (filter test xs) k)
        (more (All-tail P x (filter test xs) k))
    by_test false e k more =
        All-cons (λ x. IsTrue (test x) → P x) x xs (λ t. absurd (true≢false (sym t ∙ e))) (more k)

-- ---- bounds of links
one_least : nothing ≤ℚ one
unfolding less whole den
one_least = (tests-not_less one nothing).0 refl

rate_none : IsRate nothing
unfolding less whole den
rate_none = record {
  least = (tests-not_less nothing nothing).0 refl;
  most = (tests-not_less (whole (pos 1_000_000)) nothing).0 refl;
  exact = record { divides = refl };
}

setting_at : (found : Option LinkData) → IfSome found IsLinkData → nothing ≤ℚ setting_in found
setting_at None h = one_least
setting_at (Some link) h = h.setting

rate_at : (found : Option LinkData) → IfSome found IsLinkData → IsRate (rate_in found)
rate_at None h = rate_none
rate_at (Some link) h = h.rate

rated_at : (found : Option LinkData) → IfSome found IsLinkData → IsTrue (has_rate (rate_in found)) → setting_in found ≤ℚ one
unfolding less whole den
rated_at None h e = cc
rated_at (Some link) h e = h.rated e

link_at : (found : List LinkData) → All IsLinkData found → (place : ℕ) → IfSome (slice_get found place) IsLinkData
link_at found h place = by_case (slice_get found place) refl
  where
    by_case : (link : Option LinkData) → slice_get found place ≡ link → IfSome link IsLinkData
    by_case None e = tt
    by_case (Some link) e = all_at IsLinkData found place link h e

settings_least : (found : List LinkData) → All IsLinkData found → (links : List ℕ)
    → All (λ setting. nothing ≤ℚ setting) (settings_among found links)
settings_least found h [] = All-nil (λ setting. nothing ≤ℚ setting)
settings_least found h (link ∷ links) =
    All-cons (λ setting. nothing ≤ℚ setting) (setting_in (slice_get found link)) (settings_among found links)
    (setting_at (slice_get found link) (link_at found h link)) (settings_least found h links)

rates_bounded : (found : List LinkData) → All IsLinkData found → (links : List ℕ) → All IsRate (rates_among found links)
rates_bounded found h [] = All-nil IsRate
rates_bounded found h (link ∷ links) =
    All-cons IsRate (rate_in (slice_get found link)) (rates_among found links)
    (rate_at (slice_get found link) (link_at found h link)) (rates_bounded found h links)

rated_bounded : (found : List LinkData) → All IsLinkData found → (links : List ℕ)
    → AllZip (λ rate setting. IsTrue (has_rate rate) → setting ≤ℚ one) (rates_among found links) (settings_among found links)
rated_bounded found h [] = tt
rated_bounded found h (link ∷ links) =
    (rated_at (slice_get found link) (link_at found h link), rated_bounded found h links)

-- ---- PID actions
numbered : (numbers : List ℕ) (count : ℕ) → numbers ≡ range_with_len 0 count
    → EachIndex numbers (λ k. slice_index numbers k ≡ k)
numbered numbers count e =
    subst (λ l. EachIndex l (λ k. slice_index l k ≡ k)) (sym e)
    (λ i l.
    let same : 0 + i ≡ i = omega arith in
    get_or-range_with_len 0 count i 0 (subst (λ n. i < n) (length-range_with_len 0 count) l) ∙ same)

-- ---- order
key_order : IsTotalOrder key_cmp
key_order = on_total key_place nat_list_cmp_total

adjacent : {K : Type 0} (cmp : K → K → Ordering) (keys : List K) → IsStrictlySortedBy cmp keys
    → AllAdjacentBelow (λ a b. cmp a b ≡ Less) keys (length keys)
unfolding IsStrictlySortedBy
adjacent cmp [] h k d l = absurd (omega arith)
adjacent cmp (key ∷ []) h k d l = absurd (omega arith)
adjacent cmp (key ∷ next ∷ keys) h zero d l = h.0.0
adjacent cmp (key ∷ next ∷ keys) h (suc k) d l =
    let after : suc (k + 1) ≡ suc k + 1 = omega arith in
    subst (λ n. cmp (get_or (key ∷ next ∷ keys) (suc k) d) (get_or (key ∷ next ∷ keys) n d) ≡ Less) after
    (adjacent cmp (next ∷ keys) h.1 k d (omega arith))

sorted_none : {K : Type 0} (cmp : K → K → Ordering) → IsStrictlySortedBy cmp []
unfolding IsStrictlySortedBy
sorted_none cmp = tt

keys_sorted : (keys : List Key) → IsInKeyOrder (keys_with [] keys)
keys_sorted keys =
    subst IsInKeyOrder (sym (keys_each [] keys))
    (adjacent key_cmp (with_each key_cmp [] keys) (each_sorted key_cmp key_order [] keys (sorted_none key_cmp)))

links_sorted : (links : List ℕ) → IsStrictlyIncreasing (links_with [] links)
links_sorted links =
    subst IsStrictlyIncreasing (sym (links_each [] links))
    (IsStrictlyIncreasing-from_sorted (with_each nat_cmp [] links)
    (each_sorted nat_cmp nat_cmp_total [] links (sorted_none nat_cmp)))

keys_there : (keys : List Key) → All (Contains (keys_with [] keys)) keys
keys_there keys =
    subst (λ all. All (Contains all) keys) (sym (keys_each [] keys)) (each_there key_cmp key_ties [] keys)

links_there : (links : List ℕ) → All (Contains (links_with [] links)) links
links_there links =
    subst (λ all. All (Contains all) links) (sym (links_each [] links)) (each_there nat_cmp link_ties [] links)

keys_hold : (P : Key → Type 0) (keys : List Key) → All P keys → All P (keys_with [] keys)
keys_hold P keys h = subst (All P) (sym (keys_each [] keys)) (each_holds key_cmp P [] keys (All-nil P) h)

links_hold : (P : ℕ → Type 0) (links : List ℕ) → All P links → All P (links_with [] links)
links_hold P links h = subst (All P) (sym (links_each [] links)) (each_holds nat_cmp P [] links (All-nil P) h)

all_left : {A : Type 0} (P : A → Type 0) (one other : List A) → All P (one ++ other) → All P one
all_left P [] other h = All-nil P
all_left P (x ∷ one) other h = All-cons P x one (All-head P x (one ++ other) h) (all_left P one other (All-tail P x (one ++ other) h))

all_right : {A : Type 0} (P : A → Type 0) (one other : List A) → All P (one ++ other) → All P other
all_right P [] other h = h
all_right P (x ∷ one) other h = all_right P one other (All-tail P x (one ++ other) h)

-- ---- names
names_fit : (names : List NameDef) → NamesFitFirst names → NamesFit names
names_fit names h at named e =
    subst (λ all. KindFits all at named.stands_for) (append-nil names) (h [] at named e)

-- ---- all together
pub rules_whole : (options : OptionSet) (network : Network) (draft : Draft) → IsDone network.objects draft
    → IsRoutingStep options.routing_step → All IsLinkData network.links
    → AreCounted (rules_with options network draft.names (draft_rules draft))
    → WellFormed (rules_with options network draft.names (draft_rules draft))
unfolding HasCompleteLists InOrder PidsNumbered InBounds
rules_whole options network draft h step links counted =
    let objects = network.objects in
    let names = draft.names in
    let rules = draft_rules draft in
    let fit = rules_fit objects draft h.0 h.1 in
    let held = rules_held objects draft h.0 in
    let keys = keys_are objects names h.0.names h.0.names_held rules fit held in
    let read = filter is_input (keys_read names rules) in
    let few_rules = h.0.few_rules in
    let few_names = h.0.few_names in
    record {
      rules = fit;
      names = names_fit names h.0.names;
      inputs = keys_hold (λ key. IsTrue (is_key key)) read
          (All-filter is_input (λ key. IsTrue (is_key key)) (keys_read names rules)
          (All-weaker (IsKeyOf objects) (λ key. IsTrue (is_key key)) (λ key k. k.0) (keys_read names rules) keys));
      lists = record {
        inputs = unfiltered is_input (Contains (keys_with [] read)) (keys_read names rules) (keys_there read);
        read_links = all_right (Contains (links_with [] (links_acted rules ++ links_read names rules))) (links_acted rules) (links_read names rules)
            (links_there (links_acted rules ++ links_read names rules));
        acted_links = links_there (links_acted rules);
        controlled = links_hold (Contains (links_with [] (links_acted rules ++ links_read names rules))) (links_acted rules)
            (all_left (Contains (links_with [] (links_acted rules ++ links_read names rules))) (links_acted rules) (links_read names rules)
            (links_there (links_acted rules ++ links_read names rules)));
      };
      orders = record {
        input_keys = keys_sorted read;
        tracked = links_sorted (links_acted rules ++ links_read names rules);
        controlled = links_sorted (links_acted rules);
      };
      pids = numbered (pid_numbers rules) draft.pids h.0.pids;
      pumps = length-map (links_with [] (links_acted rules)) _;
      initial = length-map (links_with [] (links_acted rules ++ links_read names rules)) _;
      rates = length-map (links_with [] (links_acted rules ++ links_read names rules)) _;
      bounds = record {
        initial = settings_least network.links links (links_with [] (links_acted rules ++ links_read names rules));
        rates = rates_bounded network.links links (links_with [] (links_acted rules ++ links_read names rules));
        rated = rated_bounded network.links links (links_with [] (links_acted rules ++ links_read names rules));
        routing_step = step;
      };
      rules_counted = omega arith;
      names_counted = omega arith;
      inputs_counted = counted.inputs;
      tracked_counted = counted.tracked;
      controlled_counted = counted.controlled;
    }

pub objects_held : (options : OptionSet) (network : Network) (draft : Draft) → IsDone network.objects draft
    → HoldsObjects network.objects (rules_with options network draft.names (draft_rules draft))
objects_held options network draft h =
    let objects = network.objects in
    let names = draft.names in
    let rules = draft_rules draft in
    let fit = rules_fit objects draft h.0 h.1 in
    let held = rules_held objects draft h.0 in
    let keys = keys_are objects names h.0.names h.0.names_held rules fit held in
    let acted = acted_links_are objects rules held in
    record {
      rules = held;
      names = h.0.names_held;
      input_keys = keys_hold (HoldsKey objects) (filter is_input (keys_read names rules))
          (All-filter is_input (HoldsKey objects) (keys_read names rules)
          (All-weaker (IsKeyOf objects) (HoldsKey objects) (λ key k. k.1) (keys_read names rules) keys));
      tracked = links_hold (HoldsLink objects) (links_acted rules ++ links_read names rules)
          (All-append (HoldsLink objects) (links_acted rules) (links_read names rules) acted
          (read_links_are objects (keys_read names rules) keys));
      controlled = links_hold (HoldsLink objects) (links_acted rules) acted;
    }

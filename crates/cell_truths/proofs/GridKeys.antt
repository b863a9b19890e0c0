-- The keys of the conditions of a question's rules are in its grid.
use Rattle.std.proofs.Common.{◌≡◌, ℕ, Bool, true, false, ◌||◌, ◌⊎◌, inl, inr, Option, Some, None}
use Rattle.std.proofs.Common.{List, [], ◌∷◌, ◌++◌, map, cond, refl, sym, subst, ap, ◌∙◌, Less}
use Rattle.std.proofs.Common.{Equal, Greater, length, ◌+◌, arith}
use Rattle.std.proofs.lemmas.Bool.{true≢false}
use Rattle.std.proofs.lemmas.Map.Text.{is_eq-slice_cmp}
use Rattle.std.proofs.lemmas.Option.{slice_get_within}
use Rattle.std.proofs.lemmas.Slice.Eq.{bytes_eq-Decides}
use Rattle.std.specs.List.{AllByRecursion, flat_map, list_any}
use Rattle.std.specs.Ordering.{is_eq}
use Rattle.std.specs.Prelude.{slice_get}
use Rattle.std.specs.declared.cmp.Ordering.{Ordering}
use Rattle.exact_fraction.specs.Number.{Rational}
use Rattle.interval_sets.specs.declared.interval.Interval.{Interval}
use Rattle.rule_types.specs.declared.condition.Condition.{Condition}
use Rattle.rule_types.specs.declared.condition.Side.{Side}
use Rattle.rule_types.specs.declared.condition.Side.TheVariants as side
use Rattle.rule_types.specs.declared.key.Key.{Key}
use Rattle.rule_types.specs.declared.names.NameDef.{NameDef}
use Rattle.rule_types.specs.declared.names.NameKind.{NameKind}
use Rattle.rule_types.specs.declared.names.NameKind.TheVariants.{Variable, Formula}
use Rattle.rule_types.specs.declared.rule.Rule.{Rule}
use Rattle.rule_types.specs.declared.rules.Rules.{Rules}
use Rattle.rule_types.specs.KeyOrder.{key_cmp, key_place}
use Rattle.rule_types.specs.Reading.{at_name, condition_keys, condition_reads, keys_read, kind_key}
use Rattle.rule_types.specs.Reading.{kind_names, name_keys, right_keys, side_keys, side_names}
use Rattle.rule_types.specs.Reading.{variable_keys}
use Rattle.rule_types.proofs.PublicLaws.{equal_keys-key}
use Rattle.moment_pieces.specs.Sides.{kind_side, named_side, side_of}
use Rattle.verdict_meaning.specs.declared.question.Question.{Question}
use Rattle.verdict_meaning.specs.declared.question.Question.TheVariants.{Limit}
use Rattle.verdict_meaning.specs.Questions.{all_numbers, asked_numbers, asked_rules, grid_keys}
use Rattle.verdict_meaning.specs.Questions.{grid_keys_of, has_moments, in_key_order, is_asked}
use Rattle.verdict_meaning.specs.Questions.{is_clock, limit_keys, placed_by, setting_key, with_key}
use Rattle.verdict_meaning.specs.Reaches.{piece_in, same_key}
use Rattle.cell_truths.proofs.Lists.{Among, among_back, among_filter, among_flat, among_front}
use Rattle.cell_truths.proofs.Lists.{among_map, among_range, any_among, or_cases, or_left, or_right}

-- ---- keys in key order
pub same_itself : (key : Key) → same_key key key ≡ true
same_itself key = (bytes_eq-Decides (key_place key) (key_place key)).1 refl

-- a key is the same as one of these
abbrev pub IsKeyOf : List Key → Key → Type 0
IsKeyOf keys key = list_any (same_key key) keys ≡ true

own_by : (key next : Key) (more later : List Key) (o : Ordering) → key_cmp key next ≡ o
    → IsKeyOf later key → IsKeyOf (placed_by o key next more later) key
own_by key next more later Less e h =
    or_left (same_key key key) (list_any (same_key key) (next ∷ more)) (same_itself key)
own_by key next more later Equal e h =
    or_left (same_key key next) (list_any (same_key key) more)
    (sym (is_eq-slice_cmp (key_place key) (key_place next)) ∙ ap is_eq e)
own_by key next more later Greater e h =
    or_right (same_key key next) (list_any (same_key key) later) h

own_key : (key : Key) (keys : List Key) → IsKeyOf (with_key key keys) key
unfolding with_key
own_key key [] = or_left (same_key key key) false (same_itself key)
own_key key (next ∷ more) =
    own_by key next more (with_key key more) (key_cmp key next) refl (own_key key more)

kept_later : (key other next : Key) (more later : List Key)
    → (IsKeyOf more other → IsKeyOf later other)
    → (same_key other next ≡ true) ⊎ (list_any (same_key other) more ≡ true)
    → IsKeyOf (next ∷ later) other
kept_later key other next more later ih (inl is) =
    or_left (same_key other next) (list_any (same_key other) later) is
kept_later key other next more later ih (inr is) =
    or_right (same_key other next) (list_any (same_key other) later) (ih is)

kept_by : (key other next : Key) (more later : List Key) (o : Ordering)
    → IsKeyOf (next ∷ more) other → (IsKeyOf more other → IsKeyOf later other)
    → IsKeyOf (placed_by o key next more later) other
kept_by key other next more later Less h ih =
    or_right (same_key other key) (list_any (same_key other) (next ∷ more)) h
kept_by key other next more later Equal h ih = h
kept_by key other next more later Greater h ih =
    kept_later key other next more later ih
    (or_cases (same_key other next) (list_any (same_key other) more) h)

kept_key : (key other : Key) (keys : List Key) → IsKeyOf keys other
    → IsKeyOf (with_key key keys) other
unfolding with_key
kept_key key other [] h = absurd (true≢false (sym h))
kept_key key other (next ∷ more) h =
    kept_by key other next more (with_key key more) (key_cmp key next) h (kept_key key other more)

ordered_key : (keys : List Key) (key : Key) → Among keys key → IsKeyOf (in_key_order keys) key
unfolding in_key_order
ordered_key [] key at = absurd at
ordered_key (first ∷ more) key (inl e) =
    subst (IsKeyOf (in_key_order (first ∷ more))) e (own_key first (in_key_order more))
ordered_key (first ∷ more) key (inr at) =
    kept_key first key (in_key_order more) (ordered_key more key at)

-- ---- the question's rules
pub asked_rule : (x : Rules) (question : Question) (number : ℕ) (rule : Rule)
    → slice_get x.rules number ≡ Some rule → is_asked x question number ≡ true
    → Among (asked_rules x question) rule
unfolding asked_numbers
asked_rule x question number rule is asked =
    let from_zero : 0 + number ≡ number = omega arith in
    among_map (slice_get x.rules) (asked_numbers x question) number rule
    (among_filter (is_asked x question) (all_numbers x) number
    (subst (Among (all_numbers x)) from_zero
    (among_range 0 (length x.rules) number (slice_get_within x.rules number rule is))) asked)
    is

-- ---- the key of a left side
-- a left side is a key, or a variable of it
pub record IsVariable (names : List NameDef) (left : Side) (key : Key) : Type 0 where
  pub name : ℕ
  pub named : NameDef
  pub left_is : left ≡ side.Expr name
  pub found : slice_get names name ≡ Some named
  pub variable : named.stands_for ≡ Variable key

abbrev pub IsKeySide : List NameDef → Side → Key → Type 0
IsKeySide names left key = (left ≡ side.Key key) ⊎ IsVariable names left key

key_or : Key → Side → Key
key_or other (side.Key key) = key
key_or other (side.Expr name) = other

is_key_side : Side → Bool
is_key_side (side.Key key) = true
is_key_side (side.Expr name) = false

no_key : (name : ℕ) (key : Key) → side.Expr name ≡ side.Key key → ⊥
unfolding is_key_side
no_key name key e = true≢false (sym (ap is_key_side e))

kind_key_side : (names : List NameDef) (name : ℕ) (named : NameDef) (key : Key)
    (kind : NameKind) → named.stands_for ≡ kind → slice_get names name ≡ Some named
    → kind_side name kind ≡ side.Key key → IsKeySide names (side.Expr name) key
unfolding key_or
kind_key_side names name named key (Variable other) e is h =
    inr (record {
      name = name;
      named = named;
      left_is = refl;
      found = is;
      variable = e ∙ ap (λ one. Variable (key_or key one)) h;
    })
kind_key_side names name named key (Formula formula) e is h = absurd (no_key name key h)

named_key_side : (names : List NameDef) (name : ℕ) (key : Key) (o : Option NameDef)
    → slice_get names name ≡ o → named_side name o ≡ side.Key key
    → IsKeySide names (side.Expr name) key
named_key_side names name key None is h = absurd (no_key name key h)
named_key_side names name key (Some named) is h =
    kind_key_side names name named key named.stands_for refl is h

pub key_side : (names : List NameDef) (left : Side) (key : Key)
    → side_of names left ≡ side.Key key → IsKeySide names left key
unfolding side_of
key_side names (side.Key other) key h = inl h
key_side names (side.Expr name) key h =
    named_key_side names name key (slice_get names name) refl h

side_read : (names : List NameDef) (c : Condition) (key : Key) → IsKeySide names c.left key
    → Among (condition_reads names c) key
side_read names c key (inl is) =
    among_front (condition_keys c) (flat_map (name_keys names) (side_names c.left)) key
    (among_front (side_keys c.left) (right_keys c.right) key
    (subst (λ left. Among (side_keys left) key) (sym is) (inl refl)))
side_read names c key (inr is) =
    among_back (condition_keys c) (flat_map (name_keys names) (side_names c.left)) key
    (subst (λ left. Among (flat_map (name_keys names) (side_names left)) key) (sym is.left_is)
    (among_front (name_keys names is.name) [] key
    (among_front (variable_keys names is.name)
    (flat_map (variable_keys names) (at_name kind_names (slice_get names is.name))) key
    (subst (λ o. Among (at_name kind_key o) key) (sym is.found)
    (subst (λ kind. Among (kind_key kind) key) (sym is.variable) (inl refl))))))

-- ---- the question's keys
pub key_read : (x : Rules) (question : Question) (rule : Rule) (c : Condition) (key : Key)
    → Among (asked_rules x question) rule → Among rule.conditions c
    → side_of x.names c.left ≡ side.Key key
    → Among (keys_read x.names (asked_rules x question)) key
key_read x question rule c key at own is =
    among_flat (λ one. flat_map (condition_reads x.names) one.conditions)
    (asked_rules x question) rule key at
    (among_flat (condition_reads x.names) rule.conditions c key own
    (side_read x.names c key (key_side x.names c.left key is)))

pub key_in_grid : (x : Rules) (question : Question) (key other : Key)
    → Among (keys_read x.names (asked_rules x question)) key → Among (grid_keys_of key) other
    → IsKeyOf (grid_keys x question) other
unfolding grid_keys
key_in_grid x question key other at own =
    let read = keys_read x.names (asked_rules x question) in
    ordered_key (flat_map grid_keys_of read ++ limit_keys question) other
    (among_front (flat_map grid_keys_of read) (limit_keys question) other
    (among_flat grid_keys_of read key other at own))

-- the SETTING of a limit's link is one of the grid's keys
pub limit_key_in_grid : (x : Rules) (link : ℕ) (lo hi : Rational)
    → IsKeyOf (grid_keys x (Limit link lo hi)) (setting_key link)
unfolding grid_keys
limit_key_in_grid x link lo hi =
    let question = Limit link lo hi in
    let read = flat_map grid_keys_of (keys_read x.names (asked_rules x question)) in
    ordered_key (read ++ limit_keys question) (setting_key link)
    (among_back read (limit_keys question) (setting_key link) (inl refl))

pub clock_read : (x : Rules) (question : Question) (key : Key)
    → Among (keys_read x.names (asked_rules x question)) key → is_clock key ≡ true
    → has_moments x question ≡ true
unfolding has_moments
clock_read x question key at clock =
    or_left (list_any is_clock (keys_read x.names (asked_rules x question))) _
    (any_among is_clock (keys_read x.names (asked_rules x question)) key at clock)

-- ---- the piece of a key
pub record IsPieceOfKey (P : Key → Interval → Type 0) (key : Key) (o : Option Interval) :
    Type 0 where
  pub piece : Interval
  pub found : o ≡ Some piece
  pub fact : P key piece

piece_by : (P : Key → Interval → Type 0) (key : Key) (entry : Key × Interval)
    (later : Option Interval) (b : Bool) → same_key key entry.0 ≡ b → P entry.0 entry.1
    → (b ≡ false → IsPieceOfKey P key later)
    → IsPieceOfKey P key (cond b (Some entry.1) later)
piece_by P key entry later true is h more = record {
  piece = entry.1;
  found = refl;
  fact = subst (λ one. P one entry.1) (sym ((equal_keys-key key entry.0).0 is)) h;
}
piece_by P key entry later false is h more = more refl

later_key : (a b : Bool) → (a || b) ≡ true → a ≡ false → b ≡ true
later_key true b h e = absurd (true≢false e)
later_key false b h e = h

pub piece_of_key : (P : Key → Interval → Type 0) (key : Key) (entries : List (Key × Interval))
    → AllByRecursion (λ entry. P entry.0 entry.1) entries
    → IsKeyOf (map (λ entry. entry.0) entries) key → IsPieceOfKey P key (piece_in key entries)
unfolding piece_in
piece_of_key P key [] h is = absurd (true≢false (sym is))
piece_of_key P key (entry ∷ entries) h is =
    piece_by P key entry (piece_in key entries) (same_key key entry.0) refl h.0
    (λ e. piece_of_key P key entries h.1
    (later_key (same_key key entry.0)
    (list_any (same_key key) (map (λ one. one.0) entries)) is e))

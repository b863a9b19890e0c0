-- What is noted and listed, piece by piece.
use Rattle.std.proofs.Common.{◌≡◌, ℕ, Bool, true, false, cond, List, [], ◌∷◌, ◌++◌, refl, sym, subst, ap, ◌∙◌, append_assoc}
use Rattle.std.proofs.lemmas.List.{append-nil}
use Rattle.std.specs.Prelude.{Result, Ok, Err, OnOk}
use Rattle.byte_edge.specs.declared.failed.NoMemory.{NoMemory}
use Rattle.rule_types.specs.Formulas.{formula_names}
use Rattle.rule_types.specs.Reading.{keys_read, condition_reads, links_acted, variable_keys}
use Rattle.rule_types.specs.Reading.{condition_keys, name_keys, side_names}
use Rattle.rule_types.specs.declared.condition.Condition.{Condition}
use Rattle.rule_types.specs.declared.condition.Side.TheVariants as side
use Rattle.rule_types.specs.declared.expr.Expr.{Expr}
use Rattle.rule_types.specs.declared.expr.Expr.TheVariants.{Add, Sub, Mul, Div, rolls-Add, rolls-Sub, rolls-Mul, rolls-Div}
use Rattle.rule_types.specs.declared.expr.Expr.TheFolds.{fold-roll-Expr}
use Rattle.rule_types.specs.declared.names.NameDef.{NameDef}
use Rattle.rule_types.specs.declared.rule.Rule.{Rule}
use Rattle.std.specs.Prelude.{filter}
use Rattle.std.specs.List.{flat_map}
use Rattle.std.specs.BTreeSet.{insert_key}
use Rattle.std.specs.Ordering.{nat_cmp}
use Rattle.std.proofs.lemmas.Grind.{flat_map-append}
use Rattle.rule_types.specs.KeyOrder.{key_cmp}
use Rattle.rule_types.specs.Keys.{is_input, link_read}
use Rattle.rule_types.specs.declared.key.Key.{Key}
use Rattle.rule_parser.specs.Projects.{keys_with, links_with}
use Rattle.rule_parser.specs.declared.noted.Noted.{Noted}
use Rattle.rule_parser.specs.internal.Noting.{Notes}
use Rattle.rule_parser.specs.internal.Views.{action_links}

-- keys and links behind others
pub keys-append : (found one other : List Key)
    → keys_with (keys_with found one) other ≡ keys_with found (one ++ other)
keys-append found [] other = refl
keys-append found (key ∷ one) other = keys-append (insert_key key_cmp found key) one other

pub links-append : (found one other : List ℕ)
    → links_with (links_with found one) other ≡ links_with found (one ++ other)
links-append found [] other = refl
links-append found (link ∷ one) other = links-append (insert_key nat_cmp found link) one other

filter-append : (one other : List Key)
    → filter is_input one ++ filter is_input other ≡ filter is_input (one ++ other)
filter-append [] other = refl
filter-append (key ∷ one) other = by_test (is_input key) (filter-append one other)
  where
    by_test : (b : Bool) → filter is_input one ++ filter is_input other ≡ filter is_input (one ++ other)
        → cond b (key ∷ filter is_input one) (filter is_input one) ++ filter is_input other
        ≡ cond b (key ∷ filter is_input (one ++ other)) (filter is_input (one ++ other))
    by_test true e = ap (λ l. key ∷ l) e
    by_test false e = e

-- nothing is noted
pub notes-none : (noted : Noted) → Notes noted noted []
notes-none noted = record { keys = refl; links = refl }

-- some keys and then others
pub notes-then : (before between after : Noted) (one other : List Key) → Notes before between one
    → Notes between after other → Notes before after (one ++ other)
notes-then before between after one other h k = record {
  keys = k.keys ∙ ap (λ found. keys_with found (filter is_input other)) h.keys
      ∙ keys-append before.keys.keys (filter is_input one) (filter is_input other)
      ∙ ap (keys_with before.keys.keys) (filter-append one other);
  links = k.links ∙ ap (λ found. links_with found (flat_map link_read other)) h.links
      ∙ links-append before.links.keys (flat_map link_read one) (flat_map link_read other)
      ∙ ap (links_with before.links.keys) (sym (flat_map-append link_read one other));
}

-- what is noted is the same under an equal list
pub notes-same : (before after : Noted) (one other : List Key) → one ≡ other → Notes before after one
    → Notes before after other
notes-same before after one other e h = subst (Notes before after) e h

-- what two operands read
pub notes_both : (read : ℕ → List Key) (before between after : Noted) (one other : List ℕ)
    → Notes before between (flat_map read one) → Notes between after (flat_map read other)
    → Notes before after (flat_map read (one ++ other))
notes_both read before between after one other h k =
    notes-same before after (flat_map read one ++ flat_map read other) (flat_map read (one ++ other))
    (sym (flat_map-append read one other))
    (notes-then before between after (flat_map read one) (flat_map read other) h k)

-- what one more rule reads
pub notes_rule : (names : List NameDef) (before between after : Noted) (rules : List Rule) (rule : Rule)
    → Notes before between (keys_read names rules)
    → Notes between after (flat_map (condition_reads names) rule.conditions)
    → Notes before after (keys_read names (rules ++ rule ∷ []))
notes_rule names before between after rules rule h k =
    notes-same before after (keys_read names rules ++ flat_map (condition_reads names) rule.conditions)
    (keys_read names (rules ++ rule ∷ []))
    (ap (λ more. keys_read names rules ++ more) (sym (append-nil (flat_map (condition_reads names) rule.conditions)))
    ∙ sym (flat_map-append (λ rule. flat_map (condition_reads names) rule.conditions) rules (rule ∷ [])))
    (notes-then before between after (keys_read names rules) (flat_map (condition_reads names) rule.conditions) h k)

-- what one more condition reads
pub notes_condition : (names : List NameDef) (before between after : Noted)
    (conditions : List Condition) (condition : Condition)
    → Notes before between (flat_map (condition_reads names) conditions)
    → Notes between after (condition_reads names condition)
    → Notes before after (flat_map (condition_reads names) (conditions ++ condition ∷ []))
notes_condition names before between after conditions condition h k =
    notes-same before after
    (flat_map (condition_reads names) conditions ++ condition_reads names condition)
    (flat_map (condition_reads names) (conditions ++ condition ∷ []))
    (ap (λ more. flat_map (condition_reads names) conditions ++ more)
    (sym (append-nil (condition_reads names condition)))
    ∙ sym (flat_map-append (condition_reads names) conditions (condition ∷ [])))
    (notes-then before between after (flat_map (condition_reads names) conditions)
    (condition_reads names condition) h k)

-- what a condition reads whose left side is a name, and one whose left side is none
pub notes_named : (names : List NameDef) (before between after : Noted) (condition : Condition)
    (name : ℕ) → condition.left ≡ side.Expr name → Notes before between (condition_keys condition)
    → Notes between after (name_keys names name)
    → Notes before after (condition_reads names condition)
notes_named names before between after condition name e h k =
    notes-same before after (condition_keys condition ++ name_keys names name)
    (condition_reads names condition)
    (ap (λ more. condition_keys condition ++ more)
    (sym (append-nil (name_keys names name))
    ∙ ap (λ left. flat_map (name_keys names) (side_names left)) (sym e)))
    (notes-then before between after (condition_keys condition) (name_keys names name) h k)

pub notes_plain : (names : List NameDef) (before after : Noted) (condition : Condition) (key : Key)
    → condition.left ≡ side.Key key → Notes before after (condition_keys condition)
    → Notes before after (condition_reads names condition)
notes_plain names before after condition key e h =
    notes-same before after (condition_keys condition) (condition_reads names condition)
    (sym (append-nil (condition_keys condition))
    ∙ ap (λ left. condition_keys condition ++ flat_map (name_keys names) (side_names left)) (sym e))
    h

-- the links of one rule and of later ones
pub links_rule : (found : List ℕ) (rule : Rule) (rules : List Rule)
    → links_with (links_with (links_with found (action_links rule.then_actions)) (action_links rule.else_actions)) (links_acted rules)
    ≡ links_with found (links_acted (rule ∷ rules))
links_rule found rule rules =
    links-append (links_with found (action_links rule.then_actions)) (action_links rule.else_actions) (links_acted rules)
    ∙ links-append found (action_links rule.then_actions) (action_links rule.else_actions ++ links_acted rules)
    ∙ ap (links_with found) (sym (append_assoc (action_links rule.then_actions) (action_links rule.else_actions) (links_acted rules))
    ∙ ap (λ links. links ++ links_acted rules)
    (sym (flat_map-append (λ action. action.link ∷ []) rule.then_actions rule.else_actions)))

-- the links that rules act on and those that are read
pub tracked_are : (acted read : List ℕ) → links_with (links_with [] acted) read ≡ links_with [] (acted ++ read)
tracked_are acted read = links-append [] acted read

pub ruleset notes_steps = (notes-none, notes-then)

-- the names of a formula of two operands
pub names_add : (a b : Expr) → formula_names (Add a b) ≡ formula_names a ++ formula_names b
names_add a b = ap formula_names (sym (rolls-Add a b)) ∙ simp fold-roll-Expr refl

pub names_sub : (a b : Expr) → formula_names (Sub a b) ≡ formula_names a ++ formula_names b
names_sub a b = ap formula_names (sym (rolls-Sub a b)) ∙ simp fold-roll-Expr refl

pub names_mul : (a b : Expr) → formula_names (Mul a b) ≡ formula_names a ++ formula_names b
names_mul a b = ap formula_names (sym (rolls-Mul a b)) ∙ simp fold-roll-Expr refl

pub names_div : (a b : Expr) → formula_names (Div a b) ≡ formula_names a ++ formula_names b
names_div a b = ap formula_names (sym (rolls-Div a b)) ∙ simp fold-roll-Expr refl

-- what two operands of a formula read
pub notes_operands : (names : List NameDef) (formula a b : Expr) (before between after : Noted)
    (result : Result (Unit {0}) NoMemory) → formula_names formula ≡ formula_names a ++ formula_names b
    → Notes before between (flat_map (variable_keys names) (formula_names a))
    → OnOk result (Notes between after (flat_map (variable_keys names) (formula_names b)))
    → OnOk result (Notes before after (flat_map (variable_keys names) (formula_names formula)))
notes_operands names formula a b before between after (Ok done) e h k =
    subst (λ all. Notes before after (flat_map (variable_keys names) all)) (sym e)
    (notes_both (variable_keys names) before between after (formula_names a) (formula_names b) h k)
notes_operands names formula a b before between after (Err fault) e h k = tt

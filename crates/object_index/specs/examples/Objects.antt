-- What words and names give, and whether the objects of some rules are there, worked out by hand.
use Rattle.std.specs.Prelude.{◌≡◌, ℕ, true, false, [], ◌∷◌, None, Result, Ok, Err, codes}
use Rattle.exact_fraction.specs.Number.{zero, one}
use Rattle.exact_fraction.specs.declared.relation.Relation.TheVariants.{Gt}
use Rattle.rule_types.specs.declared.object.Space.TheVariants.{Nodes, Links, Gages}
use Rattle.rule_types.specs.declared.object.ObjectNo.{ObjectNo}
use Rattle.rule_types.specs.declared.object.ObjectKind.TheVariants as kinds
use Rattle.rule_types.specs.declared.object.ObjectWord.TheVariants as words
use Rattle.rule_types.specs.declared.key.Attr.TheVariants.{Depth, Status}
use Rattle.rule_types.specs.declared.key.Key.{Key}
use Rattle.rule_types.specs.declared.key.Key.TheVariants.{Object}
use Rattle.rule_types.specs.declared.condition.Condition.{Condition}
use Rattle.rule_types.specs.declared.condition.Side.TheVariants as side
use Rattle.rule_types.specs.declared.condition.Right.TheVariants as right
use Rattle.rule_types.specs.declared.action.Action.{Action}
use Rattle.rule_types.specs.declared.action.What.TheVariants.{Constant}
use Rattle.rule_types.specs.declared.rule.Rule.{Rule}
use Rattle.rule_types.specs.declared.names.NameDef.{NameDef}
use Rattle.rule_types.specs.declared.names.NameKind.TheVariants.{Variable}
use Rattle.rule_types.specs.declared.rules.Rules.{Rules}
use Rattle.object_index.specs.declared.unresolved.Unresolved.{Unresolved}
use Rattle.object_index.specs.declared.unresolved.Unresolved.TheVariants.{Unknown, Ambiguous}
use Rattle.object_index.specs.declared.unresolved.Unresolved.TheVariants.{WrongKind}
use Rattle.object_index.specs.Holding.{HoldsRule, HoldsObjects}
use Rattle.object_index.specs.Objects.{Objects, with_object, resolution}

-- a node, two pumps and two conduits whose names differ in case alone, and a gage
abbrev pub network : Objects
network = record {
  nodes = record { name = codes "J1"; kind = kinds.Node } ∷ [];
  links =
      record { name = codes "P1"; kind = kinds.Pump }
      ∷ record { name = codes "p1"; kind = kinds.Pump }
      ∷ record { name = codes "Pa"; kind = kinds.Conduit }
      ∷ record { name = codes "pA"; kind = kinds.Conduit } ∷ [];
  gages = record { name = codes "R1"; kind = kinds.Gage } ∷ [];
}

-- the same after one more link
abbrev pub larger : Objects
larger = with_object network kinds.Weir (codes "pb")

abbrev pub link : ℕ → Result ObjectNo Unresolved
link index = Ok (record { space = Links; index = index })

abbrev pub gage_0 : Result ObjectNo Unresolved
gage_0 = Ok (record { space = Gages; index = 0 })

-- names find the same bytes first, then the only other that is equal without case; the word gives
-- the space and the kind
pub record AreExamples : Type 0 where
  pub upper : resolution network words.Pump (codes "P1") ≡ link 0
  pub lower : resolution network words.Link (codes "p1") ≡ link 1
  pub ambiguous : resolution network words.Link (codes "PA") ≡ Err Ambiguous
  pub unknown : resolution network words.Link (codes "PB") ≡ Err Unknown
  pub then_found : resolution larger words.Weir (codes "PB") ≡ link 4
  pub another_kind : resolution network words.Pump (codes "Pa") ≡ Err WrongKind
  pub wrong_conduit : resolution network words.Conduit (codes "P1") ≡ Err WrongKind
  pub wrong_orifice : resolution network words.Orifice (codes "P1") ≡ Err WrongKind
  pub wrong_outlet : resolution larger words.Outlet (codes "pb") ≡ Err WrongKind
  pub wrong_weir : resolution network words.Weir (codes "P1") ≡ Err WrongKind
  pub its_own_kind : resolution network words.Conduit (codes "pA") ≡ link 3
  pub exact_of_another_kind : resolution network words.Conduit (codes "p1") ≡ Err WrongKind
  pub gage : resolution network words.Gage (codes "r1") ≡ gage_0
  pub no_gage : resolution network words.Gage (codes "J1") ≡ Err Unknown
  pub not_narrowed : resolution network words.Pump (codes "PA") ≡ Err Ambiguous
  pub without_case :
      resolution network words.Node (codes "j1") ≡ Ok (record { space = Nodes; index = 0 })
  pub another_space : resolution network words.Link (codes "J1") ≡ Err Unknown

-- the depth of a node and the status of a link
abbrev pub depth : ℕ → Key
depth node = Object (record { space = Nodes; index = node }) Depth

abbrev pub status : ℕ → Key
status link = Object (record { space = Links; index = link }) Status

-- a condition that a key is above 0, and an action that closes a link
abbrev pub if_above : Key → Condition
if_above key = record {
  left = side.Key key;
  rel = Gt;
  right = right.Value zero;
  half_step = false;
  joined_by_and = true;
}

abbrev pub close : ℕ → Action
close link = record { link = link; what = Constant zero }

-- a variable for a key
abbrev pub variable : Key → NameDef
variable key = record { name = codes "a"; stands_for = Variable key }

-- where a link is open, another is closed
abbrev pub closing_rule : ℕ → ℕ → Rule
closing_rule open_link closed_link = record {
  id = codes "R1";
  conditions = if_above (status open_link) ∷ [];
  then_actions = close closed_link ∷ [];
  else_actions = [];
  priority = None;
}

-- this rule alone, with a variable for the depth of a node
abbrev pub closing : ℕ → ℕ → ℕ → Rules
closing node open_link closed_link = record {
  rules = closing_rule open_link closed_link ∷ [];
  names = variable (depth node) ∷ [];
  input_keys = depth node ∷ [];
  tracked = open_link ∷ closed_link ∷ [];
  controlled = closed_link ∷ [];
  pumps = false ∷ [];
  initial = one ∷ one ∷ [];
  rates = zero ∷ zero ∷ [];
  start = None;
  routing_step = one;
  rule_step = zero;
}

-- node 0 and links 0 to 3 are there, and no others until one more link is added
pub record AreHeld : Type 0 where
  pub each_there : HoldsObjects network (closing 0 0 3)
  pub no_node : HoldsObjects network (closing 1 0 3) → ⊥
  pub none_tracked : HoldsObjects network (closing 0 4 3) → ⊥
  pub none_read : HoldsRule network (closing_rule 4 3) → ⊥
  pub none_closed : HoldsRule network (closing_rule 0 4) → ⊥
  pub then_there : HoldsObjects larger (closing 0 0 4)

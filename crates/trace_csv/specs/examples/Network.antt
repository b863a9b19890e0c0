-- A small network, the keys that rules read of it, and headers for these keys.
use Rattle.std.specs.Prelude.{ℕ, List, [], ◌∷◌, Some, None, codes}
use Rattle.rule_types.specs.declared.object.Space.TheVariants.{Nodes, Links}
use Rattle.rule_types.specs.declared.object.ObjectKind.TheVariants as kinds
use Rattle.rule_types.specs.declared.key.Attr.TheVariants.{Depth, Flow}
use Rattle.rule_types.specs.declared.key.Key.{Key}
use Rattle.rule_types.specs.declared.key.Key.TheVariants.{Object}
use Rattle.object_index.specs.Objects.{Objects}
use Rattle.trace_csv.specs.Columns.{Columns}

-- a node and a pump
abbrev pub small_network : Objects
small_network = record {
  nodes = record { name = codes "N1"; kind = kinds.Node } ∷ [];
  links = record { name = codes "P1"; kind = kinds.Pump } ∷ [];
  gages = [];
}

-- the depth at the node and the flow of the pump, and both in key order
abbrev pub depth_key : Key
depth_key = Object (record { space = Nodes; index = 0 }) Depth

abbrev pub flow_key : Key
flow_key = Object (record { space = Links; index = 0 }) Flow

abbrev pub both_keys : List Key
both_keys = depth_key ∷ flow_key ∷ []

-- a header with a column of the flow, one that is unread and one of the depth
abbrev pub flow_and_depth : Columns
flow_and_depth = record { columns = Some 1 ∷ None ∷ Some 0 ∷ []; inputs = 2 }

-- the fields of a row under it
abbrev pub row_fields : List ℕ → List ℕ → List ℕ → List (List ℕ)
row_fields flow other depth = codes "2001-06-15T00:00:00" ∷ flow ∷ other ∷ depth ∷ []

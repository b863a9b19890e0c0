-- Rules that act on nothing, and rules that act on two links, of a small network.
use Rattle.std.specs.Prelude.{ℕ, List, [], ◌∷◌, None, codes, pos}
use Rattle.exact_fraction.specs.Number.{whole, zero}
use Rattle.byte_edge.specs.Lines.{LineEvent, Whole}
use Rattle.object_index.specs.Objects.{Objects}
use Rattle.rule_types.specs.declared.object.ObjectKind.TheVariants as kinds
use Rattle.rule_types.specs.declared.rules.Rules.{Rules}
use Rattle.rule_types.specs.Tables.{TableSet}

-- no tables
abbrev pub no_tables : TableSet
no_tables = record { curves = []; series = [] }

-- two pumps, of which one has a comma in its name
abbrev pub two_pumps : Objects
two_pumps = record {
  nodes = [];
  links =
      record { name = codes "P1"; kind = kinds.Pump }
      ∷ record { name = codes "P,2"; kind = kinds.Pump } ∷ [];
  gages = [];
}

-- rules that act on these links, each at first at 1
abbrev pub acting_on : List ℕ → Rules
acting_on links = record {
  rules = [];
  names = [];
  input_keys = [];
  tracked = links;
  controlled = links;
  pumps = [];
  initial = [];
  rates = [];
  start = None;
  routing_step = whole (pos 60);
  rule_step = zero;
}

-- lines of a trace
abbrev pub the_header : LineEvent
the_header = Whole (codes "moment")

abbrev pub the_row : LineEvent
the_row = Whole (codes "2001-06-15T00:00:00")

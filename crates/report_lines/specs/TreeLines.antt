-- The trees of a report.
use Rattle.std.specs.Prelude.{ℕ, zero, suc, Bool, true, false, ◌&&◌, if◌then◌else◌, List, [], ◌∷◌, ◌++◌}
use Rattle.std.specs.Prelude.{codes, nat_lt, ◌-◌, slice_get, Option, None, Some, Ok, Err, ℤ, length}
use Rattle.std.specs.BTreeMap.{is_at}
use Rattle.std.specs.List.{list_any}
use Rattle.std.specs.Str.{bytes_eq}
use Rattle.exact_fraction.specs.Number.{Rational}
use Rattle.inp_text.specs.Sections.{Line}
use Rattle.num_text.specs.Fields.{◌>>=◌}
use Rattle.object_index.specs.Objects.{Objects}
use Rattle.rule_types.specs.KeyOrder.{key_cmp}
use Rattle.rule_types.specs.declared.key.Key.{Key}
use Rattle.verdict_meaning.specs.declared.cert.Cert.{Cert}
use Rattle.verdict_meaning.specs.declared.cert.Cert.TheVariants as cert
use Rattle.verdict_meaning.specs.declared.cert.Reason.TheVariants.{Whole, Facts}
use Rattle.report_lines.specs.KeyLines.{past_key, key_named}
use Rattle.report_lines.specs.Words.{Word, words_of, line_at, value_of, written_moment_of, rule_place}
use Rattle.report_lines.specs.Words.{Reading, read_to, behind}
use Rattle.report_lines.specs.declared.grid.Grid.{Grid}
use Rattle.report_lines.specs.declared.node.NodeLine.{NodeLine}
use Rattle.report_lines.specs.declared.node.NodeLine.TheVariants as node

-- ---- the line of a node
abbrev pub leaf_text : List ℕ
leaf_text = codes "leaf"

abbrev pub split_text : Word
split_text = codes "split"

abbrev pub moment_text : Word
moment_text = codes "MOMENT"

-- `split KEY VALUE`, with a key of the grid
abbrev pub is_grid_key : Grid → Key → Bool
is_grid_key grid key = list_any (is_at (key_cmp key)) grid.keys

abbrev pub split_at : Key → Option Rational → Option NodeLine
split_at key None = None
split_at key (Some q) = Some (node.Split key q)

abbrev pub split_on : Objects → Grid → List ℕ → Key → Option NodeLine
split_on objects grid line key =
    if is_grid_key grid key
    then split_at key (past_key split_text objects key line >>= value_of) else None

unfoldable pub split_line : Objects → Grid → List ℕ → List Word → Option NodeLine
split_line objects grid line words = key_named objects words >>= split_on objects grid line

-- `split MOMENT moment`, where the grid has moments
abbrev pub before_at : Option ℤ → Option NodeLine
before_at None = None
before_at (Some moment) = Some (node.Before moment)

abbrev pub moment_line : Grid → Word → Option NodeLine
moment_line grid word = if grid.has_moments then before_at (written_moment_of word) else None

-- a line that begins with `split`: three words speak of a moment, any other number of a key
abbrev pub split_by : Objects → Grid → List ℕ → List Word → Option NodeLine
split_by objects grid line (head ∷ second ∷ third ∷ []) =
    if bytes_eq head split_text && bytes_eq second moment_text then moment_line grid third else None
split_by objects grid line words = split_line objects grid line words

unfoldable pub node_line : Objects → Grid → List ℕ → Option NodeLine
node_line objects grid line =
    if bytes_eq line leaf_text then Some node.Leaf
    else split_by objects grid line (words_of line)

-- the node of the line at a place
unfoldable pub node_at : List Line → Objects → Grid → ℕ → Option NodeLine
node_at lines objects grid at = line_at lines at >>= node_line objects grid

-- ---- the facts of a leaf
abbrev pub fact_text : Word
fact_text = codes "fact"

abbrev pub first_is : Word → List Word → Bool
first_is word [] = false
first_is word (first ∷ more) = bytes_eq first word

-- whether a line is a fact's: its first word is `fact`
abbrev pub is_fact_line : Option (List ℕ) → Bool
is_fact_line None = false
is_fact_line (Some line) = first_is fact_text (words_of line)

abbrev pub yes_text : Word
yes_text = codes "yes"

abbrev pub no_text : Word
no_text = codes "no"

-- `yes` or `no`
abbrev pub holds_by : Word → Option Bool
holds_by word =
    if bytes_eq word yes_text then Some true
    else (if bytes_eq word no_text then Some false else None)

-- a rule of the question behind the last one, with what a fact says of it
abbrev pub is_below : ℕ → Option (ℕ × Bool) → Bool
is_below rule None = true
is_below rule (Some last) = nat_lt last.0 rule

abbrev pub comes_behind : ℕ → List (ℕ × Bool) → Bool
comes_behind rule facts = is_below rule (slice_get facts (length facts - 1))

abbrev pub asked_by : Option Bool → Bool
asked_by None = false
asked_by (Some asked) = asked

-- whether the rule at a place is the question's
abbrev pub is_asked_at : List Bool → ℕ → Bool
is_asked_at asked rule = asked_by (slice_get asked rule)

abbrev pub fact_with : Grid → List (ℕ × Bool) → ℕ → Option Bool → Option (ℕ × Bool)
fact_with grid facts rule None = None
fact_with grid facts rule (Some holds) =
    if is_asked_at grid.asked rule && comes_behind rule facts then Some (rule, holds) else None

-- `fact R yes` or `fact R no`, behind these facts
abbrev pub fact_by : Grid → List (ℕ × Bool) → List Word → Option (ℕ × Bool)
fact_by grid facts (head ∷ rule ∷ holds ∷ []) =
    rule_place (length grid.asked) rule >>= λ place. fact_with grid facts place (holds_by holds)
fact_by grid facts words = None

unfoldable pub fact_line : Grid → List (ℕ × Bool) → Option (List ℕ) → Option (ℕ × Bool)
fact_line grid facts None = None
fact_line grid facts (Some line) = fact_by grid facts (words_of line)

-- the facts from a line on, behind these, among at most so many lines
abbrev pub facts_after : List (ℕ × Bool) → ℕ → Option (ℕ × Bool)
    → (List (ℕ × Bool) → Reading (List (ℕ × Bool))) → Reading (List (ℕ × Bool))
facts_after facts at None later = Err at
facts_after facts at (Some fact) later = later (facts ++ fact ∷ [])

unfoldable pub facts_from : List Line → Grid → ℕ → ℕ → List (ℕ × Bool) → Reading (List (ℕ × Bool))
facts_from lines grid zero at facts = Ok (read_to facts at)
facts_from lines grid (suc most) at facts =
    if is_fact_line (line_at lines at)
    then facts_after facts at (fact_line grid facts (line_at lines at))
    (facts_from lines grid most (suc at))
    else Ok (read_to facts at)

-- ---- trees
-- a tree, and the places of lines so far with those of its nodes, in their order
pub record PlacedTree : Type 0 where
  pub tree : Cert
  pub places : List ℕ

abbrev pub placed : Cert → List ℕ → PlacedTree
placed tree places = record { tree = tree; places = places }

-- a leaf, from the line behind its own on: in a report of version 2 the facts there are its reason
abbrev pub leaf_with : List ℕ → Reading (List (ℕ × Bool)) → Reading PlacedTree
leaf_with places (Err at) = Err at
leaf_with places (Ok read) =
    Ok (read_to (placed (cert.Leaf (Facts read.value)) places) read.next)

abbrev pub leaf_from : List Line → Grid → Bool → ℕ → List ℕ → Reading PlacedTree
leaf_from lines grid false next places = Ok (read_to (placed (cert.Leaf Whole) places) next)
leaf_from lines grid true next places =
    leaf_with places (facts_from lines grid (length lines) next [])

-- three trees of a split at a number, and two of one at a moment
abbrev pub split_from : (ℕ → List ℕ → Reading PlacedTree) → Key → Rational → ℕ → List ℕ
    → Reading PlacedTree
split_from tree key q at places =
    behind (tree at places) λ below next. behind (tree next below.places) λ middle last.
    behind (tree last middle.places) λ above rest.
    Ok (read_to (placed (cert.Split key q below.tree middle.tree above.tree) above.places) rest)

abbrev pub before_from : (ℕ → List ℕ → Reading PlacedTree) → ℤ → ℕ → List ℕ → Reading PlacedTree
before_from tree moment at places =
    behind (tree at places) λ before next. behind (tree next before.places) λ later rest.
    Ok (read_to (placed (cert.Before moment before.tree later.tree) later.places) rest)

-- a node by its line, where its trees are read by `tree`
abbrev pub node_from : List Line → Grid → Bool → (ℕ → List ℕ → Reading PlacedTree) → ℕ → List ℕ
    → Option NodeLine → Reading PlacedTree
node_from lines grid facts tree at places None = Err at
node_from lines grid facts tree at places (Some node.Leaf) =
    leaf_from lines grid facts (suc at) (places ++ at ∷ [])
node_from lines grid facts tree at places (Some (node.Split key q)) =
    split_from tree key q (suc at) (places ++ at ∷ [])
node_from lines grid facts tree at places (Some (node.Before moment)) =
    before_from tree moment (suc at) (places ++ at ∷ [])

-- the tree from a line on, of at most so many levels, behind these places; `facts` where the report
-- has version 2
unfoldable pub tree_from : List Line → Objects → Grid → Bool → ℕ → ℕ → List ℕ → Reading PlacedTree
tree_from lines objects grid facts zero at places = Err at
tree_from lines objects grid facts (suc levels) at places =
    node_from lines grid facts (tree_from lines objects grid facts levels) at places
    (node_at lines objects grid at)

-- the greatest depth of a tree, whose root has depth 1
abbrev pub most_levels : ℕ
most_levels = 1024

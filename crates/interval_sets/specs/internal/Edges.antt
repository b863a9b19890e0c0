-- The edges of a set: the places on the line of fractions at which membership changes, from none
-- below all of them.
use Rattle.std.specs.Prelude.{◌≡◌, Bool, true, false, not, ◌&&◌, ◌||◌, List, [], ◌∷◌}
use Rattle.exact_fraction.specs.Number.{Rational, IsNumber}
use Rattle.exact_fraction.specs.Order.{less}
use Rattle.interval_sets.specs.declared.interval.Bound.{Bound}
use Rattle.interval_sets.specs.declared.interval.Bound.TheVariants as end
use Rattle.interval_sets.specs.declared.interval.Interval.{Interval}
use Rattle.interval_sets.specs.declared.edge.Edge.{Edge}
use Rattle.interval_sets.specs.declared.edge.Edge.TheVariants.{BelowAll, Before, After, AboveAll}
use Rattle.interval_sets.specs.declared.combination.Combination.{Combination}
use Rattle.interval_sets.specs.declared.combination.Combination.TheVariants.{Union, Meet}
use Rattle.interval_sets.specs.declared.combination.Combination.TheVariants.{Difference}

-- whether a fraction is past an edge
abbrev pub is_past : Rational → Edge → Bool
is_past q BelowAll = true
is_past q (Before p) = not (less q p)
is_past q (After p) = less p q
is_past q AboveAll = false

-- whether an edge stands before another
abbrev pub stands_before : Edge → Edge → Bool
stands_before e BelowAll = false
stands_before BelowAll f = true
stands_before AboveAll f = false
stands_before e AboveAll = true
stands_before (Before p) (After q) = not (less q p)
stands_before (Before p) (Before q) = less p q
stands_before (After p) (Before q) = less p q
stands_before (After p) (After q) = less p q

-- the edge at which membership begins at a low end, and that at which it stops at a high end
abbrev pub low_edge : Bound → Edge
low_edge end.NoBound = BelowAll
low_edge (end.Bound p true) = After p
low_edge (end.Bound p false) = Before p

abbrev pub high_edge : Bound → Edge
high_edge end.NoBound = AboveAll
high_edge (end.Bound p true) = Before p
high_edge (end.Bound p false) = After p

-- the low end, and the high end, that an edge stands for
abbrev pub low_end : Edge → Bound
low_end BelowAll = end.NoBound
low_end (Before p) = end.Bound p false
low_end (After p) = end.Bound p true
low_end AboveAll = end.NoBound

abbrev pub high_end : Edge → Bound
high_end BelowAll = end.NoBound
high_end (Before p) = end.Bound p true
high_end (After p) = end.Bound p false
high_end AboveAll = end.NoBound

-- the edges of pieces, in their order
abbrev pub edges_of : List Interval → List Edge
edges_of [] = []
edges_of (piece ∷ pieces) = low_edge piece.low ∷ high_edge piece.high ∷ edges_of pieces

-- the edge stands before the first of the edges that follow it
abbrev pub Leads : Edge → List Edge → Type 0
Leads e [] = Unit {0}
Leads e (f ∷ edges) = stands_before e f ≡ true

-- each edge stands before the next
abbrev pub Rises : List Edge → Type 0
Rises [] = Unit {0}
Rises (e ∷ edges) = Leads e edges × Rises edges

-- the number at an edge, if any, is one that a program holds
abbrev pub IsHeldEdge : Edge → Type 0
IsHeldEdge BelowAll = Unit {0}
IsHeldEdge (Before p) = IsNumber p
IsHeldEdge (After p) = IsNumber p
IsHeldEdge AboveAll = Unit {0}

abbrev pub AreHeldEdges : List Edge → Type 0
AreHeldEdges [] = Unit {0}
AreHeldEdges (e ∷ edges) = IsHeldEdge e × AreHeldEdges edges

-- whether two tests differ
abbrev pub differs : Bool → Bool → Bool
differs true b = not b
differs false b = b

-- whether the number of edges that pass a test is odd
abbrev pub oddly_many : (Edge → Bool) → List Edge → Bool
oddly_many test [] = false
oddly_many test (e ∷ edges) = differs (test e) (oddly_many test edges)

-- an edge that stands before one that passes the test passes it too
abbrev pub IsDownward : (Edge → Bool) → Type 0
IsDownward test = (e f : Edge) → stands_before e f ≡ true → test f ≡ true → test e ≡ true

-- whether a fraction is in the combination of two sets, from whether it is in each
abbrev pub in_combination : Combination → Bool → Bool → Bool
in_combination Union left right = left || right
in_combination Meet left right = left && right
in_combination Difference left right = left && not right

-- the edges with one more in front, where it is taken
abbrev pub with_edge : Bool → Edge → List Edge → List Edge
with_edge true e edges = e ∷ edges
with_edge false e edges = edges

-- the edges without the first one, where it is taken
abbrev pub rest_after : Bool → List Edge → List Edge
rest_after true (e ∷ edges) = edges
rest_after test edges = edges

-- the edges of a combination of two sets: for each place between edges, the number of those before
-- it is odd exactly where the combination holds of the two sets
pub record IsCombination (how : Combination) (left right edges : List Edge) : Type 0 where
  pub changes : (test : Edge → Bool) → IsDownward test
      → oddly_many test edges ≡ in_combination how (oddly_many test left) (oddly_many test right)
  pub rising : Rises edges
  pub held : AreHeldEdges edges

-- Pieces made of edges, two by two.
use Rattle.std.proofs.Common.{◌≡◌, Bool, true, false, not, List, [], ◌∷◌, ◌++◌, append_assoc, sym, ap, ap₂, ◌∙◌}
use Rattle.std.proofs.lemmas.Bool.{true≢false}
use Rattle.std.proofs.lemmas.List.{append-nil}
use Rattle.interval_sets.specs.declared.interval.Interval.{Interval}
use Rattle.interval_sets.specs.declared.edge.Edge.{Edge}
use Rattle.interval_sets.specs.internal.Edges.{low_end, high_end, edges_of, Rises, oddly_many}
use Rattle.interval_sets.proofs.PieceEdges.{edges_of-push, low_back, high_back}

-- the pieces so far have the edges before the rest, of which there is an even number
pub record Pairing (all rest : List Edge) (pieces : List Interval) : Type 0 where
  pub whole : edges_of pieces ++ rest ≡ all
  pub rising : Rises rest
  pub even : oddly_many (λ e. true) rest ≡ false

not_not : (b : Bool) → not (not b) ≡ false → b ≡ false
not_not true e = e
not_not false e = e

pub pairing_step : (all : List Edge) (e f : Edge) (rest : List Edge) (pieces : List Interval) → Pairing all (e ∷ f ∷ rest) pieces → Pairing all rest (pieces ++ record { low = low_end e; high = high_end f } ∷ [])
pairing_step all e f rest pieces so = record {
  whole =
      ap (λ edges. edges ++ rest) (edges_of-push pieces (record { low = low_end e; high = high_end f }) ∙ ap (λ two. edges_of pieces ++ two) (ap₂ (λ a b. a ∷ b ∷ []) (low_back e f so.rising.0) (high_back e f so.rising.0)))
      ∙ append_assoc (edges_of pieces) (e ∷ f ∷ []) rest
      ∙ so.whole;
  rising = so.rising.1.1;
  even = not_not (oddly_many (λ e. true) rest) so.even;
}

pub pairing_end : (all rest : List Edge) (pieces : List Interval) → rest ≡ [] → Pairing all rest pieces → edges_of pieces ≡ all
pairing_end all rest pieces none so = sym (append-nil (edges_of pieces)) ∙ ap (λ x. edges_of pieces ++ x) (sym none) ∙ so.whole

-- a single edge is not left
pub pairing_odd : (all : List Edge) (e : Edge) (pieces : List Interval) → Pairing all (e ∷ []) pieces → ⊥
pairing_odd all e pieces so = true≢false so.even

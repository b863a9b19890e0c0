-- The cells of a grid have pieces of their keys, beside which all numbers lie that cut the key, and
-- a run of moments.
use Rattle.std.proofs.Common.{◌≡◌, Bool, true, false, inl, inr, Option, Some, None}
use Rattle.std.proofs.Common.{List, [], ◌∷◌, ◌++◌, map, refl, sym, subst, ℤ}
use Rattle.std.proofs.lemmas.Bool.{and_from}
use Rattle.std.specs.List.{AllByRecursion, AllZip, filter, flat_map}
use Rattle.std.specs.Prelude.{IsTrue}
use Rattle.exact_fraction.specs.Number.{Rational}
use Rattle.exact_fraction.specs.Order.{less}
use Rattle.interval_sets.specs.declared.interval.Interval.{Interval}
use Rattle.interval_sets.specs.Intervals.{lies_in}
use Rattle.rule_types.specs.declared.key.Key.{Key}
use Rattle.rule_types.specs.declared.rules.Rules.{Rules}
use Rattle.moment_pieces.specs.Pieces.{begins_piece, piece_firsts}
use Rattle.verdict_meaning.specs.declared.cell.Cell.{Cell}
use Rattle.verdict_meaning.specs.declared.question.Question.{Question}
use Rattle.verdict_meaning.specs.Grids.{axes_of, cells_of, combinations, condition_cuts, cuts_of}
use Rattle.verdict_meaning.specs.Grids.{end_numbers, limit_cuts, moment_pieces}
use Rattle.verdict_meaning.specs.Grids.{pieces_of, spans_to}
use Rattle.verdict_meaning.specs.Premises.{start_of}
use Rattle.verdict_meaning.specs.Questions.{asked_numbers, asked_rules}
use Rattle.grid_samples.specs.Covers.{CoversEntry, IsPartOf}
use Rattle.cell_truths.proofs.CutPieces.{cut_pieces, has_number, HasCut, IsBeside, IsGapBeside}
use Rattle.cell_truths.proofs.CutPieces.{IsPieceBeside}
use Rattle.cell_truths.proofs.Lists.{Among, among_back, among_filter, each_by, each_flat}
use Rattle.cell_truths.proofs.MomentRuns.{IsRun, piece_runs}
use Rattle.cell_truths.proofs.RisingCuts.{cuts_rise}

-- the numbers that cut a key, in its range or not
abbrev pub rule_cuts : Rules → Question → Key → List Rational
rule_cuts x question key =
    flat_map (λ rule. flat_map (condition_cuts x.names x.routing_step key) rule.conditions)
    (asked_rules x question)

abbrev pub key_numbers : Rules → Question → Key → List Rational
key_numbers x question key = limit_cuts key question ++ rule_cuts x question key

-- ---- keys
-- an entry of a cell has the key of an entry of a box, and one of the pieces of its cuts
abbrev pub IsPieceFor : Rules → Question → Key × Interval → Key × Interval → Type 0
IsPieceFor x question entry piece =
    (entry.0 ≡ piece.0) × IsPieceBeside (HasCut (cuts_of x question entry.0 entry.1)) piece.1

abbrev pub ArePiecesFor : Rules → Question → List (Key × Interval) → List (Key × Interval) → Type 0
ArePiecesFor x question entries pieces = AllZip (IsPieceFor x question) entries pieces

with_piece : (x : Rules) (question : Question) (entry : Key × Interval)
    (entries : List (Key × Interval)) (piece : Interval)
    → IsPieceBeside (HasCut (cuts_of x question entry.0 entry.1)) piece
    → (found : List (List (Key × Interval)))
    → AllByRecursion (ArePiecesFor x question entries) found
    → AllByRecursion (ArePiecesFor x question (entry ∷ entries))
    (map (λ cell. (entry.0, piece) ∷ cell) found)
with_piece x question entry entries piece h [] k = tt
with_piece x question entry entries piece h (cell ∷ found) k =
    (((refl, h), k.0), with_piece x question entry entries piece h found k.1)

combined : (x : Rules) (question : Question) (entries : List (Key × Interval))
    → AllByRecursion (ArePiecesFor x question entries) (combinations (axes_of x question entries))
unfolding combinations axes_of
combined x question [] = (tt, tt)
combined x question (entry ∷ entries) =
    let found = combinations (axes_of x question entries) in
    let cuts = cuts_of x question entry.0 entry.1 in
    each_flat (ArePiecesFor x question (entry ∷ entries))
    (λ piece. map (λ cell. (entry.0, piece) ∷ cell) found) (pieces_of cuts)
    (each_by (IsPieceBeside (HasCut cuts))
    (λ piece. AllByRecursion (ArePiecesFor x question (entry ∷ entries))
    (map (λ cell. (entry.0, piece) ∷ cell) found))
    (λ piece is. with_piece x question entry entries piece is found (combined x question entries))
    (pieces_of cuts) (cut_pieces cuts (cuts_rise x question entry.0 entry.1)))

-- ---- moments
-- the moments of a cell: a run of those of a box, where it has some
abbrev pub IsRunFor : (ℤ → Bool) → Option (ℤ × ℤ) → Option (ℤ × ℤ) → Type 0
IsRunFor begins None piece = piece ≡ None
IsRunFor begins (Some span) None = ⊥
IsRunFor begins (Some span) (Some piece) = IsRun begins piece

-- the seconds at which a piece begins for a question
abbrev pub begins_for : Rules → Question → ℤ → Bool
begins_for x question = begins_piece x (asked_numbers x question) x.routing_step (start_of x)

some_runs : (begins : ℤ → Bool) (box : ℤ × ℤ) (spans : List (ℤ × ℤ))
    → AllByRecursion (IsRun begins) spans
    → AllByRecursion (IsRunFor begins (Some box)) (map (λ span. Some span) spans)
some_runs begins box [] h = tt
some_runs begins box (span ∷ spans) h = (h.0, some_runs begins box spans h.1)

moments_for : (x : Rules) (question : Question) (box : Option (ℤ × ℤ))
    → AllByRecursion (IsRunFor (begins_for x question) box) (moment_pieces x question box)
moments_for x question None = (refl, tt)
moments_for x question (Some span) =
    some_runs (begins_for x question) span
    (spans_to span.1
    (piece_firsts x (asked_numbers x question) x.routing_step (start_of x) span.0 span.1))
    (piece_runs x (asked_numbers x question) x.routing_step (start_of x) span.0 span.1)

-- ---- cells
pub record IsCellFor (x : Rules) (question : Question) (box cell : Cell) : Type 0 where
  pub keys : ArePiecesFor x question box.keys cell.keys
  pub moments : IsRunFor (begins_for x question) box.moments cell.moments

with_moments : (x : Rules) (question : Question) (box : Cell) (keys : List (Key × Interval))
    (spans : List (Option (ℤ × ℤ))) → ArePiecesFor x question box.keys keys
    → AllByRecursion (IsRunFor (begins_for x question) box.moments) spans
    → AllByRecursion (IsCellFor x question box)
    (map (λ (span : Option (ℤ × ℤ)). record { keys = keys; moments = span }) spans)
with_moments x question box keys [] h k = tt
with_moments x question box keys (span ∷ spans) h k =
    (record { keys = h; moments = k.0 }, with_moments x question box keys spans h k.1)

pub cells_for : (x : Rules) (question : Question) (box : Cell)
    → AllByRecursion (IsCellFor x question box) (cells_of x question box)
unfolding cells_of
cells_for x question box =
    let spans = moment_pieces x question box.moments in
    let cells = λ (keys : List (Key × Interval)).
    map (λ (span : Option (ℤ × ℤ)). record { keys = keys; moments = span }) spans in
    each_flat (IsCellFor x question box) cells (combinations (axes_of x question box.keys))
    (each_by (ArePiecesFor x question box.keys)
    (λ keys. AllByRecursion (IsCellFor x question box) (cells keys))
    (λ keys is. with_moments x question box keys spans is (moments_for x question box.moments))
    (combinations (axes_of x question box.keys)) (combined x question box.keys))

-- ---- all numbers that cut a key lie beside its piece
abbrev pub IsUncut : Rules → Question → Key → Interval → Type 0
IsUncut x question key piece = IsPieceBeside (Among (key_numbers x question key)) piece

cut_in : (x : Rules) (question : Question) (key : Key) (range : Interval) (c : Rational)
    → Among (key_numbers x question key) c → IsTrue (lies_in range c)
    → HasCut (cuts_of x question key range) c
unfolding cuts_of
cut_in x question key range c at inside =
    has_number _ c
    (among_back (end_numbers range.low ++ end_numbers range.high)
    (filter (lies_in range) (key_numbers x question key)) c
    (among_filter (lies_in range) (key_numbers x question key) c at inside))

beside_by : (x : Rules) (question : Question) (key : Key) (range piece : Interval)
    → IsPartOf piece range
    → (gap : IsGapBeside (HasCut (cuts_of x question key range)) piece) → (c : Rational)
    → Among (key_numbers x question key) c → (a b : Bool) → less gap.low c ≡ a
    → less c gap.high ≡ b → IsBeside gap.low gap.high c
beside_by x question key range piece part gap c at false b e f = inl e
beside_by x question key range piece part gap c at true false e f = inr f
beside_by x question key range piece part gap c at true true e f =
    gap.beside c
    (cut_in x question key range c at
    (part c
    (subst (λ one. IsTrue (lies_in one c)) (sym gap.is)
    (and_from (less gap.low c) (less c gap.high) e f))))

uncut : (x : Rules) (question : Question) (key : Key) (range piece : Interval)
    → IsPartOf piece range → IsPieceBeside (HasCut (cuts_of x question key range)) piece
    → IsUncut x question key piece
uncut x question key range piece part (inl point) = inl point
uncut x question key range piece part (inr gap) =
    inr (record {
      low = gap.low;
      high = gap.high;
      is = gap.is;
      rises = gap.rises;
      beside = λ c at.
          beside_by x question key range piece part gap c at (less gap.low c) (less c gap.high) refl
          refl;
    })

pub uncut_pieces : (x : Rules) (question : Question) (entries pieces : List (Key × Interval))
    → ArePiecesFor x question entries pieces → AllZip CoversEntry entries pieces
    → AllByRecursion (λ piece. IsUncut x question piece.0 piece.1) pieces
uncut_pieces x question [] [] h k = tt
uncut_pieces x question [] (piece ∷ pieces) h k = absurd h
uncut_pieces x question (entry ∷ entries) [] h k = absurd h
uncut_pieces x question (entry ∷ entries) (piece ∷ pieces) h k = (
  subst (λ key. IsUncut x question key piece.1) h.0.0
      (uncut x question entry.0 entry.1 piece.1 k.0.1 h.0.1),
  uncut_pieces x question entries pieces h.1 k.1,
)

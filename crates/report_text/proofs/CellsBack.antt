-- Cells are read back from their lines.
use Rattle.std.proofs.Common.{◌≡◌, ℕ, suc, ◌+◌, Bool, true, false, not, cond, ◌&&◌, List, [], ◌∷◌, ◌++◌, codes, length, map, Option, Some, None, Ok, refl, ap, sym, ◌∙◌, arith, append_assoc, append-nil, length-append, ℤ}
use Rattle.std.specs.Prelude.{IsTrue, int_lt}
use Rattle.std.specs.List.{list_all}
use Rattle.std.proofs.lemmas.Bool.{and_parts, not-true, true≢false}
use Rattle.inp_text.specs.Sections.{Line}
use Rattle.interval_sets.specs.declared.interval.Interval.{Interval}
use Rattle.num_text.specs.Fields.{◌>>=◌}
use Rattle.num_text.specs.Written.{written_moment}
use Rattle.object_index.specs.Objects.{Objects}
use Rattle.rule_types.specs.declared.key.Key.{Key}
use Rattle.verdict_meaning.specs.declared.cell.Cell.{Cell}
use Rattle.report_lines.specs.KeyLines.{piece_of}
use Rattle.report_lines.specs.StateLines.{pieces_from, piece_after, piece_line, span_of, span_by, span_line, cell_of, cell_with, cell_from}
use Rattle.report_lines.specs.Words.{read_to, words_of, written_moment_of, behind, made_of, one_line}
use Rattle.report_lines.specs.declared.grid.Grid.{Grid}
use Rattle.report_text.specs.Readable.{StandAt, piece_fits, span_fits, is_moment, IsGridCell}
use Rattle.report_text.specs.WrittenLines.{written_key_piece, written_span}
use Rattle.report_text.specs.WrittenReports.{span_lines, cell_lines}
use Rattle.report_text.proofs.KeysBack.{past_piece}
use Rattle.report_text.proofs.NumbersBack.{moment_back}
use Rattle.report_text.proofs.PiecesBack.{piece_back}
use Rattle.report_text.proofs.SpacedWords.{two, of_second}
use Rattle.report_text.proofs.Standing.{front, back}

piece_read : (objects : Objects) (entry : Key × Interval) → IsTrue (piece_fits entry.1)
    → piece_line objects entry.0 (Some (written_key_piece objects entry)) ≡ Some entry.1
piece_read objects entry h =
    ap (λ o. o >>= piece_of) (past_piece objects entry) ∙ piece_back entry.1 h

pub pieces_read : (lines : List Line) (objects : Objects) (entries : List (Key × Interval)) (at : ℕ)
    (pieces : List (Key × Interval)) → list_all (λ entry. piece_fits entry.1) entries ≡ true
    → StandAt lines at (map (written_key_piece objects) entries)
    → pieces_from lines objects (map (λ entry. entry.0) entries) at pieces
    ≡ Ok (read_to (pieces ++ entries) (at + length (map (written_key_piece objects) entries)))
unfolding pieces_from
pieces_read lines objects [] at pieces fit there =
    let here : at ≡ at + 0 = omega arith in
    ap (λ l. Ok (read_to l at)) (sym (append-nil pieces)) ∙ ap (λ n. Ok (read_to (pieces ++ []) n)) here
pieces_read lines objects (entry ∷ more) at pieces fit there =
    let fits = and_parts (piece_fits entry.1) (list_all (λ entry. piece_fits entry.1) more) fit in
    let later = λ (piece : Interval). pieces_from lines objects (map (λ entry. entry.0) more) (suc at) (pieces ++ (entry.0, piece) ∷ []) in
    let rest = length (map (written_key_piece objects) more) in
    let next : suc at + rest ≡ at + suc rest = omega arith in
    ap (λ line. piece_after entry.0 at (piece_line objects entry.0 line) later) there.0
    ∙ ap (λ found. piece_after entry.0 at found later) (piece_read objects entry fits.0)
    ∙ pieces_read lines objects more (suc at) (pieces ++ entry ∷ []) fits.1 there.1
    ∙ ap (λ l. Ok (read_to l (suc at + rest))) (append_assoc pieces (entry ∷ []) more)
    ∙ ap (λ n. Ok (read_to (pieces ++ (entry ∷ more)) n)) next

-- ---- the moments
span_front : (rest : List ℕ) → words_of (codes "piece MOMENT " ++ rest) ≡ codes "piece" ∷ codes "MOMENT" ∷ words_of rest
unfolding words_of
span_front rest = refl

joined : (head first last : List ℕ) → ((head ++ first) ++ codes " ") ++ last ≡ head ++ ((first ++ codes " ") ++ last)
joined head first last =
    ap (λ t. t ++ last) (append_assoc head first (codes " ")) ∙ append_assoc head (first ++ codes " ") last

span_read : (span : ℤ × ℤ) → IsTrue (span_fits true (Some span)) → span_line (Some (written_span span)) ≡ Some span
unfolding written_span
span_read span h =
    let parts = and_parts (is_moment span.0 && is_moment span.1) (not (int_lt span.1 span.0)) h in
    let ends = and_parts (is_moment span.0) (is_moment span.1) parts.0 in
    let first = written_moment span.0 in
    let last = written_moment span.1 in
    ap (λ t. span_by (words_of t)) (joined (codes "piece MOMENT ") first last)
    ∙ ap span_by (span_front ((first ++ codes " ") ++ last))
    ∙ ap (λ l. span_by (codes "piece" ∷ codes "MOMENT" ∷ l)) (two first last (of_second span.0) (of_second span.1))
    ∙ ap (λ o. span_of o (written_moment_of last)) (moment_back span.0 ends.0)
    ∙ ap (λ o. span_of (Some span.0) o) (moment_back span.1 ends.1)
    ∙ ap (λ b. cond b None (Some span)) (not-true (int_lt span.1 span.0) parts.1)

cell_by : (lines : List Line) (has : Bool) (pieces : List (Key × Interval)) (moments : Option (ℤ × ℤ)) (at : ℕ)
    → IsTrue (span_fits has moments) → StandAt lines at (span_lines moments)
    → cell_with lines has pieces at ≡ Ok (read_to (cell_of pieces moments) (at + length (span_lines moments)))
cell_by lines false pieces None at h there =
    let here : at ≡ at + 0 = omega arith in ap (λ n. Ok (read_to (cell_of pieces None) n)) here
cell_by lines false pieces (Some span) at h there = absurd (true≢false (sym h))
cell_by lines true pieces None at h there = absurd (true≢false (sym h))
cell_by lines true pieces (Some span) at h there =
    let next : suc at ≡ at + 1 = omega arith in
    ap (λ line. made_of (λ s. cell_of pieces (Some s)) (one_line (span_line line) at)) there.0
    ∙ ap (λ found. made_of (λ s. cell_of pieces (Some s)) (one_line found at)) (span_read span h)
    ∙ ap (λ n. Ok (read_to (cell_of pieces (Some span)) n)) next

pub cell_back : (lines : List Line) (objects : Objects) (grid : Grid) (cell : Cell) (at : ℕ)
    → IsGridCell grid cell → StandAt lines at (cell_lines objects cell)
    → cell_from lines objects grid at ≡ Ok (read_to cell (at + length (cell_lines objects cell)))
unfolding cell_from cell_lines
cell_back lines objects grid cell at h there =
    let pieces = map (written_key_piece objects) cell.keys in
    let moments = span_lines cell.moments in
    let ends : (at + length pieces) + length moments ≡ at + length (pieces ++ moments) = omega (arith, length-append pieces moments) in
    ap (λ keys. behind (pieces_from lines objects keys at []) (cell_with lines grid.has_moments)) (sym h.keys)
    ∙ ap (λ read. behind read (cell_with lines grid.has_moments))
    (pieces_read lines objects cell.keys at [] h.pieces (front lines pieces moments at there))
    ∙ cell_by lines grid.has_moments cell.keys cell.moments (at + length pieces) h.moments (back lines pieces moments at there)
    ∙ ap (λ n. Ok (read_to cell n)) ends

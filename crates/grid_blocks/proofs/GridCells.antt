-- The cells of a grid's block of all pieces are those of the question's grid.
use Rattle.std.proofs.Common.{◌≡◌, ℕ, ◌-◌, ◌*◌, Option, Some, None, List, [], ◌∷◌, ◌++◌}
use Rattle.std.proofs.Common.{length, drop, map, ℤ, mul_assoc, refl, sym, ap, ap₂, ◌∙◌, arith}
use Rattle.std.specs.List.{flat_map, range_with_len}
use Rattle.std.proofs.Math.Path.{fun_ext}
use Rattle.std.proofs.lemmas.List.{append-nil, map-append, length-map}
use Rattle.std.proofs.lemmas.List.Concat.{flat_map_single}
use Rattle.std.proofs.lemmas.List.Folds.{flat_map-map}
use Rattle.std.proofs.lemmas.List.FromFn.{length-map-range_with_len}
use Rattle.std.proofs.lemmas.Grind.{flat_map-append}
use Rattle.exact_fraction.specs.Number.{Rational}
use Rattle.interval_sets.specs.declared.interval.Interval.{Interval}
use Rattle.rule_types.specs.declared.key.Key.{Key}
use Rattle.rule_types.specs.declared.rules.Rules.{Rules}
use Rattle.block_search.specs.declared.span.Span.{Span}
use Rattle.block_search.specs.Blocks.{block_of, cells, one_piece, size, whole_block}
use Rattle.verdict_meaning.specs.declared.cell.Cell.{Cell}
use Rattle.verdict_meaning.specs.declared.question.Question.{Question}
use Rattle.verdict_meaning.specs.Grids.{Axis, axes_of, cells_of, combinations, cuts_of}
use Rattle.verdict_meaning.specs.Grids.{moment_pieces}
use Rattle.verdict_meaning.specs.Grids.{pieces_of, product_of_lengths, spans_to}
use Rattle.grid_blocks.specs.declared.grid.Grid.{Grid}
use Rattle.grid_blocks.specs.declared.grid.KeyCuts.{KeyCuts}
use Rattle.grid_blocks.specs.declared.grid.MomentPieces.{MomentPieces}
use Rattle.grid_blocks.specs.GridBoxes.{box_of, cell_of, interval_of, keys_of, lengths}
use Rattle.grid_blocks.specs.GridBoxes.{moment_lengths}
use Rattle.grid_blocks.specs.GridBoxes.{moments_in, moments_of}
use Rattle.grid_blocks.specs.GridsOf.{IsGridOf, IsMomentsOf, key_with_cuts}
use Rattle.grid_blocks.proofs.Maps.{map_twice}
use Rattle.grid_blocks.proofs.PieceLists.{piece_number, pieces_in_row, spans_in_row}
use Rattle.grid_blocks.proofs.Records.{cell_with, count_of}

-- ---- lists
map_flat : {A B C : Type 0} (g : B → C) (f : A → List B) (xs : List A)
    → map g (flat_map f xs) ≡ flat_map (λ x. map g (f x)) xs
map_flat g f [] = refl
map_flat g f (x ∷ xs) =
    map-append g (f x) (flat_map f xs) ∙ ap (λ more. map g (f x) ++ more) (map_flat g f xs)

flat_twice : {A B C : Type 0} (g : B → List C) (f : A → List B) (xs : List A)
    → flat_map g (flat_map f xs) ≡ flat_map (λ x. flat_map g (f x)) xs
flat_twice g f [] = refl
flat_twice g f (x ∷ xs) =
    flat_map-append g (f x) (flat_map f xs)
    ∙ ap (λ more. flat_map g (f x) ++ more) (flat_twice g f xs)

-- ---- the cells of the keys' axes, before those of other axes
abbrev axis_of : KeyCuts → Axis
axis_of axis = record { key = axis.key; pieces = pieces_of axis.cuts }

abbrev all_cells : List ℕ → List (List ℕ)
all_cells counts = cells (whole_block counts)

abbrev entry_at : KeyCuts → ℕ → Key × Interval
entry_at axis piece = (axis.key, interval_of axis.cuts (one_piece piece))

-- what a function of a cell's keys and of its other runs gives for each cell, and the same for each
-- choice of a piece for each key
abbrev cell_value : {A : Type 0} → List KeyCuts → (List (Key × Interval) → List Span → A)
    → List ℕ → A
cell_value axes f cell = f (keys_of axes (block_of cell)) (drop (length axes) (block_of cell))

abbrev each_cell : {A : Type 0} → List KeyCuts → List ℕ → (List (Key × Interval) → List Span → A)
    → List A
each_cell axes others f = map (cell_value axes f) (all_cells (map count_of axes ++ others))

abbrev choice_values : {A : Type 0} → List ℕ → (List (Key × Interval) → List Span → A)
    → List (Key × Interval) → List A
choice_values others f keys = map (λ rest. f keys (block_of rest)) (all_cells others)

abbrev each_choice : {A : Type 0} → List KeyCuts → List ℕ
    → (List (Key × Interval) → List Span → A) → List A
each_choice axes others f =
    flat_map (choice_values others f) (combinations (map axis_of axes))

abbrev with_entry : {A : Type 0} → (List (Key × Interval) → List Span → A) → Key × Interval
    → List (Key × Interval) → List Span → A
with_entry f entry keys rest = f (entry ∷ keys) rest

-- the cells and the choices with one piece of the first axis
abbrev before_each : ℕ → List (List ℕ) → List (List ℕ)
before_each piece later = map (λ cell. piece ∷ cell) later

abbrev entry_before : Key → List (List (Key × Interval)) → Interval
    → List (List (Key × Interval))
entry_before key choices piece = map (λ cell. (key, piece) ∷ cell) choices

one_piece_cells : {A : Type 0} (axis : KeyCuts) (axes : List KeyCuts) (others : List ℕ)
    (f : List (Key × Interval) → List Span → A) (piece : ℕ)
    → map (cell_value (axis ∷ axes) f) (before_each piece (all_cells (map count_of axes ++ others)))
    ≡ each_cell axes others (with_entry f (entry_at axis piece))
unfolding keys_of block_of
one_piece_cells axis axes others f piece =
    map_twice (cell_value (axis ∷ axes) f) (λ cell. piece ∷ cell)
    (all_cells (map count_of axes ++ others))

one_piece_choices : {A : Type 0} (axis : KeyCuts) (axes : List KeyCuts) (others : List ℕ)
    (f : List (Key × Interval) → List Span → A) (piece : Interval)
    → flat_map (choice_values others f)
    (entry_before axis.key (combinations (map axis_of axes)) piece)
    ≡ each_choice axes others (with_entry f (axis.key, piece))
one_piece_choices axis axes others f piece =
    flat_map-map (choice_values others f) (λ cell. (axis.key, piece) ∷ cell)
    (combinations (map axis_of axes))

-- the two are alike where they are for the later axes
cells_by_piece : {A : Type 0} (axis : KeyCuts) (axes : List KeyCuts) (others : List ℕ)
    (f : List (Key × Interval) → List Span → A)
    → each_cell (axis ∷ axes) others f
    ≡ flat_map (λ piece. each_cell axes others (with_entry f (entry_at axis piece)))
    (range_with_len 0 (count_of axis))
unfolding cells whole_block
cells_by_piece axis axes others f =
    let later = all_cells (map count_of axes ++ others) in
    let whole : count_of axis - 0 ≡ count_of axis = omega arith in
    map_flat (cell_value (axis ∷ axes) f) (λ piece. before_each piece later)
    (range_with_len 0 (count_of axis - 0))
    ∙ ap₂ flat_map (fun_ext (λ piece. one_piece_cells axis axes others f piece))
    (ap (range_with_len 0) whole)

choices_by_piece : {A : Type 0} (axis : KeyCuts) (axes : List KeyCuts) (others : List ℕ)
    (f : List (Key × Interval) → List Span → A)
    → each_choice (axis ∷ axes) others f
    ≡ flat_map (λ piece. each_choice axes others (with_entry f (entry_at axis piece)))
    (range_with_len 0 (count_of axis))
unfolding combinations
choices_by_piece axis axes others f =
    let choices = combinations (map axis_of axes) in
    let row = range_with_len 0 (count_of axis) in
    flat_twice (choice_values others f) (entry_before axis.key choices) (pieces_of axis.cuts)
    ∙ ap
    (flat_map (λ piece. flat_map (choice_values others f) (entry_before axis.key choices piece)))
    (pieces_in_row axis.cuts)
    ∙ flat_map-map
    (λ piece. flat_map (choice_values others f) (entry_before axis.key choices piece))
    (λ k. interval_of axis.cuts (one_piece k)) row
    ∙ ap (λ h. flat_map h row)
    (fun_ext
    (λ k. one_piece_choices axis axes others f (interval_of axis.cuts (one_piece k))))

first_axis : {A : Type 0} (axis : KeyCuts) (axes : List KeyCuts) (others : List ℕ)
    (f : List (Key × Interval) → List Span → A)
    → ((g : List (Key × Interval) → List Span → A)
    → each_cell axes others g ≡ each_choice axes others g)
    → each_cell (axis ∷ axes) others f ≡ each_choice (axis ∷ axes) others f
first_axis axis axes others f alike =
    cells_by_piece axis axes others f
    ∙ ap (λ h. flat_map h (range_with_len 0 (count_of axis)))
    (fun_ext (λ piece. alike (with_entry f (entry_at axis piece))))
    ∙ sym (choices_by_piece axis axes others f)

no_axis : {A : Type 0} (others : List ℕ) (f : List (Key × Interval) → List Span → A)
    → each_cell [] others f ≡ each_choice [] others f
unfolding keys_of combinations
no_axis others f = sym (append-nil (map (λ rest. f [] (block_of rest)) (all_cells others)))

cells_alike : {A : Type 0} (axes : List KeyCuts) (others : List ℕ)
    (f : List (Key × Interval) → List Span → A)
    → each_cell axes others f ≡ each_choice axes others f
cells_alike [] others f = no_axis others f
cells_alike (axis ∷ axes) others f =
    first_axis axis axes others f (λ g. cells_alike axes others g)

-- ---- the axes of a question's grid
abbrev axis_with : Key × List Rational → Axis
axis_with entry = record { key = entry.0; pieces = pieces_of entry.1 }

axes_are : (x : Rules) (question : Question) (cell : Cell) (grid : Grid)
    → IsGridOf x question cell grid → map axis_of grid.keys ≡ axes_of x question cell.keys
unfolding axes_of
axes_are x question cell grid is =
    sym (map_twice axis_with key_with_cuts grid.keys)
    ∙ ap (map axis_with) is.keys
    ∙ map_twice axis_with (λ entry. (entry.0, cuts_of x question entry.0 entry.1)) cell.keys

-- what the runs of the axis of moments give
abbrev each_moment : Option MomentPieces → List (Option (ℤ × ℤ))
each_moment moments =
    map (λ rest. moments_of moments (block_of rest)) (all_cells (moment_lengths moments))

one_axis : (count : ℕ)
    → all_cells (count ∷ []) ≡ map (λ piece. piece ∷ []) (range_with_len 0 count)
unfolding cells whole_block
one_axis count =
    let whole : count - 0 ≡ count = omega arith in
    flat_map_single (λ piece. piece ∷ []) (range_with_len 0 (count - 0))
    ∙ ap (λ n. map (λ piece. piece ∷ []) (range_with_len 0 n)) whole

some_moments : (pieces : MomentPieces)
    → each_moment (Some pieces) ≡ map (λ span. Some span) (spans_to pieces.last pieces.firsts)
unfolding moments_of block_of
some_moments pieces =
    let row = range_with_len 0 (length pieces.firsts) in
    ap (map (λ rest. moments_of (Some pieces) (block_of rest))) (one_axis (length pieces.firsts))
    ∙ map_twice (λ rest. moments_of (Some pieces) (block_of rest)) (λ piece. piece ∷ []) row
    ∙ sym (map_twice (λ span. Some span) (λ k. moments_in pieces (one_piece k)) row)
    ∙ ap (map (λ span. Some span)) (sym (spans_in_row pieces.last pieces.firsts))

moments_are : (x : Rules) (question : Question) (span : Option (ℤ × ℤ))
    (moments : Option MomentPieces) → IsMomentsOf x question span moments
    → each_moment moments ≡ moment_pieces x question span
unfolding cells whole_block moments_of
moments_are x question None None is = refl
moments_are x question None (Some pieces) is = absurd is
moments_are x question (Some span) None is = absurd is
moments_are x question (Some span) (Some pieces) is =
    some_moments pieces
    ∙ ap₂ (λ last firsts. map (λ piece. Some piece) (spans_to last firsts)) is.last is.firsts

-- ---- the cells
pub cells_are : (x : Rules) (question : Question) (cell : Cell) (grid : Grid)
    → IsGridOf x question cell grid
    → map (cell_of grid) (cells (whole_block (lengths grid))) ≡ cells_of x question cell
unfolding box_of lengths cells_of
cells_are x question cell grid is =
    let others = moment_lengths grid.moments in
    cells_alike grid.keys others (λ keys rest. cell_with keys (moments_of grid.moments rest))
    ∙ ap (λ h. flat_map h (combinations (map axis_of grid.keys)))
    (fun_ext
    (λ keys.
    sym
    (map_twice (cell_with keys) (λ rest. moments_of grid.moments (block_of rest))
    (all_cells others))
    ∙ ap (map (cell_with keys))
    (moments_are x question cell.moments grid.moments is.moments)))
    ∙ ap
    (flat_map (λ keys. map (cell_with keys) (moment_pieces x question cell.moments)))
    (ap combinations (axes_are x question cell grid is))

-- ---- their number
sizes_by : (axis : KeyCuts) (axes : List KeyCuts) (others : List ℕ)
    → size (whole_block (map count_of axes ++ others))
    ≡ product_of_lengths (map axis_of axes) * size (whole_block others)
    → size (whole_block (map count_of (axis ∷ axes) ++ others))
    ≡ product_of_lengths (map axis_of (axis ∷ axes)) * size (whole_block others)
unfolding size whole_block product_of_lengths
sizes_by axis axes others ih =
    let product = product_of_lengths (map axis_of axes) in
    let rest = size (whole_block others) in
    let count : count_of axis - 0 ≡ length (pieces_of axis.cuts) =
    let n = piece_number axis.cuts in omega (arith, n) in
    ap₂ (λ m n. m * n) count ih
    ∙ sym (mul_assoc (length (pieces_of axis.cuts)) product rest)

sizes : (axes : List KeyCuts) (others : List ℕ)
    → size (whole_block (map count_of axes ++ others))
    ≡ product_of_lengths (map axis_of axes) * size (whole_block others)
unfolding product_of_lengths
sizes [] others = omega arith
sizes (axis ∷ axes) others = sizes_by axis axes others (sizes axes others)

numbers_alike : (moments : Option MomentPieces)
    → size (whole_block (moment_lengths moments)) ≡ length (each_moment moments)
unfolding size whole_block cells
numbers_alike None = refl
numbers_alike (Some pieces) =
    let count = length pieces.firsts in
    let whole : (count - 0) * 1 ≡ count = omega arith in
    whole
    ∙ sym
    (length-map (all_cells (count ∷ [])) (λ rest. moments_of (Some pieces) (block_of rest))
    ∙ ap length (one_axis count)
    ∙ length-map-range_with_len (λ piece. piece ∷ []) 0 count)

moment_number : (x : Rules) (question : Question) (span : Option (ℤ × ℤ))
    (moments : Option MomentPieces) → IsMomentsOf x question span moments
    → size (whole_block (moment_lengths moments)) ≡ length (moment_pieces x question span)
moment_number x question span moments is =
    numbers_alike moments ∙ ap length (moments_are x question span moments is)

pub count_is : (x : Rules) (question : Question) (cell : Cell) (grid : Grid)
    → IsGridOf x question cell grid
    → size (whole_block (lengths grid))
    ≡ product_of_lengths (axes_of x question cell.keys)
    * length (moment_pieces x question cell.moments)
unfolding lengths
count_is x question cell grid is =
    sizes grid.keys (moment_lengths grid.moments)
    ∙ ap₂ (λ m n. m * n) (ap product_of_lengths (axes_are x question cell grid is))
    (moment_number x question cell.moments grid.moments is.moments)

-- A tree that is accepted fits the grid of its question.
use Rattle.std.proofs.Common.{◌≡◌, ℕ, zero, suc, ◌+◌, ◌≤◌, Bool, true, false, cond, ◌&&◌, ◌||◌, List, [], ◌∷◌, map, Option, Some, None, Result, Ok, Err, refl, ap, sym, subst, ◌∙◌, arith, ℤ, pos, ◌-ℤ◌}
use Rattle.std.specs.Prelude.{nat_lt, int_le}
use Rattle.std.specs.BTreeMap.{is_at}
use Rattle.std.specs.List.{list_any}
use Rattle.std.proofs.lemmas.Bool.{and_parts, true≢false}
use Rattle.std.proofs.lemmas.Bool.Decides.{nat_tests}
use Rattle.std.proofs.lemmas.Map.Text.{is_eq-slice_cmp}
use Rattle.std.proofs.lemmas.Option.{none-some}
use Rattle.exact_fraction.specs.Number.{Rational}
use Rattle.interval_sets.specs.Intervals.{has_member, lies_in, point_of}
use Rattle.interval_sets.specs.declared.interval.Interval.{Interval}
use Rattle.rule_meaning.specs.CheckedSteps.{◌>>=◌}
use Rattle.rule_types.specs.KeyOrder.{key_cmp, key_place}
use Rattle.rule_types.specs.Tables.{TableSet}
use Rattle.rule_types.specs.declared.key.Key.{Key}
use Rattle.rule_types.specs.declared.rules.Rules.{Rules}
use Rattle.verdict_meaning.specs.Boxes.{first_box, range_or}
use Rattle.verdict_meaning.specs.Certificates.{NodeFault, Judge, Judged, shape_at, leaf_end, is_plain, leaf_judged, three_judged, two_judged, can_split, with_piece, part_with, below_of, above_of, part_at, part_through, split_in, split_judged, before_in, before_judged, node_judged, cert_judged, leaf_cause, facts_fit, facts_hold, checked_cert, is_accepted, is_end}
use Rattle.verdict_meaning.specs.Questions.{grid_keys, has_moments}
use Rattle.verdict_meaning.specs.Reaches.{piece_in, same_key}
use Rattle.verdict_meaning.specs.Shown.{shown_by}
use Rattle.verdict_meaning.specs.declared.cell.Cell.{Cell}
use Rattle.verdict_meaning.specs.declared.cert.Cert.{Cert}
use Rattle.verdict_meaning.specs.declared.cert.Cert.TheFolds.{fold-roll-Cert, ind-Cert, map-Cert}
use Rattle.verdict_meaning.specs.declared.cert.Cert.TheOpen.{Cert-F}
use Rattle.verdict_meaning.specs.declared.cert.Cert.TheViews.{roll-Cert}
use Rattle.verdict_meaning.specs.declared.cert.CertCause.{CertCause}
use Rattle.verdict_meaning.specs.declared.cert.CertCause.TheVariants.{Shape, NotShown}
use Rattle.verdict_meaning.specs.declared.cert.Reason.{Reason}
use Rattle.verdict_meaning.specs.declared.cert.Reason.TheVariants.{Whole, Facts}
use Rattle.verdict_meaning.specs.declared.question.Question.{Question}
use Rattle.verdict_meaning.specs.declared.ranges.Ranges.{Ranges}
use Rattle.report_lines.specs.Reports.{grid_of}
use Rattle.report_lines.specs.TreeLines.{is_grid_key}
use Rattle.report_lines.specs.declared.grid.Grid.{Grid}
use Rattle.report_text.specs.Readable.{is_number, is_moment, reason_fits, facts_rise, TreeTest, node_fits, tree_fits, node_holds, tree_holds}
use Rattle.report_text.proofs.AcceptedFacts.{facts_rising}

no_fault : (fault : NodeFault) (n : ℕ) → Err fault ≡ Ok n → ⊥
no_fault fault n e = true≢false (sym (ap is_end e))

both : (a b : Bool) → a ≡ true → b ≡ true → (a && b) ≡ true
both a b e f = ap (λ t. t && b) e ∙ f

-- ---- boxes of a grid
keys_of_box : List (Key × Interval) → List Key
keys_of_box = map (λ entry. entry.0)

record IsGridBox (grid : Grid) (cell : Cell) : Type 0 where
  keys : map (λ entry. entry.0) cell.keys ≡ grid.keys
  moments : (span : ℤ × ℤ) → cell.moments ≡ Some span → grid.has_moments ≡ true

abbrev IsGridPart : Grid → Option Cell → Type 0
IsGridPart grid None = Unit {0}
IsGridPart grid (Some cell) = IsGridBox grid cell

same_keys : (key : Key) (piece : Interval) (entries : List (Key × Interval))
    → map (λ entry. entry.0) (with_piece key piece entries) ≡ map (λ entry. entry.0) entries
unfolding with_piece
same_keys key piece [] = refl
same_keys key piece (entry ∷ more) = by_test (same_key key entry.0) (same_keys key piece more)
  where
    by_test : (b : Bool) → map (λ entry. entry.0) (with_piece key piece more) ≡ map (λ entry. entry.0) more
        → map (λ e. e.0) (cond b ((entry.0, piece) ∷ more) (entry ∷ with_piece key piece more)) ≡ map (λ e. e.0) (entry ∷ more)
    by_test true again = refl
    by_test false again = ap (λ l. entry.0 ∷ l) again

part_is : (grid : Grid) (key : Key) (piece : Interval) (cell : Cell) → IsGridBox grid cell → IsGridPart grid (part_with key piece cell)
unfolding part_with
part_is grid key piece cell h = by_test (has_member piece.low piece.high)
  where
    narrowed : IsGridBox grid (record { keys = with_piece key piece cell.keys; moments = cell.moments })
    narrowed = record { keys = same_keys key piece cell.keys ∙ h.keys; moments = h.moments }

    by_test : (b : Bool) → IsGridPart grid (cond b (Some (record { keys = with_piece key piece cell.keys; moments = cell.moments })) None)
    by_test true = narrowed
    by_test false = tt

point_is : (grid : Grid) (key : Key) (piece : Interval) (q : Rational) (cell : Cell) → IsGridBox grid cell → IsGridPart grid (part_at key piece q cell)
unfolding part_at
point_is grid key piece q cell h = by_test (lies_in piece q)
  where
    by_test : (b : Bool) → IsGridPart grid (cond b (part_with key (point_of q) cell) None)
    by_test true = part_is grid key (point_of q) cell h
    by_test false = tt

span_is : (grid : Grid) (first last : ℤ) (cell : Cell) → grid.has_moments ≡ true → IsGridBox grid cell → IsGridPart grid (part_through first last cell)
unfolding part_through
span_is grid first last cell has h = by_test (int_le first last)
  where
    narrowed : IsGridBox grid (record { keys = cell.keys; moments = Some (first, last) })
    narrowed = record { keys = h.keys; moments = λ span is. has }

    by_test : (b : Bool) → IsGridPart grid (cond b (Some (record { keys = cell.keys; moments = Some (first, last) })) None)
    by_test true = narrowed
    by_test false = tt

-- a key with an interval in a box is one of its keys
found_key : (key : Key) (entries : List (Key × Interval)) (piece : Interval) → piece_in key entries ≡ Some piece
    → list_any (is_at (key_cmp key)) (map (λ entry. entry.0) entries) ≡ true
unfolding piece_in
found_key key [] piece e = absurd (none-some piece e)
found_key key (entry ∷ more) piece e =
    by_test (same_key key entry.0) (is_eq-slice_cmp (key_place key) (key_place entry.0)) e (found_key key more piece)
  where
    by_test : (b : Bool) → is_at (key_cmp key) entry.0 ≡ b → cond b (Some entry.1) (piece_in key more) ≡ Some piece
        → (piece_in key more ≡ Some piece → list_any (is_at (key_cmp key)) (map (λ entry. entry.0) more) ≡ true)
        → (is_at (key_cmp key) entry.0 || list_any (is_at (key_cmp key)) (map (λ entry. entry.0) more)) ≡ true
    by_test true here e later = ap (λ b. b || list_any (is_at (key_cmp key)) (map (λ entry. entry.0) more)) here
    by_test false here e later =
        ap (λ b. b || list_any (is_at (key_cmp key)) (map (λ entry. entry.0) more)) here ∙ later e

-- ---- one tree after another
record Chain (first : Result ℕ NodeFault) (next : ℕ → Result ℕ NodeFault) (n : ℕ) : Type 0 where
  middle : ℕ
  first_is : first ≡ Ok middle
  next_is : next middle ≡ Ok n

then_by : (first : Result ℕ NodeFault) (next : ℕ → Result ℕ NodeFault) (n : ℕ) → (first >>= next) ≡ Ok n → Chain first next n
then_by (Ok middle) next n e = record { middle = middle; first_is = refl; next_is = e }
then_by (Err fault) next n e = absurd (no_fault fault n e)

-- ---- trees
module _ (x : Rules) (tables : TableSet) (question : Question) where
  abbrev grid : Grid
  grid = grid_of x question

  abbrev judge : Judge
  judge = leaf_cause x tables question

  -- a tree that is accepted in a box of the grid fits it
  abbrev Fitting : Judged → TreeTest → Bool → Type 0
  Fitting judged fits holds =
      (depth levels place n : ℕ) (o : Option Cell) → judged depth o place ≡ Ok n → holds ≡ true → IsGridPart grid o
      → depth + levels ≡ 1025 → fits levels ≡ true

  shallow : (depth place n : ℕ) (rest : Result ℕ NodeFault) (b : Bool) → nat_lt 1024 depth ≡ b
      → cond b (shape_at place) rest ≡ Ok n → (depth ≤ 1024) × (rest ≡ Ok n)
  shallow depth place n rest true e is = absurd (no_fault _ n is)
  shallow depth place n rest false e is =
      let low : depth ≤ 1024 = grind (arith, nat_tests) in (low, is)

  -- leaves
  facts_by : (facts : List (ℕ × Bool)) (cell : Cell) (b : Bool) → facts_fit x question facts ≡ b
      → judge cell (Facts facts) ≡ None → facts_rise grid facts [] ≡ true
  unfolding leaf_cause
  facts_by facts cell true e is = facts_rising x question facts e
  facts_by facts cell false e is =
      absurd (some_none (sym (ap (λ b. cond b (cond (facts_hold x cell facts && shown_by x tables question cell facts) None (Some NotShown)) (Some Shape)) e) ∙ is))
    where
      some_none : Some Shape ≡ None → ⊥
      some_none h = none-some Shape (sym h)

  no_cause : (o : Option CertCause) (place n : ℕ) → leaf_end o place ≡ Ok n → o ≡ None
  no_cause None place n e = refl
  no_cause (Some why) place n e = absurd (no_fault _ n e)

  plain_facts : (facts : List (ℕ × Bool)) (place n : ℕ) → cond (is_plain (Facts facts)) (Ok (place + 1)) (shape_at place) ≡ Ok n
      → facts_rise grid facts [] ≡ true
  plain_facts [] place n e = refl
  plain_facts (fact ∷ more) place n e = absurd (no_fault _ n e)

  leaf_by : (reason : Reason) (o : Option Cell) (place n : ℕ) → leaf_judged judge reason o place ≡ Ok n
      → node_holds (Cert-F.Leaf reason) ≡ true → reason_fits grid reason ≡ true
  unfolding node_holds
  leaf_by Whole o place n e holds = absurd (true≢false (sym holds))
  leaf_by (Facts facts) None place n e holds = plain_facts facts place n e
  leaf_by (Facts facts) (Some cell) place n e holds =
      facts_by facts cell (facts_fit x question facts) refl (no_cause (judge cell (Facts facts)) place n e)

  -- splits at a number
  split_by : (key : Key) (q : Rational) (below at above : Judged) (f g h : TreeTest) (a b c : Bool)
      → Fitting below f a → Fitting at g b → Fitting above h c
      → (depth levels place n : ℕ) (cell : Cell) → IsGridBox grid cell → depth + suc levels ≡ 1025
      → (is_number q && (a && (b && c))) ≡ true
      → (o : Option Interval) → piece_in key cell.keys ≡ o
      → split_in key q below at above depth cell place o ≡ Ok n
      → ((is_grid_key grid key && is_number q) && (f levels && (g levels && h levels))) ≡ true
  split_by key q below at above f g h a b c first second third depth levels place n cell box deep holds None found e =
      absurd (no_fault _ n e)
  split_by key q below at above f g h a b c first second third depth levels place n cell box deep holds (Some piece) found e =
      by_test (can_split piece q) e
    where
      by_test : (can : Bool) → cond can
          (three_judged below at above (depth + 1) (part_with key (below_of piece q) cell) (part_at key piece q cell)
          (part_with key (above_of piece q) cell) (place + 1))
          (shape_at place) ≡ Ok n
          → ((is_grid_key grid key && is_number q) && (f levels && (g levels && h levels))) ≡ true
      by_test false e = absurd (no_fault _ n e)
      by_test true e =
          let number = and_parts (is_number q) (a && (b && c)) holds in
          let one = and_parts a (b && c) number.1 in
          let two = and_parts b c one.1 in
          let start = then_by (below (depth + 1) (part_with key (below_of piece q) cell) (place + 1))
          (λ next. at (depth + 1) (part_at key piece q cell) next >>= λ last. above (depth + 1) (part_with key (above_of piece q) cell) last) n e in
          let more = then_by (at (depth + 1) (part_at key piece q cell) start.middle)
          (λ last. above (depth + 1) (part_with key (above_of piece q) cell) last) n start.next_is in
          let level : (depth + 1) + levels ≡ 1025 = omega (arith, deep) in
          let held : is_grid_key grid key ≡ true =
          subst (λ keys. list_any (is_at (key_cmp key)) keys ≡ true) box.keys (found_key key cell.keys piece found) in
          both (is_grid_key grid key && is_number q) (f levels && (g levels && h levels))
          (both (is_grid_key grid key) (is_number q) held number.0)
          (both (f levels) (g levels && h levels)
          (first (depth + 1) levels (place + 1) start.middle (part_with key (below_of piece q) cell) start.first_is one.0
          (part_is grid key (below_of piece q) cell box) level)
          (both (g levels) (h levels)
          (second (depth + 1) levels start.middle more.middle (part_at key piece q cell) more.first_is two.0
          (point_is grid key piece q cell box) level)
          (third (depth + 1) levels more.middle n (part_with key (above_of piece q) cell) more.next_is two.1
          (part_is grid key (above_of piece q) cell box) level)))

  -- splits at a moment
  before_by : (moment : ℤ) (before later : Judged) (f g : TreeTest) (a b : Bool) → Fitting before f a → Fitting later g b
      → (depth levels place n : ℕ) (cell : Cell) → IsGridBox grid cell → depth + suc levels ≡ 1025
      → (is_moment moment && (a && b)) ≡ true
      → (o : Option (ℤ × ℤ)) → cell.moments ≡ o → before_in moment before later depth cell place o ≡ Ok n
      → ((grid.has_moments && is_moment moment) && (f levels && g levels)) ≡ true
  before_by moment before later f g a b first second depth levels place n cell box deep holds None found e =
      absurd (no_fault _ n e)
  before_by moment before later f g a b first second depth levels place n cell box deep holds (Some span) found e =
      by_test (int_le span.0 moment && int_le moment span.1) e
    where
      by_test : (can : Bool) → cond can
          (two_judged before later (depth + 1) (part_through span.0 (moment -ℤ pos 1) cell) (part_through moment span.1 cell) (place + 1))
          (shape_at place) ≡ Ok n
          → ((grid.has_moments && is_moment moment) && (f levels && g levels)) ≡ true
      by_test false e = absurd (no_fault _ n e)
      by_test true e =
          let own = and_parts (is_moment moment) (a && b) holds in
          let one = and_parts a b own.1 in
          let start = then_by (before (depth + 1) (part_through span.0 (moment -ℤ pos 1) cell) (place + 1))
          (λ next. later (depth + 1) (part_through moment span.1 cell) next) n e in
          let level : (depth + 1) + levels ≡ 1025 = omega (arith, deep) in
          let has = box.moments span found in
          both (grid.has_moments && is_moment moment) (f levels && g levels)
          (both grid.has_moments (is_moment moment) has own.0)
          (both (f levels) (g levels)
          (first (depth + 1) levels (place + 1) start.middle (part_through span.0 (moment -ℤ pos 1) cell) start.first_is one.0
          (span_is grid span.0 (moment -ℤ pos 1) cell has box) level)
          (second (depth + 1) levels start.middle n (part_through moment span.1 cell) start.next_is one.1
          (span_is grid moment span.1 cell has box) level))

  -- nodes
  abbrev Kept : Cert → Type 0
  Kept tree = Fitting (cert_judged judge tree) (tree_fits grid tree) (tree_holds tree)

  fitting_node : (y : Cert-F ((tree : Cert) × Kept tree))
      → Fitting
      (node_judged judge (map-Cert Cert Judged (cert_judged judge) (map-Cert ((tree : Cert) × Kept tree) Cert (λ e. e.0) y)))
      (node_fits grid (map-Cert Cert TreeTest (tree_fits grid) (map-Cert ((tree : Cert) × Kept tree) Cert (λ e. e.0) y)))
      (node_holds (map-Cert Cert Bool tree_holds (map-Cert ((tree : Cert) × Kept tree) Cert (λ e. e.0) y)))
  unfolding node_judged node_fits node_holds
  fitting_node (Cert-F.Leaf reason) depth zero place n o e holds part deep =
      let low = (shallow depth place n (leaf_judged judge reason o place) (nat_lt 1024 depth) refl e).0 in
      absurd (omega (arith, low, deep))
  fitting_node (Cert-F.Leaf reason) depth (suc levels) place n o e holds part deep =
      leaf_by reason o place n (shallow depth place n (leaf_judged judge reason o place) (nat_lt 1024 depth) refl e).1 holds
  fitting_node (Cert-F.Split key q a b c) depth zero place n o e holds part deep =
      let low = (shallow depth place n (split_judged key q (cert_judged judge a.0) (cert_judged judge b.0) (cert_judged judge c.0) depth o place) (nat_lt 1024 depth) refl e).0 in
      absurd (omega (arith, low, deep))
  fitting_node (Cert-F.Split key q a b c) depth (suc levels) place n None e holds part deep =
      absurd (no_fault _ n (shallow depth place n (shape_at place) (nat_lt 1024 depth) refl e).1)
  fitting_node (Cert-F.Split key q a b c) depth (suc levels) place n (Some cell) e holds part deep =
      split_by key q (cert_judged judge a.0) (cert_judged judge b.0) (cert_judged judge c.0) (tree_fits grid a.0)
      (tree_fits grid b.0) (tree_fits grid c.0) (tree_holds a.0) (tree_holds b.0) (tree_holds c.0) a.1 b.1 c.1 depth levels
      place n cell part deep holds (piece_in key cell.keys) refl
      (shallow depth place n
      (split_in key q (cert_judged judge a.0) (cert_judged judge b.0) (cert_judged judge c.0) depth cell place (piece_in key cell.keys))
      (nat_lt 1024 depth) refl e).1
  fitting_node (Cert-F.Before moment a b) depth zero place n o e holds part deep =
      let low = (shallow depth place n (before_judged moment (cert_judged judge a.0) (cert_judged judge b.0) depth o place) (nat_lt 1024 depth) refl e).0 in
      absurd (omega (arith, low, deep))
  fitting_node (Cert-F.Before moment a b) depth (suc levels) place n None e holds part deep =
      absurd (no_fault _ n (shallow depth place n (shape_at place) (nat_lt 1024 depth) refl e).1)
  fitting_node (Cert-F.Before moment a b) depth (suc levels) place n (Some cell) e holds part deep =
      before_by moment (cert_judged judge a.0) (cert_judged judge b.0) (tree_fits grid a.0) (tree_fits grid b.0)
      (tree_holds a.0) (tree_holds b.0) a.1 b.1 depth levels place n cell part deep holds cell.moments refl
      (shallow depth place n (before_in moment (cert_judged judge a.0) (cert_judged judge b.0) depth cell place cell.moments)
      (nat_lt 1024 depth) refl e).1

  fitting_tree : (tree : Cert) → Kept tree
  unfolding cert_judged tree_fits tree_holds
  fitting_tree =
      ind-Cert Kept
      (λ z y is.
      subst (λ w. Kept (roll-Cert w)) is
      (subst
      (λ judged. Fitting judged (tree_fits grid (roll-Cert (map-Cert ((tree : Cert) × Kept tree) Cert (λ e. e.0) y)))
      (tree_holds (roll-Cert (map-Cert ((tree : Cert) × Kept tree) Cert (λ e. e.0) y))))
      (sym (fold-roll-Cert Judged (node_judged judge) (map-Cert ((tree : Cert) × Kept tree) Cert (λ e. e.0) y)))
      (subst
      (λ fits. Fitting
      (node_judged judge (map-Cert Cert Judged (cert_judged judge) (map-Cert ((tree : Cert) × Kept tree) Cert (λ e. e.0) y)))
      fits (tree_holds (roll-Cert (map-Cert ((tree : Cert) × Kept tree) Cert (λ e. e.0) y))))
      (sym (fold-roll-Cert TreeTest (node_fits grid) (map-Cert ((tree : Cert) × Kept tree) Cert (λ e. e.0) y)))
      (subst
      (Fitting
      (node_judged judge (map-Cert Cert Judged (cert_judged judge) (map-Cert ((tree : Cert) × Kept tree) Cert (λ e. e.0) y)))
      (node_fits grid (map-Cert Cert TreeTest (tree_fits grid) (map-Cert ((tree : Cert) × Kept tree) Cert (λ e. e.0) y))))
      (sym (fold-roll-Cert Bool node_holds (map-Cert ((tree : Cert) × Kept tree) Cert (λ e. e.0) y)))
      (fitting_node y)))))

  -- ---- the first box
  own_keys : (ranges : Ranges) (keys : List Key)
      → map (λ (entry : Key × Interval). entry.0) (map (λ key. (key, range_or (piece_in key ranges.keys))) keys) ≡ keys
  own_keys ranges [] = refl
  own_keys ranges (key ∷ more) = ap (λ l. key ∷ l) (own_keys ranges more)

  own_moments : (b : Bool) (moments : Option (ℤ × ℤ)) (span : ℤ × ℤ) → cond b moments None ≡ Some span → b ≡ true
  own_moments true moments span e = refl
  own_moments false moments span e = absurd (none-some span e)

  whole_box : (ranges : Ranges) → IsGridBox grid (first_box x question ranges)
  unfolding first_box
  whole_box ranges = record {
    keys = own_keys ranges (grid_keys x question);
    moments = λ span is. own_moments (has_moments x question) ranges.moments span is;
  }

  accepted_by : (ranges : Ranges) (tree : Cert) (r : Result ℕ NodeFault) → checked_cert x tables ranges question tree ≡ r
      → is_end r ≡ true → tree_holds tree ≡ true → tree_fits grid tree 1024 ≡ true
  unfolding checked_cert
  accepted_by ranges tree (Ok n) is e holds =
      fitting_tree tree 1 1024 0 n (Some (first_box x question ranges)) is holds (whole_box ranges) (omega arith)
  accepted_by ranges tree (Err fault) is e holds = absurd (true≢false (sym e))

  pub accepted_fits : (ranges : Ranges) (tree : Cert) → is_accepted x tables ranges question tree ≡ true
      → tree_holds tree ≡ true → tree_fits grid tree 1024 ≡ true
  accepted_fits ranges tree e holds = accepted_by ranges tree (checked_cert x tables ranges question tree) refl e holds

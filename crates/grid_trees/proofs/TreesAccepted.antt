-- The certificate of a tree that shows a block is accepted in the block's box, without a spare fact
-- or split.
use Rattle.std.proofs.Common.{◌≡◌, ℕ, zero, suc, ◌+◌, ◌≤◌, ◌<◌, Bool, true, false, not, ◌&&◌}
use Rattle.std.proofs.Common.{Option, Some, None}
use Rattle.std.proofs.Common.{List, [], ◌∷◌, length, max, refl, sym, ap, ◌∙◌, subst, nat_lt, arith}
use Rattle.std.specs.Prelude.{if◌then◌else◌, slice_get, slice_set, nat_eq, nat_le, ◌%◌}
use Rattle.std.specs.List.{list_any}
use Rattle.std.proofs.lemmas.Bool.{and_parts, true≢false}
use Rattle.std.proofs.lemmas.Bool.Decides.{nat_tests}
use Rattle.std.proofs.Math.Nat.{le-max_left, le-max_right}
use Rattle.rule_types.specs.declared.rules.Rules.{Rules}
use Rattle.rule_types.specs.Tables.{TableSet}
use Rattle.block_search.specs.declared.span.Span.{Span}
use Rattle.block_search.specs.declared.tree.Tree.{Tree}
use Rattle.block_search.specs.declared.tree.Tree.TheOpen.{Tree-F}
use Rattle.block_search.specs.declared.tree.Tree.TheFolds.{ind-Tree, map-Tree}
use Rattle.block_search.specs.declared.tree.Tree.TheViews.{roll-Tree}
use Rattle.block_search.specs.declared.tree.Tree.TheVariants as tree
use Rattle.block_search.specs.Blocks.{IsWithin, is_none, is_wide, one_piece, span_from}
use Rattle.block_search.specs.Trees.{before_proves, depth, is_later_of, is_nil, is_point_of}
use Rattle.block_search.specs.Trees.{node_proves, Proof, proves, split_proves}
use Rattle.verdict_meaning.specs.declared.cert.Cert.TheVariants as cert
use Rattle.verdict_meaning.specs.declared.cert.CertCause.{CertCause}
use Rattle.verdict_meaning.specs.declared.cert.Reason.TheVariants.{Facts}
use Rattle.verdict_meaning.specs.declared.question.Question.{Question}
use Rattle.verdict_meaning.specs.Certificates.{is_end, leaf_cause, leaf_end, leaf_judged}
use Rattle.verdict_meaning.specs.Shown.{shown}
use Rattle.verdict_meaning.specs.Verdicts.{is_leaf, is_no_cause, lean_leaf, none_spare}
use Rattle.grid_blocks.specs.declared.grid.Grid.{Grid}
use Rattle.grid_blocks.specs.declared.grid.KeyCuts.{KeyCuts}
use Rattle.grid_blocks.specs.declared.grid.MomentPieces.{MomentPieces}
use Rattle.grid_blocks.specs.GridBoxes.{box_of, cut_at, first_moment, interval_of, lengths}
use Rattle.grid_trees.specs.GridJudgements.{is_lean_leaf, judgement_of}
use Rattle.grid_trees.specs.TreeCertificates.{before_cert, cert_of, split_cert}
use Rattle.grid_trees.proofs.BlockParts.{HasParts, part_of, some_part}
use Rattle.grid_trees.proofs.BlockParts.{within_part}
use Rattle.grid_trees.proofs.Nodes.{before_cert_is, before_depth, before_ends, before_lean}
use Rattle.grid_trees.proofs.Nodes.{before_proves_is, Ends, leaf_cert_is, leaf_depth, leaf_ends}
use Rattle.grid_trees.proofs.Nodes.{leaf_lean_is, leaf_proves_is, split_cert_is, split_depth}
use Rattle.grid_trees.proofs.Nodes.{split_ends, split_lean, split_proves_is, tree_lean}

-- what is claimed of a tree: in each block that it proves, its certificate gives no fault where it
-- is not too deep, and is lean
pub record Serves (x : Rules) (tables : TableSet) (question : Question) (grid : Grid) (one : Tree) :
    Type 0 where
  pub ends :
      (block : List Span) (level : ℕ) → IsWithin (lengths grid) block
      → proves (judgement_of x tables question grid) one block ≡ true
      → level + depth one ≤ 1025
      → Ends (leaf_cause x tables question) (cert_of grid one) level (part_of grid block)
  pub lean :
      (block : List Span) → IsWithin (lengths grid) block
      → proves (judgement_of x tables question grid) one block ≡ true
      → tree_lean x tables question (cert_of grid one) (part_of grid block) ≡ true

not_deep : (level n : ℕ) → level + suc n ≤ 1025 → nat_lt 1024 level ≡ false
not_deep level n h =
    let most : level ≤ 1024 = omega (arith, h) in
    grind (arith, nat_tests)

not_true : (b : Bool) → not b ≡ true → b ≡ false
not_true true e = sym e
not_true false e = refl

-- ---- leaves
no_cause : (o : Option CertCause) (place : ℕ) → is_no_cause o ≡ true
    → is_end (leaf_end o place) ≡ true
no_cause None place e = refl
no_cause (Some why) place e = absurd (true≢false (sym e))

nil_ends : (x : Rules) (tables : TableSet) (question : Question) (facts : List (ℕ × Bool))
    (place : ℕ) → is_nil facts ≡ true
    → is_end (leaf_judged (leaf_cause x tables question) (Facts facts) None place) ≡ true
nil_ends x tables question [] place e = refl
nil_ends x tables question (fact ∷ more) place e = absurd (true≢false (sym e))

leaf_judged_by : (x : Rules) (tables : TableSet) (question : Question) (grid : Grid)
    (block : List Span) (facts : List (ℕ × Bool)) (b : Bool)
    → (if b then is_nil facts else is_lean_leaf x tables question (box_of grid block) facts)
    ≡ true
    → (place : ℕ)
    → is_end
    (leaf_judged (leaf_cause x tables question) (Facts facts)
    (if b then None else Some (box_of grid block)) place)
    ≡ true
unfolding is_lean_leaf
leaf_judged_by x tables question grid block facts true e place =
    nil_ends x tables question facts place e
leaf_judged_by x tables question grid block facts false e place =
    no_cause (leaf_cause x tables question (box_of grid block) (Facts facts)) place
    (and_parts (is_leaf x tables question (box_of grid block) facts)
    (none_spare (is_leaf x tables question (box_of grid block)) [] facts) e).0

leaf_lean_by : (x : Rules) (tables : TableSet) (question : Question) (grid : Grid)
    (block : List Span) (facts : List (ℕ × Bool)) (b : Bool)
    → (if b then is_nil facts else is_lean_leaf x tables question (box_of grid block) facts)
    ≡ true
    → lean_leaf x tables question (Facts facts) (if b then None else Some (box_of grid block))
    ≡ true
unfolding is_lean_leaf
leaf_lean_by x tables question grid block facts true e = refl
leaf_lean_by x tables question grid block facts false e =
    (and_parts (is_leaf x tables question (box_of grid block) facts)
    (none_spare (is_leaf x tables question (box_of grid block)) [] facts) e).1

leaf_proved : (x : Rules) (tables : TableSet) (question : Question) (grid : Grid)
    (block : List Span) (facts : List (ℕ × Bool))
    → proves (judgement_of x tables question grid) (tree.Leaf facts) block ≡ true
    → (if list_any is_none block then is_nil facts
    else is_lean_leaf x tables question (box_of grid block) facts) ≡ true
unfolding node_proves judgement_of
leaf_proved x tables question grid block facts e =
    sym (ap (λ one. one block) (leaf_proves_is (judgement_of x tables question grid) facts)) ∙ e

leaf_serves : (x : Rules) (tables : TableSet) (question : Question) (grid : Grid)
    (facts : List (ℕ × Bool)) → Serves x tables question grid (tree.Leaf facts)
leaf_serves x tables question grid facts = record {
  ends = λ block level within e few.
      subst
      (λ one. Ends (leaf_cause x tables question) one level (part_of grid block))
      (sym (leaf_cert_is grid facts))
      (leaf_ends (leaf_cause x tables question) (Facts facts) level (part_of grid block)
      (shallow level facts few)
      (leaf_judged_by x tables question grid block facts (list_any is_none block)
      (leaf_proved x tables question grid block facts e)));
  lean = λ block within e.
      ap (λ one. tree_lean x tables question one (part_of grid block)) (leaf_cert_is grid facts)
      ∙ leaf_lean_is x tables question (Facts facts) (part_of grid block)
      ∙ leaf_lean_by x tables question grid block facts (list_any is_none block)
      (leaf_proved x tables question grid block facts e);
}
  where
    shallow : (level : ℕ) (facts : List (ℕ × Bool)) → level + depth (tree.Leaf facts) ≤ 1025
        → nat_lt 1024 level ≡ false
    shallow level facts few =
        not_deep level 0 (subst (λ n. level + n ≤ 1025) (leaf_depth facts) few)

-- ---- levels of the parts
below_level : (level m a b : ℕ) → level + m ≤ 1025 → m ≡ suc (max a b) → (level + 1) + a ≤ 1025
below_level level m a b h e =
    let most : a ≤ max a b = le-max_left a b in
    omega (arith, h, e, most)

above_level : (level m a b : ℕ) → level + m ≤ 1025 → m ≡ suc (max a b) → (level + 1) + b ≤ 1025
above_level level m a b h e =
    let most : b ≤ max a b = le-max_right a b in
    omega (arith, h, e, most)

first_level : (level m a b c : ℕ) → level + m ≤ 1025 → m ≡ suc (max a (max b c))
    → (level + 1) + a ≤ 1025
first_level level m a b c h e = below_level level m a (max b c) h e

second_level : (level m a b c : ℕ) → level + m ≤ 1025 → m ≡ suc (max a (max b c))
    → (level + 1) + b ≤ 1025
second_level level m a b c h e =
    let deeper : (level + 1) + max b c ≤ 1025 = above_level level m a (max b c) h e in
    let most : b ≤ max b c = le-max_left b c in
    omega (arith, deeper, most)

third_level : (level m a b c : ℕ) → level + m ≤ 1025 → m ≡ suc (max a (max b c))
    → (level + 1) + c ≤ 1025
third_level level m a b c h e =
    let deeper : (level + 1) + max b c ≤ 1025 = above_level level m a (max b c) h e in
    let most : c ≤ max b c = le-max_right b c in
    omega (arith, deeper, most)

node_level : (level m n : ℕ) → level + m ≤ 1025 → m ≡ suc n → nat_lt 1024 level ≡ false
node_level level m n h e = not_deep level n (subst (λ k. level + k ≤ 1025) e h)

lt_of : (m n : ℕ) → nat_lt m n ≡ true → m < n
lt_of m n e = grind (arith, nat_tests)

-- ---- cuts of a key
-- what is said of the parts at a cut of an axis of numbers
record AreProved (block : List Span) (axis at : ℕ) (below middle above : Proof) : Type 0 where
  span : Span
  get : slice_get block axis ≡ Some span
  point : is_point_of span at ≡ true
  below_is : below (slice_set block axis (span_from span.low at)) ≡ true
  middle_is : middle (slice_set block axis (one_piece at)) ≡ true
  above_is : above (slice_set block axis (span_from (at + 1) span.high)) ≡ true

parts_proved : (block : List Span) (axis at : ℕ) (below middle above : Proof) (o : Option Span)
    → slice_get block axis ≡ o → split_proves axis at below middle above block o ≡ true
    → AreProved block axis at below middle above
parts_proved block axis at below middle above None get e = absurd (true≢false (sym e))
parts_proved block axis at below middle above (Some span) get e =
    let first = below (slice_set block axis (span_from span.low at)) in
    let second = middle (slice_set block axis (one_piece at)) in
    let third = above (slice_set block axis (span_from (at + 1) span.high)) in
    let point = and_parts (is_point_of span at) (first && (second && third)) e in
    let lower = and_parts first (second && third) point.1 in
    let upper = and_parts second third lower.1 in
    record {
      span = span;
      get = get;
      point = point.0;
      below_is = lower.0;
      middle_is = upper.0;
      above_is = upper.1;
    }

record IsSplitProved (x : Rules) (tables : TableSet) (question : Question) (grid : Grid)
    (block : List Span) (axis at : ℕ) (a b c : Tree) : Type 0 where
  some : list_any is_none block ≡ false
  closed : not (shown x tables question (box_of grid block)) ≡ true
  numbers : nat_lt axis (length grid.keys) ≡ true
  parts :
      AreProved block axis at (proves (judgement_of x tables question grid) a)
      (proves (judgement_of x tables question grid) b)
      (proves (judgement_of x tables question grid) c)

split_node : (x : Rules) (tables : TableSet) (question : Question) (grid : Grid)
    (block : List Span) (axis at : ℕ) (a b c : Tree)
    → proves (judgement_of x tables question grid) (tree.Split axis at a b c) block ≡ true
    → ((not (list_any is_none block) && not (shown x tables question (box_of grid block)))
    && (not (not (nat_lt axis (length grid.keys)))
    && split_proves axis at (proves (judgement_of x tables question grid) a)
    (proves (judgement_of x tables question grid) b)
    (proves (judgement_of x tables question grid) c) block (slice_get block axis))) ≡ true
unfolding node_proves judgement_of
split_node x tables question grid block axis at a b c e =
    sym
    (ap (λ one. one block)
    (split_proves_is (judgement_of x tables question grid) axis at a b c))
    ∙ e

split_proved : (x : Rules) (tables : TableSet) (question : Question) (grid : Grid)
    (block : List Span) (axis at : ℕ) (a b c : Tree)
    → proves (judgement_of x tables question grid) (tree.Split axis at a b c) block ≡ true
    → IsSplitProved x tables question grid block axis at a b c
split_proved x tables question grid block axis at a b c e =
    let below = proves (judgement_of x tables question grid) a in
    let middle = proves (judgement_of x tables question grid) b in
    let above = proves (judgement_of x tables question grid) c in
    let whole =
    and_parts
    (not (list_any is_none block) && not (shown x tables question (box_of grid block)))
    (not (not (nat_lt axis (length grid.keys)))
    && split_proves axis at below middle above block (slice_get block axis))
    (split_node x tables question grid block axis at a b c e) in
    let cut =
    and_parts (not (list_any is_none block)) (not (shown x tables question (box_of grid block)))
    whole.0 in
    let parts =
    and_parts (not (not (nat_lt axis (length grid.keys))))
    (split_proves axis at below middle above block (slice_get block axis)) whole.1 in
    record {
      some = not_true (list_any is_none block) cut.0;
      closed = cut.1;
      numbers = twice (nat_lt axis (length grid.keys)) parts.0;
      parts =
          parts_proved block axis at below middle above (slice_get block axis) refl parts.1;
    }
  where
    twice : (b : Bool) → not (not b) ≡ true → b ≡ true
    twice true e = refl
    twice false e = e

-- an axis that is one of keys has its cuts
there : {A : Type 0} (xs : List A) (i : ℕ) → i < length xs
    → (item : A) × (slice_get xs i ≡ Some item)
there [] i h = absurd (omega (arith, h))
there (item ∷ more) zero h = (item, refl)
there (item ∷ more) (suc i) h = there more i (omega (arith, h))

point_within : (span : Span) (at : ℕ) → is_point_of span at ≡ true → at < span.high
point_within span at e =
    let wide =
    and_parts (is_wide span) (nat_eq (at % 2) 0 && (nat_le span.low at && nat_lt at span.high)) e in
    let even = and_parts (nat_eq (at % 2) 0) (nat_le span.low at && nat_lt at span.high) wide.1 in
    lt_of at span.high (and_parts (nat_le span.low at) (nat_lt at span.high) even.1).1

record AreWithin (axes : List ℕ) (block : List Span) (axis at : ℕ) (span : Span) : Type 0 where
  first : IsWithin axes (slice_set block axis (span_from span.low at))
  second : IsWithin axes (slice_set block axis (one_piece at))
  third : IsWithin axes (slice_set block axis (span_from (at + 1) span.high))

parts_within : (axes : List ℕ) (block : List Span) (axis at : ℕ) (span : Span)
    → IsWithin axes block → slice_get block axis ≡ Some span → is_point_of span at ≡ true
    → AreWithin axes block axis at span
parts_within axes block axis at span within get point =
    let most = point_within span at point in
    record {
      first = within_part axes block axis span span.low at within get (omega (arith, most));
      second = within_part axes block axis span at (at + 1) within get (omega (arith, most));
      third = within_part axes block axis span (at + 1) span.high within get (omega arith);
    }

-- the certificate at a cut of a key that is there
split_there : (grid : Grid) (axis at : ℕ) (a b c : Tree) (cuts : KeyCuts)
    → slice_get grid.keys axis ≡ Some cuts
    → cert_of grid (tree.Split axis at a b c)
    ≡ cert.Split cuts.key (cut_at cuts.cuts at) (cert_of grid a) (cert_of grid b) (cert_of grid c)
split_there grid axis at a b c cuts get =
    split_cert_is grid axis at a b c
    ∙ ap (λ o. split_cert o at (cert_of grid a) (cert_of grid b) (cert_of grid c)) get

split_serves : (x : Rules) (tables : TableSet) (question : Question) (grid : Grid)
    → HasParts grid → (axis at : ℕ) (a b c : Tree) → Serves x tables question grid a
    → Serves x tables question grid b → Serves x tables question grid c
    → Serves x tables question grid (tree.Split axis at a b c)
split_serves x tables question grid has axis at a b c f g h = record {
  ends = λ block level within e few.
      let judge = leaf_cause x tables question in
      let proved = split_proved x tables question grid block axis at a b c e in
      let span = proved.parts.span in
      let entry = there grid.keys axis (lt_of axis (length grid.keys) proved.numbers) in
      let cut =
      has.keys block axis span at entry.0 within proved.some entry.1 proved.parts.get
      proved.parts.point in
      let parts =
      parts_within (lengths grid) block axis at span within proved.parts.get proved.parts.point in
      let m = depth (tree.Split axis at a b c) in
      let deep = split_depth axis at a b c in
      let piece = interval_of entry.0.cuts span in
      let q = cut_at entry.0.cuts at in
      let below = slice_set block axis (span_from span.low at) in
      let middle = slice_set block axis (one_piece at) in
      let above = slice_set block axis (span_from (at + 1) span.high) in
      subst (λ one. Ends judge one level (part_of grid block))
      (sym (split_there grid axis at a b c entry.0 entry.1))
      (subst
      (Ends judge
      (cert.Split entry.0.key q (cert_of grid a) (cert_of grid b) (cert_of grid c)) level)
      (some_part grid block proved.some)
      (split_ends judge entry.0.key q (cert_of grid a) (cert_of grid b) (cert_of grid c) level
      (box_of grid block) piece (part_of grid below) (part_of grid middle) (part_of grid above)
      (node_level level m (max (depth a) (max (depth b) (depth c))) few deep) cut.found cut.splits
      cut.below cut.middle cut.above
      (f.ends below (level + 1) parts.first proved.parts.below_is
      (first_level level m (depth a) (depth b) (depth c) few deep))
      (g.ends middle (level + 1) parts.second proved.parts.middle_is
      (second_level level m (depth a) (depth b) (depth c) few deep))
      (h.ends above (level + 1) parts.third proved.parts.above_is
      (third_level level m (depth a) (depth b) (depth c) few deep))));
  lean = λ block within e.
      let proved = split_proved x tables question grid block axis at a b c e in
      let span = proved.parts.span in
      let entry = there grid.keys axis (lt_of axis (length grid.keys) proved.numbers) in
      let cut =
      has.keys block axis span at entry.0 within proved.some entry.1 proved.parts.get
      proved.parts.point in
      let parts =
      parts_within (lengths grid) block axis at span within proved.parts.get proved.parts.point in
      let below = slice_set block axis (span_from span.low at) in
      let middle = slice_set block axis (one_piece at) in
      let above = slice_set block axis (span_from (at + 1) span.high) in
      ap (λ one. tree_lean x tables question one (part_of grid block))
      (split_there grid axis at a b c entry.0 entry.1)
      ∙ ap
      (tree_lean x tables question
      (cert.Split entry.0.key (cut_at entry.0.cuts at) (cert_of grid a) (cert_of grid b)
      (cert_of grid c)))
      (sym (some_part grid block proved.some))
      ∙ split_lean x tables question entry.0.key (cut_at entry.0.cuts at) (cert_of grid a)
      (cert_of grid b) (cert_of grid c) (box_of grid block) (interval_of entry.0.cuts span)
      (part_of grid below) (part_of grid middle) (part_of grid above) proved.closed cut.found
      cut.below cut.middle cut.above (f.lean below parts.first proved.parts.below_is)
      (g.lean middle parts.second proved.parts.middle_is)
      (h.lean above parts.third proved.parts.above_is);
}

-- ---- cuts of moments
record AreBothProved (block : List Span) (axis at : ℕ) (before from : Proof) : Type 0 where
  span : Span
  get : slice_get block axis ≡ Some span
  later : is_later_of span at ≡ true
  before_is : before (slice_set block axis (span_from span.low at)) ≡ true
  from_is : from (slice_set block axis (span_from at span.high)) ≡ true

both_proved : (block : List Span) (axis at : ℕ) (before from : Proof) (o : Option Span)
    → slice_get block axis ≡ o → before_proves axis at before from block o ≡ true
    → AreBothProved block axis at before from
both_proved block axis at before from None get e = absurd (true≢false (sym e))
both_proved block axis at before from (Some span) get e =
    let first = before (slice_set block axis (span_from span.low at)) in
    let second = from (slice_set block axis (span_from at span.high)) in
    let later = and_parts (is_later_of span at) (first && second) e in
    let both = and_parts first second later.1 in
    record { span = span; get = get; later = later.0; before_is = both.0; from_is = both.1 }

record IsBeforeProved (x : Rules) (tables : TableSet) (question : Question) (grid : Grid)
    (block : List Span) (axis at : ℕ) (a c : Tree) : Type 0 where
  some : list_any is_none block ≡ false
  closed : not (shown x tables question (box_of grid block)) ≡ true
  moments : nat_lt axis (length grid.keys) ≡ false
  parts :
      AreBothProved block axis at (proves (judgement_of x tables question grid) a)
      (proves (judgement_of x tables question grid) c)

before_node : (x : Rules) (tables : TableSet) (question : Question) (grid : Grid)
    (block : List Span) (axis at : ℕ) (a c : Tree)
    → proves (judgement_of x tables question grid) (tree.Before axis at a c) block ≡ true
    → ((not (list_any is_none block) && not (shown x tables question (box_of grid block)))
    && (not (nat_lt axis (length grid.keys))
    && before_proves axis at (proves (judgement_of x tables question grid) a)
    (proves (judgement_of x tables question grid) c) block (slice_get block axis))) ≡ true
unfolding node_proves judgement_of
before_node x tables question grid block axis at a c e =
    sym
    (ap (λ one. one block)
    (before_proves_is (judgement_of x tables question grid) axis at a c))
    ∙ e

before_proved : (x : Rules) (tables : TableSet) (question : Question) (grid : Grid)
    (block : List Span) (axis at : ℕ) (a c : Tree)
    → proves (judgement_of x tables question grid) (tree.Before axis at a c) block ≡ true
    → IsBeforeProved x tables question grid block axis at a c
before_proved x tables question grid block axis at a c e =
    let before = proves (judgement_of x tables question grid) a in
    let from = proves (judgement_of x tables question grid) c in
    let whole =
    and_parts
    (not (list_any is_none block) && not (shown x tables question (box_of grid block)))
    (not (nat_lt axis (length grid.keys))
    && before_proves axis at before from block (slice_get block axis))
    (before_node x tables question grid block axis at a c e) in
    let cut =
    and_parts (not (list_any is_none block)) (not (shown x tables question (box_of grid block)))
    whole.0 in
    let parts =
    and_parts (not (nat_lt axis (length grid.keys)))
    (before_proves axis at before from block (slice_get block axis)) whole.1 in
    record {
      some = not_true (list_any is_none block) cut.0;
      closed = cut.1;
      moments = not_true (nat_lt axis (length grid.keys)) parts.0;
      parts = both_proved block axis at before from (slice_get block axis) refl parts.1;
    }

record AreBothWithin (axes : List ℕ) (block : List Span) (axis at : ℕ) (span : Span) : Type 0 where
  first : IsWithin axes (slice_set block axis (span_from span.low at))
  second : IsWithin axes (slice_set block axis (span_from at span.high))

both_within : (axes : List ℕ) (block : List Span) (axis at : ℕ) (span : Span)
    → IsWithin axes block → slice_get block axis ≡ Some span → is_later_of span at ≡ true
    → AreBothWithin axes block axis at span
both_within axes block axis at span within get later =
    let most = lt_of at span.high (and_parts (nat_lt span.low at) (nat_lt at span.high) later).1 in
    record {
      first = within_part axes block axis span span.low at within get (omega (arith, most));
      second = within_part axes block axis span at span.high within get (omega arith);
    }

before_there : (grid : Grid) (axis at : ℕ) (a c : Tree) (pieces : MomentPieces)
    → grid.moments ≡ Some pieces
    → cert_of grid (tree.Before axis at a c)
    ≡ cert.Before (first_moment pieces at) (cert_of grid a) (cert_of grid c)
before_there grid axis at a c pieces is =
    before_cert_is grid axis at a c
    ∙ ap (λ o. before_cert o at (cert_of grid a) (cert_of grid c)) is

before_serves : (x : Rules) (tables : TableSet) (question : Question) (grid : Grid)
    → HasParts grid → (axis at : ℕ) (a c : Tree) → Serves x tables question grid a
    → Serves x tables question grid c → Serves x tables question grid (tree.Before axis at a c)
before_serves x tables question grid has axis at a c f h = record {
  ends = λ block level within e few.
      let judge = leaf_cause x tables question in
      let proved = before_proved x tables question grid block axis at a c e in
      let span = proved.parts.span in
      let cut =
      has.moments block axis span at within proved.some proved.moments proved.parts.get
      proved.parts.later in
      let parts =
      both_within (lengths grid) block axis at span within proved.parts.get proved.parts.later in
      let n = depth (tree.Before axis at a c) in
      let deep = before_depth axis at a c in
      let m = first_moment cut.pieces at in
      let before = slice_set block axis (span_from span.low at) in
      let from = slice_set block axis (span_from at span.high) in
      subst (λ one. Ends judge one level (part_of grid block))
      (sym (before_there grid axis at a c cut.pieces cut.is))
      (subst (Ends judge (cert.Before m (cert_of grid a) (cert_of grid c)) level)
      (some_part grid block proved.some)
      (before_ends judge m (cert_of grid a) (cert_of grid c) level (box_of grid block) cut.first
      cut.last (part_of grid before) (part_of grid from)
      (node_level level n (max (depth a) (depth c)) few deep) cut.found cut.splits cut.before
      cut.from
      (f.ends before (level + 1) parts.first proved.parts.before_is
      (below_level level n (depth a) (depth c) few deep))
      (h.ends from (level + 1) parts.second proved.parts.from_is
      (above_level level n (depth a) (depth c) few deep))));
  lean = λ block within e.
      let proved = before_proved x tables question grid block axis at a c e in
      let span = proved.parts.span in
      let cut =
      has.moments block axis span at within proved.some proved.moments proved.parts.get
      proved.parts.later in
      let parts =
      both_within (lengths grid) block axis at span within proved.parts.get proved.parts.later in
      let m = first_moment cut.pieces at in
      let before = slice_set block axis (span_from span.low at) in
      let from = slice_set block axis (span_from at span.high) in
      ap (λ one. tree_lean x tables question one (part_of grid block))
      (before_there grid axis at a c cut.pieces cut.is)
      ∙ ap (tree_lean x tables question (cert.Before m (cert_of grid a) (cert_of grid c)))
      (sym (some_part grid block proved.some))
      ∙ before_lean x tables question m (cert_of grid a) (cert_of grid c) (box_of grid block)
      cut.first cut.last (part_of grid before) (part_of grid from) proved.closed cut.found
      cut.before cut.from (f.lean before parts.first proved.parts.before_is)
      (h.lean from parts.second proved.parts.from_is);
}

-- ---- all trees
node_serves : (x : Rules) (tables : TableSet) (question : Question) (grid : Grid)
    → HasParts grid
    → (y : Tree-F ((one : Tree) × Serves x tables question grid one))
    → Serves x tables question grid
    (roll-Tree (map-Tree ((one : Tree) × Serves x tables question grid one) Tree (λ e. e.0) y))
node_serves x tables question grid has (Tree-F.Leaf facts) =
    subst (Serves x tables question grid) (sym (tree.rolls-Leaf facts))
    (leaf_serves x tables question grid facts)
node_serves x tables question grid has (Tree-F.Split axis at a b c) =
    subst (Serves x tables question grid) (sym (tree.rolls-Split axis at a.0 b.0 c.0))
    (split_serves x tables question grid has axis at a.0 b.0 c.0 a.1 b.1 c.1)
node_serves x tables question grid has (Tree-F.Before axis at a c) =
    subst (Serves x tables question grid) (sym (tree.rolls-Before axis at a.0 c.0))
    (before_serves x tables question grid has axis at a.0 c.0 a.1 c.1)

pub tree_serves : (x : Rules) (tables : TableSet) (question : Question) (grid : Grid)
    → HasParts grid → (one : Tree) → Serves x tables question grid one
tree_serves x tables question grid has =
    ind-Tree (Serves x tables question grid)
    (λ z y is.
    subst (λ w. Serves x tables question grid (roll-Tree w)) is
    (node_serves x tables question grid has y))

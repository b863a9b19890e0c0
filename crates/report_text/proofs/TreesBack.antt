-- Trees are read back from their lines.
use Rattle.std.proofs.Common.{◌≡◌, ℕ, zero, suc, ◌+◌, ◌^◌, ◌<◌, ◌≤◌, true, false, cond, ◌&&◌, List, [], ◌∷◌, ◌++◌, codes, length, map, Some, None, Ok, refl, ap, sym, subst, ◌∙◌, arith, length-append, ℤ}
use Rattle.std.specs.Prelude.{All, IsTrue}
use Rattle.std.proofs.lemmas.Bool.{and_parts, true≢false}
use Rattle.std.proofs.lemmas.List.{length-map}
use Rattle.exact_fraction.specs.Number.{Rational}
use Rattle.inp_text.specs.Sections.{Line}
use Rattle.num_text.specs.Fields.{◌>>=◌}
use Rattle.num_text.specs.Values.{written_value}
use Rattle.num_text.specs.Written.{written_moment}
use Rattle.object_index.specs.Objects.{Objects}
use Rattle.rule_types.specs.declared.key.Key.{Key}
use Rattle.verdict_meaning.specs.declared.cert.Cert.{Cert}
use Rattle.verdict_meaning.specs.declared.cert.Cert.TheFolds.{fold-roll-Cert, ind-Cert, map-Cert}
use Rattle.verdict_meaning.specs.declared.cert.Cert.TheOpen.{Cert-F}
use Rattle.verdict_meaning.specs.declared.cert.Cert.TheVariants as cert
use Rattle.verdict_meaning.specs.declared.cert.Cert.TheViews.{roll-Cert}
use Rattle.verdict_meaning.specs.declared.cert.Reason.{Reason}
use Rattle.verdict_meaning.specs.declared.cert.Reason.TheVariants.{Whole, Facts}
use Rattle.report_lines.specs.KeyLines.{past_key}
use Rattle.report_lines.specs.TreeLines.{leaf_text, split_text, is_grid_key, split_at, split_on, split_line, split_by, before_at, node_line, node_at, is_fact_line, leaf_with, split_from, before_from, node_from, tree_from, PlacedTree, placed}
use Rattle.report_lines.specs.Words.{Reading, read_to, words_of, line_at, value_of, written_moment_of, behind}
use Rattle.report_lines.specs.declared.grid.Grid.{Grid}
use Rattle.report_lines.specs.declared.node.NodeLine.{NodeLine}
use Rattle.report_lines.specs.declared.node.NodeLine.TheVariants as node
use Rattle.report_text.specs.ReadBack.{IsTreeRead}
use Rattle.report_text.specs.Readable.{StandAt, is_number, is_moment, IsFoundKey, reason_fits, TreeTest, node_fits, tree_fits}
use Rattle.report_text.specs.WrittenLines.{written_split, written_before, written_fact}
use Rattle.report_text.specs.WrittenReports.{Texts, reason_lines, node_lines, tree_lines}
use Rattle.report_text.proofs.FactsBack.{facts_back}
use Rattle.report_text.proofs.GridKeys.{found_among}
use Rattle.report_text.proofs.KeysBack.{past_split, IsSplitWords, split_words}
use Rattle.report_text.proofs.NumbersBack.{number_held, value_back, moment_back}
use Rattle.report_text.proofs.SpacedWords.{word_alone, of_second}
use Rattle.report_text.proofs.Standing.{front, back, few}

-- ---- the lines of nodes
split_is : (objects : Objects) (grid : Grid) (key : Key) (q : Rational) → IsTrue (is_number q)
    → is_grid_key grid key ≡ true → split_on objects grid (written_split objects key q) key ≡ Some (node.Split key q)
split_is objects grid key q number held =
    ap (λ b. cond b (split_at key (past_key split_text objects key (written_split objects key q) >>= value_of)) None) held
    ∙ ap (λ o. split_at key (o >>= value_of)) (past_split objects key q)
    ∙ ap (split_at key) (value_back q (number_held q number))

no_leaf : (objects : Objects) (grid : Grid) (key : Key) (q : Rational)
    → node_line objects grid (written_split objects key q)
    ≡ split_by objects grid (written_split objects key q) (words_of (written_split objects key q))
unfolding node_line written_split
no_leaf objects grid key q = refl

named_split : (objects : Objects) (grid : Grid) (key : Key) (q : Rational) → IsSplitWords objects key q
    → split_by objects grid (written_split objects key q) (words_of (written_split objects key q))
    ≡ split_on objects grid (written_split objects key q) key
unfolding split_line words_of
named_split objects grid key q h =
    ap (split_by objects grid (written_split objects key q)) h.words
    ∙ by_value (words_of (written_value q))
  where
    by_value : (more : List (List ℕ))
        → split_by objects grid (written_split objects key q) (codes "split" ∷ h.second ∷ h.third ∷ h.fourth ∷ more)
        ≡ split_on objects grid (written_split objects key q) key
    by_value more = ap (λ o. o >>= split_on objects grid (written_split objects key q)) (h.named more)

split_node : (objects : Objects) (grid : Grid) (key : Key) (q : Rational) → IsFoundKey objects key
    → IsTrue (is_number q) → is_grid_key grid key ≡ true
    → node_line objects grid (written_split objects key q) ≡ Some (node.Split key q)
split_node objects grid key q found number held =
    no_leaf objects grid key q ∙ named_split objects grid key q (split_words objects key q found)
    ∙ split_is objects grid key q number held

before_front : (rest : List ℕ) → words_of (codes "split MOMENT " ++ rest) ≡ codes "split" ∷ codes "MOMENT" ∷ words_of rest
unfolding words_of
before_front rest = refl

before_words : (moment : ℤ) → words_of (written_before moment) ≡ codes "split" ∷ codes "MOMENT" ∷ written_moment moment ∷ []
unfolding written_before
before_words moment =
    before_front (written_moment moment)
    ∙ ap (λ l. codes "split" ∷ codes "MOMENT" ∷ l) (word_alone (written_moment moment) (of_second moment))

before_no_leaf : (objects : Objects) (grid : Grid) (moment : ℤ)
    → node_line objects grid (written_before moment)
    ≡ split_by objects grid (written_before moment) (words_of (written_before moment))
unfolding node_line written_before
before_no_leaf objects grid moment = refl

before_node : (objects : Objects) (grid : Grid) (moment : ℤ) → IsTrue grid.has_moments → IsTrue (is_moment moment)
    → node_line objects grid (written_before moment) ≡ Some (node.Before moment)
before_node objects grid moment has h =
    before_no_leaf objects grid moment
    ∙ ap (split_by objects grid (written_before moment)) (before_words moment)
    ∙ ap (λ b. cond b (before_at (written_moment_of (written_moment moment))) None) has
    ∙ ap before_at (moment_back moment h)

leaf_node : (objects : Objects) (grid : Grid) → node_line objects grid leaf_text ≡ Some node.Leaf
unfolding node_line
leaf_node objects grid = refl

node_there : (lines : List Line) (objects : Objects) (grid : Grid) (at : ℕ) (text : List ℕ) (found : NodeLine)
    → line_at lines at ≡ Some text → node_line objects grid text ≡ Some found
    → node_at lines objects grid at ≡ Some found
unfolding node_at
node_there lines objects grid at text found there is = ap (λ o. o >>= node_line objects grid) there ∙ is

-- ---- none of them is a fact's
leaf_no_fact : is_fact_line (Some leaf_text) ≡ false
unfolding words_of
leaf_no_fact = refl

split_no_fact : (objects : Objects) (key : Key) (q : Rational) → is_fact_line (Some (written_split objects key q)) ≡ false
unfolding words_of written_split
split_no_fact objects key q = refl

before_no_fact : (moment : ℤ) → is_fact_line (Some (written_before moment)) ≡ false
unfolding words_of written_before
before_no_fact moment = refl

-- ---- trees in a row
module _ (tree : ℕ → List ℕ → Reading PlacedTree) where
  three_read : (key : Key) (q : Rational) (at next last rest : ℕ) (places one two three : List ℕ)
      (below middle above : Cert) → tree at places ≡ Ok (read_to (placed below one) next)
      → tree next one ≡ Ok (read_to (placed middle two) last)
      → tree last two ≡ Ok (read_to (placed above three) rest)
      → split_from tree key q at places
      ≡ Ok (read_to (placed (cert.Split key q below middle above) three) rest)
  three_read key q at next last rest places one two three below middle above e f g =
      ap (λ read. behind read λ below next. behind (tree next below.places) λ middle last.
      behind (tree last middle.places) λ above rest.
      Ok (read_to (placed (cert.Split key q below.tree middle.tree above.tree) above.places) rest)) e
      ∙ ap (λ read. behind read λ middle last. behind (tree last middle.places) λ above rest.
      Ok (read_to (placed (cert.Split key q below middle.tree above.tree) above.places) rest)) f
      ∙ ap (λ read. behind read λ above rest.
      Ok (read_to (placed (cert.Split key q below middle above.tree) above.places) rest)) g

  two_read : (moment : ℤ) (at next rest : ℕ) (places one two : List ℕ) (before later : Cert)
      → tree at places ≡ Ok (read_to (placed before one) next)
      → tree next one ≡ Ok (read_to (placed later two) rest)
      → before_from tree moment at places
      ≡ Ok (read_to (placed (cert.Before moment before later) two) rest)
  two_read moment at next rest places one two before later e f =
      ap (λ read. behind read λ before next. behind (tree next before.places) λ later rest.
      Ok (read_to (placed (cert.Before moment before.tree later.tree) later.places) rest)) e
      ∙ ap (λ read. behind read λ later rest.
      Ok (read_to (placed (cert.Before moment before later.tree) later.places) rest)) f

-- ---- every tree
record IsBack (objects : Objects) (grid : Grid) (texts : Texts) (fits : TreeTest) (tree : Cert) : Type 0 where
  stops : (lines : List Line) (at : ℕ) → StandAt lines at texts → is_fact_line (line_at lines at) ≡ false
  read : (lines : List Line) (levels at : ℕ) (places : List ℕ) → fits levels ≡ true → StandAt lines at texts
      → is_fact_line (line_at lines (at + length texts)) ≡ false
      → IsTreeRead lines objects grid levels at (at + length texts) places tree

abbrev Back : Objects → Grid → Cert → Type 0
Back objects grid tree = IsBack objects grid (tree_lines objects tree) (tree_fits grid tree) tree

no_fact : (lines : List Line) (at : ℕ) (text : List ℕ) → line_at lines at ≡ Some text
    → is_fact_line (Some text) ≡ false → is_fact_line (line_at lines at) ≡ false
no_fact lines at text there is = ap is_fact_line there ∙ is

-- a node by its line
by_line : (lines : List Line) (objects : Objects) (grid : Grid) (levels at : ℕ) (places : List ℕ) (found : NodeLine)
    → node_at lines objects grid at ≡ Some found
    → tree_from lines objects grid true (suc levels) at places
    ≡ node_from lines grid true (tree_from lines objects grid true levels) at places (Some found)
unfolding tree_from
by_line lines objects grid levels at places found e =
    ap (node_from lines grid true (tree_from lines objects grid true levels) at places) e

leaf_read : (objects : Objects) (grid : Grid) → length grid.asked < 2 ^ 64
    → (reason : Reason) (lines : List Line) (levels at : ℕ) (places : List ℕ) → reason_fits grid reason ≡ true
    → StandAt lines at (leaf_text ∷ reason_lines reason)
    → is_fact_line (line_at lines (at + length (leaf_text ∷ reason_lines reason))) ≡ false
    → IsTreeRead lines objects grid (suc levels) at (at + length (leaf_text ∷ reason_lines reason)) places (cert.Leaf reason)
leaf_read objects grid small Whole lines levels at places fits there last = absurd (true≢false (sym fits))
leaf_read objects grid small (Facts facts) lines levels at places fits there last =
    let texts = map written_fact facts in
    let next : suc at + length texts ≡ at + suc (length texts) = omega arith in
    let room : length facts ≤ length lines = subst (λ n. n ≤ length lines) (length-map facts written_fact) (few lines texts (suc at) there.1) in
    record {
      places = places ++ at ∷ [];
      is =
          by_line lines objects grid levels at places node.Leaf
          (node_there lines objects grid at leaf_text node.Leaf there.0 (leaf_node objects grid))
          ∙ ap (leaf_with (places ++ at ∷ []))
          (facts_back lines grid facts (length lines) (suc at) [] small fits room there.1
          (subst (λ n. is_fact_line (line_at lines n) ≡ false) (sym next) last))
          ∙ ap (λ n. Ok (read_to (placed (cert.Leaf (Facts facts)) (places ++ at ∷ [])) n)) next;
    }

split_joined : (lines : List Line) (objects : Objects) (grid : Grid) (key : Key) (q : Rational)
    (levels at one two three next : ℕ) (places : List ℕ) (below middle above : Cert)
    → (a : IsTreeRead lines objects grid levels (suc at) one (places ++ at ∷ []) below)
    → (b : IsTreeRead lines objects grid levels one two a.places middle)
    → (c : IsTreeRead lines objects grid levels two three b.places above)
    → node_at lines objects grid at ≡ Some (node.Split key q) → three ≡ next
    → IsTreeRead lines objects grid (suc levels) at next places (cert.Split key q below middle above)
split_joined lines objects grid key q levels at one two three next places below middle above a b c found end = record {
  places = c.places;
  is =
      by_line lines objects grid levels at places (node.Split key q) found
      ∙ three_read (tree_from lines objects grid true levels) key q (suc at) one two three (places ++ at ∷ []) a.places b.places
      c.places below middle above a.is b.is c.is
      ∙ ap (λ n. Ok (read_to (placed (cert.Split key q below middle above) c.places) n)) end;
}

split_read : (objects : Objects) (grid : Grid) (key : Key) (q : Rational) → All (IsFoundKey objects) grid.keys
    → (one two three : Texts) (f g h : TreeTest) (below middle above : Cert)
    → IsBack objects grid one f below → IsBack objects grid two g middle → IsBack objects grid three h above
    → (lines : List Line) (levels at : ℕ) (places : List ℕ)
    → ((is_grid_key grid key && is_number q) && (f levels && (g levels && h levels))) ≡ true
    → StandAt lines at (written_split objects key q ∷ ((one ++ two) ++ three))
    → is_fact_line (line_at lines (at + suc (length ((one ++ two) ++ three)))) ≡ false
    → IsTreeRead lines objects grid (suc levels) at (at + suc (length ((one ++ two) ++ three))) places (cert.Split key q below middle above)
split_read objects grid key q found one two three f g h below middle above first second third lines levels at places fits there last =
    let tests = and_parts (is_grid_key grid key && is_number q) (f levels && (g levels && h levels)) fits in
    let head = and_parts (is_grid_key grid key) (is_number q) tests.0 in
    let trees = and_parts (f levels) (g levels && h levels) tests.1 in
    let others = and_parts (g levels) (h levels) trees.1 in
    let two_long = length-append one two in
    let three_long = length-append (one ++ two) three in
    let middle_at : suc at + length (one ++ two) ≡ (suc at + length one) + length two = omega (arith, two_long) in
    let end_at : ((suc at + length one) + length two) + length three ≡ at + suc (length ((one ++ two) ++ three)) = omega (arith, two_long, three_long) in
    let here = front lines (one ++ two) three (suc at) there.1 in
    let one_there = front lines one two (suc at) here in
    let two_there = back lines one two (suc at) here in
    let three_there = subst (λ n. StandAt lines n three) middle_at (back lines (one ++ two) three (suc at) there.1) in
    let places_here = places ++ at ∷ [] in
    let a = first.read lines levels (suc at) places_here trees.0 one_there (second.stops lines (suc at + length one) two_there) in
    let b = second.read lines levels (suc at + length one) a.places others.0 two_there
    (third.stops lines ((suc at + length one) + length two) three_there) in
    let c = third.read lines levels ((suc at + length one) + length two) b.places others.1 three_there
    (subst (λ n. is_fact_line (line_at lines n) ≡ false) (sym end_at) last) in
    split_joined lines objects grid key q levels at (suc at + length one) ((suc at + length one) + length two)
    (((suc at + length one) + length two) + length three) (at + suc (length ((one ++ two) ++ three))) places below middle above a b c
    (node_there lines objects grid at (written_split objects key q) (node.Split key q) there.0
    (split_node objects grid key q (found_among (IsFoundKey objects) key grid.keys head.0 found) head.1 head.0))
    end_at

before_joined : (lines : List Line) (objects : Objects) (grid : Grid) (moment : ℤ) (levels at one two next : ℕ)
    (places : List ℕ) (before later : Cert)
    → (a : IsTreeRead lines objects grid levels (suc at) one (places ++ at ∷ []) before)
    → (b : IsTreeRead lines objects grid levels one two a.places later)
    → node_at lines objects grid at ≡ Some (node.Before moment) → two ≡ next
    → IsTreeRead lines objects grid (suc levels) at next places (cert.Before moment before later)
before_joined lines objects grid moment levels at one two next places before later a b found end = record {
  places = b.places;
  is =
      by_line lines objects grid levels at places (node.Before moment) found
      ∙ two_read (tree_from lines objects grid true levels) moment (suc at) one two (places ++ at ∷ []) a.places b.places before later
      a.is b.is
      ∙ ap (λ n. Ok (read_to (placed (cert.Before moment before later) b.places) n)) end;
}

before_read : (objects : Objects) (grid : Grid) (moment : ℤ) (one two : Texts) (f g : TreeTest) (before later : Cert)
    → IsBack objects grid one f before → IsBack objects grid two g later
    → (lines : List Line) (levels at : ℕ) (places : List ℕ)
    → ((grid.has_moments && is_moment moment) && (f levels && g levels)) ≡ true
    → StandAt lines at (written_before moment ∷ (one ++ two))
    → is_fact_line (line_at lines (at + suc (length (one ++ two)))) ≡ false
    → IsTreeRead lines objects grid (suc levels) at (at + suc (length (one ++ two))) places (cert.Before moment before later)
before_read objects grid moment one two f g before later first second lines levels at places fits there last =
    let tests = and_parts (grid.has_moments && is_moment moment) (f levels && g levels) fits in
    let head = and_parts grid.has_moments (is_moment moment) tests.0 in
    let trees = and_parts (f levels) (g levels) tests.1 in
    let long = length-append one two in
    let end_at : (suc at + length one) + length two ≡ at + suc (length (one ++ two)) = omega (arith, long) in
    let one_there = front lines one two (suc at) there.1 in
    let two_there = back lines one two (suc at) there.1 in
    let places_here = places ++ at ∷ [] in
    let a = first.read lines levels (suc at) places_here trees.0 one_there (second.stops lines (suc at + length one) two_there) in
    let b = second.read lines levels (suc at + length one) a.places trees.1 two_there
    (subst (λ n. is_fact_line (line_at lines n) ≡ false) (sym end_at) last) in
    before_joined lines objects grid moment levels at (suc at + length one) ((suc at + length one) + length two)
    (at + suc (length (one ++ two))) places before later a b
    (node_there lines objects grid at (written_before moment) (node.Before moment) there.0 (before_node objects grid moment head.0 head.1))
    end_at

-- ---- nodes by what their trees give
leaf_back : (objects : Objects) (grid : Grid) → length grid.asked < 2 ^ 64 → (reason : Reason)
    → IsBack objects grid (node_lines objects (Cert-F.Leaf reason)) (node_fits grid (Cert-F.Leaf reason)) (cert.Leaf reason)
unfolding node_lines node_fits
leaf_back objects grid small reason = record {
  stops = λ lines at there. no_fact lines at leaf_text there.0 leaf_no_fact;
  read = leaf_levels;
}
  where
    leaf_levels : (lines : List Line) (levels at : ℕ) (places : List ℕ) → node_fits grid (Cert-F.Leaf reason) levels ≡ true
        → StandAt lines at (leaf_text ∷ reason_lines reason)
        → is_fact_line (line_at lines (at + length (leaf_text ∷ reason_lines reason))) ≡ false
        → IsTreeRead lines objects grid levels at (at + length (leaf_text ∷ reason_lines reason)) places (cert.Leaf reason)
    leaf_levels lines zero at places fits there last = absurd (true≢false (sym fits))
    leaf_levels lines (suc levels) at places fits there last = leaf_read objects grid small reason lines levels at places fits there last

module _ (objects : Objects) (grid : Grid) (found : All (IsFoundKey objects) grid.keys) where
  split_back : (key : Key) (q : Rational) (one two three : Texts) (f g h : TreeTest) (below middle above : Cert)
      → IsBack objects grid one f below → IsBack objects grid two g middle → IsBack objects grid three h above
      → IsBack objects grid (node_lines objects (Cert-F.Split key q one two three)) (node_fits grid (Cert-F.Split key q f g h))
      (cert.Split key q below middle above)
  unfolding node_lines node_fits
  split_back key q one two three f g h below middle above first second third = record {
    stops = λ lines at there. no_fact lines at (written_split objects key q) there.0 (split_no_fact objects key q);
    read = split_levels;
  }
    where
      split_levels : (lines : List Line) (levels at : ℕ) (places : List ℕ)
          → node_fits grid (Cert-F.Split key q f g h) levels ≡ true
          → StandAt lines at (written_split objects key q ∷ ((one ++ two) ++ three))
          → is_fact_line (line_at lines (at + suc (length ((one ++ two) ++ three)))) ≡ false
          → IsTreeRead lines objects grid levels at (at + suc (length ((one ++ two) ++ three))) places (cert.Split key q below middle above)
      split_levels lines zero at places fits there last = absurd (true≢false (sym fits))
      split_levels lines (suc levels) at places fits there last =
          split_read objects grid key q found one two three f g h below middle above first second third lines levels at places fits there last

  before_back : (moment : ℤ) (one two : Texts) (f g : TreeTest) (before later : Cert)
      → IsBack objects grid one f before → IsBack objects grid two g later
      → IsBack objects grid (node_lines objects (Cert-F.Before moment one two)) (node_fits grid (Cert-F.Before moment f g))
      (cert.Before moment before later)
  unfolding node_lines node_fits
  before_back moment one two f g before later first second = record {
    stops = λ lines at there. no_fact lines at (written_before moment) there.0 (before_no_fact moment);
    read = before_levels;
  }
    where
      before_levels : (lines : List Line) (levels at : ℕ) (places : List ℕ)
          → node_fits grid (Cert-F.Before moment f g) levels ≡ true
          → StandAt lines at (written_before moment ∷ (one ++ two))
          → is_fact_line (line_at lines (at + suc (length (one ++ two)))) ≡ false
          → IsTreeRead lines objects grid levels at (at + suc (length (one ++ two))) places (cert.Before moment before later)
      before_levels lines zero at places fits there last = absurd (true≢false (sym fits))
      before_levels lines (suc levels) at places fits there last =
          before_read objects grid moment one two f g before later first second lines levels at places fits there last

  back_node : length grid.asked < 2 ^ 64 → (y : Cert-F ((tree : Cert) × Back objects grid tree))
      → IsBack objects grid
      (node_lines objects
      (map-Cert Cert Texts (tree_lines objects) (map-Cert ((tree : Cert) × Back objects grid tree) Cert (λ e. e.0) y)))
      (node_fits grid
      (map-Cert Cert TreeTest (tree_fits grid) (map-Cert ((tree : Cert) × Back objects grid tree) Cert (λ e. e.0) y)))
      (roll-Cert (map-Cert ((tree : Cert) × Back objects grid tree) Cert (λ e. e.0) y))
  back_node small (Cert-F.Leaf reason) =
      subst (IsBack objects grid (node_lines objects (Cert-F.Leaf reason)) (node_fits grid (Cert-F.Leaf reason)))
      (sym (cert.rolls-Leaf reason)) (leaf_back objects grid small reason)
  back_node small (Cert-F.Split key q a b c) =
      subst
      (IsBack objects grid
      (node_lines objects (Cert-F.Split key q (tree_lines objects a.0) (tree_lines objects b.0) (tree_lines objects c.0)))
      (node_fits grid (Cert-F.Split key q (tree_fits grid a.0) (tree_fits grid b.0) (tree_fits grid c.0))))
      (sym (cert.rolls-Split key q a.0 b.0 c.0))
      (split_back key q (tree_lines objects a.0) (tree_lines objects b.0) (tree_lines objects c.0) (tree_fits grid a.0)
      (tree_fits grid b.0) (tree_fits grid c.0) a.0 b.0 c.0 a.1 b.1 c.1)
  back_node small (Cert-F.Before moment a b) =
      subst
      (IsBack objects grid
      (node_lines objects (Cert-F.Before moment (tree_lines objects a.0) (tree_lines objects b.0)))
      (node_fits grid (Cert-F.Before moment (tree_fits grid a.0) (tree_fits grid b.0))))
      (sym (cert.rolls-Before moment a.0 b.0))
      (before_back moment (tree_lines objects a.0) (tree_lines objects b.0) (tree_fits grid a.0) (tree_fits grid b.0) a.0
      b.0 a.1 b.1)

  every_tree : length grid.asked < 2 ^ 64 → (tree : Cert) → Back objects grid tree
  unfolding tree_lines tree_fits
  every_tree small =
      ind-Cert (Back objects grid)
      (λ z y is.
      subst (λ w. Back objects grid (roll-Cert w)) is
      (subst
      (λ texts. IsBack objects grid texts
      (tree_fits grid (roll-Cert (map-Cert ((tree : Cert) × Back objects grid tree) Cert (λ e. e.0) y)))
      (roll-Cert (map-Cert ((tree : Cert) × Back objects grid tree) Cert (λ e. e.0) y)))
      (sym (fold-roll-Cert Texts (node_lines objects) (map-Cert ((tree : Cert) × Back objects grid tree) Cert (λ e. e.0) y)))
      (subst
      (λ fits. IsBack objects grid
      (node_lines objects
      (map-Cert Cert Texts (tree_lines objects) (map-Cert ((tree : Cert) × Back objects grid tree) Cert (λ e. e.0) y)))
      fits (roll-Cert (map-Cert ((tree : Cert) × Back objects grid tree) Cert (λ e. e.0) y)))
      (sym (fold-roll-Cert TreeTest (node_fits grid) (map-Cert ((tree : Cert) × Back objects grid tree) Cert (λ e. e.0) y)))
      (back_node small y))))

pub tree_back : (lines : List Line) (objects : Objects) (grid : Grid) (tree : Cert) (levels at : ℕ) (places : List ℕ)
    → All (IsFoundKey objects) grid.keys → length grid.asked < 2 ^ 64 → IsTrue (tree_fits grid tree levels)
    → StandAt lines at (tree_lines objects tree)
    → is_fact_line (line_at lines (at + length (tree_lines objects tree))) ≡ false
    → IsTreeRead lines objects grid levels at (at + length (tree_lines objects tree)) places tree
tree_back lines objects grid tree levels at places found small fits there last =
    (every_tree objects grid found small tree).read lines levels at places fits there last

-- The leaves of a lean certificate give facts.
use Rattle.std.proofs.Common.{◌≡◌, Bool, true, false, not, ◌&&◌, Option, Some, None, refl, ap, sym}
use Rattle.std.proofs.Common.{subst, ◌∙◌, ℤ, pos, ◌-ℤ◌}
use Rattle.std.proofs.lemmas.Bool.{and_parts, true≢false}
use Rattle.exact_fraction.specs.Number.{Rational}
use Rattle.interval_sets.specs.declared.interval.Interval.{Interval}
use Rattle.rule_types.specs.Tables.{TableSet}
use Rattle.rule_types.specs.declared.key.Key.{Key}
use Rattle.rule_types.specs.declared.rules.Rules.{Rules}
use Rattle.verdict_meaning.specs.Boxes.{first_box}
use Rattle.verdict_meaning.specs.Certificates.{above_of, below_of, part_at, part_through, part_with}
use Rattle.verdict_meaning.specs.Reaches.{piece_in}
use Rattle.verdict_meaning.specs.Shown.{shown}
use Rattle.verdict_meaning.specs.Verdicts.{Lean, is_lean, lean_before, lean_node, lean_split}
use Rattle.verdict_meaning.specs.declared.cell.Cell.{Cell}
use Rattle.verdict_meaning.specs.declared.cert.Cert.{Cert}
use Rattle.verdict_meaning.specs.declared.cert.Cert.TheFolds.{fold-Cert, fold-roll-Cert, ind-Cert}
use Rattle.verdict_meaning.specs.declared.cert.Cert.TheFolds.{map-Cert}
use Rattle.verdict_meaning.specs.declared.cert.Cert.TheOpen.{Cert-F}
use Rattle.verdict_meaning.specs.declared.cert.Cert.TheViews.{roll-Cert}
use Rattle.verdict_meaning.specs.declared.cert.Reason.{Reason}
use Rattle.verdict_meaning.specs.declared.cert.Reason.TheVariants.{Whole, Facts}
use Rattle.verdict_meaning.specs.declared.question.Question.{Question}
use Rattle.verdict_meaning.specs.declared.ranges.Ranges.{Ranges}
use Rattle.report_text.specs.Readable.{is_moment, is_number, node_holds, tree_holds}
use Rattle.report_round_trips.specs.ReadableVerdicts.{node_numbers_fit, numbers_fit}

both : (a b : Bool) → a ≡ true → b ≡ true → (a && b) ≡ true
both a b e f = ap (λ t. t && b) e ∙ f

three : (a b c : Bool) → (a && b && c) ≡ true → (a ≡ true) × (b ≡ true) × (c ≡ true)
three true true true e = (refl, refl, refl)
three true true false e = absurd (true≢false (sym e))
three true false c e = absurd (true≢false (sym e))
three false b c e = absurd (true≢false (sym e))

module _ (x : Rules) (tables : TableSet) (question : Question) where
  abbrev lean_tree : Cert → Lean
  lean_tree tree = fold-Cert Lean (lean_node x tables question) tree

  -- a tree that is lean in a part, and whose numbers fit, has facts at its leaves
  abbrev Holding : Lean → Bool → Bool → Type 0
  Holding lean numbers holds = (o : Option Cell) → lean o ≡ true → numbers ≡ true → holds ≡ true

  split_by : (key : Key) (q : Rational) (below at above : Lean) (a b c f g h : Bool)
      → Holding below a f → Holding at b g → Holding above c h → (cell : Cell)
      → (is_number q && (a && (b && c))) ≡ true
      → (o : Option Interval) → lean_split key q below at above cell o ≡ true
      → (is_number q && (f && (g && h))) ≡ true
  split_by key q below at above a b c f g h first second third cell numbers None e =
      absurd (true≢false (sym e))
  split_by key q below at above a b c f g h first second third cell numbers (Some piece) e =
      let number = and_parts (is_number q) (a && (b && c)) numbers in
      let one = and_parts a (b && c) number.1 in
      let two = and_parts b c one.1 in
      let parts = three (below (part_with key (below_of piece q) cell)) (at (part_at key piece q cell))
      (above (part_with key (above_of piece q) cell)) e in
      both (is_number q) (f && (g && h)) number.0
      (both f (g && h) (first (part_with key (below_of piece q) cell) parts.0 one.0)
      (both g h (second (part_at key piece q cell) parts.1 two.0)
      (third (part_with key (above_of piece q) cell) parts.2 two.1)))

  before_by : (moment : ℤ) (before later : Lean) (a b f g : Bool) → Holding before a f
      → Holding later b g → (cell : Cell) → (is_moment moment && (a && b)) ≡ true
      → (o : Option (ℤ × ℤ)) → lean_before moment before later cell o ≡ true
      → (is_moment moment && (f && g)) ≡ true
  before_by moment before later a b f g first second cell numbers None e =
      absurd (true≢false (sym e))
  before_by moment before later a b f g first second cell numbers (Some span) e =
      let own = and_parts (is_moment moment) (a && b) numbers in
      let one = and_parts a b own.1 in
      let parts = and_parts (before (part_through span.0 (moment -ℤ pos 1) cell))
      (later (part_through moment span.1 cell)) e in
      both (is_moment moment) (f && g) own.0
      (both f g (first (part_through span.0 (moment -ℤ pos 1) cell) parts.0 one.0)
      (second (part_through moment span.1 cell) parts.1 one.1))

  abbrev Kept : Cert → Type 0
  Kept tree = Holding (lean_tree tree) (numbers_fit tree) (tree_holds tree)

  holding_node : (y : Cert-F ((tree : Cert) × Kept tree))
      → Holding
      (lean_node x tables question (map-Cert Cert Lean lean_tree (map-Cert ((tree : Cert) × Kept tree) Cert (λ e. e.0) y)))
      (node_numbers_fit (map-Cert Cert Bool numbers_fit (map-Cert ((tree : Cert) × Kept tree) Cert (λ e. e.0) y)))
      (node_holds (map-Cert Cert Bool tree_holds (map-Cert ((tree : Cert) × Kept tree) Cert (λ e. e.0) y)))
  unfolding lean_node node_numbers_fit node_holds
  holding_node (Cert-F.Leaf Whole) o lean numbers = absurd (true≢false (sym lean))
  holding_node (Cert-F.Leaf (Facts facts)) o lean numbers = refl
  holding_node (Cert-F.Split key q a b c) None lean numbers = absurd (true≢false (sym lean))
  holding_node (Cert-F.Split key q a b c) (Some cell) lean numbers =
      split_by key q (lean_tree a.0) (lean_tree b.0) (lean_tree c.0) (numbers_fit a.0) (numbers_fit b.0)
      (numbers_fit c.0) (tree_holds a.0) (tree_holds b.0) (tree_holds c.0) a.1 b.1 c.1 cell numbers
      (piece_in key cell.keys)
      (and_parts (not (shown x tables question cell))
      (lean_split key q (lean_tree a.0) (lean_tree b.0) (lean_tree c.0) cell (piece_in key cell.keys)) lean).1
  holding_node (Cert-F.Before moment a b) None lean numbers = absurd (true≢false (sym lean))
  holding_node (Cert-F.Before moment a b) (Some cell) lean numbers =
      before_by moment (lean_tree a.0) (lean_tree b.0) (numbers_fit a.0) (numbers_fit b.0)
      (tree_holds a.0) (tree_holds b.0) a.1 b.1 cell numbers cell.moments
      (and_parts (not (shown x tables question cell))
      (lean_before moment (lean_tree a.0) (lean_tree b.0) cell cell.moments) lean).1

  holding_tree : (tree : Cert) → Kept tree
  unfolding numbers_fit tree_holds
  holding_tree =
      ind-Cert Kept
      (λ z y is.
      let inner = map-Cert ((tree : Cert) × Kept tree) Cert (λ e. e.0) y in
      subst (λ w. Kept (roll-Cert w)) is
      (subst
      (λ lean. Holding lean (numbers_fit (roll-Cert inner)) (tree_holds (roll-Cert inner)))
      (sym (fold-roll-Cert Lean (lean_node x tables question) inner))
      (subst
      (λ numbers. Holding (lean_node x tables question (map-Cert Cert Lean lean_tree inner)) numbers
      (tree_holds (roll-Cert inner)))
      (sym (fold-roll-Cert Bool node_numbers_fit inner))
      (subst
      (Holding (lean_node x tables question (map-Cert Cert Lean lean_tree inner))
      (node_numbers_fit (map-Cert Cert Bool numbers_fit inner)))
      (sym (fold-roll-Cert Bool node_holds inner))
      (holding_node y)))))

  pub lean_holds : (ranges : Ranges) (tree : Cert) → is_lean x tables ranges question tree ≡ true
      → numbers_fit tree ≡ true → tree_holds tree ≡ true
  unfolding is_lean
  lean_holds ranges tree lean numbers =
      holding_tree tree (Some (first_box x question ranges)) lean numbers
